-- Waking and procedure change-root, where v sends Connect over k to y: the uses of half and merge (`inv-wake-half`, `inv-wake-merge`,
-- `inv-root-half`, `inv-root-merge`).
use Rattle.protocol.proofs.Prelude.{ℕ, suc, ◌≡◌, refl, sym, subst, ◌≢◌, upd, upd-id}
use Rattle.protocol.proofs.Prelude.{Network, Edge, ProtocolState, Idle, FirstOwn, set-st, set-oo, woken_up, halved, merged, woken-same, GL, Inv, inf-found}
use Rattle.protocol_merge.proofs.Turn.{Turn, root_ok, turn-sleeper, turn-root}
use Rattle.protocol_merge.proofs.Leave.{Leave, leave-sleeper, leave-root}
use Rattle.protocol_merge.proofs.Half.{inv-half}
use Rattle.protocol_merge.proofs.Unite.{MergeReady}
use Rattle.protocol_merge.proofs.Merge.{inv-merge}

-- waking v is Found and nothing was open, so these are the states of the lemmas
module _ {p : Network} {s : ProtocolState} (i : Inv p s) {v k y : ℕ} (idle : Idle s) (ends : Edge p k v y) (asleep : s.st v ≡ 0) (least : FirstOwn p v k) where
  pub wake-turn : Turn p s v
  wake-turn = turn-sleeper i idle.2 asleep

  pub wake-leave : Leave p s v k y
  wake-leave = leave-sleeper i ends asleep least

  wake-level : 0 ≡ GL s v
  wake-level = sym (i.sleepers.g6 v asleep).g6g

  pub wake-ready : s.mark y k ≡ 1 → MergeReady p s v k y 0
  wake-ready m = record { inv = i; turn = wake-turn; leave = wake-leave; level = wake-level; branch = m }

  pub inv-wake-half : s.mark y k ≢ 1 → Inv p (halved (woken_up s v) v k 0)
  inv-wake-half n = subst (λ x. Inv p (halved x v k 0)) (sym (woken-same i v asleep))
      (subst (λ o. Inv p (set-oo (set-st (halved s v k 0) (upd s.st v 2)) o)) (sym idle.2) (inv-half i wake-turn wake-leave wake-level n))

  pub inv-wake-merge : s.mark y k ≡ 1 → Inv p (merged (halved (woken_up s v) v k 0) v y k)
  inv-wake-merge m = subst (λ x. Inv p (merged (halved x v k 0) v y k)) (sym (woken-same i v asleep))
      (subst (λ o. Inv p (set-oo (set-st (merged (halved s v k 0) v y k) (upd s.st v 2)) o)) (sym idle.2) (inv-merge (wake-ready m)))

-- executing change-root v is Found already
module _ {p : Network} {s : ProtocolState} (i : Inv p s) {v k y : ℕ} (ot : s.ot ≡ 0) (op : s.op ≡ 0) (oo : s.oo ≡ suc v)
    (ends : Edge p k v y) (best : s.be v ≡ k) (no-branch : s.mark v k ≢ 1) where
  pub root-found : s.st v ≡ 2
  root-found = inf-found i v (root_ok i oo).d3i ((turn-root i oo).no-find v refl)

  pub root-leave : Leave p s v k y
  root-leave = leave-root i oo ends best no-branch

  pub root-ready : s.mark y k ≡ 1 → MergeReady p s v k y (s.lev v)
  root-ready m = record { inv = i; turn = turn-root i oo; leave = root-leave; level = (root_ok i oo).d3i.1; branch = m }

  pub inv-root-half : s.mark y k ≢ 1 → Inv p (set-oo (halved s v k (s.lev v)) 0)
  inv-root-half n = subst (λ f. Inv p (set-oo (set-st (halved s v k (s.lev v)) f) 0)) (upd-id s.st v 2 root-found)
      (inv-half i (turn-root i oo) root-leave (root_ok i oo).d3i.1 n)

  pub inv-root-merge : s.mark y k ≡ 1 → Inv p (set-oo (merged (halved s v k (s.lev v)) v y k) 0)
  inv-root-merge m = subst (λ f. Inv p (set-oo (set-st (merged (halved s v k (s.lev v)) v y k) f) 0)) (upd-id s.st v 2 root-found) (inv-merge (root-ready m))
