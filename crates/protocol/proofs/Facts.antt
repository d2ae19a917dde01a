-- Facts that follow from the invariant in one state: of a sleeper (`sleep-`), of who is informed (`inf-`) or Find (`-find`), of decisions (`half_of`,
-- `changing-of`, `root-of`), of what is not on a channel (`no-`). The proofs of the steps begin with these.
use Rattle.std.specs.Prelude.{ℕ, ◌≤◌, ◌<◌, ◌≡◌, refl, ◌≢◌, List, ◌∷◌}
use Rattle.std.proofs.Common.{arith, sym, ap, subst, ◌∙◌, ⊎_elim}
use Rattle.base.proofs.laws.Cond.{by-eq}
use Rattle.base.specs.Pool.{sum_l}
use Rattle.graph.proofs.laws.Ways.{flip}
use Rattle.format_message.specs.Msg.{Msg, none, connect, initiate, test, report}
use Rattle.protocol.specs.Network.{Network, Edge, edge-some, ends-irr}
use Rattle.protocol.specs.State.{ProtocolState}
use Rattle.protocol.specs.Kind.{is_c, is_a, Fits}
use Rattle.protocol.specs.Chan.{In, Bef, heads, sum-none}
use Rattle.protocol.proofs.Lemmas.{no-answers, none_in}
use Rattle.protocol.specs.Notion.{GL, GC, DK, Inf, Jn, Half, Changing, Root, Waits, Spent}
use Rattle.protocol.specs.Inv.{Inv}

module _ {p : Network} {s : ProtocolState} (i : Inv p s) where
  -- ---- a sleeper is as at setup

  pub sleep-lev : (v : ℕ) → s.st v ≡ 0 → s.lev v ≡ 0
  sleep-lev v z = omega (arith, i.levels.g2 v, (i.sleepers.g6 v z).g6g)

  pub sleep-id : (v : ℕ) → s.st v ≡ 0 → s.id v ≡ none
  sleep-id v z = i.levels.g3z v (sleep-lev v z)

  pub sleep-te : (v : ℕ) → s.st v ≡ 0 → s.te v ≡ none
  sleep-te v z = i.pending.f3t v (λ e. omega arith)

  pub sleep-fc : (v : ℕ) → s.st v ≡ 0 → s.fc v ≡ 0
  sleep-fc v z = i.pending.f3c v (λ e. omega arith)

  pub sleep-halt : (v : ℕ) → s.st v ≡ 0 → s.halt v ≡ 0
  sleep-halt v z = by-eq (s.halt v) 0 (λ e. e) (λ n. absurd (omega (arith, i.finishes.d6 v n, (i.sleepers.g6 v z).g6d)))

  pub sleep-ib : (v : ℕ) → s.st v ≡ 0 → s.ib v ≡ none
  sleep-ib v z = by-eq (s.ib v) none (λ e. e)
      (λ n. let t = i.inbounds.u1r v n in absurd (omega (arith, (i.inbounds.u1i (s.ib v) v t.0 t.1 refl).0, i.sleepers.g6m v (s.ib v) z)))

  pub sleep-ub : (v : ℕ) → s.st v ≡ 0 → s.ub v ≡ none
  sleep-ub v z = by-eq (s.ub v) none (λ e. e)
      (λ n. let t = i.inbounds.u1o v n in absurd (omega (arith, i.inbounds.u1 (s.ub v) v t.0 t.1 refl, i.sleepers.g6m v (s.ub v) z)))

  -- who has a mark is awake
  pub mark-awake : (v k : ℕ) → s.mark v k ≢ 0 → s.st v ≢ 0
  mark-awake v k n z = n (i.sleepers.g6m v k z)

  -- ---- informed, Find, decided

  -- informed, or below its fragment's level, or alone
  pub inf-cases {κ} : {C : Type κ} (v : ℕ) → (Inf s v → C) → (s.lev v < GL s v → C) → (GL s v ≡ 0 → C) → C
  inf-cases v y n z = by-eq (GL s v) 0 z (λ d. by-eq (s.lev v) (GL s v) (λ e. y (omega arith, e)) (λ e. n (omega (arith, i.levels.g2 v))))

  pub inf-awake : (v : ℕ) → Inf s v → s.st v ≢ 0
  inf-awake v h z = omega (arith, h.0, (i.sleepers.g6 v z).g6g)

  -- informed and not Find: Found
  pub inf-found : (v : ℕ) → Inf s v → s.st v ≢ 1 → s.st v ≡ 2
  inf-found v h n = omega (arith, inf-awake v h, i.ranges.st-le v)

  -- who has a test edge, or waits for a Report, is Find
  pub te-find : (v : ℕ) → s.te v ≢ none → s.st v ≡ 1
  te-find v n = by-eq (s.st v) 1 (λ e. e) (λ d. absurd (n (i.pending.f3t v d)))

  pub fc-find : (v : ℕ) → s.fc v ≢ 0 → s.st v ≡ 1
  fc-find v n = by-eq (s.st v) 1 (λ e. e) (λ d. absurd (n (i.pending.f3c v d)))

  pub waits-find : (k v u : ℕ) → Edge p k v u → Waits s v k → s.st v ≡ 1
  waits-find k v u e w = te-find v (λ z. edge-some p e (sym w.0 ∙ z))

  -- below the fragment's level, or decided: not Find
  pub low-find : (v : ℕ) → s.lev v < GL s v → s.st v ≢ 1
  low-find v l f = omega (arith, (i.finds.f1 v f).f1i.1)

  pub decided-find : (v : ℕ) → DK s v ≢ 0 → s.st v ≢ 1
  decided-find v d f = d (i.finds.f1 v f).f1k

  -- who is not Find waits for no answer, and none is on its way to it
  pub no-waits : (k v u : ℕ) → Edge p k v u → s.st v ≢ 1 → ¬ Waits s v k
  no-waits k v u e n w = n (waits-find k v u e w)

  pub no_answer : (k u v : ℕ) → Edge p k u v → ¬ Waits s v k → sum_l is_a (s.ch u k) ≡ 0
  no_answer k u v e n = no-answers (s.ch u k) (λ h. n (i.answers.a1 k u v e h).a1w) (λ h. n (i.answers.j1 k u v e h).j1w)

  -- ---- joined edges

  pub joined-level : (k v u : ℕ) → Edge p k v u → Jn s k v u → 1 ≤ GL s v
  joined-level k v u e j = by-eq (GL s v) 0 (λ z. absurd (ends-irr p e (sym (i.sizes.g4s v u z (sym (i.markings.m3 k v u e j)))))) (λ n. omega arith)

  -- ---- the decision, with its ends

  pub half_of : (v : ℕ) → DK s v ≡ 3 → (z : ℕ) × (k : ℕ) × (y : ℕ) × Edge p k z y × Half s z k × (s.fr z ≡ s.fr v)
  half_of v d =
      let f = i.halves.d1f v d in
      let e = i.halves.d1e v d in
      (s.dn (s.fr v), s.de (s.fr v), e.0, e.1, (ap s.dk f ∙ d, ap s.dn f, ap s.de f), f)

  pub changing-of : (v : ℕ) → DK s v ≡ 2 → (u : ℕ) × (k : ℕ) × (x : ℕ) × Edge p k u x × Changing s u k × (s.fr u ≡ s.fr v)
  changing-of v d =
      let f = i.change_roots.d2f v d in
      let e = i.change_roots.d2e v d in
      (s.dn (s.fr v), s.de (s.fr v), e.0, e.1, (ap s.dk f ∙ d, ap s.dn f, ap s.de f), f)

  pub root-of : (v : ℕ) → DK s v ≡ 1 → (x : ℕ) × Root s x × (s.fr x ≡ s.fr v)
  root-of v d = let f = i.rootings.d3f v d in (s.dn (s.fr v), (ap s.dk f ∙ d, ap s.dn f), f)

  -- while nobody executes change-root no fragment is at its root
  pub no-root : (v : ℕ) → s.oo ≡ 0 → DK s v ≢ 1
  no-root v z d = omega (arith, i.rootings.d3o v d)

  -- an edge that is Branch on this side and leaves the fragment is half
  pub half_at : (k u v : ℕ) → Edge p k u v → s.mark u k ≡ 1 → s.mark v k ≡ 0 → Half s u k
  half_at k u v e m z = i.halves.m2 k u v e m (λ o. omega arith)

  -- ---- the tree of informed nodes

  -- a parent's in-branch is another edge
  pub up-other : (k v u : ℕ) → Edge p k v u → Inf s v → s.ib v ≡ k → GC s v ≢ k → s.ib u ≢ k
  up-other k v u e h b n c =
      let t = i.parents.t1p k v u e h b n in
      let g : GC s u ≢ k = λ z. n (ap s.gc (i.markings.m3 k v u e (i.inbounds.u1i k v u e b)) ∙ z) in
      let r = i.parents.t1p k u v (flip e) t.0 c g in
      omega (arith, t.1, r.1)

  -- a joined edge other than the in-branch is not the core
  pub down-core : (k v c : ℕ) → Edge p k v c → Inf s v → s.ib v ≢ k → GC s v ≢ k
  down-core k v c e h n g = n (i.parents.t1e k v c e h g)

  -- both core ends of a decided fragment are informed
  pub core-informed : (k x y : ℕ) → Edge p k x y → GC s x ≡ k → 1 ≤ GL s x → DK s x ≢ 0 → Inf s x
  core-informed k x y e g l d = inf-cases x (λ h. h)
      (λ n. let j : Jn s k x y = subst (λ a. Jn s a x y) g (i.cores.g5 x x y l (subst (λ a. Edge p a x y) (sym g) e)).0 in
      absurd (omega (arith, (i.kids.t4u k x y e j g n).t4d, i.finishes.d5 x d)))
      (λ z. absurd (omega arith))

  -- ---- messages

  -- no Initiate is on its way to an informed node
  pub no-initiate : (k u v l f x : ℕ) → Edge p k u v → Inf s v → ¬ In (initiate l f x) (s.ch u k)
  no-initiate k u v l f x e h n = omega (arith, h.1, (i.initiates.i1 k u v l f x e n).i1l, (i.initiates.i1 k u v l f x e n).i1g)

  -- no Connect is on a joined edge of an informed sender or a decided fragment
  pub no-connect : (k u v l : ℕ) → Edge p k u v → Jn s k u v → Inf s u → ¬ In (connect l) (s.ch u k)
  no-connect k u v l e j h n = omega (
    arith,
    h.1,
    (i.telling.t4n k u v e j (i.connects.c1 k u v l e n j.1).0 (connect-counts l n)).0,
  )
    where
      connect-counts : (l : ℕ) → In (connect l) (s.ch u k) → 1 ≤ sum_l is_c (s.ch u k)
      connect-counts l n = by-eq (sum_l is_c (s.ch u k)) 0 (λ z. absurd (omega (arith, none_in is_c z n))) (λ d. omega arith)

  pub no-connect-decided : (k u v l : ℕ) → Edge p k u v → Jn s k u v → DK s u ≢ 0 → ¬ In (connect l) (s.ch u k)
  no-connect-decided k u v l e j d n = no-connect k u v l e j (core-informed k u v e (i.connects.c1 k u v l e n j.1).0 (joined-level k u v e j) d) n

  -- an Initiate in a decided fragment says Found
  pub decided-initiate : (k u v l f x : ℕ) → Edge p k u v → DK s v ≢ 0 → In (initiate l f x) (s.ch u k) → x ≡ 0
  decided-initiate k u v l f x e d n = by-eq l (GL s v)
      (λ q. (i.initiates.i1 k u v l f x e n).i1d q ∙ i.finishes.d5 v d)
      (λ q. (i.initiates.i1 k u v l f x e n).i1z (omega (arith, (i.initiates.i1 k u v l f x e n).i1g)))

  -- a Report to a node that is not Find, in a decided fragment, is spent
  pub decided-report : (k u v w : ℕ) → Edge p k u v → DK s v ≢ 0 → In (report w) (s.ch u k) → Spent p s u v k w
  decided-report k u v w e d n = ⊎_elim (λ c. absurd (decided-find v d c.6))
      (λ t. ⊎_elim (λ c. absurd (d (sym (ap s.dk (i.markings.m3 k u v e (i.reports.r1j k u v w e n))) ∙ c.1))) (λ c. c) t)
      (i.reports.r1 k u v w e n)

  -- no Test is from a decided fragment
  pub decided-test : (k u v l f : ℕ) → Edge p k u v → DK s u ≢ 0 → ¬ In (test l f) (s.ch u k)
  decided-test k u v l f e d n = ⊎_elim (λ t. no-waits k u v e (decided-find u d) t.0)
      (λ t. no-waits k v u (flip e) (decided-find v (λ z. d (ap s.dk t.3 ∙ z))) t.2)
      (i.testing.e1w k u v l f e n)

  -- ---- the head of a channel: none of its kind is behind it

  pub rest-none : (f : Msg → ℕ) {k u v : ℕ} {m : Msg} {r : List Msg} → Edge p k u v → s.ch u k ≡ m ∷ r → ((n : Msg) → Fits m n → f n ≡ 0) → sum_l f r ≡ 0
  rest-none f {k} {u} {v} {m} {r} e q h = sum-none f r (λ n o. h n (i.ordered.q1 k u v m n e (subst (λ l. Bef m n l) (sym q) (heads o))))
