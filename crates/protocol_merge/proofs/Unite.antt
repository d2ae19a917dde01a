-- v sends Connect over k, which is a branch at its other end y: the fragments of v and y become one, of the next level.
-- Here: what the tables say of a node inside the new fragment, and of one outside it (`sort`).
use Rattle.protocol.proofs.Prelude.{ℕ, suc, ◌≤◌, ◌<◌, arith, ◌≡◌, refl, sym, ap, ◌∙◌, ◌≢◌, ◌⊎◌, inl, inr, ⊎_elim, by-eq}
use Rattle.protocol.proofs.Prelude.{upd, upd_same, upd_other, bulk, bulk-elim, bulk-in, bulk-out, relabel-keep, at2, connect}
use Rattle.protocol.proofs.Prelude.{Network, Edge, flip, same-edge, ProtocolState, halved, merged, set-st, set-oo}
use Rattle.protocol.proofs.Prelude.{Both, Bounds, GL, GC, DK, Inf, Jn, Half, Inv, decided-find, half_at}
use Rattle.protocol.specs.Decisions.{HalfOk}
use Rattle.protocol_merge.proofs.Turn.{Turn}
use Rattle.protocol_merge.proofs.Move as M
use Rattle.protocol_merge.proofs.Move.{Move}
use Rattle.protocol_merge.proofs.Leave.{Leave, leave-move}

pub record MergeReady (p : Network) (s : ProtocolState) (v k y l : ℕ) : Type 0 where
  pub inv : Inv p s
  pub turn : Turn p s v
  pub leave : Leave p s v k y
  pub level : l ≡ GL s v
  pub branch : s.mark y k ≡ 1

module _ {p : Network} {s : ProtocolState} {v k y l : ℕ} (r : MergeReady p s v k y l) where
  abbrev pub S' : ProtocolState
  S' = set-oo (set-st (merged (halved s v k l) v y k) (upd s.st v 2)) 0

  abbrev pub InEither : ℕ → Type 0
  InEither w = (s.fr w ≡ s.fr v) ⊎ (s.fr w ≡ s.fr y)

  abbrev pub Outside : ℕ → Type 0
  Outside w = (s.fr w ≢ s.fr v) × (s.fr w ≢ s.fr y)

  pub sort {κ} : {C : Type κ} (w : ℕ) → (InEither w → C) → (Outside w → C) → C
  sort w f g = by-eq (s.fr w) (s.fr v) (λ q. f (inl q)) (λ n. by-eq (s.fr w) (s.fr y) (λ q. f (inr q)) (λ m. g (n, m)))

  pub move-merge : Move p s v y k (connect l)
  move-merge = leave-move (r.inv) (r.turn) (r.leave) l

  -- ---- y's fragment before: half on k, of v's level

  pub half-y : Half s y k
  half-y = half_at (r.inv) k y v (flip (r.leave.ends)) (r.branch) (r.leave.basic)

  pub ok-y : HalfOk p s.fr s.gl s.lev s.ub s.mark k y v
  ok-y = r.inv.halves.d1 k y v (flip (r.leave.ends)) half-y

  pub even-y : GL s y ≡ GL s v
  even-y = omega (arith, ok-y.d1g, ok-y.d1l, r.leave.level, r.turn.even)

  -- ---- inside

  pub in-v : InEither v
  in-v = inl refl

  pub in-y : InEither y
  in-y = inr refl

  -- the level it had, and that it was decided
  pub in-level : (w : ℕ) → InEither w → GL s w ≡ GL s v
  in-level w e = ⊎_elim (λ q. ap s.gl q) (λ q. ap s.gl q ∙ even-y) e

  pub in-dk : (w : ℕ) → InEither w → (DK s w ≤ 1) ⊎ (DK s w ≡ 3)
  in-dk w e = ⊎_elim (λ q. inl (omega (arith, ap s.dk q, r.turn.fresh))) (λ q. inr (ap s.dk q ∙ half-y.0)) e

  pub in-decided : (w : ℕ) → InEither w → 1 ≤ GL s w → DK s w ≢ 0
  in-decided w e g z = ⊎_elim (λ q. omega (arith, ap s.gl q, r.turn.alone (sym (ap s.dk q) ∙ z))) (λ q. omega (arith, ap s.dk q, half-y.0)) e

  pub in-find : (w : ℕ) → InEither w → s.st w ≢ 1
  in-find w e = ⊎_elim (λ q. r.turn.no-find w q) (λ q. decided-find (r.inv) w (λ z. omega (arith, ap s.dk q, half-y.0))) e

  pub in-asleep : (w : ℕ) → InEither w → s.st w ≡ 0 → v ≡ w
  in-asleep w e z = ⊎_elim (λ q. r.turn.awake w q z) (λ q. absurd (omega (arith, ap s.dk q, half-y.0, (r.inv.sleepers.g6 w z).g6d))) e

  -- what it has now
  pub fr-in-merge : (w : ℕ) → InEither w → S'.fr w ≡ s.fr v
  fr-in-merge w e = bulk-elim (λ x. x ≡ s.fr v) s.fr (s.fr y) (s.fr v) s.fr w (λ q. refl) (λ n. ⊎_elim (λ q. q) (λ q. absurd (n q)) e)

  pub gl-in : (w : ℕ) → InEither w → GL S' w ≡ suc (GL s v)
  gl-in w e = ap S'.gl (fr-in-merge w e) ∙ upd_same s.gl (s.fr v) (suc (GL s v))

  pub gc-in : (w : ℕ) → InEither w → GC S' w ≡ k
  gc-in w e = ap S'.gc (fr-in-merge w e) ∙ upd_same s.gc (s.fr v) k

  pub dk-in : (w : ℕ) → InEither w → DK S' w ≡ 0
  dk-in w e = ap S'.dk (fr-in-merge w e) ∙ upd_same (upd s.dk (s.fr v) 3) (s.fr v) 0

  pub due-in-merge : (w : ℕ) → InEither w → S'.due w ≡ 1
  due-in-merge w e = bulk-elim (λ x. x ≡ 1) s.fr (s.fr y) 1 (bulk s.fr (s.fr v) 1 s.due) w (λ q. refl)
      (λ n. bulk-in s.fr (s.fr v) 1 s.due w (⊎_elim (λ q. q) (λ q. absurd (n q)) e))

  -- nobody inside is informed
  pub low-in : (w : ℕ) → InEither w → s.lev w < GL S' w
  low-in w e = omega (arith, gl-in w e, in-level w e, r.inv.levels.g2 w)

  -- ---- outside nothing changes

  pub fr-out-merge : (w : ℕ) → Outside w → S'.fr w ≡ s.fr w
  fr-out-merge w o = bulk-out s.fr (s.fr y) (s.fr v) s.fr w o.1

  pub gl-out : (w : ℕ) → Outside w → GL S' w ≡ GL s w
  gl-out w o = ap S'.gl (fr-out-merge w o) ∙ upd_other s.gl (s.fr v) (suc (GL s v)) (s.fr w) (λ q. o.0 (sym q))

  pub gc-out : (w : ℕ) → Outside w → GC S' w ≡ GC s w
  gc-out w o = ap S'.gc (fr-out-merge w o) ∙ upd_other s.gc (s.fr v) k (s.fr w) (λ q. o.0 (sym q))

  pub dk-out-merge : (w : ℕ) → Outside w → DK S' w ≡ DK s w
  dk-out-merge w o = ap S'.dk (fr-out-merge w o) ∙ upd_other (upd s.dk (s.fr v) 3) (s.fr v) 0 (s.fr w) (λ q. o.0 (sym q))
      ∙ upd_other s.dk (s.fr v) 3 (s.fr w) (λ q. o.0 (sym q))

  pub dn-out : (w : ℕ) → Outside w → S'.dn (S'.fr w) ≡ s.dn (s.fr w)
  dn-out w o = ap S'.dn (fr-out-merge w o) ∙ upd_other s.dn (s.fr v) v (s.fr w) (λ q. o.0 (sym q))

  pub de-out : (w : ℕ) → Outside w → S'.de (S'.fr w) ≡ s.de (s.fr w)
  de-out w o = ap S'.de (fr-out-merge w o) ∙ upd_other s.de (s.fr v) k (s.fr w) (λ q. o.0 (sym q))

  pub due-out-merge : (w : ℕ) → Outside w → S'.due w ≡ s.due w
  due-out-merge w o = bulk-out s.fr (s.fr y) 1 (bulk s.fr (s.fr v) 1 s.due) w o.1 ∙ bulk-out s.fr (s.fr v) 1 s.due w o.0

  pub out-v : (w : ℕ) → Outside w → v ≢ w
  out-v w o q = o.0 (ap s.fr (sym q))

  pub ub-out : (w : ℕ) → Outside w → S'.ub w ≡ s.ub w
  ub-out w o = M.ub-off (r.inv) (r.turn) move-merge w (out-v w o)

  -- ---- who is outside

  pub outside-like : (w u : ℕ) → Outside w → s.fr u ≡ s.fr w → Outside u
  outside-like w u o q = (λ z. o.0 (sym q ∙ z), λ z. o.1 (sym q ∙ z))

  pub inf-out-merge : (w : ℕ) → Inf S' w → Outside w
  inf-out-merge w f = sort w (λ e. absurd (omega (arith, low-in w e, f.1))) (λ o. o)

  pub inf-old-merge : (w : ℕ) → Inf S' w → Inf s w
  inf-old-merge w f = let g = gl-out w (inf-out-merge w f) in (omega (arith, f.0), f.1 ∙ g)

  pub inf-new-merge : (w : ℕ) → Outside w → Inf s w → Inf S' w
  inf-new-merge w o f = let g = gl-out w o in (omega (arith, f.0), f.1 ∙ sym g)

  pub dk-decided : (w : ℕ) → DK S' w ≢ 0 → Outside w
  dk-decided w n = sort w (λ e. absurd (n (dk-in w e))) (λ o. o)

  -- a kind of decision other than 0
  pub dk-old : (d w : ℕ) → d ≢ 0 → DK S' w ≡ d → Outside w × (DK s w ≡ d)
  dk-old d w n z = let o = dk-decided w (λ q. n (sym z ∙ q)) in (o, sym (dk-out-merge w o) ∙ z)

  -- kinds that neither fragment had
  pub dk-other : (w : ℕ) → 2 ≤ DK s w → DK s w ≢ 3 → Outside w
  dk-other w a b = sort w (λ e. absurd (⊎_elim (λ q. omega arith) (λ q. b q) (in-dk w e))) (λ o. o)

  pub find-out-merge : (w : ℕ) → s.st w ≡ 1 → Outside w
  find-out-merge w f = sort w (λ e. absurd (in-find w e f)) (λ o. o)

  pub asleep-out : (w : ℕ) → v ≢ w → s.st w ≡ 0 → Outside w
  asleep-out w n z = sort w (λ e. absurd (n (in-asleep w e z))) (λ o. o)

  -- ---- labels, there and back

  pub keep-merge : (a b : ℕ) → s.fr a ≡ s.fr b → S'.fr a ≡ S'.fr b
  keep-merge a b q = relabel-keep s.fr (s.fr y) (s.fr v) a b q

  pub apart-merge : (w u : ℕ) → Outside w → S'.fr u ≡ S'.fr w → s.fr u ≡ s.fr w
  apart-merge w u o q = sort u (λ e. absurd (o.0 (sym (fr-out-merge w o) ∙ sym q ∙ fr-in-merge u e))) (λ n. sym (fr-out-merge u n) ∙ q ∙ fr-out-merge w o)

  pub bounds-merge : (n z : ℕ) → Outside z → Bounds p s n z → Bounds p S' n z
  bounds-merge n z o f u j w q e m = f u j w (apart-merge z u o q) e (M.dn0-move (r.inv) (r.turn) move-merge u j m)

  -- ---- joined edges: k, and those that were

  pub joined-merge {κ} : {C : Type κ} (j a b : ℕ) → Edge p j a b → Both S'.mark j a b → (v ≡ a → y ≡ b → k ≡ j → C) → (y ≡ a → v ≡ b → k ≡ j → C) → (Jn s j a b → C) → C
  joined-merge j a b e x f g c = M.dn1-move (r.inv) (r.turn) move-merge a j x.0 (λ q z. f q (M.far-end (r.inv) (r.turn) move-merge j a b e q z) z)
      (λ m. M.dn1-move (r.inv) (r.turn) move-merge b j x.1 (λ q z. g (M.far-end (r.inv) (r.turn) move-merge j b a (flip e) q z) q z) (λ n. c (m, n)))

  -- what was joined is not k
  pub not-k : (j a b : ℕ) → Edge p j a b → Jn s j a b → k ≢ j
  not-k j a b e x z = ⊎_elim (λ q. omega (arith, r.leave.basic, x.0, at2 s.mark q.0 z)) (λ q. omega (arith, r.leave.basic, x.1, at2 s.mark q.0 z))
      (same-edge (r.leave.ends) e z)

  -- of an outside node
  pub joined-out : (j a b : ℕ) → Edge p j a b → Outside a → Both S'.mark j a b → Jn s j a b
  joined-out j a b e o x = joined-merge j a b e x (λ q n z. absurd (o.0 (ap s.fr (sym q)))) (λ q n z. absurd (o.1 (ap s.fr (sym q)))) (λ f. f)

  pub beyond-merge : (j a b : ℕ) → Edge p j a b → Outside a → Jn s j a b → Outside b
  beyond-merge j a b e o x = outside-like a b o (sym (r.inv.markings.m3 j a b e x))
