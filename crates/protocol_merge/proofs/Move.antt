-- v is Found, sends m, a Connect or a Change-root, over k to y, marks k Branch and turns its inbound edge there:
-- what becomes of marks, channels, status and inbound edges, and the clauses that speak of nothing else.
use Rattle.protocol.proofs.Prelude.{ℕ, suc, ◌+◌, ◌≤◌, ◌<◌, arith, ◌≡◌, refl, sym, ap, subst, ◌∙◌, ◌≢◌, ◌⊎◌, inl, inr, ⊎_elim, by-eq}
use Rattle.protocol.proofs.Prelude.{List, [], ◌∷◌, upd, upd-elim, upd_same, upd_other, upd2, upd2-elim, All, sum_l, sum_l-app, at2}
use Rattle.protocol.proofs.Prelude.{Msg, none, connect, test, report}
use Rattle.protocol.proofs.Prelude.{Network, Edge, flip, other-end, ends-irr, edge-some, Way, wider, ProtocolState}
use Rattle.protocol.proofs.Prelude.{is_c, is_i, is_ci, is_t, is_a, is_r, Rouse, Fits, top, snoc-top}
use Rattle.protocol.proofs.Prelude.{In, Bef, snoc, snoc-elim, snoc-in, snoc_old, in-snoc2, snoc-bef, snoc-sum, snoc-else, here-new, else_same, snoc-all}
use Rattle.protocol.proofs.Prelude.{Both, JoinedEdge, GL, Jn, Waits, Inv, no-waits}
use Rattle.protocol.specs.Fragments.{Inbounds}
use Rattle.protocol.specs.Search.{Pending, Tests}
use Rattle.protocol_merge.proofs.Turn.{Turn}

pub record Move (p : Network) (s : ProtocolState) (v y k : ℕ) (m : Msg) : Type 0 where
  pub ends : Edge p k v y
  -- m is a Connect or a Change-root
  pub not-i : is_i m ≡ 0
  pub not_t : is_t m ≡ 0
  pub not_a : is_a m ≡ 0
  pub not-r : is_r m ≡ 0
  -- a Connect goes over an edge that was Basic
  pub call : ((is_c m ≡ 0) × (is_ci m ≡ 0)) ⊎ (s.mark v k ≡ 0)
  -- at neither end the edge is Rejected
  pub mark-v : s.mark v k ≢ 2
  pub mark-y : s.mark y k ≢ 2
  -- m may go to y, and stand behind what is on the channel
  pub rouse : s.st y ≡ 0 → Rouse m
  pub fits : (n : Msg) → In n (s.ch v k) → Fits n m

module _ {p : Network} {s : ProtocolState} (i : Inv p s) {v y k : ℕ} {m : Msg} (t : Turn p s v) (h : Move p s v y k m) where
  -- the tables afterwards
  abbrev pub st' : ℕ → ℕ
  st' = upd s.st v 2

  abbrev pub ub' : ℕ → ℕ
  ub' = upd s.ub v k

  abbrev pub mark' : ℕ → ℕ → ℕ
  mark' = upd2 s.mark v k 1

  abbrev pub c' : ℕ → ℕ → List Msg
  c' = snoc s.ch v k m

  -- ---- marks, there and back

  pub up1-move : (w j : ℕ) → s.mark w j ≡ 1 → mark' w j ≡ 1
  up1-move w j e = upd2-elim (λ x. x ≡ 1) s.mark v k 1 w j (λ a b. refl) (λ n. e)

  pub up2-move : (w j : ℕ) → s.mark w j ≡ 2 → mark' w j ≡ 2
  up2-move w j e = upd2-elim (λ x. x ≡ 2) s.mark v k 1 w j (λ a b. absurd (h.mark-v (at2 s.mark a b ∙ e))) (λ n. e)

  pub dn0-move : (w j : ℕ) → mark' w j ≡ 0 → s.mark w j ≡ 0
  dn0-move w j = upd2-elim (λ x. x ≡ 0 → s.mark w j ≡ 0) s.mark v k 1 w j (λ a b e. absurd (omega arith)) (λ n e. e)

  pub dn2-move : (w j : ℕ) → mark' w j ≡ 2 → s.mark w j ≡ 2
  dn2-move w j = upd2-elim (λ x. x ≡ 2 → s.mark w j ≡ 2) s.mark v k 1 w j (λ a b e. absurd (omega arith)) (λ n e. e)

  pub dn1-move {κ} : {C : Type κ} (w j : ℕ) → mark' w j ≡ 1 → (v ≡ w → k ≡ j → C) → (s.mark w j ≡ 1 → C) → C
  dn1-move {C} w j = upd2-elim (λ x. x ≡ 1 → (v ≡ w → k ≡ j → C) → (s.mark w j ≡ 1 → C) → C) s.mark v k 1 w j (λ a b e f g. f a b) (λ n e f g. g e)

  pub mark-new : mark' v k ≡ 1
  mark-new = here-new s.mark v k 1

  pub mark-off-move : (w j : ℕ) → v ≢ w → mark' w j ≡ s.mark w j
  mark-off-move w j n = else_same s.mark v k 1 w j (inl n)

  pub both-up : (j a b : ℕ) → Jn s j a b → Both mark' j a b
  both-up j a b e = (up1-move a j e.0, up1-move b j e.1)

  -- the other end of k, from v and to v
  pub far-end : (j w u : ℕ) → Edge p j w u → v ≡ w → k ≡ j → y ≡ u
  far-end j w u e a b = other-end (h.ends) e a b

  pub y≢v : v ≢ y
  y≢v = ends-irr p (h.ends)

  -- ---- channels, there and back

  pub old-move : {x : Msg} (f : Msg → ℕ) → f m ≡ 0 → 1 ≤ f x → (w j : ℕ) → In x (c' w j) → In x (s.ch w j)
  old-move f z o w j n = snoc_old s.ch v k m w j (λ e. omega (arith, ap f e)) n

  pub in-stays : {x : Msg} (w j : ℕ) → In x (s.ch w j) → In x (c' w j)
  in-stays w j n = in-snoc2 s.ch v k m w j n

  pub same_move : (f : Msg → ℕ) → f m ≡ 0 → (w j : ℕ) → sum_l f (c' w j) ≡ sum_l f (s.ch w j)
  same_move f z w j = snoc-sum s.ch v k m f z w j

  pub sum-grows : (f : Msg → ℕ) (w j : ℕ) → sum_l f (s.ch w j) ≤ sum_l f (c' w j)
  sum-grows f w j = snoc-elim s.ch v k m (λ l. sum_l f (s.ch w j) ≤ sum_l f l) w j (λ a b. omega (arith, sum_l-app f (s.ch w j) (m ∷ []))) (λ n. omega arith)

  far : (n w j : ℕ) → top n (c' w j) ≡ top n (s.ch w j)
  far = snoc-top s.ch v k m (h.not-i)

  -- what was joined is not the edge of a new Connect
  apart : (w j u : ℕ) → Jn s j w u → s.mark v k ≡ 0 → (v ≢ w) ⊎ (k ≢ j)
  apart w j u e z = by-eq v w (λ a. inr (λ b. omega (arith, e.0, at2 s.mark a b))) (λ n. inl n)

  pub conn-same : (w j u : ℕ) → Jn s j w u → sum_l is_c (c' w j) ≡ sum_l is_c (s.ch w j)
  conn-same w j u e = ⊎_elim (λ z. same_move is_c z.0 w j) (λ z. ap (sum_l is_c) (snoc-else s.ch v k m w j (apart w j u e z))) (h.call)

  pub call_same : (w j u : ℕ) → Jn s j w u → sum_l is_ci (c' w j) ≡ sum_l is_ci (s.ch w j)
  call_same w j u e = ⊎_elim (λ z. same_move is_ci z.1 w j) (λ z. ap (sum_l is_ci) (snoc-else s.ch v k m w j (apart w j u e z))) (h.call)

  -- what stands behind a Report, and before it
  pub behind-move : (w j u n : ℕ) (x : Msg) → Jn s j w u → Bef (report n) x (c' w j) → Bef (report n) x (s.ch w j) ⊎ (is_ci x ≡ 0)
  behind-move w j u n x e b = ⊎_elim (λ o. inl o)
      (λ o. ⊎_elim (λ z. inr (ap is_ci o.2 ∙ z.1)) (λ z. absurd (⊎_elim (λ f. f o.0) (λ f. f o.1) (apart w j u e z))) (h.call))
      (snoc-bef s.ch v k m w j b)

  pub ahead-move : (w j n : ℕ) (x : Msg) → Bef x (report n) (c' w j) → Bef x (report n) (s.ch w j)
  ahead-move w j n x b = ⊎_elim (λ o. o) (λ o. absurd (omega (arith, ap is_r o.2, h.not-r))) (snoc-bef s.ch v k m w j b)

  -- ---- status and inbound edges

  pub st-two : (w : ℕ) → s.st w ≡ 2 → st' w ≡ 2
  st-two w e = upd-elim (λ x. x ≡ 2) s.st v 2 w (λ q. refl) (λ n. e)

  pub st-old : (w : ℕ) → st' w ≡ 1 → s.st w ≡ 1
  st-old w = upd-elim (λ x. x ≡ 1 → s.st w ≡ 1) s.st v 2 w (λ q e. absurd (omega arith)) (λ n e. e)

  pub st-new : (w : ℕ) → s.st w ≡ 1 → st' w ≡ 1
  st-new w e = upd-elim (λ x. x ≡ 1) s.st v 2 w (λ q. absurd (t.no-find v refl (ap s.st q ∙ e))) (λ n. e)

  pub st-asleep : (w : ℕ) → st' w ≡ 0 → (v ≢ w) × (s.st w ≡ 0)
  st-asleep w = upd-elim (λ x. x ≡ 0 → (v ≢ w) × (s.st w ≡ 0)) s.st v 2 w (λ q e. absurd (omega arith)) (λ n e. (n, e))

  pub st-awake : (w : ℕ) → v ≢ w → st' w ≢ 0 → s.st w ≢ 0
  st-awake w n e z = e (upd_other s.st v 2 w n ∙ z)

  pub ub-off : (w : ℕ) → v ≢ w → ub' w ≡ s.ub w
  ub-off w n = upd_other s.ub v k w n

  pub ub-new : ub' v ≡ k
  ub-new = upd_same s.ub v k

  -- an edge that was joined is still inbound for an end
  pub joined-ub : (j w u : ℕ) → Edge p j w u → Jn s j w u → (ub' w ≡ j) ⊎ (ub' u ≡ j)
  joined-ub j w u e b = ⊎_elim (λ q. side j w u e b q) (λ q. ⊎_elim (λ z. inr z) (λ z. inl z) (side j u w (flip e) (b.1, b.0) q)) (i.inbounds.m3u j w u e b)
    where
      side : (j w u : ℕ) → Edge p j w u → Jn s j w u → s.ub w ≡ j → (ub' w ≡ j) ⊎ (ub' u ≡ j)
      side j w u e b q = by-eq v w
          (λ z. let f = subst (λ n. Edge p j n u) (sym z) e in
          inr (ub-off u (ends-irr p f) ∙ (t.turns j u f (subst (λ n. s.mark n j ≡ 1) (sym z) b.0, b.1) (ap s.ub z ∙ q)).0))
          (λ n. inl (ub-off w n ∙ q))

  -- the level at its far end is still its sender's
  pub joined-top : (j w u : ℕ) → Edge p j w u → Jn s j w u → ub' w ≢ j → s.lev w ≡ top (s.lev u) (c' w j)
  joined-top j w u e b n = by-eq (s.ub w) j
      (λ q. by-eq v w
      (λ z. let f = subst (λ n. Edge p j n u) (sym z) e in
      ap s.lev (sym z) ∙ (t.turns j u f (subst (λ n. s.mark n j ≡ 1) (sym z) b.0, b.1) (ap s.ub z ∙ q)).1 ∙ ap (λ n. top (s.lev u) (s.ch n j)) z)
      (λ z. absurd (n (ub-off w z ∙ q))))
      (λ q. i.telling.u2 j w u e b q)
      ∙ sym (far (s.lev u) w j)

  -- ---- clauses

  pub pending-move : Pending st' s.te s.fc s.ot s.op
  pending-move = record {
    f2 = λ w e. i.pending.f2 w (st-old w e);
    f3t = λ w n. i.pending.f3t w (λ e. n (st-new w e));
    f3c = λ w n. i.pending.f3c w (λ e. n (st-new w e));
    f5t = λ w e. st-new w (i.pending.f5t w e);
    f5p = λ w e. st-new w (i.pending.f5p w e);
  }

  -- v waits for no answer
  pub v-waits : (j w u : ℕ) → Edge p j w u → v ≡ w → ¬ Waits s w j
  v-waits j w u e q = no-waits i j w u e (λ f. t.no-find v refl (ap s.st q ∙ f))

  -- where a node waits, its own mark is as it was
  pub mark-wait : (j w u : ℕ) → Edge p j w u → Waits s w j → mark' w j ≡ s.mark w j
  mark-wait j w u e b = mark-off-move w j (λ q. v-waits j w u e q b)

  pub hush : (j w u : ℕ) → Edge p j w u → st' w ≡ 0 → c' w j ≡ []
  hush j w u e z = let o = st-asleep w z in snoc-else s.ch v k m w j (inl o.0) ∙ i.hush.g6o j w u e o.1

  pub hush-in : (j u w : ℕ) → Edge p j u w → st' w ≡ 0 → All Rouse (c' u j)
  hush-in j u w e z = let o = st-asleep w z in
      snoc-all s.ch v k m u j (λ a b. h.rouse (ap s.st (far-end j u w e a b) ∙ o.1)) (i.hush.g6i j u w e o.1)

  pub order-move : (j w u : ℕ) (a b : Msg) → Edge p j w u → Bef a b (c' w j) → Fits a b
  order-move j w u a b e f = ⊎_elim (λ o. i.ordered.q1 j w u a b e o)
      (λ o. subst (λ n. Fits a n) (sym o.2) (h.fits a (subst (λ l. In a l) (sym (at2 s.ch o.0 o.1)) o.3))) (snoc-bef s.ch v k m w j f)

  -- a sleeper has no mark, who is awake with an edge has an inbound edge
  pub sleep-mark : (w j : ℕ) → st' w ≡ 0 → mark' w j ≡ 0
  sleep-mark w j z = let o = st-asleep w z in mark-off-move w j o.0 ∙ i.sleepers.g6m w j o.1

  pub awake-ub : (j w u : ℕ) → Edge p j w u → st' w ≢ 0 → ub' w ≢ none
  awake-ub j w u e n = by-eq v w (λ q z. edge-some p (h.ends) (sym ub-new ∙ ap ub' q ∙ z)) (λ q z. i.sleepers.u1a j w u e (st-awake w q n) (sym (ub-off w q) ∙ z))

  -- ways of joined edges stay
  pub ways-stay : (a b : ℕ) → s.fr a ≡ s.fr b → Way p.g (JoinedEdge p mark') a b
  ways-stay a b q = wider (λ j l x. both-up j (p.g.lo j) (p.g.hi j) x) (i.markings.m4 a b q)

  -- a Test: as e1w, with the new marks
  pub test-cases : (j w u l f : ℕ) → Edge p j w u → In (test l f) (s.ch w j)
      → (Waits s w j × (mark' w j ≢ 2) × (mark' w j ≡ 1 → mark' u j ≡ 1))
      ⊎ (((s.te w ≢ j) ⊎ (s.ot ≡ suc w)) × (mark' w j ≡ 2) × Waits s u j × (s.fr w ≡ s.fr u))
  test-cases j w u l f e n = ⊎_elim
      (λ o. inl (o.0, λ z. o.1 (dn2-move w j z), λ z. up1-move u j (o.2 (sym (mark-wait j w u e o.0) ∙ z))))
      (λ o. inr (o.0, up2-move w j o.1, o.2, o.3))
      (i.testing.e1w j w u l f e n)

  -- what waits, waits for the same
  pub waits-two : (j w u : ℕ) → Edge p j w u → Waits s w j → Waits s u j → sum_l is_t (c' w j) + sum_l is_a (c' u j) ≡ 1
  waits-two j w u e a b = omega (arith, i.testing.e2w j w u e a b, same_move is_t (h.not_t) w j, same_move is_a (h.not_a) u j)

  pub waits_one : (j w u : ℕ) → Edge p j w u → Waits s w j → (s.te u ≢ j) ⊎ (s.ot ≡ suc u) → sum_l is_t (c' w j) + sum_l is_a (c' u j) + sum_l is_t (c' u j) ≡ 1
  waits_one j w u e a b = omega (arith, i.testing.e2c j w u e a b, same_move is_t (h.not_t) w j, same_move is_a (h.not_a) u j, same_move is_t (h.not_t) u j)

  pub served-move : (j w u : ℕ) → Edge p j w u → mark' w j ≡ 2 → mark' u j ≡ 0 → sum_l is_t (c' u j) ≡ 0
  served-move j w u e a b = same_move is_t (h.not_t) u j ∙ i.testing.m6t j w u e (dn2-move w j a) (dn0-move u j b)

  -- test edges, if one that is waited for is joined only where it was
  pub tests-move : ((j w u : ℕ) → Edge p j w u → Waits s w j → Both mark' j w u → Jn s j w u) → Tests p s.te s.ib mark' s.ot
  tests-move f = record {
    e2o = i.tests.e2o;
    e2b = λ j w u l x e a g z. i.tests.e2b j w u l x e a g (dn0-move w l z);
    e2r = λ j w u e a z. i.tests.e2r j w u e a (dn2-move w j z);
    e2i = λ j w u e a b. i.tests.e2i j w u e a (f j w u e a b);
    m6 = λ j w u e a b. i.tests.m6 j w u e (dn2-move w j a) (dn0-move u j b);
  }

  -- inbound edges, if a joined one is inbound for an end
  pub inbounds : ((j w u : ℕ) → Edge p j w u → Both mark' j w u → (ub' w ≡ j) ⊎ (ub' u ≡ j)) → Inbounds p ub' s.ib mark'
  inbounds f = record {
    u1o = λ w. upd-elim (λ x. x ≢ none → (u : ℕ) × Edge p x w u) s.ub v k w (λ q n. (y, subst (λ x. Edge p k x y) q (h.ends))) (λ d n. i.inbounds.u1o w n);
    u1 = λ j w u e. upd-elim (λ x. x ≡ j → mark' w j ≡ 1) s.ub v k w (λ q r. sym (at2 mark' q r) ∙ mark-new) (λ n r. up1-move w j (i.inbounds.u1 j w u e r));
    u1r = i.inbounds.u1r;
    u1i = λ j w u e r. both-up j w u (i.inbounds.u1i j w u e r);
    m3u = f;
  }

  -- a mark belongs to an own edge; beyond a Rejected one, inside, there is no Branch
  pub marked-own : (w j : ℕ) → mark' w j ≢ 0 → (u : ℕ) × Edge p j w u
  marked-own w j = upd2-elim (λ x. x ≢ 0 → (u : ℕ) × Edge p j w u) s.mark v k 1 w j
      (λ a b n. (y, subst (λ x. Edge p x w y) b (subst (λ x. Edge p k x y) a (h.ends)))) (λ d n. i.markings.own w j n)

  pub beyond-move : (j w u : ℕ) → Edge p j w u → mark' w j ≡ 2 → (s.fr w ≡ s.fr u) × (mark' u j ≢ 1)
  beyond-move j w u e z = let a = i.markings.m1 j w u e (dn2-move w j z) in
      (a.0, λ f. dn1-move u j f (λ q r. h.mark-y (at2 s.mark (far-end j u w (flip e) q r) r ∙ dn2-move w j z)) a.1)

  -- a Connect: from a Branch
  pub caller-marked : (j w u l : ℕ) → Edge p j w u → In (connect l) (c' w j) → mark' w j ≡ 1
  caller-marked j w u l e n = ⊎_elim (λ o. up1-move w j (i.connects.c1m j w u l e o)) (λ o. sym (at2 mark' o.0 o.1) ∙ mark-new) (snoc-in s.ch v k m w j n)

  -- who gets a Report by its in-branch is another
  pub spent-off : (j w u n : ℕ) → Edge p j w u → In (report n) (s.ch w j) → s.ib u ≡ j → v ≢ u
  spent-off j w u n e o b q = t.no-report j w n (subst (λ x. Edge p j w x) (sym q) e) (ap s.ib q ∙ b) o

  -- who is below its fragment's level is another
  pub low-off : (w : ℕ) → s.lev w < GL s w → v ≢ w
  low-off w l q = omega (arith, t.even, ap s.lev q, ap (λ x. GL s x) q)
