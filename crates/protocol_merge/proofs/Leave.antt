-- Edge k leads from v out of its fragment, to y, and no edge that leaves the fragment is earlier: it is in the tree (`leave-tree`), and its channel holds
-- answers only (`leave-only`).
use Rattle.protocol.proofs.Prelude.{ℕ, suc, ◌≤◌, arith, ◌≡◌, refl, sym, ap, subst, ◌∙◌, ◌≢◌, inr, ⊎_elim, by-eq}
use Rattle.protocol.proofs.Prelude.{true, false, eqb, eqb-cases, eqb_same, eqb-diff, cut-rank}
use Rattle.protocol.proofs.Prelude.{Msg, connect, initiate, test, accept, reject, report, change}
use Rattle.protocol.proofs.Prelude.{Network, Edge, Tree, key, rank, flip, ends-two, ends-irr, ends-key, ProtocolState, FirstOwn}
use Rattle.protocol.proofs.Prelude.{is_ci, Only, fits-connect, In, Bounds, GL, Inv, no-waits}
use Rattle.protocol_merge.proofs.Turn.{Turn, root_ok}
use Rattle.protocol_merge.proofs.Move.{Move}

pub record Leave (p : Network) (s : ProtocolState) (v k y : ℕ) : Type 0 where
  pub ends : Edge p k v y
  pub basic : s.mark v k ≡ 0
  -- it leaves the fragment, to a node of no lower level
  pub out : s.fr y ≢ s.fr v
  pub level : GL s v ≤ s.lev y
  pub bound : Bounds p s (rank p k) v

module _ {p : Network} {s : ProtocolState} (i : Inv p s) {v k y : ℕ} where
  -- the earliest edge of a sleeper
  pub leave-sleeper : Edge p k v y → s.st v ≡ 0 → FirstOwn p v k → Leave p s v k y
  leave-sleeper e z least =
      let g = (i.sleepers.g6 v z).g6g in
      record {
        ends = e;
        basic = i.sleepers.g6m v k z;
        out = λ q. ends-irr p e (sym (i.sizes.g4s v y g q));
        level = omega arith;
        bound = λ u j w q f m. least j w (subst (λ x. Edge p j x w) (i.sizes.g4s v u g q) f);
      }

  -- the best edge of the root, where it is no branch
  pub leave-root : s.oo ≡ suc v → Edge p k v y → s.be v ≡ k → s.mark v k ≢ 1 → Leave p s v k y
  leave-root oo e b n =
      let r = root_ok i oo in
      let w : s.bw v ≡ k = by-eq (s.be v) (s.bw v) (λ q. sym q ∙ b)
      (λ q. absurd (n (subst (λ x. s.mark v x ≡ 1) b (i.bests.b1e v (r.d3i) (r.d3w) q).2.0))) in
      let x = i.weights.b1 v (r.d3i) (r.d3w) in
      let at : y ≡ x.1 = ⊎_elim (λ q. q.1) (λ q. absurd (x.4 (ap s.fr (sym q.0)))) (ends-two e (subst (λ j. Edge p j x.0 x.1) w x.2)) in
      let out : s.fr y ≢ s.fr v = λ q. x.4 (sym (ap s.fr at) ∙ q) in
      record {
        ends = e;
        basic = by-eq (s.mark v k) 2 (λ z. absurd (out (sym (i.markings.m1 k v y e z).0))) (λ z. omega (arith, i.ranges.mark-le v k));
        out = out;
        level = omega (arith, x.5, ap s.lev at);
        bound = λ u j c q f m. omega (arith, r.d3b u j c q f m, ap (key p) w, ends-key p e);
      }

module _ {p : Network} {s : ProtocolState} (i : Inv p s) {v k y : ℕ} (t : Turn p s v) (h : Leave p s v k y) where
  -- an edge that leaves the fragment is Basic there, so not earlier
  earliest : (j a b : ℕ) → Edge p j a b → s.fr a ≡ s.fr v → s.fr b ≢ s.fr v → rank p k ≤ rank p j
  earliest j a b e q n = by-eq (s.mark a j) 0 (λ z. h.bound a j b q e z)
      (λ z. by-eq (s.mark a j) 2 (λ m. absurd (n (sym (i.markings.m1 j a b e m).0 ∙ q)))
      (λ m. let one : s.mark a j ≡ 1 = omega (arith, i.ranges.mark-le a j) in
      absurd (by-eq (s.mark b j) 1 (λ o. n (sym (i.markings.m3 j a b e (one, o)) ∙ q)) (λ o. omega (arith, (i.halves.m2 j a b e one o).0, ap s.dk q, t.fresh)))))

  -- so it is in the tree, by the cut property (m5)
  pub leave-tree : Tree p k
  leave-tree = cut-rank p.g p.order (λ w. eqb (s.fr w) (s.fr v)) k v y (h.ends) (eqb_same (s.fr v)) (eqb-diff (s.fr y) (s.fr v) (h.out))
      (λ j a b e x z. earliest j a b e (yes a x) (no b z))
    where
      clash : true ≡ false → ⊥
      clash q = let z : ◌≡◌ {A = ℕ} 0 1 = cc in omega arith

      yes : (a : ℕ) → eqb (s.fr a) (s.fr v) ≡ true → s.fr a ≡ s.fr v
      yes a = eqb-cases (s.fr a) (s.fr v) (λ b. b ≡ true → s.fr a ≡ s.fr v) (λ q e. q) (λ n e. absurd (clash (sym e)))

      no : (a : ℕ) → eqb (s.fr a) (s.fr v) ≡ false → s.fr a ≢ s.fr v
      no a = eqb-cases (s.fr a) (s.fr v) (λ b. b ≡ false → s.fr a ≢ s.fr v) (λ q e. absurd (clash e)) (λ n e. n)

  -- the channel holds answers only
  pub leave-only : (n : ℕ) (x : Msg) → In x (s.ch v k) → Only n x
  leave-only n (connect l) o = absurd (omega (arith, i.connects.c1m k v y l (h.ends) o, h.basic))
  leave-only n (initiate l f x) o = absurd (omega (arith, (i.initiates.i1 k v y l f x (h.ends) o).i1j.0, h.basic))
  leave-only n (test l f) o = absurd (⊎_elim (λ w. no-waits i k v y (h.ends) (t.no-find v refl) w.0) (λ w. omega (arith, w.1, h.basic)) (i.testing.e1w k v y l f (h.ends) o))
  leave-only n accept o = tt
  leave-only n reject o = tt
  leave-only n (report w) o = absurd (omega (arith, (i.reports.r1j k v y w (h.ends) o).0, h.basic))
  leave-only n change o = absurd (omega (arith, (i.tokens.k1 k v y (h.ends) o).0, t.fresh))

  no_call : (x : Msg) → In x (s.ch v k) → is_ci x ≡ 0
  no_call (connect l) o = absurd (omega (arith, i.connects.c1m k v y l (h.ends) o, h.basic))
  no_call (initiate l f x) o = absurd (leave-only 0 (initiate l f x) o)
  no_call (test l f) o = refl
  no_call accept o = refl
  no_call reject o = refl
  no_call (report w) o = refl
  no_call change o = refl

  -- v may send Connect over it
  pub leave-move : (l : ℕ) → Move p s v y k (connect l)
  leave-move l = record {
    ends = h.ends;
    not-i = refl;
    not_t = refl;
    not_a = refl;
    not-r = refl;
    call = inr (h.basic);
    mark-v = λ z. omega (arith, h.basic);
    mark-y = λ z. h.out (i.markings.m1 k y v (flip (h.ends)) z).0;
    rouse = λ z. tt;
    fits = λ n o. fits-connect l n (no_call n o);
  }
