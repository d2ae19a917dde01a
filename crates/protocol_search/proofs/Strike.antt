-- A mark of v for k that is Basic becomes Rejected: what stays of the clauses that read marks (`flow-strike`, `inv-strike`).
use Rattle.protocol.proofs.Prelude.{ℕ, ◌≤◌, arith, ◌≡◌, refl, sym, ap, subst, ◌∙◌, ◌≢◌, ◌⊎◌, inl, inr, ⊎_elim}
use Rattle.protocol.proofs.Prelude.{upd2, upd2-elim, by-eq, Network, Edge, key, rank, flip, other-end, wider, ProtocolState, Strike, set-mark, set-ch, set-ot, List, Msg}
use Rattle.protocol.proofs.Prelude.{Both, Bounding, Inv, Flow, inv-search, init-ok, at2}
use Rattle.protocol.specs.Fragments.{Ranges, Cores, Sleepers, Markings, Inbounds}
use Rattle.protocol.specs.Decisions.{Halves, ChangeRoots, Rootings, Finishes}
use Rattle.protocol.specs.Search.{Kids, Pending, Tests}
use Rattle.protocol.specs.Traffic.{Connects, Initiates, Telling, Testing, Answers, Reports, Owing, Bests}

module _ (p : Network) (s : ProtocolState) (v k c : ℕ) (strike : Strike s v k c) where
  abbrev pub struck : ℕ → ℕ → ℕ
  struck = upd2 s.mark v k c

  -- marks before and after
  pub up1-strike : (w j : ℕ) → s.mark w j ≡ 1 → struck w j ≡ 1
  up1-strike w j h = upd2-elim (λ x. x ≡ 1) s.mark v k c w j
      (λ a b. ⊎_elim (λ t. absurd (omega (arith, t.0, at2 s.mark a b))) (λ t. t.1 ∙ at2 s.mark a b ∙ h) strike) (λ n. h)

  pub up2-strike : (w j : ℕ) → s.mark w j ≡ 2 → struck w j ≡ 2
  up2-strike w j h = upd2-elim (λ x. x ≡ 2) s.mark v k c w j
      (λ a b. ⊎_elim (λ t. t.1) (λ t. t.1 ∙ at2 s.mark a b ∙ h) strike) (λ n. h)

  pub up0-strike : (w j : ℕ) → (v ≢ w) ⊎ (k ≢ j) → s.mark w j ≡ 0 → struck w j ≡ 0
  up0-strike w j n h = upd2-elim (λ x. x ≡ 0) s.mark v k c w j (λ a b. absurd (⊎_elim (λ f. f a) (λ f. f b) n)) (λ m. h)

  pub dn0-strike : (w j : ℕ) → struck w j ≡ 0 → s.mark w j ≡ 0
  dn0-strike w j = upd2-elim (λ x. x ≡ 0 → s.mark w j ≡ 0) s.mark v k c w j
      (λ a b h. ⊎_elim (λ t. absurd (omega (arith, t.1))) (λ t. absurd (t.0 (sym t.1 ∙ h))) strike) (λ n h. h)

  pub dn1-strike : (w j : ℕ) → struck w j ≡ 1 → s.mark w j ≡ 1
  dn1-strike w j = upd2-elim (λ x. x ≡ 1 → s.mark w j ≡ 1) s.mark v k c w j
      (λ a b h. ⊎_elim (λ t. absurd (omega (arith, t.1))) (λ t. sym (at2 s.mark a b) ∙ sym t.1 ∙ h) strike) (λ n h. h)

  -- Rejected now: it was, or it is the one that was struck
  pub dn2-strike : (w j : ℕ) → struck w j ≡ 2 → (s.mark w j ≡ 2) ⊎ ((v ≡ w) × (k ≡ j) × (s.mark v k ≡ 0))
  dn2-strike w j = upd2-elim (λ x. x ≡ 2 → (s.mark w j ≡ 2) ⊎ ((v ≡ w) × (k ≡ j) × (s.mark v k ≡ 0))) s.mark v k c w j
      (λ a b h. ⊎_elim (λ t. inr (a, b, t.0)) (λ t. inl (sym (at2 s.mark a b) ∙ sym t.1 ∙ h)) strike) (λ n h. inl h)

  -- Basic now: another mark
  pub dn-other-strike : (w j : ℕ) → struck w j ≡ 0 → (v ≢ w) ⊎ (k ≢ j)
  dn-other-strike w j = upd2-elim (λ x. x ≡ 0 → (v ≢ w) ⊎ (k ≢ j)) s.mark v k c w j
      (λ a b h. ⊎_elim (λ t. absurd (omega (arith, t.1))) (λ t. absurd (t.0 (sym t.1 ∙ h))) strike) (λ n h. n)

  pub up-both-strike : (j a b : ℕ) → Both s.mark j a b → Both struck j a b
  up-both-strike j a b h = (up1-strike a j h.0, up1-strike b j h.1)

  pub dn-both-strike : (j a b : ℕ) → Both struck j a b → Both s.mark j a b
  dn-both-strike j a b h = (dn1-strike a j h.0, dn1-strike b j h.1)

  pub bounds-strike : (fr : ℕ → ℕ) (n a : ℕ) → Bounding p fr s.mark n a → Bounding p fr struck n a
  bounds-strike fr n a h u j w e f m = h u j w e f (dn0-strike u j m)

  -- ---- clauses on channels

  connects-strike : Connects p s → Connects p (set-mark s struck)
  connects-strike o = record { c1m = λ j u w l e n. up1-strike u j (o.c1m j u w l e n); c1 = λ j u w l e n m. o.c1 j u w l e n (dn1-strike w j m) }

  initiates-strike : Initiates p s → Initiates p (set-mark s struck)
  initiates-strike o = record { i1 = λ j u w l f x e n. let t = o.i1 j u w l f x e n in init-ok t (up-both-strike j u w (t.i1j)) (t.i1u) refl }

  telling-strike : Telling p s → Telling p (set-mark s struck)
  telling-strike o = record {
    u2 = λ j w x e b n. o.u2 j w x e (dn-both-strike j w x b) n;
    t2i = λ j w x e b h n l. o.t2i j w x e (dn-both-strike j w x b) h n l;
    t4 = λ j x y e b g. o.t4 j x y e (dn-both-strike j x y b) g;
    t4n = λ j x y e b g n. o.t4n j x y e (dn-both-strike j x y b) g n;
  }

  reports-strike : Reports p s → Reports p (set-mark s struck)
  reports-strike o = record { r1r = o.r1r; r1j = λ j u w n e h. up-both-strike j u w (o.r1j j u w n e h); r1 = o.r1; r1c = o.r1c }

  owing-strike : Owing p s → Owing p (set-mark s struck)
  owing-strike o = record {
    f4y = λ j w x e n. let t = o.f4y j w x e n in (t.0, up-both-strike j w x t.1, t.2, t.3);
    f4n = λ j w x e h b n t. o.f4n j w x e h (dn-both-strike j w x b) n t;
  }

  pub flow-strike : Flow p s → Flow p (set-mark s struck)
  flow-strike o = record {
    hush = record { g6o = o.hush.g6o; g6i = o.hush.g6i };
    tokens = record { d1c = o.tokens.d1c; d1a = o.tokens.d1a; d2c = o.tokens.d2c; k1 = o.tokens.k1; d3r = o.tokens.d3r; d4h = o.tokens.d4h; d4r = o.tokens.d4r; d7 = o.tokens.d7 };
    connects = connects-strike o.connects;
    initiates = initiates-strike o.initiates;
    telling = telling-strike o.telling;
    reports = reports-strike o.reports;
    owing = owing-strike o.owing;
    ordered = record { q1 = o.ordered.q1 };
  }

-- ---- clauses on tables: v is awake, k lies inside the fragment and is not Branch at its other end where it is Basic at v

module _ {p : Network} {s : ProtocolState} (i : Inv p s) {u v k c : ℕ} (ends : Edge p k v u) (strike : Strike s v k c) (awake : s.st v ≢ 0) (inside : s.fr v ≡ s.fr u)
    (free : s.mark v k ≡ 0 → s.mark u k ≢ 1) where
  abbrev m' : ℕ → ℕ → ℕ
  m' = struck p s v k c strike

  ranges-strike : Ranges s.st s.halt s.due s.dk m'
  ranges-strike = record {
    st-le = i.ranges.st-le;
    halt-le = i.ranges.halt-le;
    due-le = i.ranges.due-le;
    dk-le = i.ranges.dk-le;
    mark-le = λ w j. upd2-elim (λ x. x ≤ 2) s.mark v k c w j (λ a b. ⊎_elim (λ t. omega (arith, t.1)) (λ t. omega (arith, t.1, i.ranges.mark-le v k)) strike) (λ n. i.ranges.mark-le w j);
  }

  cores-strike : Cores p s.fr s.gl s.gc m'
  cores-strike = record {
    g5r = i.cores.g5r;
    g5 = λ w x y l e. let t = i.cores.g5 w x y l e in (up-both-strike p s v k c strike (s.gc (s.fr w)) x y t.0, t.1);
  }

  sleepers-strike : Sleepers p s.st s.fr s.gl s.dk s.due s.bw s.be s.ub s.halt m'
  sleepers-strike = record {
    g6 = i.sleepers.g6;
    g6m = λ w j z. up0-strike p s v k c strike w j (inl (λ q. awake (ap s.st q ∙ z))) (i.sleepers.g6m w j z);
    u1a = i.sleepers.u1a;
    g7 = i.sleepers.g7;
    g7n = i.sleepers.g7n;
  }

  markings-strike : Markings p s.fr m'
  markings-strike = record {
    own = λ w j n. upd2-elim (λ x. x ≢ 0 → (y : ℕ) × Edge p j w y) s.mark v k c w j
        (λ a b m. (u, subst (λ x. Edge p j x u) a (subst (λ x. Edge p x v u) b ends))) (λ d m. i.markings.own w j m) n;
    m1 = λ j w x e h. ⊎_elim (λ o. let t = i.markings.m1 j w x e o in (t.0, λ z. t.1 (dn1-strike p s v k c strike x j z)))
        (λ t. let y = other-end ends e t.0 t.1 in
        (ap s.fr (sym t.0) ∙ inside ∙ ap s.fr y, λ z. free t.2 (ap (λ a. s.mark a k) y ∙ ap (s.mark x) t.1 ∙ dn1-strike p s v k c strike x j z)))
        (dn2-strike p s v k c strike w j h);
    m3 = λ j w x e h. i.markings.m3 j w x e (dn-both-strike p s v k c strike j w x h);
    m4 = λ w x e. wider (λ j l h. up-both-strike p s v k c strike j (p.g.lo j) (p.g.hi j) h) (i.markings.m4 w x e);
    m5 = λ j w x e h. i.markings.m5 j w x e (dn1-strike p s v k c strike w j h);
  }

  inbounds-strike : Inbounds p s.ub s.ib m'
  inbounds-strike = record {
    u1o = i.inbounds.u1o;
    u1 = λ j w x e h. up1-strike p s v k c strike w j (i.inbounds.u1 j w x e h);
    u1r = i.inbounds.u1r;
    u1i = λ j w x e h. up-both-strike p s v k c strike j w x (i.inbounds.u1i j w x e h);
    m3u = λ j w x e h. i.inbounds.m3u j w x e (dn-both-strike p s v k c strike j w x h);
  }

  halves-strike : Halves p s.dk s.dn s.de s.fr s.gl s.lev s.ub m'
  halves-strike = record {
    m2 = λ j w x e a b. i.halves.m2 j w x e (dn1-strike p s v k c strike w j a) (λ z. b (up1-strike p s v k c strike x j z));
    d1f = i.halves.d1f;
    d1e = i.halves.d1e;
    d1 = λ j z y e h. let t = i.halves.d1 j z y e h in
        record {
          d1m = up1-strike p s v k c strike z j (t.d1m);
          d1y = up0-strike p s v k c strike y j (by-eq v y (λ q. inr (λ b. t.d1o (out j z y e q b))) (λ n. inl n)) (t.d1y);
          d1o = t.d1o;
          d1g = t.d1g;
          d1l = t.d1l;
          d1u = t.d1u;
          d1b = bounds-strike p s v k c strike s.fr (rank p j) z (t.d1b);
        };
  }
    where
      -- k lies inside
      out : (j z y : ℕ) → Edge p j z y → v ≡ y → k ≡ j → s.fr y ≡ s.fr z
      out j z y e q b = ap s.fr (sym q) ∙ inside ∙ ap s.fr (other-end ends (flip e) q b)

  change-roots-strike : ChangeRoots p s.dk s.dn s.de s.fr s.gl s.gc s.lev s.ib s.ub s.bw m'
  change-roots-strike = record {
    d2f = i.change_roots.d2f;
    d2e = i.change_roots.d2e;
    d2 = λ j w x e h. let t = i.change_roots.d2 j w x e h in
        record {
          d2j = up-both-strike p s v k c strike j w x (t.d2j);
          d2g = t.d2g;
          d2i = t.d2i;
          d2x = t.d2x;
          d2b = t.d2b;
          d2u = t.d2u;
          d2v = t.d2v;
          d2w = t.d2w;
          d2n = bounds-strike p s v k c strike s.fr (key p (s.bw x)) x (t.d2n);
        };
  }

  rootings-strike : Rootings p s.dk s.dn s.fr s.gl s.lev s.ib s.ub s.bw m' s.oo
  rootings-strike = record {
    d3f = i.rootings.d3f;
    d3o = i.rootings.d3o;
    f5r = i.rootings.f5r;
    d3 = λ x h. let t = i.rootings.d3 x h in
        record { d3i = t.d3i; d3w = t.d3w; d3b = bounds-strike p s v k c strike s.fr (key p (s.bw x)) x (t.d3b); d3u = t.d3u; d3v = t.d3v };
  }

  finishes-strike : Finishes p s.dk s.fr s.gl s.gc s.lev s.bw s.halt s.due m'
  finishes-strike = record { d4 = λ j w x e h z. i.finishes.d4 j w x e h (dn0-strike p s v k c strike w j z); d4i = i.finishes.d4i; d5 = i.finishes.d5; d6 = i.finishes.d6; d6c = i.finishes.d6c }

  kids-strike : Kids p s.lev s.fr s.gl s.gc s.ib s.ub s.due m'
  kids-strike = record {
    t2 = λ j w x e b h n o. i.kids.t2 j w x e (dn-both-strike p s v k c strike j w x b) h n o;
    t3 = λ j a b e h l m. i.kids.t3 j a b e (dn-both-strike p s v k c strike j a b h) l m;
    t4u = λ j x y e b g l. i.kids.t4u j x y e (dn-both-strike p s v k c strike j x y b) g l;
  }

  -- the whole, where besides the open test and channels change
  module _ (ot : ℕ) (c' : ℕ → ℕ → List Msg) where
    abbrev striking : ProtocolState
    striking = set-ot (set-mark (set-ch s c') m') ot

    pub inv-strike : Pending s.st s.te s.fc ot s.op → Tests p s.te s.ib m' ot → Flow p striking → Testing p striking → Answers p striking → Bests p striking → Inv p striking
    inv-strike = inv-search i m' s.te ot s.op c' (record {
      ranges = ranges-strike;
      cores = cores-strike;
      sleepers = sleepers-strike;
      markings = markings-strike;
      inbounds = inbounds-strike;
      halves = halves-strike;
      change_roots = change-roots-strike;
      rootings = rootings-strike;
      finishes = finishes-strike;
      kids = kids-strike;
    })
