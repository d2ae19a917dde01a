-- v's fragment takes a decision of kind d with node v and edge k, as v sends m over it: 3 for a Connect, 2 for a Change-root.
-- What differs between the two is in `PassCase`; the rest is proved here once (`inv-pass`).
use Rattle.protocol.proofs.Prelude.{ℕ, ◌≤◌, arith, ◌≡◌, refl, sym, ap, subst, ◌∙◌, ◌≢◌, ◌⊎◌, inl, inr, ⊎_elim, by-eq, last-case, init-ok}
use Rattle.protocol.proofs.Prelude.{upd, upd-elim, upd_same, upd_other, upd2, upd2-elim, All, at2}
use Rattle.protocol.proofs.Prelude.{Msg, connect, report, change}
use Rattle.protocol.proofs.Prelude.{Network, Edge, Tree, flip, ProtocolState, set-st, set-oo, set-ub, send_over, remarked, decided}
use Rattle.protocol.proofs.Prelude.{is_c, is_i, is_t, is_a, is_r, is_k, Only, In, snoc, snoc-in, snoc-all}
use Rattle.protocol.proofs.Prelude.{Both, Decision, GL, DK, Inf, Jn, Outst, Counting, CoreEnds, Spent, Inv, joined-level}
use Rattle.protocol.specs.Fragments.{Ranges, Cores, Sleepers, Markings, Inbounds}
use Rattle.protocol.specs.Decisions.{HalfOk, Halves, ChangingOk, ChangeRoots, Rootings, Finishes}
use Rattle.protocol.specs.Search.{Parents, Kids, Finds, Tests}
use Rattle.protocol.specs.Traffic.{Tokens, Connects, Initiates, Telling, Testing, Answers, Reports, Owing, Bests}
use Rattle.protocol_merge.proofs.Turn.{Turn}
use Rattle.protocol_merge.proofs.Move as M
use Rattle.protocol_merge.proofs.Move.{Move}

pub record PassCase (p : Network) (s : ProtocolState) (v y k d : ℕ) (m : Msg) : Type 0 where
  pub low : 2 ≤ d
  pub high : d ≤ 3
  -- k is joined afterwards only if it was
  pub joins : (s.mark v k ≡ 1) ⊎ (s.mark y k ≢ 1)
  pub tree : Tree p k
  -- the kind of the decision, and what it says of v, y, k
  pub half : s.mark y k ≢ 1 → d ≡ 3
  pub changing : is_k m ≡ 1 → d ≡ 2
  pub half-ok : d ≡ 3 → HalfOk p s.fr s.gl s.lev (upd s.ub v k) (upd2 s.mark v k 1) k v y
  pub half_in : d ≡ 3 → In (connect (GL s v)) (snoc s.ch v k m v k)
  pub half-all : d ≡ 3 → All (Only (GL s v)) (snoc s.ch v k m v k)
  pub changing-ok : d ≡ 2 → ChangingOk p s.fr s.gl s.gc s.lev s.ib (upd s.ub v k) s.bw (upd2 s.mark v k 1) k v y
  pub changing-in : d ≡ 2 → In change (snoc s.ch v k m v k)

module _ {p : Network} {s : ProtocolState} (i : Inv p s) {v y k d : ℕ} {m : Msg} (t : Turn p s v) (h : Move p s v y k m) (o : PassCase p s v y k d m) where
  abbrev pub S' : ProtocolState
  S' = set-oo (set-st (decided (set-ub (remarked (send_over s v k m) v k 1) (upd s.ub v k)) v d v k) (upd s.st v 2)) 0

  -- ---- the decision of v's fragment, and of the others

  dk-in : (w : ℕ) → s.fr v ≡ s.fr w → DK S' w ≡ d
  dk-in w q = ap S'.dk (sym q) ∙ upd_same s.dk (s.fr v) d

  dn-in : (w : ℕ) → s.fr v ≡ s.fr w → S'.dn (s.fr w) ≡ v
  dn-in w q = ap S'.dn (sym q) ∙ upd_same s.dn (s.fr v) v

  de-in : (w : ℕ) → s.fr v ≡ s.fr w → S'.de (s.fr w) ≡ k
  de-in w q = ap S'.de (sym q) ∙ upd_same s.de (s.fr v) k

  dk-off : (w : ℕ) → s.fr v ≢ s.fr w → DK S' w ≡ DK s w
  dk-off w n = upd_other s.dk (s.fr v) d (s.fr w) n

  dn-off : (w : ℕ) → s.fr v ≢ s.fr w → S'.dn (s.fr w) ≡ s.dn (s.fr w)
  dn-off w n = upd_other s.dn (s.fr v) v (s.fr w) n

  de-off : (w : ℕ) → s.fr v ≢ s.fr w → S'.de (s.fr w) ≡ s.de (s.fr w)
  de-off w n = upd_other s.de (s.fr v) k (s.fr w) n

  -- a kind other than d, and a decision before, are others'
  dk-old : (e w : ℕ) → e ≢ d → DK S' w ≡ e → (s.fr v ≢ s.fr w) × (DK s w ≡ e)
  dk-old e w n z = by-eq (s.fr v) (s.fr w) (λ q. absurd (n (sym z ∙ dk-in w q))) (λ q. (q, sym (dk-off w q) ∙ z))

  dk-other : (w : ℕ) → 2 ≤ DK s w → s.fr v ≢ s.fr w
  dk-other w l q = omega (arith, t.fresh, ap s.dk q)

  no-root : (w : ℕ) → DK S' w ≢ 1
  no-root w z = let a = dk-old 1 w (λ q. omega (arith, o.low)) z in a.0 (sym (t.roots w a.1))

  own-decision : (e z j : ℕ) → s.fr v ≡ s.fr z → Decision e S'.dk S'.dn S'.de s.fr z j → (d ≡ e) × (v ≡ z) × (k ≡ j)
  own-decision e z j q a = (sym (dk-in z q) ∙ a.0, sym (dn-in z q) ∙ a.1, sym (de-in z q) ∙ a.2)

  old-decision : (e z j : ℕ) → s.fr v ≢ s.fr z → Decision e S'.dk S'.dn S'.de s.fr z j → Decision e s.dk s.dn s.de s.fr z j
  old-decision e z j n a = (sym (dk-off z n) ∙ a.0, sym (dn-off z n) ∙ a.1, sym (de-off z n) ∙ a.2)

  new-decision : (e z j : ℕ) → 2 ≤ e → Decision e s.dk s.dn s.de s.fr z j → Decision e S'.dk S'.dn S'.de s.fr z j
  new-decision e z j l a = let n = dk-other z (omega (arith, a.0)) in (dk-off z n ∙ a.0, dn-off z n ∙ a.1, de-off z n ∙ a.2)

  -- its node and edge
  decision-node : (w : ℕ) → (DK s w ≡ DK S' w → s.fr (s.dn (s.fr w)) ≡ s.fr w) → s.fr (S'.dn (s.fr w)) ≡ s.fr w
  decision-node w f = by-eq (s.fr v) (s.fr w) (λ q. ap s.fr (dn-in w q) ∙ q) (λ n. ap s.fr (dn-off w n) ∙ f (sym (dk-off w n)))

  decision-edge : (w : ℕ) → (DK s w ≡ DK S' w → (x : ℕ) × Edge p (s.de (s.fr w)) (s.dn (s.fr w)) x) → (x : ℕ) × Edge p (S'.de (s.fr w)) (S'.dn (s.fr w)) x
  decision-edge w f = by-eq (s.fr v) (s.fr w)
      (λ q. (y, moved k v y (sym (de-in w q)) (sym (dn-in w q)) (h.ends)))
      (λ n. let x = f (sym (dk-off w n)) in (x.0, moved (s.de (s.fr w)) (s.dn (s.fr w)) x.0 (sym (de-off w n)) (sym (dn-off w n)) x.1))
    where
      moved : (j z x : ℕ) {j' z' : ℕ} → j ≡ j' → z ≡ z' → Edge p j z x → Edge p j' z' x
      moved j z x {j'} a b e = subst (λ n. Edge p j' n x) b (subst (λ n. Edge p n z x) a e)

  -- what holds of k, v, y holds of these
  at_own : (P : ℕ → ℕ → ℕ → Type 0) (j z x : ℕ) → Edge p j z x → v ≡ z → k ≡ j → P k v y → P j z x
  at_own P j z x e a b f = subst (λ n. P j z n) (M.far-end i t h j z x e a b) (subst (λ n. P j n y) a (subst (λ n. P n v y) b f))

  -- ---- joined edges, informed nodes

  joined-was : (j a b : ℕ) → Edge p j a b → Both S'.mark j a b → Jn s j a b
  joined-was j a b e x = M.dn1-move i t h a j x.0 (λ q r. at_own (λ j a b. Both S'.mark j a b → Jn s j a b) j a b e q r here x)
      (λ f. M.dn1-move i t h b j x.1 (λ q r. let g = at_own (λ j a b. Both S'.mark j a b → Jn s j a b) j b a (flip e) q r here (x.1, x.0) in (g.1, g.0)) (λ g. (f, g)))
    where
      here : Both S'.mark k v y → Jn s k v y
      here x = let f = sym (M.mark-off-move i t h y k (M.y≢v i t h)) ∙ x.1 in ⊎_elim (λ z. (z, f)) (λ n. absurd (n f)) (o.joins)

  away : (w : ℕ) → s.fr v ≢ s.fr w → v ≢ w
  away w n q = n (ap s.fr q)

  -- an informed node of an undecided fragment is of another
  inf-off : (w : ℕ) → Inf s w → DK s w ≡ 0 → s.fr v ≢ s.fr w
  inf-off w f z q = omega (arith, t.alone (ap s.dk q ∙ z), ap s.gl q, f.0)

  outst-new : (c j : ℕ) → Outst s c j → Outst S' c j
  outst-new c j (inl x) = inl (x.0, ⊎_elim (λ f. inl (M.st-new i t h c f)) (λ r. inr (omega (arith, M.same_move i t h is_r (h.not-r) c j))) x.1)
  outst-new c j (inr x) = inr x

  outst-old : (c j : ℕ) → Outst S' c j → Outst s c j
  outst-old c j (inl x) = inl (x.0, ⊎_elim (λ f. inl (M.st-old i t h c f)) (λ r. inr (omega (arith, M.same_move i t h is_r (h.not-r) c j))) x.1)
  outst-old c j (inr x) = inr x

  live : (x : ℕ) → Counting s x → Counting S' x
  live x (inl f) = inl (M.st-new i t h x f)
  live x (inr (inl g)) = inr (inl g)
  live x (inr (inr r)) = inr (inr (omega (arith, M.same_move i t h is_r (h.not-r) x (s.ib x))))

  core : (j w u n : ℕ) → Jn s j w u → CoreEnds s w u j n → CoreEnds S' w u j n
  core j w u n b x = (
    x.0,
    dk-off w (inf-off w x.2 x.1) ∙ x.1,
    x.2,
    M.st-two i t h w x.3,
    x.4,
    λ a f. ⊎_elim (λ g. x.5 a g) (λ z. z) (M.behind-move i t h w j u n a b f),
    ⊎_elim (λ r. inl (r.0, M.call_same i t h w j u b ∙ r.1)) (λ r. inr (r.0, M.in-stays i t h w j r.1)) x.6,
  )

  spent : (j w u n : ℕ) → Edge p j w u → In (report n) (s.ch w j) → Spent p s w u j n → Spent p S' w u j n
  spent j w u n e b x = (
    x.0,
    x.1,
    M.ub-off i t h u (M.spent-off i t h j w u n e b x.0) ∙ x.2,
    M.st-two i t h u x.3,
    λ a f. x.4 a (M.ahead-move i t h w j n a f),
    ⊎_elim (λ l. inl l) (λ l. inr (l.0, l.1, dk-off u (dk-other u (omega (arith, l.2))) ∙ l.2, l.3)) x.5,
  )

  -- ---- clauses

  ranges' : Ranges S'.st s.halt s.due S'.dk S'.mark
  ranges' = record {
    st-le = λ w. upd-elim (λ x. x ≤ 2) s.st v 2 w (λ q. omega arith) (λ n. i.ranges.st-le w);
    halt-le = i.ranges.halt-le;
    due-le = i.ranges.due-le;
    dk-le = λ a. upd-elim (λ x. x ≤ 4) s.dk (s.fr v) d a (λ q. omega (arith, o.high)) (λ n. i.ranges.dk-le a);
    mark-le = λ w j. upd2-elim (λ x. x ≤ 2) s.mark v k 1 w j (λ a b. omega arith) (λ n. i.ranges.mark-le w j);
  }

  cores' : Cores p s.fr s.gl s.gc S'.mark
  cores' = record {
    g5r = i.cores.g5r;
    g5 = λ w a b l e. let x = i.cores.g5 w a b l e in (M.both-up i t h (s.gc (s.fr w)) a b x.0, x.1);
  }

  sleepers' : Sleepers p S'.st s.fr s.gl S'.dk s.due s.bw s.be S'.ub s.halt S'.mark
  sleepers' = record {
    g6 = λ w z.
        let a = M.st-asleep i t h w z in
        let n : s.fr v ≢ s.fr w = λ q. a.0 (t.awake w (sym q) a.1) in
        let b = i.sleepers.g6 w a.1 in
        record { g6g = b.g6g; g6d = dk-off w n ∙ b.g6d; g6u = b.g6u; g6w = b.g6w; g6e = b.g6e };
    g6m = M.sleep-mark i t h;
    u1a = M.awake-ub i t h;
    g7 = λ j w u e n g. by-eq (s.fr v) (s.fr w)
        (λ q. dk-in w q ∙ single (ap s.gl q ∙ g))
        (λ q. dk-off w q ∙ i.sleepers.g7 j w u e (M.st-awake i t h w (away w q) n) g);
    g7n = λ w n g e. by-eq v w
        (λ q. absurd (e k y (subst (λ x. Edge p k x y) q (h.ends))))
        (λ q. let b = i.sleepers.g7n w (M.st-awake i t h w q n) g e in (dk-off w (λ r. q (i.sizes.g4s w v g r)) ∙ b.0, b.1));
  }
    where
      -- at level 0 nothing is joined
      single : GL s v ≡ 0 → d ≡ 3
      single g = o.half (λ z. ⊎_elim (λ a. omega (arith, joined-level i k v y (h.ends) (a, z))) (λ n. n z) (o.joins))

  markings' : Markings p s.fr S'.mark
  markings' = record {
    own = M.marked-own i t h;
    m1 = M.beyond-move i t h;
    m3 = λ j w u e b. i.markings.m3 j w u e (joined-was j w u e b);
    m4 = M.ways-stay i t h;
    m5 = λ j w u e z. M.dn1-move i t h w j z (λ q r. subst (λ n. Tree p n) r (o.tree)) (λ f. i.markings.m5 j w u e f);
  }

  inbounds' : Inbounds p S'.ub s.ib S'.mark
  inbounds' = M.inbounds i t h (λ j w u e b. M.joined-ub i t h j w u e (joined-was j w u e b))

  halves' : Halves p S'.dk S'.dn S'.de s.fr s.gl s.lev S'.ub S'.mark
  halves' = record {
    m2 = λ j w u e a b. M.dn1-move i t h w j a
        (λ q r. let f = M.far-end i t h j w u e q r in
        let z = o.half (λ z. b (M.up1-move i t h u j (sym (at2 s.mark f r) ∙ z))) in
        (dk-in w (ap s.fr q) ∙ z, dn-in w (ap s.fr q) ∙ q, de-in w (ap s.fr q) ∙ r))
        (λ z. new-decision 3 w j (omega arith) (i.halves.m2 j w u e z (λ f. b (M.up1-move i t h u j f))));
    d1f = λ w z. decision-node w (λ q. i.halves.d1f w (q ∙ z));
    d1e = λ w z. decision-edge w (λ q. i.halves.d1e w (q ∙ z));
    d1 = λ j z x e a. by-eq (s.fr v) (s.fr z)
        (λ q. let b = own-decision 3 z j q a in at_own (λ j z x. HalfOk p s.fr s.gl s.lev S'.ub S'.mark j z x) j z x e b.1 b.2 (o.half-ok b.0))
        (λ n. let b = i.halves.d1 j z x e (old-decision 3 z j n a) in
        record {
          d1m = M.up1-move i t h z j (b.d1m);
          d1y = upd2-elim (λ r. r ≡ 0) s.mark v k 1 x j
              (λ q r. let g = joined-was j x z (flip e) (sym (at2 S'.mark q r) ∙ M.mark-new i t h, M.up1-move i t h z j (b.d1m)) in absurd (omega (arith, g.0, b.d1y)))
              (λ r. b.d1y);
          d1o = b.d1o;
          d1g = b.d1g;
          d1l = b.d1l;
          d1u = M.ub-off i t h z (away z n) ∙ b.d1u;
          d1b = λ w f u q g r. b.d1b w f u q g (M.dn0-move i t h w f r);
        });
  }

  change_roots' : ChangeRoots p S'.dk S'.dn S'.de s.fr s.gl s.gc s.lev s.ib S'.ub s.bw S'.mark
  change_roots' = record {
    d2f = λ w z. decision-node w (λ q. i.change_roots.d2f w (q ∙ z));
    d2e = λ w z. decision-edge w (λ q. i.change_roots.d2e w (q ∙ z));
    d2 = λ j u x e a. by-eq (s.fr v) (s.fr u)
        (λ q. let b = own-decision 2 u j q a in at_own (λ j u x. ChangingOk p s.fr s.gl s.gc s.lev s.ib S'.ub s.bw S'.mark j u x) j u x e b.1 b.2 (o.changing-ok b.0))
        (λ n. let b = i.change_roots.d2 j u x e (old-decision 2 u j n a) in
        record {
          d2j = M.both-up i t h j u x (b.d2j);
          d2g = b.d2g;
          d2i = b.d2i;
          d2x = b.d2x;
          d2b = b.d2b;
          d2u = M.ub-off i t h u (away u n) ∙ b.d2u;
          d2v = M.ub-off i t h x (away x (λ q. n (q ∙ sym (i.markings.m3 j u x e (b.d2j))))) ∙ b.d2v;
          d2w = b.d2w;
          d2n = λ w f c q g r. b.d2n w f c q g (M.dn0-move i t h w f r);
        });
  }

  rootings' : Rootings p S'.dk S'.dn s.fr s.gl s.lev s.ib S'.ub s.bw S'.mark 0
  rootings' = record {
    d3f = λ w z. absurd (no-root w z);
    d3o = λ w z. absurd (no-root w z);
    f5r = λ w z. absurd (omega arith);
    d3 = λ w z. absurd (no-root w z.0);
  }

  finished : (w : ℕ) → DK S' w ≡ 4 → DK s w ≡ 4
  finished w z = (dk-old 4 w (λ q. omega (arith, o.high)) z).1

  undecided : (w : ℕ) → DK S' w ≡ 0 → (s.fr v ≢ s.fr w) × (DK s w ≡ 0)
  undecided w z = dk-old 0 w (λ q. omega (arith, o.low)) z

  finishes' : Finishes p S'.dk s.fr s.gl s.gc s.lev s.bw s.halt s.due S'.mark
  finishes' = record {
    d4 = λ j w u e z f. i.finishes.d4 j w u e (finished w z) (M.dn0-move i t h w j f);
    d4i = λ j a b e g z l. i.finishes.d4i j a b e g (finished a z) l;
    d5 = λ w n. by-eq (s.fr v) (s.fr w) (λ q. t.no_due w (sym q)) (λ f. i.finishes.d5 w (λ z. n (dk-off w f ∙ z)));
    d6 = λ w n. let x = i.finishes.d6 w n in dk-off w (dk-other w (omega (arith, x))) ∙ x;
    d6c = i.finishes.d6c;
  }

  parents' : Parents p s.lev s.fr s.gl s.gc s.ib S'.ub s.dep s.side S'.dk
  parents' = record {
    t1 = i.parents.t1;
    t1d = i.parents.t1d;
    t1p = i.parents.t1p;
    t1e = i.parents.t1e;
    t1u = λ w f z. let x = undecided w z in M.ub-off i t h w (away w x.0) ∙ i.parents.t1u w f x.1;
  }

  kids' : Kids p s.lev s.fr s.gl s.gc s.ib S'.ub s.due S'.mark
  kids' = record {
    t2 = λ j w c e b. i.kids.t2 j w c e (joined-was j w c e b);
    t3 = λ j a c e b. i.kids.t3 j a c e (joined-was j a c e b);
    t4u = λ j a c e b g l. let x = i.kids.t4u j a c e (joined-was j a c e b) g l in
        record { t4d = x.t4d; t4l = x.t4l; t4b = M.ub-off i t h a (M.low-off i t h a l) ∙ x.t4b; t4i = x.t4i };
  }

  finds' : Finds S'.st s.lev s.fr s.gl S'.dk s.due
  finds' = record {
    f1 = λ w z. let f = M.st-old i t h w z in let x = i.finds.f1 w f in record { f1i = x.f1i; f1k = dk-off w (λ q. t.no-find w (sym q) f) ∙ x.f1k; f1u = x.f1u };
    f1d = λ w f z. M.st-new i t h w (i.finds.f1d w f z);
  }

  tests' : Tests p s.te s.ib S'.mark s.ot
  tests' = M.tests-move i t h (λ j w u e a b. joined-was j w u e b)

  tokens' : Tokens p S'
  tokens' = record {
    d1c = λ j z x e a. by-eq (s.fr v) (s.fr z)
        (λ q. let b = own-decision 3 z j q a in at_own (λ j z x. In (connect (GL s z)) (S'.ch z j)) j z x e b.1 b.2 (o.half_in b.0))
        (λ n. M.in-stays i t h z j (i.tokens.d1c j z x e (old-decision 3 z j n a)));
    d1a = λ j z x e a. by-eq (s.fr v) (s.fr z)
        (λ q. let b = own-decision 3 z j q a in at_own (λ j z x. All (Only (GL s z)) (S'.ch z j)) j z x e b.1 b.2 (o.half-all b.0))
        (λ n. snoc-all s.ch v k m z j (λ q r. absurd (away z n q)) (i.tokens.d1a j z x e (old-decision 3 z j n a)));
    d2c = λ j u x e a. by-eq (s.fr v) (s.fr u)
        (λ q. let b = own-decision 2 u j q a in at_own (λ j u x. In change (S'.ch u j)) j u x e b.1 b.2 (o.changing-in b.0))
        (λ n. M.in-stays i t h u j (i.tokens.d2c j u x e (old-decision 2 u j n a)));
    k1 = λ j u x e n. ⊎_elim (λ a. new-decision 2 u j (omega arith) (i.tokens.k1 j u x e a))
        (λ a. let q = ap s.fr a.0 in (dk-in u q ∙ o.changing (sym (ap is_k a.2)), dn-in u q ∙ a.0, de-in u q ∙ a.1))
        (snoc-in s.ch v k m u j n);
    d3r = λ j a b e z. absurd (no-root a z.0);
    d4h = λ j a b e g z l f n. i.tokens.d4h j a b e g (finished a z) l f (M.old-move i t h is_r (h.not-r) (omega arith) b j n);
    d4r = λ j a b e g z l f. M.in-stays i t h b j (i.tokens.d4r j a b e g (finished a z) l f);
    d7 = λ j a b e g z f r. let x = undecided a z in
        ⊎_elim (λ q. inl (omega (arith, M.same_move i t h is_r (h.not-r) a j)))
        (λ q. inr (q.0, M.st-two i t h b q.1, q.2, omega (arith, q.3, M.same_move i t h is_r (h.not-r) b j)))
        (i.tokens.d7 j a b e g x.1 f (sym (upd_other s.st v 2 a (away a x.0)) ∙ r));
  }

  connects' : Connects p S'
  connects' = record {
    c1m = M.caller-marked i t h;
    c1 = λ j w u l e n z. ⊎_elim (λ a. i.connects.c1 j w u l e a (joined-was j w u e (M.up1-move i t h w j (i.connects.c1m j w u l e a), z)).1)
        (λ a. let b = joined-was j w u e (M.caller-marked i t h j w u l e n, z) in
        absurd (⊎_elim (λ r. omega (arith, r.0, ap is_c a.2)) (λ r. omega (arith, b.0, at2 s.mark a.0 a.1)) (h.call)))
        (snoc-in s.ch v k m w j n);
  }

  initiates' : Initiates p S'
  initiates' = record {
    i1 = λ j w u l f x e n. let r = i.initiates.i1 j w u l f x e (M.old-move i t h is_i (h.not-i) (omega arith) w j n) in
        init-ok r (M.both-up i t h j w u (r.i1j)) (M.ub-off i t h u (M.low-off i t h u (omega (arith, r.i1l, r.i1g))) ∙ r.i1u) refl;
  }

  telling' : Telling p S'
  telling' = record {
    u2 = λ j w c e b n. M.joined-top i t h j w c e (joined-was j w c e b) n;
    t2i = λ j w c e b f n l. M.in-stays i t h w j (i.telling.t2i j w c e (joined-was j w c e b) f n l);
    t4 = λ j a c e b g. ⊎_elim (λ x. inl (omega (arith, M.sum-grows i t h is_c a j))) (⊎_elim (λ x. inr (inl (M.in-stays i t h c j x))) (λ x. inr (inr x)))
        (i.telling.t4 j a c e (joined-was j a c e b) g);
    t4n = λ j a c e b g n. let f = joined-was j a c e b in
        let x = i.telling.t4n j a c e f g (omega (arith, M.conn-same i t h a j c f)) in
        (x.0, λ r. x.1 (M.old-move i t h is_i (h.not-i) (omega arith) c j r));
  }

  testing' : Testing p S'
  testing' = record {
    e1 = λ j w u l f e n. i.testing.e1 j w u l f e (M.old-move i t h is_t (h.not_t) (omega arith) w j n);
    e1w = λ j w u l f e n. M.test-cases i t h j w u l f e (M.old-move i t h is_t (h.not_t) (omega arith) w j n);
    e2w = M.waits-two i t h;
    e2c = M.waits_one i t h;
    m6t = M.served-move i t h;
  }

  answers' : Answers p S'
  answers' = record {
    a1 = λ j w u e n. let r = i.answers.a1 j w u e (M.old-move i t h is_a (h.not_a) (omega arith) w j n) in
        record { a1w = r.a1w; a1m = M.mark-wait i t h j u w (flip e) (r.a1w) ∙ r.a1m; a1f = r.a1f; a1l = r.a1l };
    j1 = λ j w u e n. let r = i.answers.j1 j w u e (M.old-move i t h is_a (h.not_a) (omega arith) w j n) in
        record { j1w = r.j1w; j1f = r.j1f; j1m = λ z. M.up2-move i t h w j (r.j1m (M.dn0-move i t h u j z)) };
  }

  reports' : Reports p S'
  reports' = record {
    r1r = λ j w u n e a. i.reports.r1r j w u n e (was w j n a);
    r1j = λ j w u n e a. M.both-up i t h j w u (i.reports.r1j j w u n e (was w j n a));
    r1 = λ j w u n e a. let b = was w j n a in let f = i.reports.r1j j w u n e b in
        ⊎_elim (λ x. inl (x.0, x.1, x.2, M.st-two i t h w x.3, x.4, x.5, M.st-new i t h u x.6, M.call_same i t h w j u f ∙ x.7))
        (⊎_elim (λ x. inr (inl (core j w u n f x))) (λ x. inr (inr (spent j w u n e b x))))
        (i.reports.r1 j w u n e b);
    r1c = λ j w u n e a f z g. let b = was w j n a in core j w u n (i.reports.r1j j w u n e b) (i.reports.r1c j w u n e b f (undecided u z).1 g);
  }
    where
      was : (w j n : ℕ) → In (report n) (S'.ch w j) → In (report n) (s.ch w j)
      was w j n a = M.old-move i t h is_r (h.not-r) (omega arith) w j a

  owing' : Owing p S'
  owing' = record {
    f4y = λ j w c e n. let x = i.owing.f4y j w c e n in (x.0, M.both-up i t h j w c x.1, x.2, outst-new c j x.3);
    f4n = λ j w c e f b n x. i.owing.f4n j w c e f (joined-was j w c e b) n (outst-old c j x);
  }

  bests' : Bests p S'
  bests' = record {
    b1e = λ w f n a. let x = i.bests.b1e w f n a in
        (x.0, x.1, M.both-up i t h (s.be w) w x.0 x.2, x.3, x.4, x.5, x.6, M.st-two i t h x.0 x.7, M.same_move i t h is_r (h.not-r) x.0 (s.be w) ∙ x.8);
    b2 = λ j u w e a z l. last-case (λ x. (x.0, x.1, x.2, x.3, live x.0 x.4, x.5)) (i.bests.b2 j u w e (M.dn0-move i t h u j a) (undecided u z).1 l);
  }

  pub inv-pass : Inv p S'
  inv-pass = record {
    ranges = ranges';
    values = i.values;
    levels = i.levels;
    sizes = i.sizes;
    cores = cores';
    sleepers = sleepers';
    markings = markings';
    inbounds = inbounds';
    halves = halves';
    change_roots = change_roots';
    rootings = rootings';
    finishes = finishes';
    parents = parents';
    kids = kids';
    finds = finds';
    pending = M.pending-move i t h;
    find_counts = i.find_counts;
    tests = tests';
    weights = i.weights;
    hush = record { g6o = M.hush i t h; g6i = M.hush-in i t h };
    tokens = tokens';
    connects = connects';
    initiates = initiates';
    telling = telling';
    testing = testing';
    answers = answers';
    reports = reports';
    owing = owing';
    bests = bests';
    ordered = record { q1 = M.order-move i t h };
  }
