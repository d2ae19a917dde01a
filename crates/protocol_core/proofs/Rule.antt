-- A Report or a Change-root, the head of the channel from u over k, makes v's fragment take a decision of kind d:
-- 1, v is to execute procedure change-root; 4, the fragment is finished. What differs between the two is in `Ruling`; the whole is `inv-rule`.
use Rattle.protocol.proofs.Prelude.{ℕ, ◌≤◌, arith, ◌≡◌, sym, ap, subst, ◌∙◌, ◌≢◌, ◌⊎◌, inl, inr, ⊎_elim, by-eq}
use Rattle.protocol.proofs.Prelude.{List, ◌∷◌, upd-elim, upd_same, upd_other, upd2, sum_l, Msg, none, connect, report, change}
use Rattle.protocol.proofs.Prelude.{Network, Edge, flip, ProtocolState, set-ch}
use Rattle.protocol.proofs.Prelude.{is_r, All, Only, le-sum, joins-lt, In, else_same, pop-in, pop-le}
use Rattle.protocol.proofs.Prelude.{Decision, GL, GC, DK, Outst, Counting, Child, CoreEnds, Spent, Inv, fc-find, outst-ch, counting-ch, last-case, reports-same, take-alike}
use Rattle.protocol.specs.Fragments.{Ranges, Sleepers}
use Rattle.protocol.specs.Decisions.{Halves, ChangeRoots, Finishes}
use Rattle.protocol.specs.Search.{Parents, Finds}
use Rattle.protocol.specs.Traffic.{Tokens, Reports, Owing, Bests}
use Rattle.protocol_core.proofs.Late.{Late, Kept, late-kept}
use Rattle.protocol_core.proofs.Ruling.{ruled}
pub use Rattle.protocol_core.proofs.Ruling.{FragmentDone, Ruling}

module _ {p : Network} {s : ProtocolState} (i : Inv p s) {u v k d : ℕ} {m : Msg} {r : List Msg} {dn halt : ℕ → ℕ} {oo : ℕ} (q : s.ch u k ≡ m ∷ r) (late : Late m)
    (h : Ruling p s u v k r d dn halt oo) where
  abbrev S' : ProtocolState
  S' = ruled s u v k r d dn halt oo

  abbrev c' : ℕ → ℕ → List Msg
  c' = upd2 s.ch u k r

  others : Kept p S'
  others = late-kept i q late s.bw s.be s.fc halt S'.dk dn s.owe s.op oo

  d-kind : (d ≡ 1) ⊎ (d ≡ 4)
  d-kind = ⊎_elim (λ t. inl t.0) (λ t. inr t.0) (h.verdict)

  d-le : d ≤ 4
  d-le = ⊎_elim (λ e. omega arith) (λ e. omega arith) d-kind

  -- ---- the decision of v's fragment, and of the others

  dk-in : (x : ℕ) → s.fr v ≡ s.fr x → DK S' x ≡ d
  dk-in x e = ap S'.dk (sym e) ∙ upd_same s.dk (s.fr v) d

  dk-off : (x : ℕ) → s.fr v ≢ s.fr x → DK S' x ≡ DK s x
  dk-off x n = upd_other s.dk (s.fr v) d (s.fr x) n

  -- another kind than d is another fragment's
  dk-old : (e x : ℕ) → e ≢ d → DK S' x ≡ e → (s.fr v ≢ s.fr x) × (DK s x ≡ e)
  dk-old e x n z = by-eq (s.fr v) (s.fr x) (λ o. absurd (n (sym z ∙ dk-in x o))) (λ o. (o, sym (dk-off x o) ∙ z))

  not0 : 0 ≢ d
  not0 z = ⊎_elim (λ e. omega arith) (λ e. omega arith) d-kind

  not2 : 2 ≢ d
  not2 z = ⊎_elim (λ e. omega arith) (λ e. omega arith) d-kind

  not3 : 3 ≢ d
  not3 z = ⊎_elim (λ e. omega arith) (λ e. omega arith) d-kind

  -- a decision over an edge is another fragment's
  decision-old : (e z j : ℕ) → e ≢ d → Decision e S'.dk dn s.de s.fr z j → (s.fr v ≢ s.fr z) × Decision e s.dk s.dn s.de s.fr z j
  decision-old e z j n a = let o = dk-old e z n a.0 in (o.0, (o.1, sym (h.dn-off z o.0) ∙ a.1, a.2))

  decision-new : (e z j : ℕ) → s.fr v ≢ s.fr z → Decision e s.dk s.dn s.de s.fr z j → Decision e S'.dk dn s.de s.fr z j
  decision-new e z j n a = (dk-off z n ∙ a.0, h.dn-off z n ∙ a.1, a.2)

  -- a channel from another fragment is as it was
  off : (x j : ℕ) → s.fr v ≢ s.fr x → c' x j ≡ s.ch x j
  off x j n = else_same s.ch u k r x j (inl (λ z. n (sym (h.inside) ∙ ap s.fr z)))

  -- ---- tables

  ranges' : Ranges s.st halt s.due S'.dk s.mark
  ranges' = record {
    st-le = i.ranges.st-le;
    halt-le = h.halt-le;
    due-le = i.ranges.due-le;
    dk-le = λ a. upd-elim (λ x. x ≤ 4) s.dk (s.fr v) d a (λ e. d-le) (λ n. i.ranges.dk-le a);
    mark-le = i.ranges.mark-le;
  }

  -- at level 0 it is another fragment
  low-off : (x : ℕ) → GL s x ≡ 0 → s.fr v ≢ s.fr x
  low-off x z e = omega (arith, h.level, ap s.gl e)

  sleepers' : Sleepers p s.st s.fr s.gl S'.dk s.due s.bw s.be s.ub halt s.mark
  sleepers' = record {
    g6 = λ x z. let t = i.sleepers.g6 x z in record { g6g = t.g6g; g6d = dk-off x (low-off x (t.g6g)) ∙ t.g6d; g6u = t.g6u; g6w = t.g6w; g6e = t.g6e };
    g6m = i.sleepers.g6m;
    u1a = i.sleepers.u1a;
    g7 = λ j x y e n z. dk-off x (low-off x z) ∙ i.sleepers.g7 j x y e n z;
    g7n = λ x n z e. let t = i.sleepers.g7n x n z e in let o = low-off x z in (dk-off x o ∙ t.0, h.halt-off x o ∙ t.1);
  }

  halves' : Halves p S'.dk dn s.de s.fr s.gl s.lev s.ub s.mark
  halves' = record {
    m2 = λ j x y e a b. let t = i.halves.m2 j x y e a b in decision-new 3 x j (λ z. h.fresh (ap s.dk z ∙ t.0)) t;
    d1f = λ x z. let o = dk-old 3 x not3 z in ap s.fr (h.dn-off x o.0) ∙ i.halves.d1f x o.1;
    d1e = λ x z. let o = dk-old 3 x not3 z in subst (λ n. (y : ℕ) × Edge p (s.de (s.fr x)) n y) (sym (h.dn-off x o.0)) (i.halves.d1e x o.1);
    d1 = λ j z y e a. i.halves.d1 j z y e (decision-old 3 z j not3 a).1;
  }

  change_roots' : ChangeRoots p S'.dk dn s.de s.fr s.gl s.gc s.lev s.ib s.ub s.bw s.mark
  change_roots' = record {
    d2f = λ x z. let o = dk-old 2 x not2 z in ap s.fr (h.dn-off x o.0) ∙ i.change_roots.d2f x o.1;
    d2e = λ x z. let o = dk-old 2 x not2 z in subst (λ n. (y : ℕ) × Edge p (s.de (s.fr x)) n y) (sym (h.dn-off x o.0)) (i.change_roots.d2e x o.1);
    d2 = λ j a x e t. i.change_roots.d2 j a x e (decision-old 2 a j not2 t).1;
  }

  -- what is finished: v's fragment, or one that was
  finished {κ} : {C : Type κ} (x : ℕ) → DK S' x ≡ 4 → (s.fr x ≡ s.fr v → FragmentDone p s v halt c' → C) → (s.fr v ≢ s.fr x → DK s x ≡ 4 → C) → C
  finished x z y n = by-eq (s.fr v) (s.fr x)
      (λ e. ⊎_elim (λ t. absurd (omega (arith, t.0, dk-in x e))) (λ t. y (sym e) t.1) (h.verdict))
      (λ e. n e (sym (dk-off x e) ∙ z))

  -- who has halted: of v's fragment, or one who had
  halting {κ} : {C : Type κ} (x : ℕ) → halt x ≢ 0 → (s.fr v ≡ s.fr x → d ≡ 4 → FragmentDone p s v halt c' → C) → (s.fr v ≢ s.fr x → s.halt x ≢ 0 → C) → C
  halting x z y n = by-eq (s.fr v) (s.fr x)
      (λ e. ⊎_elim (λ t. absurd (z (t.1 x (sym e)))) (λ t. y e t.0 t.1) (h.verdict))
      (λ e. n e (λ o. z (h.halt-off x e ∙ o)))

  finishes' : Finishes p S'.dk s.fr s.gl s.gc s.lev s.bw halt s.due s.mark
  finishes' = record {
    d4 = λ j x y e z. finished x z (λ f t. t.tight j x y e f) (λ n f. i.finishes.d4 j x y e f);
    d4i = λ j x y e g z l. finished x z (λ f t. t.nothing j x y e f g) (λ n f. i.finishes.d4i j x y e g f l);
    d5 = λ x n. by-eq (s.fr v) (s.fr x) (λ e. h.no_due x (sym e)) (λ e. i.finishes.d5 x (λ z. n (dk-off x e ∙ z)));
    d6 = λ x n. halting x n (λ e z t. dk-in x e ∙ z) (λ e z. dk-off x e ∙ i.finishes.d6 x z);
    d6c = λ j x y e n. halting x n (λ f z t. t.halted j x y e (sym f) n) (λ f z. i.finishes.d6c j x y e z);
  }

  parents' : Parents p s.lev s.fr s.gl s.gc s.ib s.ub s.dep s.side S'.dk
  parents' = record { t1 = i.parents.t1; t1d = i.parents.t1d; t1p = i.parents.t1p; t1e = i.parents.t1e; t1u = λ x f z. i.parents.t1u x f (dk-old 0 x not0 z).1 }

  finds' : Finds s.st s.lev s.fr s.gl S'.dk s.due
  finds' = record {
    f1 = λ x z. let t = i.finds.f1 x z in record { f1i = t.f1i; f1k = dk-off x (λ e. h.no-find x (sym e) z) ∙ t.f1k; f1u = t.f1u };
    f1d = i.finds.f1d;
  }

  -- ---- channels

  -- the other end of a core is in its fragment
  core-off : (j x y : ℕ) → Edge p j x y → GC s x ≡ j → 1 ≤ GL s x → s.fr v ≢ s.fr x → c' y j ≡ s.ch y j
  core-off j x y e g l n = off y j (λ z. n (z ∙ (i.cores.g5 x y x l (subst (λ a. Edge p a y x) (sym g) (flip e))).1))

  tokens' : Tokens p S'
  tokens' = record {
    d1c = λ j z y e t. let o = decision-old 3 z j not3 t in subst (λ l. In (connect (GL s z)) l) (sym (off z j o.0)) (i.tokens.d1c j z y e o.1);
    d1a = λ j z y e t. let o = decision-old 3 z j not3 t in subst (λ l. All (Only (GL s z)) l) (sym (off z j o.0)) (i.tokens.d1a j z y e o.1);
    d2c = λ j a x e t. let o = decision-old 2 a j not2 t in subst (λ l. In change l) (sym (off a j o.0)) (i.tokens.d2c j a x e o.1);
    k1 = λ j a x e n. decision-new 2 a j (λ z. h.no-token j a x e (sym z) n) (i.tokens.k1 j a x e (pop-in s.ch u k q a j n));
    d3r = h.no-report;
    d4h = λ j x y e g z l f n. finished x z (λ o t. t.halt-no j x y e o g f n)
        (λ o t. i.tokens.d4h j x y e g t l (λ a. f (h.halt-off x o ∙ a)) (pop-in s.ch u k q y j n));
    d4r = λ j x y e g z l f. finished x z (λ o t. t.halt-yes j x y e o g f)
        (λ o t. subst (λ a. In (report none) a) (sym (core-off j x y e g l o)) (i.tokens.d4r j x y e g t l (sym (h.halt-off x o) ∙ f)));
    d7 = λ j x y e g z f t. let o = dk-old 0 x not0 z in ⊎_elim
        (λ a. inl (subst (λ l. 1 ≤ sum_l is_r l) (sym (off x j o.0)) a))
        (λ a. inr (a.0, a.1, a.2, subst (λ l. 1 ≤ sum_l is_r l) (sym (core-off j x y e g f.0 o.0)) a.3))
        (i.tokens.d7 j x y e g o.1 f t);
  }

  reports' : Reports p S'
  reports' = record {
    r1r = o.r1r;
    r1j = o.r1j;
    r1 = λ j a b n e m. by-eq (s.fr v) (s.fr a) (λ z. inr (inr (h.spent j a b n e (sym z) m))) (λ z. kind j a b n e z m);
    r1c = λ j a b n e m f z g. let t = dk-old 0 b not0 z in core j a b n (λ x. t.0 (x ∙ i.markings.m3 j a b e (o.r1j j a b n e m))) (o.r1c j a b n e m f t.1 g);
  }
    where
      -- a Report of another fragment is what it was
      o : Reports p (set-ch s c')
      o = reports-same p s c' (take-alike p s u k q (late.no_call)) i.reports

      core : (j a b n : ℕ) → s.fr v ≢ s.fr a → CoreEnds (set-ch s c') a b j n → CoreEnds S' a b j n
      core j a b n z t = (t.0, dk-off a z ∙ t.1, t.2, t.3, t.4, t.5, t.6)

      kind : (j a b n : ℕ) → Edge p j a b → s.fr v ≢ s.fr a → In (report n) (c' a j) → Child S' a b j n ⊎ (CoreEnds S' a b j n ⊎ Spent p S' a b j n)
      kind j a b n e z m = ⊎_elim (λ t. inl t)
          (⊎_elim (λ t. inr (inl (core j a b n z t)))
          (λ t. inr (inr (t.0, t.1, t.2, t.3, t.4, ⊎_elim (λ l. inl l) (λ l. inr (l.0, l.1, dk-off b (λ x. z (x ∙ sym (i.markings.m3 j a b e (o.r1j j a b n e m)))) ∙ l.2, l.3)) t.5))))
          (o.r1 j a b n e m)

  owing' : Owing p S'
  owing' = record {
    f4y = λ j x c e n. let t = i.owing.f4y j x c e n in (t.0, t.1, t.2, outst j x c (λ z. owing j x c e n (z ∙ sym (i.markings.m3 j x c e t.1))) t.3);
    f4n = λ j x c e f b n o. i.owing.f4n j x c e f b n (outst-ch S' s.ch c j (λ l. omega (arith, pop-le s.ch u k q is_r c j)) o);
  }
    where
      -- who waits for a Report is Find, so of another fragment
      owing : (j x c : ℕ) → Edge p j x c → s.owe x j ≢ 0 → s.fr v ≢ s.fr x
      owing j x c e n z = h.no-find x (sym z) (fc-find i x (λ o. omega (arith, i.find_counts.f4 x, le-sum p.g.L j (s.owe x) (joins-lt e))))

      outst : (j x c : ℕ) → s.fr v ≢ s.fr c → Outst s c j → Outst S' c j
      outst j x c z = outst-ch s c' c j (λ r. subst (λ l. 1 ≤ sum_l is_r l) (sym (off c j z)) r)

  bests' : Bests p S'
  bests' = record {
    b1e = λ x f n m. let t = i.bests.b1e x f n m in (t.0, t.1, t.2, t.3, t.4, t.5, t.6, t.7, omega (arith, pop-le s.ch u k q is_r t.0 (s.be x), t.8));
    b2 = λ j x y e m z l. let o = dk-old 0 x not0 z in
        last-case (λ t. (t.0, t.1, t.2, t.3, live t.0 (λ a. o.0 (a ∙ t.1)) t.4, t.5)) (i.bests.b2 j x y e m o.1 l);
  }
    where
      live : (x : ℕ) → s.fr v ≢ s.fr x → Counting s x → Counting S' x
      live x n = counting-ch s c' x (λ l. inr (inr (subst (λ a. 1 ≤ sum_l is_r a) (sym (off x (s.ib x) n)) l)))

  pub inv-rule : Inv p S'
  inv-rule = record {
    ranges = ranges';
    values = i.values;
    levels = i.levels;
    sizes = i.sizes;
    cores = i.cores;
    sleepers = sleepers';
    markings = i.markings;
    inbounds = i.inbounds;
    halves = halves';
    change_roots = change_roots';
    rootings = h.rootings;
    finishes = finishes';
    parents = parents';
    kids = i.kids;
    finds = finds';
    pending = i.pending;
    find_counts = i.find_counts;
    tests = i.tests;
    weights = i.weights;
    hush = others.hush;
    tokens = tokens';
    connects = others.connects;
    initiates = others.initiates;
    telling = others.telling;
    testing = others.testing;
    answers = others.answers;
    reports = reports';
    owing = owing';
    bests = bests';
    ordered = others.ordered;
  }
