-- Report w from u at v over k, which is not v's in-branch: v counts down, weighs w against its best, procedure report comes next (`inv-child-report`).
use Rattle.protocol.proofs.Prelude.{ℕ, suc, ◌-◌, ◌≤◌, arith, ◌≡◌, refl, sym, ap, subst, ◌∙◌, ◌≢◌, ◌⊎◌, inl, inr, ⊎_elim, by-eq}
use Rattle.protocol.proofs.Prelude.{List, ◌∷◌, upd, upd-elim, upd_other, upd2, upd2-elim, sum_l, sum, sum_row, row-else}
use Rattle.protocol.proofs.Prelude.{Msg, none, report}
use Rattle.protocol.proofs.Prelude.{Network, Edge, key, rank, joins-lt, flip, other-end}
use Rattle.protocol.proofs.Prelude.{ProtocolState, Idle, Better, pop, bested, set-ch, set-fc, set-owe, set-op}
use Rattle.protocol.proofs.Prelude.{is_r, kinds, In, else_same, pop-in, in-pop, pop-le, pop-all}
use Rattle.protocol.proofs.Prelude.{GL, GC, Inf, Jn, Outst, Counting, Covered, Child, Inv, no-root, reports-same, reports-best, take-alike, outst-ch, counting-ch, last-case}
use Rattle.protocol.specs.Search.{Pending, FindCounts}
use Rattle.protocol.specs.Traffic.{Tokens, Reports, Owing, Bests}
use Rattle.protocol.proofs.Weigh as W
use Rattle.protocol.proofs.Weigh.{LeavesFragment}
use Rattle.protocol_core.proofs.Late.{Kept, late-report, late-kept}
use Rattle.protocol_core.proofs.Core as C

module _ {p : Network} {s : ProtocolState} (i : Inv p s) {u v k w b e : ℕ} {r : List Msg} (idle : Idle s) (ends : Edge p k u v) (q : s.ch u k ≡ report w ∷ r)
    (away : s.ib v ≢ k) (better : Better p s v w k b e) where
  abbrev S' : ProtocolState
  S' = set-op (set-owe (set-fc (bested (pop s u k r) v b e) (upd s.fc v (s.fc v - 1))) (upd2 s.owe v k 0)) (suc v)

  abbrev c' : ℕ → ℕ → List Msg
  c' = upd2 s.ch u k r

  others : Kept p S'
  others = late-kept i q (late-report w) S'.bw S'.be S'.fc s.halt s.dk s.dn S'.owe (suc v) s.oo

  -- it is a child's, and is counted
  child : Child s u v k w
  child = C.child-case i ends q away

  pub child-owed : s.owe v k ≡ 1
  child-owed = C.report-owed i ends q away

  inf-u : Inf s u
  inf-u = child.0

  pub found-u : s.st u ≡ 2
  found-u = child.3

  pub best-u : s.bw u ≡ w
  best-u = child.4

  find : s.st v ≡ 1
  find = child.6

  joined : Jn s k v u
  joined = let t = C.report-joined i ends q in (t.1, t.0)

  -- ---- v's best

  -- w leaves the fragment, from u's side, which is v's
  leaves : w ≢ none → LeavesFragment p s v w
  leaves n =
      let t = i.weights.b1 u inf-u (λ z. n (sym best-u ∙ z)) in
      let f = C.report-inside i ends q in (
        t.0,
        t.1,
        subst (λ a. Edge p a t.0 t.1) best-u t.2,
        t.3 ∙ f,
        λ z. t.4 (z ∙ sym f),
        omega (arith, t.5, ap s.gl f),
        t.6,
        t.7 ∙ (i.parents.t1p k u v ends inf-u child.1 child.2).2,
      )

  pending' : Pending s.st s.te S'.fc s.ot (suc v)
  pending' = record {
    f2 = λ x h. by-eq v x (λ z. inr (inr (inr (ap suc z))))
        (λ n. ⊎_elim (λ c. inl (λ z. c (sym (upd_other s.fc v (s.fc v - 1) x n) ∙ z)))
        (⊎_elim (λ c. inr (inl c)) (⊎_elim (λ c. inr (inr (inl c))) (λ c. absurd (omega (arith, idle.1))))) (i.pending.f2 x h));
    f3t = i.pending.f3t;
    f3c = λ x n. upd-elim (λ a. a ≡ 0) s.fc v (s.fc v - 1) x (λ z. absurd (n (ap s.st (sym z) ∙ find))) (λ d. i.pending.f3c x n);
    f5t = i.pending.f5t;
    f5p = λ x h. subst (λ a. s.st a ≡ 1) (omega arith) find;
  }

  find_counts' : FindCounts p S'.fc S'.owe
  find_counts' = record {
    f4 = λ x. upd-elim (λ a. a ≡ sum p.g.L (S'.owe x)) s.fc v (s.fc v - 1) x
        (λ z. subst (λ a. s.fc v - 1 ≡ sum p.g.L (S'.owe a)) z (omega (arith, sum_row p.g.L v k 0 s.owe (joins-lt ends), i.find_counts.f4 v, child-owed)))
        (λ n. subst (λ a. s.fc x ≡ sum p.g.L a) (sym (row-else v k 0 s.owe x n)) (i.find_counts.f4 x));
    f4l = λ x j. upd2-elim (λ a. a ≤ 1) s.owe v k 0 x j (λ a c. omega arith) (λ n. i.find_counts.f4l x j);
    f4o = λ x j. upd2-elim (λ a. a ≢ 0 → (c : ℕ) × Edge p j x c) s.owe v k 0 x j (λ a c n. absurd (n refl)) (λ d n. i.find_counts.f4o x j n);
  }

  tokens' : Tokens p S'
  tokens' = record {
    d1c = λ j z y f t. in-pop s.ch u k q z j (kinds (λ a. omega arith)) (i.tokens.d1c j z y f t);
    d1a = λ j z y f t. pop-all s.ch u k q z j (i.tokens.d1a j z y f t);
    d2c = λ j a x f t. in-pop s.ch u k q a j (kinds (λ z. omega arith)) (i.tokens.d2c j a x f t);
    k1 = λ j a x f n. i.tokens.k1 j a x f (pop-in s.ch u k q a j n);
    d3r = λ j x y f t. absurd (no-root i x idle.2 t.0);
    d4h = λ j x y f g d l t n. i.tokens.d4h j x y f g d l t (pop-in s.ch u k q y j n);
    d4r = λ j x y f g d l t. subst (λ a. In (report none) a) (sym (core-off j y x (flip f) (core-other j x y f g l))) (i.tokens.d4r j x y f g d l t);
    d7 = λ j x y f g d h o. ⊎_elim
        (λ t. inl (subst (λ a. 1 ≤ sum_l is_r a) (sym (core-off j x y f g)) t))
        (λ t. inr (
          t.0,
          t.1,
          omega (arith, ap (key p) (W.bw-found i idle.2 find (flip ends) better leaves x o), ap (key p) (W.bw-found i idle.2 find (flip ends) better leaves y t.1), t.2),
          subst (λ a. 1 ≤ sum_l is_r a) (sym (core-off j y x (flip f) (core-other j x y f g h.0))) t.3,
        ))
        (i.tokens.d7 j x y f g d h o);
  }
    where
      -- the other end of the core is in the fragment
      core-other : (j x y : ℕ) → Edge p j x y → GC s x ≡ j → 1 ≤ GL s x → GC s y ≡ j
      core-other j x y f g l = ap s.gc (i.cores.g5 x y x l (subst (λ a. Edge p a y x) (sym g) (flip f))).1 ∙ g

      -- k is no core
      core-off : (j x y : ℕ) → Edge p j x y → GC s x ≡ j → c' x j ≡ s.ch x j
      core-off j x y f g = else_same s.ch u k r x j (by-eq k j (λ z. inl (λ a. child.2 (ap (λ a. GC s a) a ∙ g ∙ sym z))) (λ n. inr n))

  reports' : Reports p S'
  reports' =
      let o = reports-best p (set-ch s c') S'.bw S'.be (W.bw-found i idle.2 find (flip ends) better leaves) (reports-same p s c' (take-alike p s u k q refl) i.reports) in
      record { r1r = o.r1r; r1j = o.r1j; r1 = o.r1; r1c = o.r1c }

  owing' : Owing p S'
  owing' = record {
    f4y = λ j x c f. upd2-elim (λ a. a ≢ 0 → Inf s x × Jn s j x c × (s.ib x ≢ j) × Outst S' c j) s.owe v k 0 x j
        (λ a d n. absurd (n refl))
        (λ d n. let t = i.owing.f4y j x c f n in (t.0, t.1, t.2, outst-to j x c f d t.3));
    f4n = λ j x c f h m n o. upd2-elim (λ a. a ≡ 1) s.owe v k 0 x j
        (λ a d. absurd (settled (subst (λ y. Outst S' y k) (sym (other-end (flip ends) f a d)) (subst (λ y. Outst S' c y) (sym d) o))))
        (λ d. i.owing.f4n j x c f h m n (outst-from c j o));
  }
    where
      -- u's is no longer to come
      settled : ¬ Outst S' u k
      settled (inl t) = ⊎_elim (λ f. omega (arith, found-u)) (λ l. omega (arith, C.silent i ends q)) t.1
      settled (inr t) = omega (arith, t.0, inf-u.1)

      outst-from : (c j : ℕ) → Outst S' c j → Outst s c j
      outst-from c j = outst-ch S' s.ch c j (λ l. omega (arith, pop-le s.ch u k q is_r c j))

      outst-to : (j x c : ℕ) → Edge p j x c → (v ≢ x) ⊎ (k ≢ j) → Outst s c j → Outst S' c j
      outst-to j x c f d o =
          let y : c' c j ≡ s.ch c j = else_same s.ch u k r c j (by-eq k j
          (λ z. inl (λ a. ⊎_elim (λ n. n (other-end ends (flip f) a z)) (λ n. n z) d)) (λ n. inr n)) in
          outst-ch s c' c j (λ l. subst (λ a. 1 ≤ sum_l is_r a) (sym y) l) o

  bests' : Bests p S'
  bests' = record {
    b1e = W.best-edge i idle.2 find (flip ends) better leaves c' (pop-le s.ch u k q is_r)
        (λ n d. (u, flip ends, joined, away, inf-u, child.1, W.bw-found i idle.2 find (flip ends) better leaves u found-u ∙ best-u, found-u, C.silent i ends q));
    b2 = λ j x y f m d g. last-case (cover x (rank p j)) (i.bests.b2 j x y f m d g);
  }
    where
      live : (x : ℕ) → u ≢ x → Counting s x → Counting S' x
      live x n = counting-ch s c' x (λ l. inr (inr (subst (λ a. 1 ≤ sum_l is_r a) (sym (else_same s.ch u k r x (s.ib x) (inl n))) l)))

      -- the best of u, whose Report is gone, is weighed
      cover : (x n : ℕ) → Covered p s x n → Covered p S' x n
      cover x n t = W.cover i idle.2 find (flip ends) better leaves c' (pop-le s.ch u k q is_r) x n t (λ d. by-eq u t.0
          (λ z. inl (sym (C.report-inside i ends q) ∙ ap s.fr z ∙ t.1, omega (arith, W.best-w i idle.2 find (flip ends) better leaves, ap (key p) (sym (ap s.bw z) ∙ best-u))))
          (λ a. inr (live t.0 a t.4)))

  pub inv-child-report : Inv p S'
  inv-child-report = W.inv-weighed i idle.2 find (flip ends) better leaves s.te S'.fc S'.owe (suc v) c' pending' find_counts' i.tests (record {
    hush = others.hush;
    tokens = tokens';
    connects = others.connects;
    initiates = others.initiates;
    telling = others.telling;
    reports = reports';
    owing = owing';
    ordered = others.ordered;
  }) others.testing others.answers bests'
