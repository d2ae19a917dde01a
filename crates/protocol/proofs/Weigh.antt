-- v, which is Find, weighs w, which came over its own edge k, against its best: the clauses on best weights and best edges (`inv-weighed`).
use Rattle.base.specs.Names.{FOUND}
use Rattle.protocol.proofs.Prelude.{ℕ, ◌≤◌, ◌<◌, arith, ◌≡◌, sym, ap, subst, ◌∙◌, ◌≢◌, ◌⊎◌, inl, ⊎_elim, by-eq}
use Rattle.protocol.proofs.Prelude.{List, upd, upd-elim, upd_same, upd_other, sum_l, Msg, none}
use Rattle.protocol.proofs.Prelude.{Network, Edge, key, joins-lt, edge-some, key-none, key-edge, rank_lt, ProtocolState, Better, set-bw, set-be, set-te, set-fc, set-owe, set-op, set-ch, is_r}
use Rattle.protocol.proofs.Prelude.{GL, DK, Inf, Jn, Counting, Covered, Inv, Flow, decided-find, no-root}
use Rattle.protocol.specs.Fragments.{Values, Sleepers}
use Rattle.protocol.specs.Decisions.{ChangeRoots, Rootings, Finishes}
use Rattle.protocol.specs.Search.{Pending, FindCounts, Tests, Weights}
use Rattle.protocol.specs.Traffic.{Testing, Answers, Bests}

-- weight w leaves v's fragment, from an informed node of v's side to a node of no lower level
abbrev pub LeavesFragment : Network → ProtocolState → ℕ → ℕ → Type 0
LeavesFragment p s v w = (x : ℕ) × (y : ℕ) × Edge p w x y × (s.fr x ≡ s.fr v) × (s.fr y ≢ s.fr v) × (GL s v ≤ s.lev y) × Inf s x × (s.side x ≡ s.side v)

-- x's best edge j leads to a child with best weight n whose Report has been consumed; c' are the channels
abbrev pub Kid : Network → ProtocolState → (ℕ → ℕ) → (ℕ → ℕ → List Msg) → ℕ → ℕ → ℕ → Type 0
Kid p s bw c' x j n = (c : ℕ) × Edge p j x c × Jn s j x c × (s.ib x ≢ j) × Inf s c × (s.ib c ≡ j) × (bw c ≡ n) × (s.st c ≡ FOUND) × (sum_l is_r (c' c j) ≡ 0)

module _ {p : Network} {s : ProtocolState} (i : Inv p s) {u v w k b e : ℕ} (calm : s.oo ≡ 0) (find : s.st v ≡ 1) (ends : Edge p k v u)
    (better : Better p s v w k b e) (leaves : w ≢ none → LeavesFragment p s v w) where
  abbrev bw' : ℕ → ℕ
  bw' = upd s.bw v b

  abbrev be' : ℕ → ℕ
  be' = upd s.be v e

  inf : Inf s v
  inf = (i.finds.f1 v find).f1i

  -- a Found node, and one of a decided fragment, keeps its best weight
  pub bw-found : (x : ℕ) → s.st x ≡ 2 → bw' x ≡ s.bw x
  bw-found x h = upd_other s.bw v b x (λ z. omega (arith, find, ap s.st z))

  pub bw-decided : (x : ℕ) → DK s x ≢ 0 → bw' x ≡ s.bw x
  bw-decided x h = upd_other s.bw v b x (λ z. decided-find i x h (ap s.st (sym z) ∙ find))

  -- the new best weight: not later than w, nor than the old one
  pub best-w : key p b ≤ key p w
  best-w = ⊎_elim (λ t. omega (arith, ap (key p) t.1)) (λ t. omega (arith, ap (key p) t.1, t.0)) better

  pub best-old : key p b ≤ key p (s.bw v)
  best-old = ⊎_elim (λ t. omega (arith, ap (key p) t.1, t.0)) (λ t. omega (arith, ap (key p) t.1)) better

  -- a weight that is earlier than another is an edge
  pub early-some : (x y : ℕ) → (y ≢ none → y < p.g.L) → key p x < key p y → x ≢ none
  early-some x y f l z = by-eq y none
      (λ o. omega (arith, ap (key p) z, ap (key p) o))
      (λ n. omega (arith, ap (key p) z, key-none p, key-edge p y (f n), rank_lt p y (f n)))

  -- the new best is w over k, or the old one
  pub cases {κ} : {C : Type κ} → (w ≢ none → b ≡ w → e ≡ k → C) → (b ≡ s.bw v → e ≡ s.be v → C) → C
  cases y n = ⊎_elim (λ t. y (early-some w (s.bw v) (i.values.w1w v) t.0) t.1 t.2) (λ t. n t.1 t.2) better

  values' : Values p bw' be'
  values' = record {
    w1w = λ x. upd-elim (λ a. a ≢ none → a < p.g.L) s.bw v b x
        (λ z n. cases (λ o a c. omega (arith, joins-lt (leaves o).2)) (λ a c. omega (arith, i.values.w1w v (λ y. n (a ∙ y))))) (λ d n. i.values.w1w x n);
    w1e = λ x. upd-elim (λ a. a ≢ none → (y : ℕ) × Edge p a x y) s.be v e x
        (λ z n. subst (λ a. (y : ℕ) × Edge p e a y) z
        (cases (λ o a c. (u, subst (λ a. Edge p a v u) (sym c) ends)) (λ a c. subst (λ a. (y : ℕ) × Edge p a v y) (sym c) (i.values.w1e v (λ y. n (c ∙ y))))))
        (λ d n. i.values.w1e x n);
  }

  sleepers' : Sleepers p s.st s.fr s.gl s.dk s.due bw' be' s.ub s.halt s.mark
  sleepers' = record {
    g6 = λ x h. let t = i.sleepers.g6 x h in let n : v ≢ x = λ z. omega (arith, find, ap s.st z) in
        record { g6g = t.g6g; g6d = t.g6d; g6u = t.g6u; g6w = upd_other s.bw v b x n ∙ t.g6w; g6e = upd_other s.be v e x n ∙ t.g6e };
    g6m = i.sleepers.g6m;
    u1a = i.sleepers.u1a;
    g7 = i.sleepers.g7;
    g7n = i.sleepers.g7n;
  }

  change_roots' : ChangeRoots p s.dk s.dn s.de s.fr s.gl s.gc s.lev s.ib s.ub bw' s.mark
  change_roots' = record {
    d2f = i.change_roots.d2f;
    d2e = i.change_roots.d2e;
    d2 = λ j a x f h. let t = i.change_roots.d2 j a x f h in
        let z = bw-decided x (λ y. omega (arith, h.0, ap s.dk (i.markings.m3 j a x f (t.d2j)))) in
        record {
          d2j = t.d2j;
          d2g = t.d2g;
          d2i = t.d2i;
          d2x = t.d2x;
          d2b = t.d2b;
          d2u = t.d2u;
          d2v = t.d2v;
          d2w = λ y. t.d2w (sym z ∙ y);
          d2n = λ a c d y g m. omega (arith, ap (key p) z, t.d2n a c d y g m);
        };
  }

  rootings' : Rootings p s.dk s.dn s.fr s.gl s.lev s.ib s.ub bw' s.mark s.oo
  rootings' = record { d3f = i.rootings.d3f; d3o = i.rootings.d3o; f5r = i.rootings.f5r; d3 = λ x h. absurd (no-root i x calm h.0) }

  finishes' : Finishes p s.dk s.fr s.gl s.gc s.lev bw' s.halt s.due s.mark
  finishes' = record {
    d4 = i.finishes.d4;
    d4i = λ j x y f g d l. let t = i.finishes.d4i j x y f g d l in (t.0, bw-decided x (λ z. omega arith) ∙ t.1);
    d5 = i.finishes.d5;
    d6 = i.finishes.d6;
    d6c = i.finishes.d6c;
  }

  weights' : Weights p s.lev s.fr s.gl bw' be' s.side
  weights' = record {
    b1n = λ x h. by-eq v x
        (λ z y. let o = sym (upd_same s.bw v b) ∙ ap bw' z ∙ y in
        sym (ap be' z) ∙ upd_same s.be v e ∙ cases (λ n a c. absurd (n (sym a ∙ o))) (λ a c. c ∙ i.weights.b1n v inf (sym a ∙ o)))
        (λ n y. upd_other s.be v e x n ∙ i.weights.b1n x h (sym (upd_other s.bw v b x n) ∙ y));
    b1m = λ x h. by-eq v x
        (λ z y. let o = sym (upd_same s.be v e) ∙ ap be' z ∙ y in
        sym (ap bw' z) ∙ upd_same s.bw v b ∙ cases (λ n a c. absurd (edge-some p ends (sym c ∙ o))) (λ a c. a ∙ i.weights.b1m v inf (sym c ∙ o)))
        (λ n y. upd_other s.bw v b x n ∙ i.weights.b1m x h (sym (upd_other s.be v e x n) ∙ y));
    b1 = λ x h. upd-elim (λ a. a ≢ none → LeavesFragment p s x a) s.bw v b x
        (λ z n. subst (λ x. LeavesFragment p s x b) z (cases (λ o a c. subst (LeavesFragment p s v) (sym a) (leaves o)) (λ a c. subst (LeavesFragment p s v) (sym a) (i.weights.b1 v inf (λ y. n (a ∙ y))))))
        (λ d n. i.weights.b1 x h n);
  }

  -- the whole, where besides test edges, find-counts, what is owed or open, and channels change
  module _ (te fc : ℕ → ℕ) (owe : ℕ → ℕ → ℕ) (op : ℕ) (c' : ℕ → ℕ → List Msg) where
    abbrev weighed : ProtocolState
    weighed = set-op (set-owe (set-fc (set-te (set-be (set-bw (set-ch s c') bw') be') te) fc) owe) op

    pub inv-weighed : Pending s.st te fc s.ot op → FindCounts p fc owe → Tests p te s.ib s.mark s.ot
        → Flow p weighed → Testing p weighed → Answers p weighed → Bests p weighed → Inv p weighed
    inv-weighed f2 f4 e2 f e1 a1 b2 = record {
      ranges = i.ranges;
      values = values';
      levels = i.levels;
      sizes = i.sizes;
      cores = i.cores;
      sleepers = sleepers';
      markings = i.markings;
      inbounds = i.inbounds;
      halves = i.halves;
      change_roots = change_roots';
      rootings = rootings';
      finishes = finishes';
      parents = i.parents;
      kids = i.kids;
      finds = i.finds;
      pending = f2;
      find_counts = f4;
      tests = e2;
      weights = weights';
      hush = f.hush;
      tokens = f.tokens;
      connects = f.connects;
      initiates = f.initiates;
      telling = f.telling;
      testing = e1;
      answers = a1;
      reports = f.reports;
      owing = f.owing;
      bests = b2;
      ordered = f.ordered;
    }

  -- the channels c' have no more Reports
  module _ (c' : ℕ → ℕ → List Msg) (fewer : (x j : ℕ) → sum_l is_r (c' x j) ≤ sum_l is_r (s.ch x j)) where
    -- best edges, if k leads to a child with best weight w where w is another edge
    pub best-edge : (w ≢ none → k ≢ w → Kid p s bw' c' v k w) → (x : ℕ) → Inf s x → bw' x ≢ none → be' x ≢ bw' x → Kid p s bw' c' x (be' x) (bw' x)
    best-edge kid x h = by-eq v x
        (λ z. subst (λ x. bw' x ≢ none → be' x ≢ bw' x → Kid p s bw' c' x (be' x) (bw' x)) z (at-v (upd_same s.bw v b) (upd_same s.be v e)))
        (λ d n m. same-kid x h n m (upd_other s.be v e x d) (upd_other s.bw v b x d))
      where
        same-kid : (x : ℕ) → Inf s x → bw' x ≢ none → be' x ≢ bw' x → be' x ≡ s.be x → bw' x ≡ s.bw x → Kid p s bw' c' x (be' x) (bw' x)
        same-kid x h n m y z =
            let t = i.bests.b1e x h (λ a. n (z ∙ a)) (λ a. m (y ∙ a ∙ sym z)) in (
              t.0,
              subst (λ a. Edge p a x t.0) (sym y) t.1,
              subst (λ a. Jn s a x t.0) (sym y) t.2,
              λ a. t.3 (a ∙ y),
              t.4,
              t.5 ∙ sym y,
              bw-found t.0 t.7 ∙ t.6 ∙ sym z,
              t.7,
              omega (arith, fewer t.0 (be' x), ap (λ a. sum_l is_r (s.ch t.0 a)) y, t.8),
            )

        at-v : bw' v ≡ b → be' v ≡ e → bw' v ≢ none → be' v ≢ bw' v → Kid p s bw' c' v (be' v) (bw' v)
        at-v y z n m = cases
            (λ o a c. subst (λ j. Kid p s bw' c' v j (bw' v)) (sym (z ∙ c)) (subst (Kid p s bw' c' v k) (sym (y ∙ a)) (kid o (λ f. m (z ∙ c ∙ f ∙ sym (y ∙ a))))))
            (λ a c. same-kid v inf n m (z ∙ c) (y ∙ a))

    -- v's own best covers
    pub mine : (x n : ℕ) → s.fr v ≡ s.fr x → b ≢ none → key p b ≤ n → Covered p (set-bw (set-ch s c') bw') x n
    mine x n z o l = (v, z, inf, (λ y. o (sym (upd_same s.bw v b) ∙ y)), inl find, omega (arith, ap (key p) (upd_same s.bw v b)))

    -- what a best weight covered is covered: by the same, if it is live, or by v's, if that is not later
    pub cover : (x n : ℕ) (t : Covered p s x n)
        → (v ≢ t.0 → ((s.fr v ≡ s.fr x) × (key p b ≤ key p (s.bw t.0))) ⊎ Counting (set-ch s c') t.0) → Covered p (set-bw (set-ch s c') bw') x n
    cover x n t h = by-eq v t.0
        (λ z. own (ap s.fr z ∙ t.1) (omega (arith, best-old, ap (λ a. key p (s.bw a)) z)))
        (λ d. ⊎_elim (λ o. own o.0 o.1)
        (λ l. let y = upd_other s.bw v b t.0 d in (t.0, t.1, t.2, λ a. t.3 (sym y ∙ a), l, omega (arith, ap (key p) y, t.5))) (h d))
      where
        own : s.fr v ≡ s.fr x → key p b ≤ key p (s.bw t.0) → Covered p (set-bw (set-ch s c') bw') x n
        own z l =
            let a = i.values.w1w t.0 t.3 in
            mine x n z (λ y. omega (arith, ap (key p) y, key-none p, key-edge p (s.bw t.0) a, rank_lt p (s.bw t.0) a)) (omega (arith, t.5))
