-- The way between two nodes, over edges of which none can be spared: it is the path (`between-path`), edge by edge (`between-here`, `between_next`), the same from
-- its other end (`between-turned`); of the two ends of an edge one is that edge nearer to a goal (`between-beside`).
-- Where no edge passes a test, none is found (`some-none`).
use Prim.Native.Nat.{ℕ, zero, suc, ◌≤◌, ◌<◌}
use Rattle.std.proofs.Common.{arith, sym, subst, ◌∙◌, inl, inr}
use Rattle.std.specs.Prelude.{◌≡◌, ◌≢◌, ◌⊎◌, Bool, true, false, cond, ◌&&◌, ◌||◌, [], ◌∷◌, reverse, length, eqb}
use Rattle.std.proofs.Math.Path.{refl, ap}
use Rattle.std.proofs.Math.Bool.{not, true≢false, and-eq-true_iff}
use borrow.Author.Tests.{eqb-true, eqb-false, not-true}
use Rattle.base.specs.None.{none}
use Rattle.base.specs.Pool.{All}
use Rattle.base.specs.Twice.{NoTwice, another}
use Rattle.base.proofs.laws.Cond.{bool_cases, by-eq, eqb-cases, eqb_same, eqb-diff}
use Rattle.base.proofs.laws.Search.{lt-suc-cases}
use Rattle.base.proofs.laws.Twice.{NoTwice-one, NoTwice-most}
use Rattle.graph.specs.Graph.{Graph, Joins, up, down, Way, stop, go}
use Rattle.graph.specs.Decide.{Set, joined_over}
use Rattle.graph.specs.Path.{edges_of, nodes_of, Path}
use Rattle.graph.specs.Between.{all_but, ends_at, across, leads_to, some_edge, edges_to, between}
use Rattle.graph.proofs.laws.Ways.{But, Uses, joins-lt, flip, ends-two, here, way-append, way-reverse, way-low-high, wider, split}
use Rattle.graph.proofs.laws.Decide.{joined-way, way-joined}
use Rattle.graph.proofs.laws.Path.{nodes-last, way-without, edges-once, edges-below, path-from, path-of, path-turned, edges-reverse, nodes-wider, path-wider}

-- THE TESTS

-- an edge that alone passes is found
some-sole : (n : ℕ) (q : ℕ → Bool) (k : ℕ) → k < n → q k ≡ true → ((j : ℕ) → j < n → q j ≡ true → j ≡ k) → some_edge n q ≡ k
unfolding some_edge
some-sole zero q k l y sole = absurd (omega arith)
some-sole (suc n) q k l y sole = bool_cases (q n)
    (λ t. rw t (sole n (omega arith) t))
    (λ f. rw f (some-sole n q k (lt-suc-cases k n l (λ e. absurd (true≢false (sym y ∙ ap q e ∙ f))) (λ h. h)) y (λ j lj. sole j (omega arith))))

-- and where none passes it is none
pub some-none : (n : ℕ) (q : ℕ → Bool) → ((k : ℕ) → k < n → q k ≡ false) → some_edge n q ≡ none
unfolding some_edge
some-none zero q fails = refl
some-none (suc n) q fails = rw (fails n (omega arith)) (some-none n q (λ k l. fails k (omega (arith, l))))

module _ (g : Graph) where
  -- the node at an edge's other end
  pub across-joins : {k u x : ℕ} → Joins g k u x → across g k u ≡ x
  across-joins {k} {u} {x} (up l p q) = rw (p, eqb_same u) q
  across-joins {k} {u} {x} (down l p q) = eqb-cases (g.lo k) u (λ b. cond b (g.hi k) (g.lo k) ≡ x) (λ e. p ∙ sym e ∙ q) (λ n. q)

  ends-yes : {k u x : ℕ} → Joins g k u x → ends_at g k u ≡ true
  ends-yes {k} {u} (up l p q) = rw (p, eqb_same u)
  ends-yes {k} {u} (down l p q) = rw (p, eqb_same u) (bool_cases (eqb (g.lo k) u) (λ t. rw t) (λ f. rw f))

  yes-ends : (k u : ℕ) → k < g.L → ends_at g k u ≡ true → Joins g k u (across g k u)
  yes-ends k u l = eqb-cases (g.lo k) u (λ b. (b || eqb (g.hi k) u) ≡ true → Joins g k u (cond b (g.hi k) (g.lo k)))
      (λ e y. up l e refl)
      (λ n y. down l (eqb-true (g.hi k) u y) refl)

module _ (s : ℕ → Bool) (k e : ℕ) where
  all-but : all_but s k e ≡ true → But (Set s) k e
  all-but y = let t = (and-eq-true_iff (s e) (not (eqb k e))).0 y in (t.0, eqb-false k e (not-true _ t.1))

  but-all : But (Set s) k e → all_but s k e ≡ true
  but-all b = (and-eq-true_iff (s e) (not (eqb k e))).1 (b.0, ap not (eqb-diff k e b.1))

module _ (g : Graph) (s : ℕ → Bool) where
  -- an edge that leads towards v: it is one of the set, from u, and no way does without it
  record Leads (u v k : ℕ) : Type 0 where
    joins : Joins g k u (across g k u)
    used : s k ≡ true
    lone : ¬ Way g (But (Set s) k) u v

  yes-leads : {k u v : ℕ} → k < g.L → leads_to g s u v k ≡ true → Leads u v k
  unfolding leads_to
  yes-leads {k} {u} {v} l y =
      let a = (and-eq-true_iff (ends_at g k u) (s k && not (joined_over g (all_but s k) u v))).0 y in
      let b = (and-eq-true_iff (s k) (not (joined_over g (all_but s k) u v))).0 a.1 in
      record {
        joins = yes-ends g k u l a.0;
        used = b.0;
        lone = λ w. true≢false (sym (way-joined g (all_but s k) u v (wider (λ e le. but-all s k e) w)) ∙ not-true _ b.1);
      }

  -- and such an edge passes
  leads-yes : {k u x v : ℕ} → Joins g k u x → s k ≡ true → ¬ Way g (But (Set s) k) u v → leads_to g s u v k ≡ true
  unfolding leads_to
  leads-yes {k} {u} {x} {v} j t n =
      (and-eq-true_iff (ends_at g k u) (s k && not (joined_over g (all_but s k) u v))).1 (
        ends-yes g j,
        (and-eq-true_iff (s k) (not (joined_over g (all_but s k) u v))).1 (
          t,
          bool_cases (joined_over g (all_but s k) u v)
              (λ y. absurd (n (wider (λ e l. all-but s k e) (joined-way g (all_but s k) u v y))))
              (λ f. ap not f),
        ),
      )

-- THE PATH

module _ (g : Graph) (s : ℕ → Bool) (spare : (k : ℕ) → k < g.L → s k ≡ true → ¬ Way g (But (Set s) k) (g.lo k) (g.hi k)) where
  -- a path's first edge, and no other, leads on
  first-leads : {k u x v : ℕ} → Joins g k u x → s k ≡ true → (w : Way g (Set s) x v) → All (λ y. u ≢ y) (nodes_of w) → some_edge (g.L) (leads_to g s u v) ≡ k
  first-leads {k} {u} {x} {v} j t w h = some-sole (g.L) (leads_to g s u v) k (joins-lt j) (leads-yes g s j t alone) sole
    where
      alone : ¬ Way g (But (Set s) k) u v
      alone y = spare k (joins-lt j) t (way-low-high j (way-append y (way-reverse (way-without j w h))))

      sole : (f : ℕ) → f < g.L → leads_to g s u v f ≡ true → f ≡ k
      sole f l y = let o = yes-leads g s l y in by-eq f k (λ e. e) (λ d. absurd (o.lone (go k j (t, d) (way-without o.joins w h))))

  edges-found : (n : ℕ) {u v : ℕ} (w : Way g (Set s) u v) → NoTwice (nodes_of w) → length (edges_of w) ≤ n → edges_to g s n u v ≡ edges_of w
  unfolding edges_to
  edges-found zero stop m l = refl
  edges-found zero (go k j t w) m l = absurd (omega arith)
  edges-found (suc n) {u} stop m l = rw (eqb_same u)
  edges-found (suc n) {u} {v} (go k j t w) (another h m) l =
      rw (eqb-diff u v (nodes-last w h), first-leads j t w h)
      (ap (λ r. k ∷ r) (ap (λ x. edges_to g s n x v) (across-joins g j) ∙ edges-found n w m (omega arith)))

  pub between-path : {u v : ℕ} (q : Path g (Set s) u v) → between g s u v ≡ edges_of q.way
  unfolding between
  between-path q = edges-found (g.L) q.way q.simple (NoTwice-most (g.L) (edges-once q.way q.simple) (edges-below q.way))

  -- EDGE BY EDGE

  pub between-here : (v : ℕ) → between g s v v ≡ []
  between-here v = between-path (record { way = stop; simple = NoTwice-one v })

  -- the first edge from u towards v, and the rest
  pub record Onward (u v : ℕ) : Type 0 where
    pub edge : ℕ
    pub to : ℕ
    pub joins : Joins g edge u to
    pub used : s edge ≡ true
    pub way : Way g (Set s) to v
    pub rest : between g s u v ≡ edge ∷ between g s to v

  pub between_next : {u v : ℕ} → Way g (Set s) u v → u ≢ v → Onward u v
  between_next w d = let p = path-of w in first p.way p.simple d
    where
      first : {u v : ℕ} (w : Way g (Set s) u v) → NoTwice (nodes_of w) → u ≢ v → Onward u v
      first stop n d = absurd (d refl)
      first (go {v = x} k j t w) (another h n) d = record {
        edge = k;
        to = x;
        joins = j;
        used = t;
        way = w;
        rest = between-path (record { way = go k j t w; simple = another h n }) ∙ sym (ap (λ l. k ∷ l) (between-path (record { way = w; simple = n })));
      }

  -- what joins a and v does without k, an edge from a to b: then from b it is k more
  further : {k a b v : ℕ} → Joins g k a b → s k ≡ true → Way g (But (Set s) k) a v → between g s b v ≡ k ∷ between g s a v
  further {k} {a} {b} {v} j t w = behind (path-of w)
    where
      more : (e : ℕ) → e < g.L → But (Set s) k e → Set s e
      more e l b = b.0

      apart : (p : Path g (But (Set s) k) a v) → All (λ y. b ≢ y) (nodes_of p.way) ⊎ Path g (But (Set s) k) b v → All (λ y. b ≢ y) (nodes_of p.way)
      apart p (inl h) = h
      apart p (inr q) = absurd (spare k (joins-lt j) t (way-low-high j (way-append p.way (way-reverse q.way))))

      behind : Path g (But (Set s) k) a v → between g s b v ≡ k ∷ between g s a v
      behind p =
          let q = path-wider more p in
          let h = subst (All (λ y. b ≢ y)) (sym (nodes-wider more p.way)) (apart p (path-from b p.way p.simple)) in
          between-path (record { way = go k (flip j) t q.way; simple = another h q.simple }) ∙ sym (ap (λ l. k ∷ l) (between-path q))

  pub between-beside : {k a b v : ℕ} → Way g (Set s) a v → Joins g k a b → s k ≡ true
      → (between g s b v ≡ k ∷ between g s a v) ⊎ (between g s a v ≡ k ∷ between g s b v)
  between-beside {k} {a} {b} {v} w j t = cases (split k w)
    where
      Beside : Type 0
      Beside = (between g s b v ≡ k ∷ between g s a v) ⊎ (between g s a v ≡ k ∷ between g s b v)

      used : (x : Uses g (Set s) k a v) → ((a ≡ x.from) × (b ≡ x.to)) ⊎ ((a ≡ x.to) × (b ≡ x.from)) → Beside
      used x (inl e) = inr (further (flip j) t (way-append (here e.1) (x.after)))
      used x (inr e) = inl (further j t (way-append (here e.0) (x.after)))

      cases : Way g (But (Set s) k) a v ⊎ Uses g (Set s) k a v → Beside
      cases (inl x) = inl (further j t x)
      cases (inr x) = used x (ends-two j (x.joins))

  -- FROM THE OTHER END

  pub between-turned : {u v : ℕ} → Way g (Set s) u v → between g s v u ≡ reverse (between g s u v)
  between-turned w = let p = path-of w in between-path (path-turned p) ∙ edges-reverse p.way ∙ sym (ap reverse (between-path p))
