-- Paths: where there is a way there is a path (`path-of`); where no edge can be spared it has no choice of edges (`paths-same`); one edge further
-- to another node it is still a path (`path-further`), and its edges are known (`edges-append`, `last-behind`); so it is turned round (`path-turned`) and over
-- more edges (`path-wider`). It has fewer edges than there are nodes (`path-below`), none of them twice (`edges-once`).
use Rattle.std.specs.Prelude.{ℕ, suc, ◌<◌, ◌≡◌, ◌≢◌, ◌⊎◌, length}
use Rattle.std.proofs.Common.{arith, ap₂, subst, subst₂, ◌∙◌, inl, inr}
use Rattle.std.proofs.Math.Path.{refl, sym, ap}
use mathlib.Core.List.{List, [], ◌∷◌, ◌++◌, reverse, reverse-cons}
use Rattle.base.specs.Pool.{All, nil, con}
use Rattle.base.specs.Twice.{NoTwice, nobody, another}
use Rattle.base.proofs.laws.Cond.{by-eq}
use Rattle.base.proofs.laws.Twice.{NoTwice-one, NoTwice-behind, NoTwice-reverse, NoTwice-most}
use Rattle.graph.specs.Graph.{Graph, Joins, Way, stop, go}
use Rattle.graph.specs.Path.{edges_of, nodes_of, Path, last_or}
use Rattle.graph.proofs.laws.Ways.{But, ends-two, ends_same, joins-lt, flip, here, way-append, edge-way, way-reverse, wider, way-low-high}

module _ {g : Graph} {S : ℕ → Type 0} where
  -- NODES

  -- what holds of all nodes of a way holds of its first and of its last
  pub nodes-first : {P : ℕ → Type 0} {u v : ℕ} (w : Way g S u v) → All P (nodes_of w) → P u
  nodes-first stop (con h t) = h
  nodes-first (go e j s w) (con h t) = h

  pub nodes-last : {P : ℕ → Type 0} {u v : ℕ} (w : Way g S u v) → All P (nodes_of w) → P v
  nodes-last stop (con h t) = h
  nodes-last (go e j s w) (con h t) = nodes-last w t

  -- a way that doesn't come to an end of e doesn't use e
  pub edges-other : {e u x a v : ℕ} → Joins g e u x → (w : Way g S a v) → All (λ y. u ≢ y) (nodes_of w) → All (λ f. e ≢ f) (edges_of w)
  edges-other j stop n = nil
  edges-other {e} {u} {x} j (go {u = a} {v = b} f k s w) (con h t) =
      con (λ q. met (ends-two j (subst (λ i. Joins g i a b) (sym q) k))) (edges-other j w t)
    where
      met : ((u ≡ a) × (x ≡ b)) ⊎ ((u ≡ b) × (x ≡ a)) → ⊥
      met (inl p) = h p.0
      met (inr p) = nodes-first w t p.0

  -- and so does without it
  way-but : {e a v : ℕ} (w : Way g S a v) → All (λ f. e ≢ f) (edges_of w) → Way g (But S e) a v
  way-but stop n = stop
  way-but (go f k s w) (con h t) = go f k (s, h) (way-but w t)

  pub way-without : {e u x a v : ℕ} → Joins g e u x → (w : Way g S a v) → All (λ y. u ≢ y) (nodes_of w) → Way g (But S e) a v
  way-without j w n = way-but w (edges-other j w n)

  -- where no node comes twice, no edge does
  pub edges-once : {u v : ℕ} (w : Way g S u v) → NoTwice (nodes_of w) → NoTwice (edges_of w)
  edges-once stop n = nobody
  edges-once (go e j s w) (another h n) = another (edges-other j w h) (edges-once w n)

  pub edges-below : {u v : ℕ} (w : Way g S u v) → All (λ e. e < g.L) (edges_of w)
  edges-below stop = nil
  edges-below (go e j s w) = con (joins-lt j) (edges-below w)

  -- THERE IS ONE

  -- a path from a comes to u nowhere, or a path from u is in it
  pub path-from : (u : ℕ) {a v : ℕ} (w : Way g S a v) → NoTwice (nodes_of w) → All (λ y. u ≢ y) (nodes_of w) ⊎ Path g S u v
  path-from u {a} stop n = by-eq u a
      (λ q. inr (subst (λ x. Path g S x a) (sym q) (record { way = stop; simple = n })))
      (λ d. inl (con d nil))
  path-from u {a} {v} (go e j s w) (another h t) = by-eq u a
      (λ q. inr (subst (λ x. Path g S x v) (sym q) (record { way = go e j s w; simple = another h t })))
      (λ d. later d (path-from u w t))
    where
      later : u ≢ a → All (λ y. u ≢ y) (nodes_of w) ⊎ Path g S u v → All (λ y. u ≢ y) (a ∷ nodes_of w) ⊎ Path g S u v
      later d (inl k) = inl (con d k)
      later d (inr p) = inr p

  pub path-of : {u v : ℕ} → Way g S u v → Path g S u v
  path-of {u} stop = record { way = stop; simple = NoTwice-one u }
  path-of {u} {v} (go {v = a} e j s w) = let p = path-of w in start p (path-from u p.way p.simple)
    where
      start : (p : Path g S a v) → All (λ y. u ≢ y) (nodes_of p.way) ⊎ Path g S u v → Path g S u v
      start p (inl k) = record { way = go e j s p.way; simple = another k p.simple }
      start p (inr q) = q

  -- THERE IS NO OTHER

  -- ways between the same nodes, which are given twice to be matched apart
  same_edges : ((k : ℕ) → k < g.L → S k → ¬ Way g (But S k) (g.lo k) (g.hi k)) → {u v a b : ℕ} (x : Way g S u v) (y : Way g S a b) → u ≡ a → v ≡ b
      → NoTwice (nodes_of x) → NoTwice (nodes_of y) → edges_of x ≡ edges_of y
  same_edges spare stop stop p q n m = refl
  same_edges spare stop (go f k t y) p q n (another h m) = absurd (nodes-last y h (sym p ∙ q))
  same_edges spare (go e j s x) stop p q (another h n) m = absurd (nodes-last x h (p ∙ sym q))
  same_edges spare (go {u} {v} e j s x) (go {u = a} {v = b} f k t y) p q (another h n) (another i m) = by-eq e f
      (λ r. ap₂ ◌∷◌ r (same_edges spare x y (ends_same j (subst₂ (λ i z. Joins g i z b) (sym r) (sym p) k)) q n m))
      (λ d. let over : Way g (But S e) a _ = go f k (t, d) (way-without (subst (λ z. Joins g e z v) p j) y i) in
      absurd (spare e (joins-lt j) s (way-low-high j (way-append (here p) (way-append over (way-append (here (sym q)) (way-reverse (way-without j x h))))))))

  pub paths-same : ((k : ℕ) → k < g.L → S k → ¬ Way g (But S k) (g.lo k) (g.hi k)) → {u v : ℕ} (p q : Path g S u v) → edges_of p.way ≡ edges_of q.way
  paths-same spare p q = same_edges spare p.way q.way refl refl p.simple q.simple

  -- ONE EDGE FURTHER

  pub edges-append : {u v w : ℕ} (x : Way g S u v) (y : Way g S v w) → edges_of (way-append x y) ≡ edges_of x ++ edges_of y
  unfolding way-append
  edges-append stop y = refl
  edges-append (go e j s x) y = ap (λ l. e ∷ l) (edges-append x y)

  pub nodes-further : {e u v w : ℕ} (x : Way g S u v) (j : Joins g e v w) (s : S e) → nodes_of (way-append x (go e j s stop)) ≡ nodes_of x ++ (w ∷ [])
  unfolding way-append
  nodes-further stop j s = refl
  nodes-further {u} (go f k t x) j s = ap (λ l. u ∷ l) (nodes-further x j s)

  abbrev pub path-further : {e u v w : ℕ} (p : Path g S u v) → Joins g e v w → S e → All (λ y. w ≢ y) (nodes_of p.way) → Path g S u w
  path-further {e} p j s n = record {
    way = way-append p.way (go e j s stop);
    simple = subst NoTwice (sym (nodes-further p.way j s)) (NoTwice-behind p.simple n);
  }

  -- TURNED ROUND

  pub edges-reverse : {u v : ℕ} (w : Way g S u v) → edges_of (way-reverse w) ≡ reverse (edges_of w)
  unfolding way-reverse
  edges-reverse stop = refl
  edges-reverse (go e j s w) = edges-append (way-reverse w) (edge-way (flip j) s) ∙ ap (λ l. l ++ (e ∷ [])) (edges-reverse w) ∙ sym (reverse-cons e (edges_of w))

  pub nodes-reverse : {u v : ℕ} (w : Way g S u v) → nodes_of (way-reverse w) ≡ reverse (nodes_of w)
  unfolding way-reverse
  nodes-reverse stop = refl
  nodes-reverse {u} (go e j s w) = nodes-further (way-reverse w) (flip j) s ∙ ap (λ l. l ++ (u ∷ [])) (nodes-reverse w) ∙ sym (reverse-cons u (nodes_of w))

  abbrev pub path-turned : {u v : ℕ} → Path g S u v → Path g S v u
  path-turned p = record { way = way-reverse p.way; simple = subst NoTwice (sym (nodes-reverse p.way)) (NoTwice-reverse p.simple) }

  -- HOW LONG

  nodes-one-more : {u v : ℕ} (w : Way g S u v) → length (nodes_of w) ≡ suc (length (edges_of w))
  nodes-one-more stop = refl
  nodes-one-more (go e j s w) = ap suc (nodes-one-more w)

  -- where the edges lead to nodes below n
  module _ (n : ℕ) (inside : (e a b : ℕ) → Joins g e a b → b < n) where
    nodes-below : {u v : ℕ} (w : Way g S u v) → u < n → All (λ y. y < n) (nodes_of w)
    nodes-below stop l = con l nil
    nodes-below (go {u} {v} e j s w) l = con l (nodes-below w (inside e u v j))

    pub path-below : {u v : ℕ} → u < n → (p : Path g S u v) → length (edges_of p.way) < n
    path-below l p = omega (arith, nodes-one-more p.way, NoTwice-most n p.simple (nodes-below p.way l))

-- OVER MORE EDGES

module _ {g : Graph} {S T : ℕ → Type 0} (f : (e : ℕ) → e < g.L → S e → T e) where
  pub nodes-wider : {u v : ℕ} (w : Way g S u v) → nodes_of (wider f w) ≡ nodes_of w
  unfolding wider
  nodes-wider stop = refl
  nodes-wider {u} (go e j s w) = ap (λ l. u ∷ l) (nodes-wider w)

  pub edges-wider : {u v : ℕ} (w : Way g S u v) → edges_of (wider f w) ≡ edges_of w
  unfolding wider
  edges-wider stop = refl
  edges-wider (go e j s w) = ap (λ l. e ∷ l) (edges-wider w)

  abbrev pub path-wider : {u v : ℕ} → Path g S u v → Path g T u v
  path-wider p = record { way = wider f p.way; simple = subst NoTwice (sym (nodes-wider p.way)) p.simple }

-- the last of a list that ends with y
pub last-behind : (x : ℕ) (l : List ℕ) (y : ℕ) → last_or x (l ++ (y ∷ [])) ≡ y
unfolding last_or
last-behind x [] y = refl
last-behind x (z ∷ l) y = last-behind z l y
