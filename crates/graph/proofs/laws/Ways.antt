-- Ways joined (`way-append`), turned round (`way-reverse`) and widened (`wider`, `through`); where a way leaves a set of nodes (`cross`); ways without one edge
-- (`split`, `around`).
use Rattle.std.specs.Prelude.{ℕ, ◌<◌, ◌≡◌, refl, ◌≢◌, ◌⊎◌, Bool, true, false}
use Rattle.std.proofs.Common.{sym, ap, subst, ◌∙◌, inl, inr, true≢false}
use Rattle.base.proofs.laws.Cond.{bool_cases, by-eq}
use Rattle.graph.specs.Graph.{Graph, Joins, up, down, Way, stop, go}

-- the edges of S but m
abbrev pub But : (ℕ → Type 0) → ℕ → ℕ → Type 0
But S m f = S f × (m ≢ f)

-- an edge of S from inside X to outside
pub record Cross (g : Graph) (S : ℕ → Type 0) (X : ℕ → Bool) : Type 0 where
  pub edge : ℕ
  pub from : ℕ
  pub to : ℕ
  pub joins : Joins g edge from to
  pub used : S edge
  pub inside : X from ≡ true
  pub outside : X to ≡ false

-- a way that uses m, just once
pub record Uses (g : Graph) (S : ℕ → Type 0) (m u v : ℕ) : Type 0 where
  pub from : ℕ
  pub to : ℕ
  pub joins : Joins g m from to
  pub used : S m
  pub before : Way g (But S m) u from
  pub after : Way g (But S m) to v

module _ {g : Graph} where
  -- EDGES

  pub joins-lt : {e u v : ℕ} → Joins g e u v → e < g.L
  joins-lt (up l p q) = l
  joins-lt (down l p q) = l

  pub flip : {e u v : ℕ} → Joins g e u v → Joins g e v u
  flip (up l p q) = down l q p
  flip (down l p q) = up l q p

  -- an edge has two ends: they are met in this order or in the other
  pub ends-two : {e u v a b : ℕ} → Joins g e u v → Joins g e a b → ((u ≡ a) × (v ≡ b)) ⊎ ((u ≡ b) × (v ≡ a))
  ends-two (up l p q) (up k r s) = inl (sym p ∙ r, sym q ∙ s)
  ends-two (up l p q) (down k r s) = inr (sym p ∙ s, sym q ∙ r)
  ends-two (down l p q) (up k r s) = inr (sym p ∙ s, sym q ∙ r)
  ends-two (down l p q) (down k r s) = inl (sym p ∙ r, sym q ∙ s)

  -- from one end the other one is settled
  pub ends_same : {e u v w : ℕ} → Joins g e u v → Joins g e u w → v ≡ w
  ends_same j k = settle (ends-two j k)
    where
      settle : {u v w : ℕ} → ((u ≡ u) × (v ≡ w)) ⊎ ((u ≡ w) × (v ≡ u)) → v ≡ w
      settle (inl s) = s.1
      settle (inr s) = s.1 ∙ s.0

  -- what f says alike of the two ends
  pub ends-alike : (f : ℕ → ℕ) {e u v a b : ℕ} → Joins g e u v → Joins g e a b → f a ≡ f b → f u ≡ f v
  ends-alike f j k q = alike (ends-two j k) q
    where
      alike : {u v a b : ℕ} → ((u ≡ a) × (v ≡ b)) ⊎ ((u ≡ b) × (v ≡ a)) → f a ≡ f b → f u ≡ f v
      alike (inl p) q = ap f p.0 ∙ q ∙ ap f (sym p.1)
      alike (inr p) q = ap f p.0 ∙ sym q ∙ ap f (sym p.1)

  -- no loop: the ends differ
  pub ends-diff : {e u v : ℕ} → g.lo e ≢ g.hi e → Joins g e u v → u ≢ v
  ends-diff n (up l p q) s = n (p ∙ s ∙ sym q)
  ends-diff n (down l p q) s = n (q ∙ sym s ∙ sym p)

  -- WAYS

  unfoldable pub way-append : {S : ℕ → Type 0} {u v w : ℕ} → Way g S u v → Way g S v w → Way g S u w
  way-append stop y = y
  way-append (go e j s x) y = go e j s (way-append x y)

  -- one edge
  abbrev pub edge-way : {S : ℕ → Type 0} {e u v : ℕ} → Joins g e u v → S e → Way g S u v
  edge-way {e} j s = go e j s stop

  unfoldable pub way-reverse : {S : ℕ → Type 0} {u v : ℕ} → Way g S u v → Way g S v u
  unfolding way-append
  way-reverse stop = stop
  way-reverse (go e j s w) = way-append (way-reverse w) (edge-way (flip j) s)

  -- each edge replaced by a way
  pub through : {S T : ℕ → Type 0} {u v : ℕ} → ((e a b : ℕ) → Joins g e a b → S e → Way g T a b) → Way g S u v → Way g T u v
  through f stop = stop
  through f (go {u} {v} e j s w) = way-append (f e u v j s) (through f w)

  -- more edges
  unfoldable pub wider : {S T : ℕ → Type 0} {u v : ℕ} → ((e : ℕ) → e < g.L → S e → T e) → Way g S u v → Way g T u v
  wider f stop = stop
  wider f (go e j s w) = go e j (f e (joins-lt j) s) (wider f w)

  pub here : {S : ℕ → Type 0} {u v : ℕ} → u ≡ v → Way g S u v
  here {S} {u} e = subst (λ x. Way g S u x) e stop

  -- between the ends of an edge, in the order in which it is met
  pub way-as-met : {S : ℕ → Type 0} {e u v : ℕ} → Joins g e u v → Way g S (g.lo e) (g.hi e) → Way g S u v
  way-as-met (up l p q) w = way-append (here (sym p)) (way-append w (here q))
  way-as-met (down l p q) w = way-append (here (sym p)) (way-append (way-reverse w) (here q))

  pub way-low-high : {S : ℕ → Type 0} {e u v : ℕ} → Joins g e u v → Way g S u v → Way g S (g.lo e) (g.hi e)
  way-low-high (up l p q) w = way-append (here p) (way-append w (here (sym q)))
  way-low-high (down l p q) w = way-append (here q) (way-append (way-reverse w) (here (sym p)))

  -- LEAVING A SET

  pub cross : {S : ℕ → Type 0} (X : ℕ → Bool) {u v : ℕ} → Way g S u v → X u ≡ true → X v ≡ false → Cross g S X
  cross X stop i o = absurd (true≢false (sym i ∙ o))
  cross X (go {u} {v} e j s w) i o = bool_cases (X v)
      (λ xv. cross X w xv o)
      (λ xv. record { edge = e; from = u; to = v; joins = j; used = s; inside = i; outside = xv })

  -- WITHOUT ONE EDGE

  -- what joins two nodes does without m, or uses it once
  pub split : {S : ℕ → Type 0} (m : ℕ) {u v : ℕ} → Way g S u v → Way g (But S m) u v ⊎ Uses g S m u v
  split m stop = inl stop
  split {S} m (go {u} {v} {w = t} e j s w) = by-eq m e (λ q. at (subst (λ x. Joins g x u v) (sym q) j) (subst S (sym q) s) (split m w)) (λ n. past n (split m w))
    where
      past : m ≢ e → Way g (But S m) v t ⊎ Uses g S m v t → Way g (But S m) u t ⊎ Uses g S m u t
      past n (inl x) = inl (go e j (s, n) x)
      past n (inr x) = inr (record { from = x.from; to = x.to; joins = x.joins; used = x.used; before = go e j (s, n) (x.before); after = x.after })

      use-first : Joins g m u v → S m → Way g (But S m) v t → Uses g S m u t
      use-first jm sm x = record { from = u; to = v; joins = jm; used = sm; before = stop; after = x }

      meet : Joins g m u v → S m → (x : Uses g S m v t) → ((u ≡ x.from) × (v ≡ x.to)) ⊎ ((u ≡ x.to) × (v ≡ x.from)) → Way g (But S m) u t ⊎ Uses g S m u t
      meet jm sm x (inl p) = inr (use-first jm sm (way-append (here p.1) (x.after)))
      meet jm sm x (inr p) = inl (way-append (here p.0) (x.after))

      at : Joins g m u v → S m → Way g (But S m) v t ⊎ Uses g S m v t → Way g (But S m) u t ⊎ Uses g S m u t
      at jm sm (inl x) = inr (use-first jm sm x)
      at jm sm (inr x) = meet jm sm x (ends-two jm (x.joins))

  -- a way between the ends of k uses m once: then k and the rest of that way join the ends of m
  pub around : {S T : ℕ → Type 0} {m k : ℕ} → Uses g S m (g.lo k) (g.hi k) → k < g.L → T k → ((e : ℕ) → e < g.L → But S m e → T e) → Way g T (g.lo m) (g.hi m)
  around x l t f = way-low-high (x.joins) (way-append (way-reverse (wider f (x.before))) (way-append (edge-way (up l refl refl) t) (way-reverse (wider f (x.after)))))

  pub uses-wider : {S T : ℕ → Type 0} {m u v : ℕ} → ((e : ℕ) → e < g.L → S e → T e) → Uses g S m u v → Uses g T m u v
  uses-wider {m} f x = record {
    from = x.from;
    to = x.to;
    joins = x.joins;
    used = f m (joins-lt (x.joins)) (x.used);
    before = wider (λ e l t. (f e l t.0, t.1)) (x.before);
    after = wider (λ e l t. (f e l t.0, t.1)) (x.after);
  }
