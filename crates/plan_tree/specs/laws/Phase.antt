-- One phase: the earliest edge that leaves each part, found by a scan of all edges (`first-skip`, `first-offer`). By the cut property it is a tree edge
-- (`first-pick`); joining it leaves fewer edges between parts (`apart-falls`).
use Rattle.std.specs.Prelude.{ℕ, zero, suc, ◌+◌, ◌≤◌, ◌<◌, ◌≡◌, refl, ◌≢◌, ◌⊎◌, Bool, true, false, cond, not, eqb}
use Rattle.std.proofs.Common.{arith, sym, ap, subst, ◌∙◌, inl, inr, true≢false}
use Rattle.base.specs.Cond.{bit}
use Rattle.base.proofs.laws.Cond.{by-eq, bool_cases, eqb_same, eqb-diff}
use Rattle.base.specs.Sum.{sum}
use Rattle.base.proofs.laws.Sum.{sum_lt, le-sum}
use Rattle.base.specs.None.{none}
use Rattle.graph.specs.Graph.{Graph, Joins, up, down}
use Rattle.graph.specs.Order.{Order, InTree}
use Rattle.graph.proofs.laws.Ways.{joins-lt}
use Rattle.graph.proofs.laws.Cut.{cut}
use Rattle.plan_tree.specs.laws.Forest.{Ends, Inside, Coarser}

-- edge k has one end in part a, and one in another part
abbrev pub Leaves : Graph → (ℕ → ℕ) → ℕ → ℕ → Type 0
Leaves g lab a k = (lab (g.lo k) ≢ lab (g.hi k)) × ((lab (g.lo k) ≡ a) ⊎ (lab (g.hi k) ≡ a))

-- b is the earliest of the edges below m that are in S, or none
pub data First (S : ℕ → Type 0) (earlier : ℕ → ℕ → Bool) (m b : ℕ) : Type 0 where
  nothing : b ≡ none → ((k : ℕ) → k < m → ¬ S k) → First S earlier m b
  edge : b < m → S b → ((k : ℕ) → k < m → S k → earlier k b ≡ false) → First S earlier m b

-- the earlier of b, an edge or none, and edge k
unfoldable pub sooner : (ℕ → ℕ → Bool) → ℕ → ℕ → ℕ
sooner earlier b k = cond (eqb b none) k (cond (earlier k b) k b)

module _ (earlier : ℕ → ℕ → Bool) (b k : ℕ) where
  pub sooner-none : b ≡ none → sooner earlier b k ≡ k
  unfolding sooner
  sooner-none e = rw (e)

  pub sooner-new : b ≢ none → earlier k b ≡ true → sooner earlier b k ≡ k
  unfolding sooner
  sooner-new n e = rw (eqb-diff b none n, e)

  pub sooner-old : b ≢ none → earlier k b ≡ false → sooner earlier b k ≡ b
  unfolding sooner
  sooner-old n e = rw (eqb-diff b none n, e)

below_next : (P : ℕ → Type 0) (m : ℕ) → ((k : ℕ) → k < m → P k) → P m → (k : ℕ) → k < m + 1 → P k
below_next P m below at k l = by-eq m k (λ e. subst P e at) (λ n. below k (omega arith))

pub first-bound : {S : ℕ → Type 0} {earlier : ℕ → ℕ → Bool} {m b : ℕ} → First S earlier m b → (b ≡ none) ⊎ (b < m)
first-bound (nothing e f) = inl e
first-bound (edge l v f) = inr l

module _ {L : ℕ} (o : Order L) (S : ℕ → Type 0) where
  pub first-none : (b : ℕ) → b ≡ none → First S (o.earlier) 0 b
  first-none b e = nothing e (λ k l. absurd (omega arith))

  -- an edge that is not in S
  pub first-skip : (m b : ℕ) → ¬ S m → First S (o.earlier) m b → First S (o.earlier) (m + 1) b
  first-skip m b n (nothing e f) = nothing e (below_next (λ k. ¬ S k) m f n)
  first-skip m b n (edge l v f) = edge (omega arith) v (below_next (λ k. S k → o.earlier k b ≡ false) m f (λ q. absurd (n q)))

  -- one that is
  pub first-offer : (m b : ℕ) → m < none → S m → First S (o.earlier) m b → First S (o.earlier) (m + 1) (sooner (o.earlier) b m)
  first-offer m b lm v (nothing e f) = rw (sooner-none (o.earlier) b m e)
      (edge (omega arith) v (below_next (λ k. S k → o.earlier k m ≡ false) m (λ k l q. absurd (f k l q)) (λ q. o.irrefl m)))
  first-offer m b lm v (edge l w f) =
      let n : b ≢ none = λ q. omega arith in
      bool_cases (o.earlier m b)
      (λ e. rw (sooner-new (o.earlier) b m n e) (edge (omega arith) v (below_next (λ k. S k → o.earlier k m ≡ false) m
      (λ k lk q. bool_cases (o.earlier k m) (λ h. absurd (true≢false (sym (o.trans k m b h e) ∙ f k lk q))) (λ h. h)) (λ q. o.irrefl m))))
      (λ e. rw (sooner-old (o.earlier) b m n e) (edge (omega arith) w (below_next (λ k. S k → o.earlier k b ≡ false) m f (λ q. e))))

-- what a part has to join by: none, or a tree edge
abbrev pub Pick : Graph → (ℕ → ℕ → Bool) → ℕ → Type 0
Pick g earlier b = (b ≡ none) ⊎ ((b < g.L) × InTree g earlier b)

-- THE CUT PROPERTY at work: the earliest edge that leaves a part is a tree edge
pub first-pick : (g : Graph) (earlier : ℕ → ℕ → Bool) (lab : ℕ → ℕ) (a b : ℕ) → First (Leaves g lab a) earlier (g.L) b → Pick g earlier b
first-pick g earlier lab a b (nothing e f) = inl e
first-pick g earlier lab a b (edge l v f) = inr (l, pick v.1)
  where
    in-part : ℕ → Bool
    in-part w = eqb (lab w) a

    inside : (c : ℕ) → in-part c ≡ true → lab c ≡ a
    inside c h = by-eq (lab c) a (λ e. e) (λ n. absurd (true≢false (sym h ∙ eqb-diff (lab c) a n)))

    outside : (c : ℕ) → in-part c ≡ false → lab c ≢ a
    outside c h e = true≢false (sym (eqb_same a) ∙ ap (λ x. eqb x a) (sym e) ∙ h)

    leaves : (k c d : ℕ) → Joins g k c d → in-part c ≡ true → in-part d ≡ false → Leaves g lab a k
    leaves k c d (up lk p q) i n = (λ e. outside d n (sym (ap lab q) ∙ sym e ∙ ap lab p ∙ inside c i), inl (ap lab p ∙ inside c i))
    leaves k c d (down lk p q) i n = (λ e. outside d n (sym (ap lab q) ∙ e ∙ ap lab p ∙ inside c i), inr (ap lab p ∙ inside c i))

    first : (k c d : ℕ) → Joins g k c d → in-part c ≡ true → in-part d ≡ false → earlier k b ≡ false
    first k c d j i n = f k (joins-lt j) (leaves k c d j i n)

    test : (w : ℕ) → lab w ≡ a → in-part w ≡ true
    test w e = ap (λ x. eqb x a) e ∙ eqb_same a

    pick : (lab (g.lo b) ≡ a) ⊎ (lab (g.hi b) ≡ a) → InTree g earlier b
    pick (inl e) = cut g earlier in-part b (g.lo b) (g.hi b) (up l refl refl) (test (g.lo b) e) (eqb-diff (lab (g.hi b)) a (λ q. v.0 (e ∙ sym q))) first
    pick (inr e) = cut g earlier in-part b (g.hi b) (g.lo b) (down l refl refl) (test (g.hi b) e) (eqb-diff (lab (g.lo b)) a (λ q. v.0 (q ∙ sym e))) first

-- the edge that the scan of a part with a leaving edge gives leaves it
pub first_some : (g : Graph) (earlier : ℕ → ℕ → Bool) (lab : ℕ → ℕ) (k b : ℕ) → k < g.L → lab (g.lo k) ≢ lab (g.hi k)
    → First (Leaves g lab (lab (g.lo k))) earlier (g.L) b → (b < g.L) × (lab (g.lo b) ≢ lab (g.hi b))
first_some g earlier lab k b l n (nothing e f) = absurd (f k l (n, inl refl))
first_some g earlier lab k b l n (edge lb v f) = (lb, v.0)

-- THE MEASURE: how many edges join different parts

-- 1 for an edge between different parts
unfoldable pub apart_at : Graph → (ℕ → ℕ) → ℕ → ℕ
apart_at g lab k = bit (not (eqb (lab (g.lo k)) (lab (g.hi k))))

module _ (g : Graph) (lab : ℕ → ℕ) where
  pub apart-inside : (k : ℕ) → lab (g.lo k) ≡ lab (g.hi k) → apart_at g lab k ≡ 0
  unfolding apart_at
  apart-inside k i = rw (i, eqb_same (lab (g.hi k)))

  pub apart-leaves : (k : ℕ) → lab (g.lo k) ≢ lab (g.hi k) → apart_at g lab k ≡ 1
  unfolding apart_at
  apart-leaves k n = rw (eqb-diff (lab (g.lo k)) (lab (g.hi k)) n)

  pub apart-le : (k : ℕ) → apart_at g lab k ≤ 1
  apart-le k = by-eq (lab (g.lo k)) (lab (g.hi k)) (λ e. omega (arith, apart-inside k e)) (λ n. omega (arith, apart-leaves k n))

  pub apart-most : (m : ℕ) → sum m (apart_at g lab) ≤ m
  apart-most zero = omega arith
  apart-most (suc m) = omega (arith, apart-le m, apart-most m)

abbrev pub apart : Graph → (ℕ → ℕ) → ℕ
apart g lab = sum (g.L) (apart_at g lab)

pub apart_none : (g : Graph) (lab : ℕ → ℕ) → apart g lab ≡ 0 → (k : ℕ) → k < g.L → Inside g lab k
apart_none g lab z k l = by-eq (lab (g.lo k)) (lab (g.hi k)) (λ e. e)
    (λ n. absurd (omega (arith, apart-leaves g lab k n, le-sum (g.L) k (apart_at g lab) l)))

pub apart_some : (g : Graph) (lab : ℕ → ℕ) (m : ℕ) → sum m (apart_at g lab) ≢ 0 → (k : ℕ) × (k < m) × (lab (g.lo k) ≢ lab (g.hi k))
apart_some g lab zero n = absurd (n refl)
apart_some g lab (suc m) n = by-eq (lab (g.lo m)) (lab (g.hi m))
    (λ e. let t = apart_some g lab m (λ z. n (omega (arith, apart-inside g lab m e))) in (t.0, omega (arith, t.1), t.2))
    (λ d. (m, omega arith, d))

-- a phase that joined the ends of one of them
pub apart-falls : (g : Graph) (lab lab' : ℕ → ℕ) (k : ℕ) → Ends g → Coarser lab lab' → k < g.L → lab (g.lo k) ≢ lab (g.hi k) → Inside g lab' k
    → apart g lab' < apart g lab
apart-falls g lab lab' k ends coarser l n i = sum_lt (g.L) k (apart_at g lab') (apart_at g lab) l
    (λ j lj. by-eq (lab (g.lo j)) (lab (g.hi j))
    (λ e. omega (arith, apart-inside g lab' j (coarser (g.lo j) (g.hi j) (ends j lj).0 (ends j lj).1 e)))
    (λ d. omega (arith, apart-leaves g lab j d, apart-le g lab' j)))
    (omega (arith, apart-leaves g lab k n, apart-inside g lab' k i))
