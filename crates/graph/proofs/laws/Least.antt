-- No set of edges that joins what the edges join has a smaller total cost than the tree (`tree-least`); a set that joins each part's nodes is one (`spanning-parts`).
use Prim.Native.Nat.{ℕ, zero, suc, ◌+◌, ◌≤◌, ◌<◌, zero-le}
use Rattle.std.proofs.Common.{arith, not-suc-le-zero, sym, ap, ◌∙◌, inl, inr, true≢false}
use Rattle.std.proofs.Math.Decide.{dec_lt, ℕ_discrete}
use Rattle.std.specs.Prelude.{◌≡◌, refl, ◌≢◌, ◌⊎◌, Bool, true, false}
use Rattle.std.proofs.Math.Path.{subst}
use Rattle.std.proofs.Math.Logic.Dec
use Rattle.std.proofs.Math.Bool.{cond, Bool-discrete}
use Rattle.base.specs.Cond.{upd}
use Rattle.base.proofs.laws.Cond.{by-eq, bool_cases, upd_same, upd_other, upd-elim}
use Rattle.base.proofs.laws.Sum.{sum-le, sum-change}
use Rattle.base.proofs.laws.Search.{least, Least, lt-suc-cases}
use Rattle.graph.specs.Graph.{Graph, Joins, up, Way, stop, go}
use Rattle.graph.specs.Parts.{SamePart}
use Rattle.graph.specs.Order.{Order}
use Rattle.graph.proofs.laws.Ways.{But, Uses, uses-wider, around, split, edge-way, wider, through, way-as-met, joins-lt}
use Rattle.graph.proofs.laws.Rank.{rank_in, rank_in-inj, rank-bound, rank-earlier, tree-rank}
use Rattle.graph.specs.Decide.{Set, in_tree}
use Rattle.graph.proofs.laws.Decide.{in_tree-tree, tree-in_tree}
use Rattle.graph.proofs.laws.Span.{spans-edge}
use Rattle.graph.specs.Least.{total_cost, Spanning}

-- A WAY USES ONLY EDGES OF P, or just once an edge that is not of P
record Odd (g : Graph) (P S : ℕ → Type 0) (u v : ℕ) : Type 0 where
  edge : ℕ
  not_in : ¬ P edge
  once : Uses g S edge u v

module _ (g : Graph) (P : ℕ → Type 0) (dec : (e : ℕ) → Dec (P e)) (u v : ℕ) where
  -- where all edges of S from k on are of P
  odd-to : (k : ℕ) (S : ℕ → Type 0) → ((f : ℕ) → f < g.L → S f → (f < k) ⊎ P f) → Way g S u v → Way g P u v ⊎ Odd g P S u v
  odd-to zero S h w = inl (wider (λ f l s. pick (h f l s)) w)
    where
      pick : {f : ℕ} → (f < 0) ⊎ P f → P f
      pick (inl l) = absurd (not-suc-le-zero l)
      pick (inr p) = p
  odd-to (suc k) S h w = at-k (dec k) (λ T i x. odd-to k T i x)
    where
      Go : Type 1
      Go = (T : ℕ → Type 0) → ((f : ℕ) → f < g.L → T f → (f < k) ⊎ P f) → Way g T u v → Way g P u v ⊎ Odd g P T u v

      below : {f : ℕ} → (k ≡ f → P f) → (f < suc k) ⊎ P f → (f < k) ⊎ P f
      below {f} y (inl l) = lt-suc-cases f k l (λ e. inr (y (sym e))) (λ lt. inl lt)
      below y (inr p) = inr p

      widen : Way g P u v ⊎ Odd g P (But S k) u v → Way g P u v ⊎ Odd g P S u v
      widen (inl x) = inl x
      widen (inr x) = inr (record { edge = x.edge; not_in = x.not_in; once = uses-wider (λ f l t. t.0) (x.once) })

      apart : ¬ P k → Go → Way g (But S k) u v ⊎ Uses g S k u v → Way g P u v ⊎ Odd g P S u v
      apart n rec (inl x) = widen (rec (But S k) (λ f l t. below (λ e. absurd (t.1 e)) (h f l t.0)) x)
      apart n rec (inr x) = inr (record { edge = k; not_in = n; once = x })

      at-k : Dec (P k) → Go → Way g P u v ⊎ Odd g P S u v
      at-k (yes p) rec = rec S (λ f l s. below (λ e. subst P e p) (h f l s)) w
      at-k (no n) rec = apart n rec (split k w)

  odd : {S : ℕ → Type 0} → Way g S u v → Way g P u v ⊎ Odd g P S u v
  odd {S} w = odd-to (g.L) S (λ f l s. inl l) w

-- the set s with m in place of f
abbrev swap : (ℕ → Bool) → ℕ → ℕ → ℕ → Bool
swap s f m = upd (upd s f false) m true

swap-keeps : (s : ℕ → Bool) (f m x : ℕ) → s x ≡ true → f ≢ x → swap s f m x ≡ true
swap-keeps s f m x t d = upd-elim (λ b. b ≡ true) (upd s f false) m true x (λ e. refl) (λ n. upd_other s f false x d ∙ t)

module _ (g : Graph) (cost : ℕ → ℕ) where
  total-upd : (s : ℕ → Bool) (f : ℕ) (b : Bool) → f < g.L → total_cost g cost (upd s f b) + cond (s f) (cost f) 0 ≡ total_cost g cost s + cond b (cost f) 0
  unfolding total_cost
  total-upd s f b l = subst (λ x. total_cost g cost (upd s f b) + cond (s f) (cost f) 0 ≡ total_cost g cost s + cond x (cost f) 0) (upd_same s f b)
      (sum-change (g.L) f (λ e. cond (upd s f b e) (cost e) 0) (λ e. cond (s e) (cost e) 0) l (λ k d. rw (upd_other s f b k d)))

  swap-total : (s : ℕ → Bool) (f m : ℕ) → f < g.L → m < g.L → s f ≡ true → s m ≡ false → cost m ≤ cost f → total_cost g cost (swap s f m) ≤ total_cost g cost s
  swap-total s f m lf lm sf sm c = omega (arith, rw sf at (total-upd s f false lf), rw gone at (total-upd (upd s f false) m true lm))
    where
      gone : upd s f false m ≡ false
      gone = upd-elim (λ b. b ≡ false) s f false m (λ e. refl) (λ n. sm)

-- where a way between the ends of m used f once, the new set joins what the old one did
swap-spans : (g : Graph) (s : ℕ → Bool) (f m : ℕ) → m < g.L → Uses g (Set s) f (g.lo m) (g.hi m) → Spanning g s → Spanning g (swap s f m)
swap-spans g s f m lm x sp e u v j = through edge (sp e u v j)
  where
    edge : (k a b : ℕ) → Joins g k a b → s k ≡ true → Way g (Set (swap s f m)) a b
    edge k a b i t = by-eq f k
        (λ q. way-as-met (subst (λ y. Joins g y a b) (sym q) i) (around x lm (upd_same (upd s f false) m true) (λ y l z. swap-keeps s f m y z.0 z.1)))
        (λ d. edge-way i (swap-keeps s f m k t d))

module _ (g : Graph) (o : Order (g.L)) (cost : ℕ → ℕ) (mono : (a b : ℕ) → o.earlier a b ≡ true → cost a ≤ cost b) where
  -- s has the tree edges of rank below r
  abbrev Has : (ℕ → Bool) → ℕ → Type 0
  Has s r = (e : ℕ) → e < g.L → in_tree g (o.earlier) e ≡ true → rank_in o e < r → s e ≡ true

  -- the tree edge of rank r is not in s
  abbrev Lacks : (ℕ → Bool) → ℕ → ℕ → Type 0
  Lacks s r m = (rank_in o m ≡ r) × ((in_tree g (o.earlier) m ≡ true) × (s m ≡ false))

  -- s has the tree edge of rank r, or takes it in place of a later edge
  record Better (s : ℕ → Bool) (r : ℕ) : Type 0 where
    set : ℕ → Bool
    spanning : Spanning g set
    more : Has set (suc r)
    cheaper : total_cost g cost set ≤ total_cost g cost s

  -- m goes in, and out goes an edge f that is later
  exchange : (s : ℕ → Bool) (r m f : ℕ) → Spanning g s → Has s r → m < g.L → Lacks s r m → ¬ (rank_in o f < rank_in o m) → Uses g (Set s) f (g.lo m) (g.hi m) → Better s r
  exchange s r m f sp h lm t n x = record {
    set = swap s f m;
    spanning = swap-spans g s f m lm x sp;
    more = more;
    cheaper = swap-total g cost s f m lf lm (x.used) t.1.1 (mono m f (rank-earlier o m f lm lf later));
  }
    where
      lf : f < g.L
      lf = joins-lt (x.joins)

      later : rank_in o m < rank_in o f
      later = by-eq (rank_in o m) (rank_in o f) (λ q. absurd (true≢false (sym (x.used) ∙ sym (ap s (rank_in-inj o m f lm lf q)) ∙ t.1.1))) (λ d. omega arith)

      more : Has (swap s f m) (suc r)
      more e l i b = upd-elim (λ y. y ≡ true) (upd s f false) m true e (λ q. refl) (λ d. old (by-eq (rank_in o e) r (λ q. absurd (d (rank_in-inj o m e lm l (t.0 ∙ sym q)))) (λ z. omega arith)))
        where
          old : rank_in o e < r → upd s f false e ≡ true
          old b = upd_other s f false e (λ q. absurd (omega (arith, ap (rank_in o) q, t.0))) ∙ h e l i b

  -- a way of s between the ends of m uses a later edge, as m is in the tree
  improve : (s : ℕ → Bool) (r m : ℕ) → Spanning g s → Has s r → m < g.L → Lacks s r m → Better s r
  improve s r m sp h lm t = take (odd g (λ f. rank_in o f < rank_in o m) (λ f. dec_lt (rank_in o f) (rank_in o m)) (g.lo m) (g.hi m) (sp m (g.lo m) (g.hi m) (up lm refl refl)))
    where
      take : Way g (λ f. rank_in o f < rank_in o m) (g.lo m) (g.hi m) ⊎ Odd g (λ f. rank_in o f < rank_in o m) (Set s) (g.lo m) (g.hi m) → Better s r
      take (inl w) = absurd (tree-rank g o m lm (in_tree-tree g (o.earlier) m t.1.0) w)
      take (inr x) = exchange s r m (x.edge) sp h lm t (x.not_in) (x.once)

  better : (s : ℕ → Bool) (r : ℕ) → Spanning g s → Has s r → Better s r
  better s r sp h = cases (least (Lacks s r) (λ m. Dec.and (ℕ_discrete (rank_in o m) r) (Dec.and (Bool-discrete (in_tree g (o.earlier) m) true) (Bool-discrete (s m) false))) (g.L))
    where
      cases : ((m : ℕ) → m < g.L → ¬ Lacks s r m) ⊎ Least (Lacks s r) (g.L) → Better s r
      cases (inl none) = record {
        set = s;
        spanning = sp;
        more = λ e l i b. by-eq (rank_in o e) r (λ q. bool_cases (s e) (λ y. y) (λ n. absurd (none e l (q, (i, n))))) (λ d. h e l i (omega arith));
        cheaper = omega arith;
      }
      cases (inr m) = improve s r (m.at) sp h (m.below) (m.holds)

  least-from : (k r : ℕ) → k + r ≡ g.L → (s : ℕ → Bool) → Spanning g s → Has s r → total_cost g cost (in_tree g (o.earlier)) ≤ total_cost g cost s
  unfolding total_cost
  least-from zero r q s sp h = sum-le (g.L) (λ e. cond (in_tree g (o.earlier) e) (cost e) 0) (λ e. cond (s e) (cost e) 0)
      (λ e l. bool_cases (in_tree g (o.earlier) e) (λ t. rw (t, h e l t (omega (arith, rank-bound o e l))) (omega arith)) (λ t. rw t zero-le))
  least-from (suc k) r q s sp h = let b = better s r sp h in omega (arith, b.cheaper, least-from k (suc r) (omega arith) (b.set) (b.spanning) (b.more))

  -- LEAST TOTAL COST
  pub tree-least : (s : ℕ → Bool) → Spanning g s → total_cost g cost (in_tree g (o.earlier)) ≤ total_cost g cost s
  tree-least s sp = least-from (g.L) 0 (omega arith) s sp (λ e l t z. absurd (not-suc-le-zero z))

-- a set that joins each part's nodes spans, for edges between nodes below n
pub spanning-parts : (g : Graph) (n : ℕ) → ((e : ℕ) → e < g.L → (g.lo e < n) × (g.hi e < n))
    → (s : ℕ → Bool) → ((u v : ℕ) → u < n → v < n → SamePart g u v → Way g (Set s) u v) → Spanning g s
spanning-parts g n ends s all e u v j =
    way-as-met j (let p = ends e (joins-lt j) in all (g.lo e) (g.hi e) p.0 p.1 (go e (up (joins-lt j) refl refl) tt stop))

-- the tree spans
pub tree-spanning : (g : Graph) (o : Order (g.L)) → Spanning g (in_tree g (o.earlier))
tree-spanning g o e u v j = wider (λ f l t. tree-in_tree g (o.earlier) f t.0) (spans-edge g o e u v j)
