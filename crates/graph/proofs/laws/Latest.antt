-- The latest edge of a list is one of it, and none of it is later (`latest-of`); lists of the same members have the same one (`latest-same`), so a list turned round
-- has it (`latest-turned`). Of all ways between two nodes none has an earlier latest edge than the one over tree edges (`best-way`).
use Rattle.std.specs.Prelude.{ℕ, ◌≤◌, ◌<◌, ◌≡◌, refl, ◌≢◌, ◌⊎◌, Bool, false, length}
use Rattle.std.proofs.Common.{arith, sym, ◌∙◌, true≢false}
use Rattle.std.proofs.Math.Path.{subst}
use Rattle.std.proofs.Math.Logic.{inl, inr}
use Rattle.std.proofs.Math.Bool.{true}
use mathlib.Core.List.{List, [], ◌∷◌, reverse}
use Rattle.std.proofs.lemmas.List.{length-reverse}
use Rattle.base.specs.None.{none}
use Rattle.base.specs.Pool.{All, nil, con, Out, here, there}
use Rattle.base.proofs.laws.Cond.{bool_cases, by-eq, eqb-diff}
use Rattle.base.proofs.laws.Pool.{All-map, All-reverse, reverse-All, All-both, All-here, All-rest}
use Rattle.base.proofs.laws.Twice.{out_once}
use Rattle.graph.specs.Graph.{Graph, Joins, Way, stop, go}
use Rattle.graph.specs.Order.{Order, Earlier, InTree}
use Rattle.graph.specs.Path.{edges_of, Path}
use Rattle.graph.specs.Between.{latest_from, latest_of, Latest}
use Rattle.graph.proofs.laws.Path.{edges-once, edges-below}
use Rattle.graph.proofs.laws.Ways.{way-append, way-reverse, way-low-high}

-- THE LATEST OF A LIST

-- a member stays one where another comes second
record Among (l : List ℕ) (m : ℕ) : Type 0 where
  others : List ℕ
  among : Out l m others

second : {a m : ℕ} (k : ℕ) {l r : List ℕ} → Out (a ∷ l) m r → Among (a ∷ k ∷ l) m
second k here = record { others = _; among = here }
second k (there q) = record { others = _; among = there (there q) }

module _ {L : ℕ} (o : Order L) where
  abbrev before : ℕ → ℕ → Bool
  before = o.earlier

  -- from a on it only gets later
  record Grown (a : ℕ) (l : List ℕ) (k : ℕ) : Type 0 where
    up : (a ≡ k) ⊎ (before a k ≡ true)
    others : List ℕ
    among : Out (a ∷ l) k others
    latest : All (λ j. before k j ≡ false) l

  -- nothing that a is not earlier than is later than k
  up-not : {a k j : ℕ} → (a ≡ k) ⊎ (before a k ≡ true) → before a j ≡ false → before k j ≡ false
  up-not {j} (inl e) f = subst (λ x. before x j ≡ false) e f
  up-not {a} {k} {j} (inr e) f = bool_cases (before k j) (λ t. absurd (true≢false (sym (o.trans a k j e t) ∙ f))) (λ n. n)

  grown : (a : ℕ) (l : List ℕ) → a ≢ none → All (λ j. j ≢ none) l → Grown a l (latest_from before a l)
  unfolding latest_from
  grown a [] n nil = record { up = inl refl; others = []; among = here; latest = nil }
  grown a (k ∷ l) n (con h t) = rw (eqb-diff a none n) (bool_cases (before a k) (λ e. rw e (later e (grown k l h t))) (λ e. rw e (kept e (grown a l n t))))
    where
      later : {m : ℕ} → before a k ≡ true → Grown k l m → Grown a (k ∷ l) m
      later {m} e r = record { up = inr (over (r.up)); others = _; among = there (r.among); latest = con (up-not (r.up) (o.irrefl k)) (r.latest) }
        where
          over : (k ≡ m) ⊎ (before k m ≡ true) → before a m ≡ true
          over (inl q) = subst (λ x. before a x ≡ true) q e
          over (inr q) = o.trans a k m e q

      kept : {m : ℕ} → before a k ≡ false → Grown a l m → Grown a (k ∷ l) m
      kept e r = let q = second k (r.among) in record { up = r.up; others = q.others; among = q.among; latest = con (up-not (r.up) e) (r.latest) }

  pub latest-of : (l : List ℕ) → 0 < length l → All (λ j. j ≢ none) l → Latest before l (latest_of before l)
  unfolding latest_from
  latest-of [] s n = absurd (omega arith)
  latest-of (a ∷ l) s (con h t) = let r = grown a l h t in record { others = r.others; among = r.among; latest = con (up-not (r.up) (o.irrefl a)) (r.latest) }

  -- two that are latest of the same members
  pub latest-same : {l m : List ℕ} {j k : ℕ} → All (λ e. e < L) l → ((P : ℕ → Type 0) → All P l → All P m) → ((P : ℕ → Type 0) → All P m → All P l)
      → Latest before l j → Latest before m k → j ≡ k
  latest-same {j} {k} b f h x y = by-eq j k (λ e. e) (λ d. absurd (apart (o.total j k (All-here (x.among) b) (All-here (y.among) (f _ b)) d)))
    where
      apart : (before j k ≡ true) ⊎ (before k j ≡ true) → ⊥
      apart (inl t) = true≢false (sym t ∙ All-here (y.among) (f _ (x.latest)))
      apart (inr t) = true≢false (sym t ∙ All-here (x.among) (h _ (y.latest)))

  -- no edge is none
  pub all-some : L ≤ none → {l : List ℕ} → All (λ e. e < L) l → All (λ e. e ≢ none) l
  all-some s b = All-map (λ e h q. omega arith) b

  pub latest-turned : L ≤ none → (l : List ℕ) → All (λ e. e < L) l → latest_of before (reverse l) ≡ latest_of before l
  latest-turned s [] b = refl
  latest-turned s (a ∷ l) b =
      let n : All (λ e. e ≢ none) (a ∷ l) = all-some s b in
      sym (latest-same b (λ P c. All-reverse c) (λ P c. reverse-All (a ∷ l) c) (latest-of (a ∷ l) (omega arith) n)
      (latest-of (reverse (a ∷ l)) (omega (arith, length-reverse (a ∷ l))) (All-reverse n)))

-- THE BEST WAY

-- a way cut at one of its edges, m: the others have P
record Cut (g : Graph) (P : ℕ → Type 0) (m u v : ℕ) : Type 0 where
  from : ℕ
  to : ℕ
  joins : Joins g m from to
  first : Way g P u from
  then : Way g P to v

module _ {g : Graph} {S : ℕ → Type 0} where
  pub edges-in : {u v : ℕ} (w : Way g S u v) → All S (edges_of w)
  edges-in stop = nil
  edges-in (go e j s w) = con s (edges-in w)

  pub edges_some : {u v : ℕ} → u ≢ v → (w : Way g S u v) → 0 < length (edges_of w)
  edges_some d stop = absurd (d refl)
  edges_some d (go e j s w) = omega arith

  -- a way whose edges have P
  pub way_by : {P : ℕ → Type 0} {u v : ℕ} (w : Way g S u v) → All P (edges_of w) → Way g P u v
  way_by stop nil = stop
  way_by (go e j s w) (con h t) = go e j h (way_by w t)

  cut_at : {P : ℕ → Type 0} {m u v : ℕ} (w : Way g S u v) {r : List ℕ} → Out (edges_of w) m r → All P r → Cut g P m u v
  cut_at stop q h = elim q [ ]
  cut_at (go {u} {v} e j s w) here h = record { from = u; to = v; joins = j; first = stop; then = way_by w h }
  cut_at (go e j s w) (there q) (con h t) = let c = cut_at w q t in record { from = c.from; to = c.to; joins = c.joins; first = go e j h c.first; then = c.then }

module _ (g : Graph) (o : Order (g.L)) (few : g.L ≤ none) where
  -- what is not later than m, and another edge, is earlier
  below : {m f : ℕ} → m < g.L → f < g.L → m ≢ f → o.earlier m f ≡ false → o.earlier f m ≡ true
  below {m} {f} lm lf d n = pick (o.total m f lm lf d)
    where
      pick : (o.earlier m f ≡ true) ⊎ (o.earlier f m ≡ true) → o.earlier f m ≡ true
      pick (inl t) = absurd (true≢false (sym t ∙ n))
      pick (inr t) = t

  -- a way of edges earlier than m, where the latest of it is
  all-earlier : {m k : ℕ} {l : List ℕ} → All (λ e. e < g.L) l → Latest (o.earlier) l k → o.earlier k m ≡ true → All (Earlier (o.earlier) m) l
  all-earlier {m} {k} b x t = All-map (λ f h. by-eq k f
      (λ e. subst (λ y. o.earlier y m ≡ true) e t)
      (λ d. o.trans f k m (below (All-here (x.among) b) h.0 d h.1) t)) (All-both b (x.latest))

  -- If all edges of w were earlier than the latest of the path, m: with the rest of the path, all earlier too, w would join the ends of m, a tree edge.
  pub best-way : {S : ℕ → Type 0} → ((k : ℕ) → k < g.L → S k → InTree g (o.earlier) k) → {u v : ℕ} → u ≢ v → (path : Path g S u v)
      → {T : ℕ → Type 0} (w : Way g T u v) → o.earlier (latest_of (o.earlier) (edges_of w)) (latest_of (o.earlier) (edges_of path.way)) ≡ false
  best-way {S} tree {u} {v} d path w = bool_cases (o.earlier k m) (λ t. absurd (closed t)) (λ n. n)
    where
      q : Way g S u v
      q = path.way

      m : ℕ
      m = latest_of (o.earlier) (edges_of q)

      k : ℕ
      k = latest_of (o.earlier) (edges_of w)

      top : Latest (o.earlier) (edges_of q) m
      top = latest-of o (edges_of q) (edges_some d q) (all-some o few (edges-below q))

      other : Latest (o.earlier) (edges_of w) k
      other = latest-of o (edges_of w) (edges_some d w) (all-some o few (edges-below w))

      lm : m < g.L
      lm = All-here top.among (edges-below q)

      rest : All (Earlier (o.earlier) m) top.others
      rest = All-map (λ f h. below lm h.0 h.1.0 h.1.1)
          (All-both (All-rest top.among (edges-below q)) (All-both (out_once (edges-once q path.simple) top.among) (All-rest top.among top.latest)))

      closed : o.earlier k m ≡ true → ⊥
      closed t =
          let c = cut_at q top.among rest in
          let over : Way g (Earlier (o.earlier) m) u v = way_by w (all-earlier (edges-below w) other t) in
          tree m lm (All-here top.among (edges-in q)) (way-low-high c.joins (way-append (way-reverse c.first) (way-append over (way-reverse c.then))))
