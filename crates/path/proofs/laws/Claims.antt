-- The claims of requests 07 and 08, proved: of every answer that is no refusal (`path-claim`), of the same path from its other end (`turned-claim`), of the
-- room that it needs (`room-claim`), of the marks (`near-claim`).
use Rattle.std.specs.Prelude.{ℕ, ◌≤◌, ◌<◌, ◌≡◌, refl, ◌≢◌, Bool, true, false, cond, List, [], reverse, drop, ltb}
use Rattle.std.proofs.Common.{arith, sym, ◌∙◌, inl, inr, ⊎_elim, ltb-true, leb-false}
use Rattle.std.proofs.Math.Path.{ap, subst, subst₂}
use Rattle.std.proofs.Math.Bool.{and-eq-true_iff}
use Rattle.std.proofs.Math.ListN.{length, length-append, length-drop}
use Rattle.std.proofs.lemmas.List.{length-reverse}
use Rattle.std.proofs.Math.Seq.{take-append_seam, drop-append_seam}
use Rattle.base.specs.None.{none}
use Rattle.base.specs.Pool.{All}
use Rattle.base.proofs.laws.Twice.{NoTwice-one}
use Rattle.base.specs.Refuse.{or_else, first_refusal}
use Rattle.base.proofs.laws.Cond.{eqb-cases, by-eq}
use Rattle.base.proofs.laws.Refuse.{or-false}
use Rattle.graph.specs.Graph.{Way, stop}
use Rattle.graph.specs.Parts.{SamePart, together}
use Rattle.graph.specs.Path.{edges_of}
use Rattle.graph.specs.Between.{latest_from, Latest}
use Rattle.graph.proofs.laws.Ways.{way-reverse}
use Rattle.graph.proofs.laws.Parts.{together-part, part?}
use Rattle.graph.proofs.laws.Path.{paths-same, edges-once, edges-below}
use Rattle.graph.proofs.laws.Decide.{in_tree-tree}
use Rattle.graph.proofs.laws.Latest.{latest-of, latest-same, latest-turned, all-some, edges_some, best-way}
use Rattle.plan.specs.Links.{graph_of, Plan, modules_of, links_of}
use Rattle.plan.specs.Weights.{earlier}
use Rattle.plan.specs.Refusal.{plan_refusal}
use Rattle.plan.proofs.laws.Weights.{order_of}
use Rattle.plan.proofs.laws.Accepted.{Accepted, accepted}
use Rattle.plan.proofs.laws.Numbers.{PlanNumber, plan-number}
use Rattle.plan_tree.specs.Claim.{TreePath}
use Rattle.plan_tree.proofs.laws.Paths.{tree-spare, tree-path}
use Rattle.path.specs.Between.{tree_path, worst_on, no_way, this_path, path_refusal}
use Rattle.path.specs.Claims.{PathHolds, NoWay, PathClaim, TurnedRound, TurnedClaim, TooShort, RoomClaim, NearHolds, NearClaim}
use Rattle.path.proofs.laws.Outcomes.{PathTaken, path-zero, path-taken, path-no-way, path-refused, path-answered, path-shown, no-way-shown, taken-zero, near-answered, near-written}
use Rattle.path.proofs.laws.Steps.{path-is, tree-path-turned, path-short}
pub use Rattle.path.proofs.laws.Marks.{near-holds}

-- THE PATH

module _ (p : Plan) (a : Accepted p) where
  few-links : links_of p ≤ none
  few-links = omega (arith, a.links_ok)

  path-here : {u v : ℕ} → u ≡ v → tree_path p u v ≡ []
  path-here {u} e = subst (λ x. tree_path p u x ≡ []) e (path-is p (record { way = stop; simple = NoTwice-one u }))

  latest : {S : ℕ → Type 0} {u v : ℕ} → u ≢ v → (w : Way (graph_of p) S u v) → Latest (earlier p) (edges_of w) (worst_on p (edges_of w))
  latest d w = latest-of (order_of p) (edges_of w) (edges_some d w) (all-some (order_of p) few-links (edges-below w))

  pub path-holds : (u v : ℕ) (lent : List ℕ) → u < modules_of p → SamePart (graph_of p) u v → length (tree_path p u v) ≤ length lent
      → PathHolds p u v lent (this_path p (tree_path p u v) lent)
  unfolding latest_from
  path-holds u v lent lu s fits = record {
    found = refl;
    path = q;
    shows = take-append_seam links left ∙ is;
    many = ap length is;
    once = edges-once q.way q.simple;
    only = λ r. paths-same (tree-spare p) r q;
    worst = λ d. subst (Latest (earlier p) (edges_of q.way)) (ap (worst_on p) (sym is))
        (latest d q.way);
    best = λ d w k x. subst₂ (λ j l. earlier p j (worst_on p l) ≡ false) (latest-same (order_of p) (edges-below w) (λ P h. h) (λ P h. h) (latest d w) x) (sym is)
        (best-way (graph_of p) (order_of p) few-links (λ k l. in_tree-tree (graph_of p) (earlier p) k) d q w);
    same = λ e. (ap length (path-here e), ap (worst_on p) (path-here e));
    few = path-short p a lu s;
    rest = drop-append_seam links left;
    size = omega (arith, length-append links left, length-drop (length links) lent);
  }
    where
      q : TreePath p u v
      q = tree-path p s

      links : List ℕ
      links = tree_path p u v

      left : List ℕ
      left = drop (length links) lent

      is : links ≡ edges_of q.way
      is = path-is p q

pub no-way-holds : (p : Plan) (u v : ℕ) (lent : List ℕ) → ¬ SamePart (graph_of p) u v → NoWay p u v lent (no_way lent)
no-way-holds p u v lent n = record { found = refl; apart = n; empty = (refl, refl); keeps = refl }

pub path-claim : PathClaim
path-claim p u v lent e =
    let t = path-answered p u v lent e in
    ⊎_elim
    (λ s. inl (subst (PathHolds p u v lent) (path-shown p u v lent t s) (path-holds p (accepted p t.checked) u v lent t.from_ok s (t.fits s))))
    (λ n. inr (subst (NoWay p u v lent) (no-way-shown p u v lent t n) (no-way-holds p u v lent n)))
    (part? (graph_of p) u v)

-- TURNED ROUND

pub path-turns : (p : Plan) → Accepted p → (u v : ℕ) (lent lent' : List ℕ) → SamePart (graph_of p) u v
    → TurnedRound (this_path p (tree_path p u v) lent) (this_path p (tree_path p v u) lent')
path-turns p a u v lent lent' s = record {
  taken = refl;
  found = refl;
  links = take-append_seam back (drop (length back) lent') ∙ turned ∙ ap reverse (sym (take-append_seam links (drop (length links) lent)));
  worst = ap (worst_on p) turned ∙ latest-turned (order_of p) (few-links p a) links (subst (All (λ k. k < links_of p)) (sym (path-is p q)) (edges-below q.way));
}
  where
    q : TreePath p u v
    q = tree-path p s

    links : List ℕ
    links = tree_path p u v

    back : List ℕ
    back = tree_path p v u

    turned : back ≡ reverse links
    turned = tree-path-turned p s

pub turned-claim : TurnedClaim
turned-claim p u v lent lent' e f = ⊎_elim
    (λ s. let there = path-shown p u v lent t s in
    let fits : length (tree_path p v u) ≤ length lent' =
    omega (arith, ap length (tree-path-turned p s), length-reverse (tree_path p u v), ap (λ r. r.answer.length) there, f) in
    let back = path-taken p v u lent' t.checked t.to_ok t.from_ok (way-reverse s) fits in
    subst₂ TurnedRound there back (path-turns p (accepted p t.checked) u v lent lent' s))
    (λ n. subst₂ TurnedRound (no-way-shown p u v lent t n) (path-no-way p v u lent' t.checked t.to_ok t.from_ok (λ w. n (way-reverse w)))
    (record { taken = refl; found = refl; links = refl; worst = refl }))
    (part? (graph_of p) u v)
  where
    t : PathTaken p (length lent) u v
    t = path-answered p u v lent e

-- ROOM

-- what 79 tells
refused-79 : (r : ℕ) (b c : Bool) → PlanNumber r → first_refusal r (or_else b 41 (or_else c 79 0)) ≡ 79 → (r ≡ 0) × ((b ≡ false) × (c ≡ true))
refused-79 r b c n = eqb-cases r 0 (λ t. cond t (or_else b 41 (or_else c 79 0)) r ≡ 79 → (r ≡ 0) × ((b ≡ false) × (c ≡ true)))
    (λ z h. (z, tests b c h))
    (λ d h. other d h n)
  where
    other : {X : Type 0} → r ≢ 0 → r ≡ 79 → PlanNumber r → X
    other d h (inl z) = absurd (d z)
    other d h (inr l) = absurd (omega (arith, l.1))

    tests : (b c : Bool) → or_else b 41 (or_else c 79 0) ≡ 79 → (b ≡ false) × (c ≡ true)
    tests true c h = absurd (omega arith)
    tests false true h = (refl, refl)
    tests false false h = absurd (omega arith)

-- refused by 79, and so too short
refused-short : (p : Plan) (room u v : ℕ) → path_refusal p room u v ≡ 79 → TooShort p room u v
unfolding path_refusal
refused-short p room u v e =
    let f = refused-79 (plan_refusal p) _ _ (plan-number p) e in
    let c = (and-eq-true_iff (together (graph_of p) u v) (ltb room (length (tree_path p u v)))).0 f.1.1 in
    let s = together-part (graph_of p) u v c.0 in
    let short = path-short p (accepted p f.0) (leb-false _ _ (or-false _ _ f.1.0).0) s in
    let long = ltb-true room (length (tree_path p u v)) c.1 in
    record { there = tree-path p s; path = λ q. subst (λ l. room < length l) (path-is p q) long; most = omega (arith, short, long) }

pub room-claim : RoomClaim
room-claim p u v lent e = refused-short p (length lent) u v (by-eq (path_refusal p (length lent) u v) 0
    (λ z. absurd (omega (arith, taken-zero p u v lent (path-zero p u v (length lent) z), e)))
    (λ n. ap (λ r. r.answer.refusal) (path-refused p u v lent n) ∙ e))

-- THE MARKS

pub near-claim : NearClaim
near-claim p m h lent e =
    subst (NearHolds p m h lent) (sym (near-written p m h lent e)) (near-holds p m h lent (near-answered p m h lent e).fits)
