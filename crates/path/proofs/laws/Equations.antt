-- The outcomes of a path, each as an equation with what the call is: refused by the plan (`path-refused-plan`), by 41 (`path-refused-from`,
-- `path-refused-to`), by 79 (`path-refused-room`), taken (`path-taken`), between parts (`path-no-way`); what a refusal of 0 tells (`path-zero`).
use Rattle.std.specs.Prelude.{ℕ, ◌≤◌, ◌<◌, ◌≡◌, ◌≢◌, false, ◌&&◌, List, length, eqb}
use Rattle.std.proofs.Common.{sym, subst, ◌∙◌}
use Rattle.std.proofs.Math.Path.{ap}
use Rattle.std.proofs.Math.Bool.{cond}
use Rattle.std.proofs.Math.Dec.{ltb}
use borrow.Author.Tests.{lt-ltb, le-ltb, le-leb, lt-leb, ltb-false, leb-false}
use Rattle.base.proofs.laws.Cond.{eqb-diff}
use Rattle.base.proofs.laws.Refuse.{or_else-zero, first_refusal-zero, or-false}
use Rattle.graph.specs.Parts.{SamePart, together}
use Rattle.graph.proofs.laws.Parts.{part-together, apart-together}
use Rattle.plan.specs.Links.{graph_of, Plan, modules_of}
use Rattle.plan.specs.Refusal.{plan_refusal}
use Rattle.path.specs.Between.{tree_path, path_refusal, no_path, no_way, this_path, path_between}

-- A PATH

-- what an answer of 0 tells
pub record PathTaken (p : Plan) (room u v : ℕ) : Type 0 where
  pub checked : plan_refusal p ≡ 0
  pub from_ok : u < modules_of p
  pub to_ok : v < modules_of p
  pub fits : SamePart (graph_of p) u v → length (tree_path p u v) ≤ room

module _ (p : Plan) (u v : ℕ) where
  pub path-zero : (room : ℕ) → path_refusal p room u v ≡ 0 → PathTaken p room u v
  unfolding path_refusal
  path-zero room e =
      let f = first_refusal-zero (plan_refusal p) e in
      let f41 = or_else-zero _ 40 f.1 in
      let b = or-false _ _ f41.0 in
      let f79 = or_else-zero _ 78 f41.1 in
      record {
        checked = f.0;
        from_ok = leb-false _ _ b.0;
        to_ok = leb-false _ _ b.1;
        fits = λ s. ltb-false _ _ (subst (λ t. (t && ltb room (length (tree_path p u v))) ≡ false) (part-together (graph_of p) u v s) f79.0);
      }

  module _ (buffer : List ℕ) where
    shows : (n : ℕ) → path_refusal p (length buffer) u v ≡ n
        → cond (eqb n 0) (cond (together (graph_of p) u v) (this_path p (tree_path p u v) buffer) (no_way buffer)) (no_path n buffer) ≡ path_between p u v buffer
    unfolding path_between
    shows n q = ap (λ m. cond (eqb m 0) (cond (together (graph_of p) u v) (this_path p (tree_path p u v) buffer) (no_way buffer)) (no_path m buffer)) (sym q)

    pub path-refused-plan : plan_refusal p ≢ 0 → no_path (plan_refusal p) buffer ≡ path_between p u v buffer
    unfolding path_refusal
    path-refused-plan n = (rw (eqb-diff (plan_refusal p) 0 n)) ∙ shows (plan_refusal p) (rw (eqb-diff (plan_refusal p) 0 n))

    pub path-refused-from : plan_refusal p ≡ 0 → modules_of p ≤ u → no_path 41 buffer ≡ path_between p u v buffer
    unfolding path_refusal
    path-refused-from z l = shows 41 (rw (z, le-leb (modules_of p) u l))

    pub path-refused-to : plan_refusal p ≡ 0 → u < modules_of p → modules_of p ≤ v → no_path 41 buffer ≡ path_between p u v buffer
    unfolding path_refusal
    path-refused-to z lu l = shows 41 (rw (z, lt-leb (modules_of p) u lu, le-leb (modules_of p) v l))

    -- two modules of a plan that was checked
    module _ (z : plan_refusal p ≡ 0) (lu : u < modules_of p) (lv : v < modules_of p) where
      pub path-refused-room : SamePart (graph_of p) u v → length buffer < length (tree_path p u v) → no_path 79 buffer ≡ path_between p u v buffer
      unfolding path_refusal
      path-refused-room s l = shows 79
          (rw (z, lt-leb (modules_of p) u lu, lt-leb (modules_of p) v lv, part-together (graph_of p) u v s, lt-ltb (length buffer) (length (tree_path p u v)) l))

      pub path-taken : SamePart (graph_of p) u v → length (tree_path p u v) ≤ length buffer → this_path p (tree_path p u v) buffer ≡ path_between p u v buffer
      unfolding path_refusal
      path-taken s l =
          let t = part-together (graph_of p) u v s in
          (rw t) ∙ shows 0 (rw (z, lt-leb (modules_of p) u lu, lt-leb (modules_of p) v lv, t, le-ltb (length buffer) (length (tree_path p u v)) l))

      pub path-no-way : ¬ SamePart (graph_of p) u v → no_way buffer ≡ path_between p u v buffer
      unfolding path_refusal
      path-no-way n =
          let f = apart-together (graph_of p) u v n in
          (rw f) ∙ shows 0 (rw (z, lt-leb (modules_of p) u lu, lt-leb (modules_of p) v lv, f))
