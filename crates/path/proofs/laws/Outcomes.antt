-- The outcomes of the two calls: of a path refused by any number (`path-refused`), the others in Equations; of marks each as an equation with what the call
-- is (`near-`). What an answer of 0 tells (`path-answered`, `near-answered`).
use Rattle.std.specs.Prelude.{ℕ, ◌≤◌, ◌<◌, ◌≡◌, ◌≢◌, List, ◌++◌, length}
use Rattle.std.proofs.Common.{sym, ◌∙◌, ⊎_elim}
use Rattle.std.proofs.Math.Path.{ap}
use Rattle.std.proofs.Math.ListN.{drop}
use borrow.Author.Tests.{lt-ltb, le-ltb, le-leb, lt-leb, ltb-false, leb-false}
use Rattle.base.proofs.laws.Cond.{eqb-diff, by-eq}
use Rattle.base.proofs.laws.Refuse.{or_else-zero, first_refusal-zero, answers-refused}
use Rattle.base.specs.Loop.{taken_to, refused_by, answering}
use Rattle.graph.specs.Parts.{SamePart}
use Rattle.graph.proofs.laws.Parts.{part?}
use Rattle.plan.specs.Links.{graph_of, Plan, modules_of}
use Rattle.plan.specs.Refusal.{plan_refusal}
use Rattle.path.specs.Between.{tree_path, path_refusal, no_path, no_way, this_path, path_between}
use Rattle.path.specs.Near.{near_bytes, near_refusal, mark_near}
pub use Rattle.path.proofs.laws.Equations.{PathTaken, path-zero, path-refused-plan, path-refused-from, path-refused-to, path-refused-room, path-taken, path-no-way}

-- A PATH

module _ (p : Plan) (u v : ℕ) where
  module _ (buffer : List ℕ) where
    -- refused, whatever the number: nothing is written
    pub path-refused : path_refusal p (length buffer) u v ≢ 0 → no_path (path_refusal p (length buffer) u v) buffer ≡ path_between p u v buffer
    unfolding path_between
    path-refused n = rw (eqb-diff (path_refusal p (length buffer) u v) 0 n)

    -- what an answer of 0 tells, and what it shows then
    pub path-answered : (path_between p u v buffer).answer.refusal ≡ 0 → PathTaken p (length buffer) u v
    path-answered e = by-eq (path_refusal p (length buffer) u v) 0 (path-zero p u v (length buffer)) (λ n. absurd (n (ap (λ r. r.answer.refusal) (path-refused n) ∙ e)))

    module _ (t : PathTaken p (length buffer) u v) where
      pub path-shown : SamePart (graph_of p) u v → this_path p (tree_path p u v) buffer ≡ path_between p u v buffer
      path-shown s = path-taken p u v buffer t.checked t.from_ok t.to_ok s (t.fits s)

      pub no-way-shown : ¬ SamePart (graph_of p) u v → no_way buffer ≡ path_between p u v buffer
      no-way-shown = path-no-way p u v buffer t.checked t.from_ok t.to_ok

      pub taken-zero : (path_between p u v buffer).answer.refusal ≡ 0
      taken-zero = sym (⊎_elim (λ s. ap (λ r. r.answer.refusal) (path-shown s)) (λ n. ap (λ r. r.answer.refusal) (no-way-shown n)) (part? (graph_of p) u v))

-- MARKS

pub record NearTaken (p : Plan) (room m : ℕ) : Type 0 where
  pub checked : plan_refusal p ≡ 0
  pub module_ok : m < modules_of p
  pub fits : modules_of p ≤ room

module _ (p : Plan) (m h : ℕ) (buffer : List ℕ) where
  marks : (n : ℕ) → near_refusal p (length buffer) m ≡ n → answering n buffer (near_bytes p m h ++ drop (modules_of p) buffer) ≡ mark_near p m h buffer
  unfolding mark_near
  marks n q = ap (λ r. answering r buffer (near_bytes p m h ++ drop (modules_of p) buffer)) (sym q)

  pub near-refused-plan : plan_refusal p ≢ 0 → refused_by (plan_refusal p) buffer ≡ mark_near p m h buffer
  unfolding near_refusal
  near-refused-plan n =
      answers-refused (plan_refusal p) buffer (near_bytes p m h ++ drop (modules_of p) buffer) n ∙ marks (plan_refusal p) (rw (eqb-diff (plan_refusal p) 0 n))

  pub near-refused-module : plan_refusal p ≡ 0 → modules_of p ≤ m → refused_by 41 buffer ≡ mark_near p m h buffer
  unfolding near_refusal
  near-refused-module z l = marks 41 (rw (z, le-leb (modules_of p) m l))

  pub near-refused-room : plan_refusal p ≡ 0 → m < modules_of p → length buffer < modules_of p → refused_by 79 buffer ≡ mark_near p m h buffer
  unfolding near_refusal
  near-refused-room z lm l = marks 79 (rw (z, lt-leb (modules_of p) m lm, lt-ltb (length buffer) (modules_of p) l))

  pub near-taken : plan_refusal p ≡ 0 → m < modules_of p → modules_of p ≤ length buffer
      → taken_to (near_bytes p m h ++ drop (modules_of p) buffer) ≡ mark_near p m h buffer
  unfolding near_refusal
  near-taken z lm l = marks 0 (rw (z, lt-leb (modules_of p) m lm, le-ltb (length buffer) (modules_of p) l))

  -- refused, whatever the number: nothing is written
  pub near-refused : near_refusal p (length buffer) m ≢ 0 → refused_by (near_refusal p (length buffer) m) buffer ≡ mark_near p m h buffer
  unfolding mark_near
  near-refused n = answers-refused (near_refusal p (length buffer) m) buffer (near_bytes p m h ++ drop (modules_of p) buffer) n

  pub near-answered : (mark_near p m h buffer).refusal ≡ 0 → NearTaken p (length buffer) m
  unfolding mark_near near_refusal
  near-answered e =
      let f = first_refusal-zero (plan_refusal p) e in
      let f41 = or_else-zero _ 40 f.1 in
      let f79 = or_else-zero _ 78 f41.1 in
      record { checked = f.0; module_ok = leb-false _ _ f41.0; fits = ltb-false _ _ f79.0 }

  pub near-written : (mark_near p m h buffer).refusal ≡ 0 → (mark_near p m h buffer).state ≡ near_bytes p m h ++ drop (modules_of p) buffer
  near-written e = let t = near-answered e in sym (ap (λ a. a.state) (near-taken t.checked t.module_ok t.fits))
