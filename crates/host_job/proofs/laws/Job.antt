-- The whole job stops at the first call that is refused (`not_set`, `not-woken`), or all of it runs (`all-run`). Whom it wakes, in samples
-- (`wakes-samples`).
use Rattle.std.specs.Prelude.{ℕ, ◌≡◌, ◌≢◌}
use Rattle.std.proofs.Math.Path.{refl, sym}
use mathlib.Core.List.{List, [], ◌∷◌, map, flat_map}
use Rattle.base.proofs.laws.Cond.{eqb-diff}
use Rattle.base.specs.Loop.{After, Ran}
use Rattle.base.specs.Test.{every}
use Rattle.graph.specs.Decide.{label, joined_over}
use Rattle.graph.specs.Labels.{rename}
use Rattle.graph.specs.Parts.{together, lowest, lowests}
use Rattle.plan.specs.Links.{Plan}
use Rattle.plan.specs.Refusal.{plan_refusal}
use Rattle.plan.proofs.laws.Same.{same-sym, same_taken}
use Rattle.plan.proofs.laws.Trimmed.{trimmed-same}
use Rattle.field.specs.Held.{Held, set_up}
use Rattle.field_calls.specs.Call.{refused_run, run_bytes, run_rounds}
use Rattle.field_laws.proofs.After.{started}
use Rattle.host_job.specs.Job.{wake_steps, job_wakes, max_rounds, job_run}

-- of plans with no module; with one; with two in one part; with two and no link; of the two banks; of five modules in the parts 0 3, 1 and 2 4
pub wakes-samples : map job_wakes (
    (0 ∷ 0 ∷ [])
    ∷ (1 ∷ 0 ∷ [])
    ∷ (2 ∷ 1 ∷ 0 ∷ 1 ∷ 3 ∷ 4 ∷ [])
    ∷ (2 ∷ 0 ∷ [])
    ∷ (4 ∷ 2 ∷ 0 ∷ 1 ∷ 3 ∷ 3 ∷ 2 ∷ 3 ∷ 0 ∷ 5 ∷ [])
    ∷ (5 ∷ 2 ∷ 0 ∷ 3 ∷ 1 ∷ 1 ∷ 2 ∷ 4 ∷ 1 ∷ 1 ∷ [])
    ∷ [])
    ≡ (1 ∷ 0 ∷ 0 ∷ [])
    ∷ (1 ∷ 0 ∷ 3 ∷ 1 ∷ 0 ∷ 0 ∷ [])
    ∷ (1 ∷ 0 ∷ 3 ∷ 1 ∷ 0 ∷ 0 ∷ [])
    ∷ (1 ∷ 0 ∷ 6 ∷ 1 ∷ 0 ∷ 0 ∷ 1 ∷ 0 ∷ 1 ∷ [])
    ∷ (1 ∷ 0 ∷ 6 ∷ 1 ∷ 0 ∷ 0 ∷ 1 ∷ 0 ∷ 2 ∷ [])
    ∷ (1 ∷ 0 ∷ 9 ∷ 1 ∷ 0 ∷ 0 ∷ 1 ∷ 0 ∷ 1 ∷ 1 ∷ 0 ∷ 2 ∷ [])
    ∷ []
unfolding wake_steps flat_map lowests lowest every together joined_over label rename
wakes-samples = refl

-- it stops at the first call that is refused
module _ (p : Plan) (lent : List ℕ) (s : After Held) (set : s ≡ set_up p lent) where
  pub not_set : s.refusal ≢ 0 → refused_run s.refusal s.state ≡ job_run p lent
  unfolding job_run
  not_set n = rw (sym set, eqb-diff _ 0 n) refl

  module _ (z : s.refusal ≡ 0) where
    -- no number of 14 to 18 applies to the plan
    pub set-taken : plan_refusal p ≡ 0
    set-taken = same_taken (same-sym (trimmed-same p)) (started p lent (rw set at z)).plan

    module _ (bytes : List ℕ) (is : bytes ≡ job_wakes p) (w : Ran Held) (woken : w ≡ run_bytes bytes s.state) where
      pub not-woken : w.refusal ≢ 0 → refused_run w.refusal w.state ≡ job_run p lent
      unfolding job_run
      not-woken n = rw (sym set, z, sym is, sym woken, eqb-diff _ 0 n) refl

      pub all-run : w.refusal ≡ 0 → (r : Ran Held) → r ≡ run_rounds max_rounds w.state → r ≡ job_run p lent
      unfolding job_run
      all-run y r e = rw (sym set, z, sym is, sym woken, y) e
