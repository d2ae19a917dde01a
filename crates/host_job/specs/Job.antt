-- The whole job on one plan: setup, a wake of the lowest module of each part, rounds. (Document 01: "The reporting program reads a plan on standard input, wakes
-- module 0, runs rounds with limit 65535."; request 08: "The program wakes the lowest module of each part".)
use Rattle.std.specs.Prelude.{ℕ, Result, Ok, Err, ◌+◌, ◌*◌, cond, not, length, eqb}
use mathlib.Core.List.{List, ◌∷◌, ◌++◌, flat_map}
use Rattle.base.specs.Limits.{max_modules}
use Rattle.base.specs.Loop.{Ran}
use Rattle.format_int16.specs.Int16.{bytes16}
use Rattle.graph.specs.Parts.{lowests}
use Rattle.plan.specs.Links.{Plan, modules_of, graph_of}
use Rattle.field.specs.Step.{WAKE}
use Rattle.refusal.specs.declared.Refusal.{Refusal}
use Rattle.refusal.specs.Number.{numbered}
use Rattle.host_job.specs.declared.Job.{Job}
use Rattle.field.specs.Held.{Held, set_up, blank_field}
use Rattle.field_calls.specs.Call.{refused_run, run_bytes, run_rounds}

-- a wake of each of these modules, in this order, as a schedule
unfoldable pub wake_steps : List ℕ → List ℕ
wake_steps modules = flat_map (λ v. WAKE ∷ bytes16 v) modules

abbrev pub wakes_of : List ℕ → List ℕ
wakes_of modules = 1 ∷ bytes16 (length (wake_steps modules)) ++ wake_steps modules

-- the most bytes that these have: every module is a part of its own
abbrev pub most_wakes : ℕ
most_wakes = 3 + 3 * max_modules

-- "the lowest module of each part"; where there is nobody, "The program skips the wake" (request 04)
abbrev pub job_wakes : Plan → List ℕ
job_wakes p = wakes_of (lowests (graph_of p) (modules_of p))

-- "rounds with limit 65535"
abbrev pub max_rounds : ℕ
max_rounds = 65535

-- each call where the one before was not refused
unfoldable pub job_run : Plan → List ℕ → Ran Held
job_run p lent =
    let s = set_up p lent in
    let w = run_bytes (job_wakes p) s.state in
    cond (not (eqb s.refusal 0)) (refused_run s.refusal s.state)
    (cond (not (eqb w.refusal 0)) (refused_run w.refusal w.state)
    (run_rounds max_rounds w.state))

-- the same from the code's answer: a job that is refused is refused by its setup, and has done no round
abbrev pub job_told : Result Job Refusal → List ℕ → Ran Held
job_told (Ok j) words = record { done = j.rounds; refusal = 0; state = record { field = j.field; words = words } }
job_told (Err r) words = record { done = 0; refusal = numbered r; state = record { field = blank_field; words = words } }
