-- What the tracing program prints for the bytes that it reads.
use Rattle.std.specs.Prelude.{ℕ, ◌+◌, min, cond, List, length, take, drop, replicate, eqb}
use Rattle.format_int16.specs.Int16.{at16}
use Rattle.base.specs.Loop.{Ran}
use Rattle.format_text.specs.Lines.{refused_text}
use Rattle.plan_file.specs.Reading.{read_plan}
use Rattle.plan.specs.Links.{Plan}
use Rattle.plan.specs.Trimmed.{trimmed}
use Rattle.field.specs.Edges.{ceiling_of}
use Rattle.field.specs.Valid.{waiting_in}
use Rattle.field.specs.Held.{Held, fresh}
use Rattle.field_calls.specs.Call.{run_bytes}
use Rattle.text_trace.specs.Text.{trace_text}

-- "It sets up with exactly M words"; the field holds the plan with zeros past its links
abbrev pub fresh_held : Plan → Held
fresh_held p = record { field = fresh (trimmed p); words = replicate (ceiling_of p) 0 }

-- of what a run answers and leaves
unfoldable pub ran_text : Plan → Ran Held → List ℕ
ran_text p r = trace_text p r.state.field r.done r.refusal (waiting_in r.state.words)

-- how many bytes are the plan's: "its first 3 bytes and as many more as its length says, all there is if that is less"
abbrev pub plan_part : List ℕ → ℕ
plan_part s = min (length s) (3 + at16 s 1)

-- "Standard input is a plan's bytes .. followed at once by a schedule's bytes. It sets up .. and runs the schedule." "`refused R` for a refused
-- plan"
unfoldable pub traced : List ℕ → List ℕ
traced s =
    let g = read_plan (take (plan_part s) s) in
    cond (eqb g.refusal 0) (ran_text g.plan (run_bytes (drop (plan_part s) s) (fresh_held g.plan))) (refused_text g.refusal)
