-- A field and the words lent with it: what the host holds. Setup, and a step given alone.
use Rattle.std.specs.Prelude.{ℕ, zero, suc, ◌-◌, Bool, cond, not, ◌&&◌, List, [], ◌++◌, length, replicate, eqb, ltb, leb}
use Rattle.base.specs.Limits.{max_modules, max_ends}
use Rattle.base.specs.Loop.{After, taken_to, refused_by}
use Rattle.plan.specs.Refusal.{plan_refusal}
use Rattle.plan.specs.Links.{Plan, blank}
use Rattle.plan.specs.Trimmed.{trimmed}
use Rattle.node.specs.Work.{setup}
use Rattle.field.specs.declared.Field.{Field}
use Rattle.field.specs.Edges.{ceiling_of}
use Rattle.field.specs.State.{State, CELLS, values}
use Rattle.field.specs.Step.{step}
use Rattle.field.specs.Valid.{waiting_in, zero_after, fits}

pub record Held : Type 0 where
  pub field : Field
  pub words : List ℕ

-- the same from the field's parts
abbrev pub field_from : Plan → List ℕ → List ℕ → ℕ → Field
field_from p cells marks sent = record { plan = p; cells = cells; marks = marks; sent = sent }

abbrev pub held_from : Plan → List ℕ → List ℕ → ℕ → List ℕ → Held
held_from p cells marks sent words = record { field = field_from p cells marks sent; words = words }

-- the n lent words in which `words` wait: "from the front and without gaps, zero after the last"
abbrev pub layout : ℕ → List ℕ → List ℕ
layout n words = words ++ replicate (n - length words) 0

-- what a step works on, and the same put back
abbrev pub state_of : Held → State
state_of h =
    record { cells = h.field.cells; marks = h.field.marks; words = waiting_in h.words; sent = h.field.sent }

abbrev pub held_of : Held → State → Held
held_of h s =
    record {
      field = record { plan = h.field.plan; cells = s.cells; marks = s.marks; sent = s.sent };
      words = layout (length h.words) s.words;
    }

-- 31 does not apply: no plan that is refused, no words fewer than M, none but 0 behind those that wait, a state that fits
unfoldable pub valid : Held → Bool
valid h =
    eqb (plan_refusal h.field.plan) 0 && leb (ceiling_of h.field.plan) (length h.words) && zero_after h.words
    && fits h.field.plan (state_of h)

-- "Setup gives zeros and nones": the cells of n modules
unfoldable pub fresh_cells : ℕ → List ℕ
fresh_cells zero = []
fresh_cells (suc n) = values setup ++ fresh_cells n

-- "The sent count starts at 0": all marks Basic, nothing sent
abbrev pub unmarked : Plan → List ℕ → Field
unmarked p cells = record { plan = p; cells = cells; marks = replicate max_ends 0; sent = 0 }

abbrev pub fresh : Plan → Field
fresh p = unmarked p (fresh_cells max_modules)

-- "every refusal answers its number alone": a field of zeros beside it, and the words as they were; of setup, and of restoring (request 06)
abbrev pub blank_field : Field
blank_field = unmarked blank (replicate CELLS 0)

abbrev pub not_set_up : ℕ → List ℕ → After Held
not_set_up number lent = refused_by number (record { field = blank_field; words = lent })

-- "Setup needs M words or more and zeroes all of them". "21 fewer words than M .. (.. after the plan's checks)". "The field holds its plan": with zeros
-- past the links, where a plan's numbers mean nothing, so that a saved field comes back whole (request 06)
unfoldable pub set_up : Plan → List ℕ → After Held
set_up p lent =
    cond (not (eqb (plan_refusal p) 0)) (not_set_up (plan_refusal p) lent)
    (cond (ltb (length lent) (ceiling_of p)) (not_set_up 21 lent)
    (taken_to (record { field = fresh (trimmed p); words = replicate (length lent) 0 })))

-- A step given alone: 31 "before all else", then 54, 41 to 45, 32, 33.
unfoldable pub step_alone : ℕ → ℕ → Held → After Held
step_alone kind number h =
    cond (not (valid h)) (refused_by 31 h)
    (let a = step h.field.plan kind number (state_of h) in record { refusal = a.refusal; state = held_of h a.state })
