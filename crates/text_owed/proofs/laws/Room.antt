-- How many bytes of an input are enough for each program.
use Rattle.std.specs.Prelude.{ℕ}

-- of a plan: all that a 16-bit length can tell of, and one more (in code PLANROOM too)
abbrev pub PLANROOM : ℕ
PLANROOM = 65539

-- of a plan and what follows it: the longest plan, the longest schedule, and one more (in code RUNROOM too)
abbrev pub RUNROOM : ℕ
RUNROOM = 70346
