-- The kinds of steps and their numbers.
use Rattle.std.specs.Prelude.{ℕ, ◌≡◌, false, Result, MatchResult}
use Rattle.refusal.specs.declared.Refusal.{Refusal}
use Rattle.refusal.specs.declared.Refusal.TheVariants.{StepKind}
use Rattle.field.specs.Step.{WAKE, HAND, SERVE}
use Rattle.field_calls.specs.declared.Kind.{Kind}
use Rattle.field_calls.specs.declared.Kind.TheVariants.{Wake, HandOver, Serve}
use Rattle.field_calls.specs.Schedule.{kind_listed}

abbrev pub kind_number : Kind → ℕ
kind_number Wake = WAKE
kind_number HandOver = HAND
kind_number Serve = SERVE

-- r is the kind of this number; 54 where it is none
abbrev pub IsKind : ℕ → Result Kind Refusal → Type 0
IsKind number r = MatchResult r (λ kind. kind_number kind ≡ number) (λ e. (e ≡ StepKind) × (kind_listed number ≡ false))
