-- What a delivery answers, as C has it: two numbers.
use Rattle.std.specs.Prelude.{ℕ, List}
use Rattle.field.specs.Held.{Held}
use Rattle.cue.specs.declared.Cue.{Cue}
use Rattle.cue.specs.Delivery.{Delivery}
use Rattle.cue.specs.Calls.{deliver_cue, refusal_number, heard_number}
use Rattle.library_cue.specs.declared.Answered.{Answered}

abbrev pub in_numbers : Delivery → Answered
in_numbers a = record { refusal = refusal_number a; heard = heard_number a }

-- the numbers of a delivery, and what the records are then
pub record AfterDelivery : Type 0 where
  pub answered : Answered
  pub cues : List Cue

abbrev pub deliver_in_numbers : Held → List Cue → ℕ → AfterDelivery
deliver_in_numbers h cues d = let x = deliver_cue h cues d in record { answered = in_numbers x.answer; cues = x.cues }
