-- What a delivery answers: refused by a number, idle or heard.
use Rattle.std.specs.Prelude.{ℕ, Result, Ok, Err}
use Rattle.refusal.specs.declared.Refusal.{Refusal}
use Rattle.refusal.specs.Number.{numbered}
use Rattle.cue.specs.declared.Arrival.{Arrival}
use Rattle.cue.specs.declared.Arrival.TheVariants as A

pub data Delivery : Type 0 where
  Refused : ℕ → Delivery
  -- no copy waits there
  Idle : Delivery
  Heard : Delivery

-- the same of the code's answer
abbrev pub delivery_of : Result Arrival Refusal → Delivery
delivery_of (Ok A.Idle) = Idle
delivery_of (Ok A.Heard) = Heard
delivery_of (Err r) = Refused (numbered r)
