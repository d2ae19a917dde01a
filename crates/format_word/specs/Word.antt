-- A waiting message in a 64-bit word: the layout, and the waiting message that a word means.
use Rattle.std.specs.Prelude.{ℕ, ◌+◌, ◌-◌, ◌*◌, ◌/◌, ◌%◌, ◌^◌, Bool, ◌&&◌, eqb}
use Rattle.base.specs.Cond.{bit}
use Rattle.format_message.specs.Msg.{Msg}
use Rattle.format_message.specs.Header.{header_of, carried_of, meant}
use Rattle.format_message.specs.Listed.{listed}

-- "A word has the header in bits 0 to 7, carried number in 8 to 23, directed link in 24 to 39, bit 40 set once handed over, bit 41
-- always set, the rest clear."
abbrev pub packed : ℕ → ℕ → ℕ → ℕ → ℕ
packed header carried link handed = 2 ^ 41 + handed * 2 ^ 40 + link * 2 ^ 24 + carried * 2 ^ 8 + header

abbrev pub header_in : ℕ → ℕ
header_in w = w % 2 ^ 8

abbrev pub carried_in : ℕ → ℕ
carried_in w = w / 2 ^ 8 % 2 ^ 16

-- the directed link (one of the two channels of an edge)
abbrev pub link_in : ℕ → ℕ
link_in w = w / 2 ^ 24 % 2 ^ 16

abbrev pub handed_in : ℕ → Bool
handed_in w = eqb (w / 2 ^ 40 % 2) 1

-- bit 41 set, and none above it
abbrev pub shaped : ℕ → Bool
shaped w = eqb (w / 2 ^ 41) 1

-- a word as laid out: shaped, and its header and carried number are those of a listed message
abbrev pub laid_out : ℕ → Bool
laid_out w = shaped w && listed (header_in w) (carried_in w)

-- bit 40 set, the others as they were
abbrev pub hand_over : ℕ → ℕ
hand_over w = w + (1 - w / 2 ^ 40 % 2) * 2 ^ 40

-- a waiting message: what it says, the directed link it goes by, and whether the air has handed it over
pub record Waiting : Type 0 where
  pub msg : Msg
  pub link : ℕ
  pub handed : Bool

abbrev pub waiting_of : ℕ → Waiting
waiting_of w = record { msg = meant (header_in w) (carried_in w); link = link_in w; handed = handed_in w }

abbrev pub pack_waiting : Waiting → ℕ
pack_waiting x = packed (header_of x.msg) (carried_of x.msg) x.link (bit x.handed)
