-- What a program prints of its input. It reads into a buffer; what it owes is the text of the whole input, however long that is.
use Rattle.std.specs.Prelude.{ℕ, ◌≡◌, List, take}
use Rattle.base.specs.Limits.{AllBytes}
use Rattle.format_text.specs.declared.Intake.{Intake}

-- how many bytes there was room for, and how many came
abbrev pub room_of : Intake → ℕ
room_of i = i.room

abbrev pub count_of : Intake → ℕ
count_of i = i.count

-- The text is that of every input that reading can have left so, until the room was full or the input ended: as many of the input's
-- first bytes as there was room for are those that came.
abbrev pub OfInput : (List ℕ → List ℕ) → List ℕ → Intake → List ℕ → Type 0
OfInput told space i text = (s : List ℕ) → AllBytes s → take (room_of i) s ≡ take (count_of i) space → text ≡ told s
