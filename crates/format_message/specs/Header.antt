-- The header byte: its layout, and the header byte and carried number of each message.
use Rattle.std.specs.Prelude.{ℕ, ◌+◌, ◌*◌, ◌/◌, ◌%◌, ◌^◌, cond, ◌&&◌, eqb, ltb}
use Rattle.format_message.specs.Msg.{none, Msg, connect, initiate, test, accept, reject, report, change}

-- "Header bits 0 to 2 are the kind, 3 to 5 the level, bit 6 is 1 for Find, bit 7 is 0."
abbrev pub header_byte : ℕ → ℕ → ℕ → ℕ
header_byte kind level find = find * 2 ^ 6 + level * 2 ^ 3 + kind

-- of any numbers: 255, whose bit 7 no message has, where one does not fit its bits
unfoldable pub header_from : ℕ → ℕ → ℕ → ℕ
header_from kind level find = cond (ltb kind (2 ^ 3) && ltb level (2 ^ 3) && ltb find 2) (header_byte kind level find) 255

abbrev pub kind_at : ℕ → ℕ
kind_at h = h % 2 ^ 3

abbrev pub level_at : ℕ → ℕ
level_at h = h / 2 ^ 3 % 2 ^ 3

abbrev pub find_at : ℕ → ℕ
find_at h = h / 2 ^ 6 % 2

-- what a message is made of, in numbers
pub record Parts : Type 0 where
  pub kind : ℕ
  pub level : ℕ
  pub carried : ℕ
  pub find : ℕ

abbrev pub parts : ℕ → ℕ → ℕ → ℕ → Parts
parts kind level carried find = record { kind = kind; level = level; carried = carried; find = find }

-- "Kinds: 1 Connect, 2 Initiate, 3 Test, 4 Accept, 5 Reject, 6 Report, 7 Change-root"; "unused parts are 0, an unused carried number none"
unfoldable pub parts_of : Msg → Parts
parts_of (connect l) = parts 1 l none 0
parts_of (initiate l i f) = parts 2 l i f
parts_of (test l i) = parts 3 l i 0
parts_of accept = parts 4 0 none 0
parts_of reject = parts 5 0 none 0
parts_of (report w) = parts 6 0 w 0
parts_of change = parts 7 0 none 0

abbrev pub header_of : Msg → ℕ
header_of m = header_byte (parts_of m).kind (parts_of m).level (parts_of m).find

abbrev pub carried_of : Msg → ℕ
carried_of m = (parts_of m).carried

-- the message of a kind, level, carried number and Find bit (what is no kind is taken for the last: no listed message has it)
unfoldable pub msg_of : ℕ → ℕ → ℕ → ℕ → Msg
msg_of kind level carried find =
    cond (eqb kind 1) (connect level)
    (cond (eqb kind 2) (initiate level carried find)
    (cond (eqb kind 3) (test level carried)
    (cond (eqb kind 4) accept
    (cond (eqb kind 5) reject
    (cond (eqb kind 6) (report carried) change)))))

-- the message that a header byte and a carried number mean
abbrev pub meant : ℕ → ℕ → Msg
meant header carried = msg_of (kind_at header) (level_at header) carried (find_at header)
