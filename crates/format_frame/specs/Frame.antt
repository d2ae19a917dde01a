-- Radio frames: the bytes of a message, and which bytes are refused.
use Rattle.std.specs.Prelude.{ℕ, Result, Ok, Err, List, ◌∷◌, not, cond, ◌&&◌, length, get_or, eqb}
use Rattle.base.specs.Loop.{After, answering}
use Rattle.base.specs.Refuse.{or_else}
use Rattle.refusal.specs.declared.Refusal.{Refusal}
use Rattle.refusal.specs.Number.{numbered}
use Rattle.format_int16.specs.Int16.{at16, bytes16}
use Rattle.format_message.specs.Listed.{listed}

-- "A frame is version byte 1, length 3, header, carried number: 6 bytes."
abbrev pub frame_bytes : ℕ → ℕ → List ℕ
frame_bytes header carried = 1 ∷ 0 ∷ 3 ∷ header ∷ bytes16 carried

-- the first that applies: "61 not 6 bytes; 62 version or length; 63 header or carried number not listed"
unfoldable pub frame_refusal : List ℕ → ℕ
frame_refusal s =
    or_else (not (eqb (length s) 6)) 61
    (or_else (not (eqb (get_or s 0 0) 1 && eqb (at16 s 1) 3)) 62
    (or_else (not (listed (get_or s 3 0) (at16 s 4))) 63 0))

-- what reading bytes answers: the refusal, or 0 and what the frame says; zeros beside a refusal
pub record Frame : Type 0 where
  pub refusal : ℕ
  pub header : ℕ
  pub carried : ℕ

-- the same from the reader's answer
abbrev pub frame_said : Result (ℕ × ℕ) Refusal → Frame
frame_said (Ok f) = record { refusal = 0; header = f.0; carried = f.1 }
frame_said (Err r) = record { refusal = numbered r; header = 0; carried = 0 }

-- what the reader answers: a refusal answers its number alone
unfoldable pub frame_read : List ℕ → Frame
frame_read s =
    cond (eqb (frame_refusal s) 0)
    (record { refusal = 0; header = get_or s 3 0; carried = at16 s 4 })
    (record { refusal = frame_refusal s; header = 0; carried = 0 })

-- "63 header or carried number not listed (the frame writer too, then 64 for a buffer not 6 bytes)"
unfoldable pub frame_write_refusal : ℕ → ℕ → List ℕ → ℕ
frame_write_refusal header carried out = or_else (not (listed header carried)) 63 (or_else (not (eqb (length out) 6)) 64 0)

-- the writer's answer, and what the buffer holds then
unfoldable pub frame_written : ℕ → ℕ → List ℕ → After (List ℕ)
unfolding frame_write_refusal
frame_written header carried out = answering (frame_write_refusal header carried out) out (frame_bytes header carried)
