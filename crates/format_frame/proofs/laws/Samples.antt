-- Samples of frames: document 01's starred ones, and one for each refusal. One theorem over the table (`all-hold`).
use Rattle.std.specs.Prelude.{ℕ, ◌≡◌, refl, List, [], ◌∷◌, Bool, true, ◌&&◌, eqb}
use Rattle.base.specs.Test.{same_list}
use Rattle.format_message.specs.Msg.{Msg, none, connect, initiate, test, report}
use Rattle.format_message.specs.Header.{parts_of, header_of, carried_of}
use Rattle.format_message.specs.Listed.{bare, listed_as, listed}
use Rattle.format_frame.specs.Frame.{frame_bytes, frame_refusal}

pub data FrameRow : Type 0 where
  -- a message and its frame
  says : Msg → List ℕ → FrameRow
  -- bytes and what the check answers
  answers : List ℕ → ℕ → FrameRow

unfoldable pub row_holds : FrameRow → Bool
row_holds (says m s) = same_list (frame_bytes (header_of m) (carried_of m)) s && eqb (frame_refusal s) 0
row_holds (answers s r) = eqb (frame_refusal s) r

unfoldable pub all_hold : List FrameRow → Bool
all_hold [] = true
all_hold (r ∷ rs) = row_holds r && all_hold rs

abbrev pub frame_rows : List FrameRow
frame_rows =
    -- * "Initiate, level 2, link 5, Find: frame 01 00 03 52 00 05 (hexadecimal)."
    says (initiate 2 5 1) (0x01 ∷ 0x00 ∷ 0x03 ∷ 0x52 ∷ 0x00 ∷ 0x05 ∷ [])
    -- * "Connect, level 0: 01 00 03 01 FF FF."
    ∷ says (connect 0) (0x01 ∷ 0x00 ∷ 0x03 ∷ 0x01 ∷ 0xff ∷ 0xff ∷ [])
    ∷ says (test 7 599) (0x01 ∷ 0x00 ∷ 0x03 ∷ 0x3b ∷ 0x02 ∷ 0x57 ∷ [])
    ∷ says (report none) (0x01 ∷ 0x00 ∷ 0x03 ∷ 0x06 ∷ 0xff ∷ 0xff ∷ [])
    ∷ answers [] 61
    ∷ answers (1 ∷ 0 ∷ 3 ∷ 1 ∷ 255 ∷ []) 61
    ∷ answers (2 ∷ 0 ∷ 3 ∷ 1 ∷ 255 ∷ 255 ∷ []) 62
    ∷ answers (1 ∷ 0 ∷ 4 ∷ 1 ∷ 255 ∷ 255 ∷ []) 62
    -- bit 7; kind 0; a Test of level 0; link 600
    ∷ answers (1 ∷ 0 ∷ 3 ∷ 129 ∷ 255 ∷ 255 ∷ []) 63
    ∷ answers (1 ∷ 0 ∷ 3 ∷ 0 ∷ 255 ∷ 255 ∷ []) 63
    ∷ answers (1 ∷ 0 ∷ 3 ∷ 3 ∷ 0 ∷ 5 ∷ []) 63
    ∷ answers (1 ∷ 0 ∷ 3 ∷ 11 ∷ 2 ∷ 88 ∷ []) 63
    ∷ []

pub all-hold : all_hold frame_rows ≡ true
unfolding row_holds same_list frame_refusal listed listed_as bare parts_of all_hold
all-hold = refl
