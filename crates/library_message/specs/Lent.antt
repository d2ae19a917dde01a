-- A frame read into lent memory.
use Rattle.std.specs.Prelude.{ℕ, cond, List, eqb}
use Rattle.format_frame.specs.Frame.{Frame}
use Rattle.format_frame.specs.Frame.{frame_read}

-- what `frame_read` gives, and "a refused call alters no .. lent byte or word": header and carried number as they were
unfoldable pub frame_into : List ℕ → ℕ → ℕ → Frame
frame_into s header carried =
    cond (eqb (frame_read s).refusal 0) (frame_read s) (record { refusal = (frame_read s).refusal; header = header; carried = carried })
