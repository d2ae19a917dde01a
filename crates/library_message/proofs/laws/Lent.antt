-- A frame read into lent memory: taken, what the reader gives (`frame-read-into`); refused, header and carried number as they were
-- (`frame-alters-nothing`).
use Rattle.std.specs.Prelude.{ℕ, ◌≡◌, ◌≢◌, List}
use Rattle.std.proofs.Common.{sym}
use borrow.Author.Tests.{eq-eqb}
use Rattle.base.proofs.laws.Cond.{eqb-diff}
use Rattle.format_frame.specs.Frame.{Frame}
use Rattle.format_frame.specs.Frame.{frame_read}
use Rattle.library_message.specs.Lent.{frame_into}

module _ (s : List ℕ) (header carried : ℕ) (f : Frame) (e : f ≡ frame_read s) where
  pub frame-read-into : f.refusal ≡ 0 → f ≡ frame_into s header carried
  unfolding frame_into
  frame-read-into z = rw (sym e, eq-eqb f.refusal 0 z)

  pub frame-alters-nothing : f.refusal ≢ 0 → record { refusal = f.refusal; header = header; carried = carried } ≡ frame_into s header carried
  unfolding frame_into
  frame-alters-nothing n = rw (sym e, eqb-diff f.refusal 0 n)
