-- How long a word and a number are at most, and the same on a line (`named-length`, `line-length`).
use Rattle.std.specs.Prelude.{ℕ, ◌+◌, ◌≤◌, List, ◌++◌, length}
use Prim.Native.String.{String}
use Rattle.std.proofs.Common.{arith, length-append}
use Rattle.format_text.specs.Ascii.{ascii}
use Rattle.format_text.specs.Decimal.{decimal}
use Rattle.format_text.proofs.laws.Decimal.{decimal-length}
use Rattle.format_text.specs.Lines.{named, line}

-- two texts within their limits
pub both : (s t : List ℕ) {m n : ℕ} → length s ≤ m → length t ≤ n → length (s ++ t) ≤ m + n
both s t h k = rw (length-append s t) (omega arith)

module _ (word : String) (n : ℕ) where
  pub named-length : length (named word n) ≤ length (ascii word) + 20
  named-length = both (ascii word) (decimal n) (omega arith) (decimal-length n)

  pub line-length : length (line word n) ≤ length (ascii word) + 20 + 1
  line-length = both (named word n) (ascii "\n") named-length (omega arith)
