-- A word and a number, the same on a line, and the line of a refused plan.
use Rattle.std.specs.Prelude.{ℕ, List, ◌++◌}
use Prim.Native.String.{String}
use Rattle.format_text.specs.Ascii.{ascii}
use Rattle.format_text.specs.Decimal.{decimal}

abbrev pub named : String → ℕ → List ℕ
named word n = ascii word ++ decimal n

abbrev pub line : String → ℕ → List ℕ
line word n = named word n ++ ascii "\n"

-- "A refused plan prints one line, as "refused .."."
abbrev pub refused_text : ℕ → List ℕ
refused_text number = line "refused " number
