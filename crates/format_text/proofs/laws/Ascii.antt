-- A text in quotes, computed.
use Rattle.std.specs.Prelude.{◌≡◌, refl, [], ◌∷◌}
use Rattle.format_text.specs.Ascii.{ascii}

ascii-sample : ascii "core 0\n" ≡ 99 ∷ 111 ∷ 114 ∷ 101 ∷ 32 ∷ 48 ∷ 10 ∷ []
ascii-sample = refl
