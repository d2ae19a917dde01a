-- Text in a lent buffer: what is put at a place, and the place behind it.
use Rattle.std.specs.Prelude.{ℕ, suc, cond, List, [], ◌∷◌, length, set, ltb}

-- a buffer, and the place where the next text goes
pub record Page : Type 0 where
  pub place : ℕ
  pub bytes : List ℕ

abbrev pub page : ℕ → List ℕ → Page
page at b = record { place = at; bytes = b }

-- with one byte more
abbrev pub byte_on : Page → ℕ → Page
byte_on p c = page (suc p.place) (set p.bytes p.place c)

-- byte by byte; what does not fit is cut off at the buffer's end
unfoldable pub put : Page → List ℕ → Page
put p [] = p
put p (c ∷ t) = cond (ltb p.place (length p.bytes)) (put (byte_on p c) t) p
