-- A field's numbers from its cells and marks alone; a mark of 16 bits cut to 8.
use Rattle.std.specs.Prelude.{ℕ, cond, List, [], ltb}
use Rattle.field.specs.Held.{field_from}
use Rattle.store.specs.Layout.{entry_at}

-- the number at a place: neither plan nor count is looked at
abbrev pub parts_at : List ℕ → List ℕ → ℕ → ℕ
parts_at cells marks = entry_at (field_from [] cells marks 0)

-- "marks .. take 16 bits", a field's have 8: one that does not fit is the largest, which 31 refuses as well
unfoldable pub cut_mark : ℕ → ℕ
cut_mark x = cond (ltb 255 x) 255 x
