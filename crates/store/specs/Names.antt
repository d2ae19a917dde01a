-- Names, the name in a record, and where the record of a name stands.
use Rattle.std.specs.Prelude.{ℕ, ◌+◌, Bool, cond, not, ◌&&◌, List, [], ◌∷◌, length, get_or, take, drop, eqb, leb}
use Rattle.base.specs.Test.{same_list}
use Rattle.field.specs.Valid.{all_of}
use Rattle.store.specs.declared.Spot.{Spot}
use Rattle.store.specs.Records.{records_in}

-- "names of 1 to 12 letters a to z"
abbrev pub is_letter : ℕ → Bool
is_letter x = leb 97 x && leb x 122

abbrev pub longest_name : ℕ
longest_name = 12

unfoldable pub name_fits : List ℕ → Bool
name_fits name = leb 1 (length name) && leb (length name) longest_name && all_of is_letter name

-- ".. a name length byte, the name, ..", behind version and length
abbrev pub name_size : List ℕ → ℕ
name_size r = get_or r 5 0

unfoldable pub name_in : List ℕ → List ℕ
name_in r = take (name_size r) (drop 6 r)

-- ".. the field and its waiting words": what is left of the record
unfoldable pub body_in : List ℕ → List ℕ
body_in r = drop (6 + name_size r) r

-- a record of this name
abbrev pub is_named : List ℕ → List ℕ → Bool
is_named name r = same_list name (name_in r)

-- where the first record that passes stands, from byte a on; size 0 where there is none
unfoldable pub spot_from : (List ℕ → Bool) → ℕ → List (List ℕ) → Spot
spot_from q a [] = record { at = a; size = 0 }
spot_from q a (r ∷ rs) = cond (q r) (record { at = a; size = length r }) (spot_from q (a + length r) rs)

-- the records without the first that passes: "the others close up in their order"
unfoldable pub without_first : (List ℕ → Bool) → List (List ℕ) → List (List ℕ)
without_first q [] = []
without_first q (r ∷ rs) = cond (q r) rs (r ∷ without_first q rs)

abbrev pub spot_of : List ℕ → List ℕ → Spot
spot_of name s = spot_from (is_named name) 0 (records_in s)

-- a record of the name is among them
abbrev pub held_among : List ℕ → List (List ℕ) → Bool
held_among name rs = not (eqb (spot_from (is_named name) 0 rs).size 0)

abbrev pub holds : List ℕ → List ℕ → Bool
holds name s = held_among name (records_in s)

-- "shows its record as a part of the lent store": that part, empty where the name is not held
abbrev pub shown_part : List ℕ → List ℕ → List ℕ
shown_part name s = take (spot_of name s).size (drop (spot_of name s).at s)
