-- What a record's bytes mean: its plan, its field, its words.
use Rattle.std.specs.Prelude.{ℕ, suc, ◌+◌, ◌*◌, ◌/◌, ◌%◌, Bool, not, ◌&&◌, List, [], ◌∷◌, ◌++◌, length, set, take, drop, replicate, eqb, leb}
use Rattle.base.specs.Limits.{max_modules, max_ends}
use Rattle.base.specs.Table.{tabulate}
use Rattle.format_int16.specs.Int16.{at16}
use Rattle.format_wide.specs.Wide.{at64}
use Rattle.plan.specs.Links.{Plan}
use Rattle.plan_file.specs.Layout.{decode}
use Rattle.plan_file.specs.Reading.{read_refusal}
use Rattle.field.specs.declared.Field.{Field}
use Rattle.field.specs.Edges.{ceiling_of}
use Rattle.field.specs.State.{CELLS}
use Rattle.field.specs.Valid.{all_of}
use Rattle.field.specs.Held.{Held, layout, fresh_cells, valid}
use Rattle.store.specs.Names.{name_fits, name_in, body_in}
use Rattle.store.specs.Layout.{places, field_numbers}

-- the plan's bytes, cut by their own length number, and the plan
unfoldable pub plan_bytes : List ℕ → List ℕ
plan_bytes r = take (3 + at16 (body_in r) 1) (body_in r)

abbrev pub plan_in : List ℕ → Plan
plan_in r = decode (plan_bytes r)

-- what follows it: the 16-bit numbers, then the words
unfoldable pub behind_plan : List ℕ → List ℕ
behind_plan r = drop (length (plan_bytes r)) (body_in r)

abbrev pub numbers_size : List ℕ → ℕ
numbers_size r = 2 * field_numbers (plan_in r)

abbrev pub numbers_in : List ℕ → List ℕ
numbers_in r = take (numbers_size r) (behind_plan r)

abbrev pub words_part : List ℕ → List ℕ
words_part r = drop (numbers_size r) (behind_plan r)

-- 16-bit number q of some bytes; all 64-bit words of some bytes
abbrev pub number_in : List ℕ → ℕ → ℕ
number_in s q = at16 s (2 * q)

abbrev pub words_in : List ℕ → List ℕ
words_in s = tabulate (length s / 8) (λ i. at64 s (8 * i))

-- numbers f q, f (q + 1), .. put at these places, one after the other (a scatter)
unfoldable pub poured : (ℕ → ℕ) → ℕ → List ℕ → List ℕ → List ℕ
poured f q [] entries = entries
poured f q (i ∷ is) entries = poured f (suc q) is (set entries i (f q))

-- before anything is read: setup's values and marks
abbrev pub fresh_entries : List ℕ
fresh_entries = fresh_cells max_modules ++ replicate max_ends 0

abbrev pub entries_in : Plan → List ℕ → List ℕ
entries_in p numbers = poured (number_in numbers) 1 (places p) fresh_entries

abbrev pub field_in : Plan → List ℕ → Field
field_in p numbers =
    record { plan = p; cells = take CELLS (entries_in p numbers); marks = drop CELLS (entries_in p numbers); sent = number_in numbers 0 }

-- the field and the words that a record holds
unfoldable pub held_in : List ℕ → Held
held_in r = record { field = field_in (plan_in r) (numbers_in r); words = words_in (words_part r) }

-- "its field, its words filled up with zeros to M"
abbrev pub filled_up : Held → Held
filled_up h = record { field = h.field; words = layout (ceiling_of h.field.plan) h.words }

-- a record by itself: its name; its plan's bytes; its numbers all there; whole words behind them, none of them 0; its field, which must not meet 31
unfoldable pub record_fits : List ℕ → Bool
record_fits r =
    name_fits (name_in r) && eqb (read_refusal (plan_bytes r)) 0 && leb (numbers_size r) (length (behind_plan r))
    && eqb (length (words_part r) % 8) 0 && all_of (λ w. not (eqb w 0)) (held_in r).words && valid (filled_up (held_in r))
