-- A module's values as the trace prints them, computed: ten of them, "-" for none (`values-samples`).
use Rattle.std.specs.Prelude.{ℕ, ◌≡◌, refl, List, [], ◌∷◌, map, get_or}
use Rattle.base.specs.None.{none}
use Rattle.format_text.specs.Ascii.{ascii}
use Rattle.format_text.specs.Decimal.{decimal}
use Rattle.node.specs.Work.{values, setup, node_by}
use Rattle.text_trace.specs.Text.{link_item, values_text}

-- a node's numbers, and their text
pub record ValuesRow : Type 0 where
  pub numbers : List ℕ
  pub text : List ℕ

abbrev row : List ℕ → List ℕ → ValuesRow
row numbers text = record { numbers = numbers; text = text }

abbrev rows : List ValuesRow
rows =
    -- asleep; woken over link 1, in-branch 2; all numbers different, so that none can stand for another
    row (values setup) (ascii " 0 0 - - - - - 0 0 -")
    ∷ row (2 ∷ 1 ∷ 0 ∷ none ∷ none ∷ none ∷ 2 ∷ 0 ∷ 0 ∷ 1 ∷ []) (ascii " 2 1 0 - - - 2 0 0 1")
    ∷ row (1 ∷ 2 ∷ 10 ∷ 11 ∷ 12 ∷ 13 ∷ 599 ∷ 3 ∷ 0 ∷ 14 ∷ []) (ascii " 1 2 10 11 12 13 599 3 0 14")
    ∷ []

pub values-samples : map (λ r. values_text (node_by (λ j. get_or r.numbers j 0))) rows ≡ map (λ r. r.text) rows
unfolding link_item decimal
values-samples = refl
