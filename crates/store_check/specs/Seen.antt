-- What has been seen of a record before its field and its words are read: the plan (`PlanRead`), that the numbers are all there (`NumbersThere`), that
-- whole words follow them, no more than the ceiling (`WordsThere`).
use Rattle.std.specs.Prelude.{ℕ, ◌+◌, ◌%◌, ◌≤◌, ◌≡◌, List, length, take}
use Rattle.format_int16.specs.Int16.{at16}
use Rattle.plan.specs.Links.{Plan}
use Rattle.plan_file.specs.Reading.{read_refusal}
use Rattle.field.specs.Edges.{ceiling_of}
use Rattle.store.specs.Reading.{plan_bytes, plan_in, behind_plan, numbers_size, words_part, held_in}

-- how many bytes the plan at the front of a record's body takes
abbrev pub plan_size_in : List ℕ → ℕ
plan_size_in body = length (take (3 + at16 body 1) body)

pub record PlanRead (r : List ℕ) (p : Plan) : Type 0 where
  pub taken : read_refusal (plan_bytes r) ≡ 0
  pub is : p ≡ plan_in r

pub record NumbersThere (r : List ℕ) (p : Plan) : Type 0 where
  pub read : PlanRead r p
  pub room : numbers_size r ≤ length (behind_plan r)

pub record WordsThere (r : List ℕ) (p : Plan) : Type 0 where
  pub numbers : NumbersThere r p
  pub whole : length (words_part r) % 8 ≡ 0
  pub enough : length (held_in r).words ≤ ceiling_of p
