-- Which bytes are taken: the plan writer's refusals 11 to 18, "in this order".
use Rattle.std.specs.Prelude.{Result, Ok, Err, ℕ, ◌+◌, ◌*◌, ◌-◌, ◌≡◌, cond, not, ◌||◌, List, eqb, ltb, length, get_or}
use Rattle.base.specs.Refuse.{or_else, first_refusal}
use Rattle.refusal.specs.declared.Refusal.{Refusal}
use Rattle.refusal.specs.Number.{numbered}
use Rattle.plan.specs.Refusal.{counts_refusal, plan_refusal}
use Rattle.plan.specs.Links.{Plan}
use Rattle.plan_file.specs.Layout.{number_at, decode, blank}

-- "11 fewer than 3 bytes; 12 version; 13 length not the bytes that follow, or below 4"
unfoldable pub head_verdict : ℕ → ℕ → ℕ → ℕ → ℕ
head_verdict size version len counts =
    or_else (ltb size 3) 11 (or_else (not (eqb version 1)) 12 (or_else (not (eqb len (size - 3)) || ltb len 4) 13 counts))

-- then "14 ..; 15 L above 600 or not fitting the length", as of the plan value, with the length to fit
abbrev pub head_refusal : List ℕ → ℕ
head_refusal s = head_verdict (length s) (get_or s 0 0) (number_at s 0) (counts_refusal (number_at s 1) (number_at s 2) (eqb (number_at s 0) (4 + 8 * number_at s 2)))

-- "then for each link 16 ..; 17 ..; 18 ..": as of the plan value
unfoldable pub read_refusal : List ℕ → ℕ
read_refusal s = first_refusal (head_refusal s) (plan_refusal (decode s))

-- what reading bytes answers: the refusal, or 0 and the plan
pub record Outcome : Type 0 where
  pub refusal : ℕ
  pub plan : Plan

-- the same from the reader's answer, beside a refusal a plan of zeros
abbrev pub outcome_of : Result Plan Refusal → Outcome
outcome_of (Ok p) = record { refusal = 0; plan = p }
outcome_of (Err r) = record { refusal = numbered r; plan = blank }

-- the plan where it is taken, else the number and a plan of zeros
unfoldable pub read_plan : List ℕ → Outcome
read_plan s = cond (eqb (read_refusal s) 0) (record { refusal = 0; plan = decode s }) (record { refusal = read_refusal s; plan = blank })

-- the check's answer, with the plan that it leaves where the bytes are taken
pub record Loaded (s : List ℕ) (refusal : ℕ) (plan : Plan) : Type 0 where
  pub right : refusal ≡ read_refusal s
  pub loaded : refusal ≡ 0 → plan ≡ decode s
