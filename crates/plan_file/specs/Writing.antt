-- Writing a plan value into a lent buffer.
use Rattle.std.specs.Prelude.{ℕ, ◌+◌, ◌*◌, List, ◌++◌, ltb, length, drop}
use Rattle.base.specs.Loop.{After, answering}
use Rattle.base.specs.Refuse.{or_else, first_refusal}
use Rattle.plan.specs.Links.{Plan, links_of}
use Rattle.plan.specs.Refusal.{plan_refusal}
use Rattle.plan_file.specs.Layout.{encode}

-- how many bytes a plan has
abbrev pub size : Plan → ℕ
size p = 7 + 8 * links_of p

-- "The plan writer refuses a plan value .. likewise, then 22 if its buffer is too short": by 14 to 18, since request 08
unfoldable pub write_refusal : Plan → List ℕ → ℕ
unfolding plan_refusal
write_refusal p out = first_refusal (plan_refusal p) (or_else (ltb (length out) (size p)) 22 0)

-- the answer, and what the buffer holds then: "bytes past the plan keep"
unfoldable pub write_plan : Plan → List ℕ → After (List ℕ)
unfolding write_refusal
write_plan p out = answering (write_refusal p out) out (encode p ++ drop (size p) out)
