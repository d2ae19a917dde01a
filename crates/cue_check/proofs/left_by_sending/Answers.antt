use mir.Val.{bool_byte}
use Rattle.std.proofs.Common.{◌≡◌, refl, Bool, true, false, length, sym, ap, ◌∙◌, arith, rules}
use Rattle.base.specs.Cond.{bit}
use Rattle.base.specs.Limits.{max_modules}
use Rattle.cue.specs.Calls.{right_at, is_sender}
use Rattle.cue_check.proofs.laws.Right.{record-read, right-read}
use Rattle.cue_check.proofs.laws.Pass.{below_start, below_on, below-stops, below_over}
use Rattle.cue_check.proofs.left_by_sending.Goals.{After-right}
use Rattle.cue_check.proofs.left_by_sending.Goals as goal

-- a `bool` as a number
byte-is : (b : Bool) → bool_byte b ≡ bit b
byte-is true = refl
byte-is false = refl

full : (c : After-right) → length c.args.row ≡ max_modules
full c = search rules

right-here : (c : After-right) → c.right.result ≡ right_at c.args.plan.now c.args.row c.loop-v.v
right-here c =
    c.right.ensures ∙ right-read c.args.plan.now c.args.row _ c.loop-v.v c.facing.result (omega (arith, full c)) (omega (arith, full c)) c.facing.ensures.1

pub loop-v-init : goal.loop-v-init
loop-v-init c = below_start _ _

pub returns-then-not-right : goal.returns-then-not-right
returns-then-not-right c =
    below-stops _ _ _ (omega arith) (sym (right-here (goal.at.returns-then-not-right c).After-right) ∙ c.if-not-right.true)

pub loop-v-preserved : goal.loop-v-preserved
loop-v-preserved c =
    let here = (goal.at.loop-v-preserved c).After-right in
    let told = c.is_sender.ensures ∙ ap is_sender (record-read c.args.row _ _ (omega (arith, full here))) in
    below_on _ _ _ _ _ c.loop-v.invariant (sym (right-here here) ∙ c.if-not-right.false) (c.from-senders.ensures ∙ byte-is _ ∙ ap bit told)

pub returns : goal.returns
returns c = below_over _ _ _ _ (omega arith) c.loop-v.invariant
