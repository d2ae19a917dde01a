-- cue_verdict::decide: what `arriving` asks for is what it tells that no number applies.
use Rattle.std.proofs.Common.{arith}
use Rattle.std.proofs.lemmas.Bool.Decides.{nat_tests}
use Rattle.refusal.proofs.laws.Number.{positive}
use Rattle.std.specs.Prelude.{◌≡◌}
use Rattle.field.specs.Held.{Held}
use Rattle.cue.specs.Calls.{delivery_refusal}
use Rattle.cue.proofs.laws.Refusals.{ready-accepted, delivery-facts}
use Rattle.cue_verdict.specs.Verdict.{hearing}
use Rattle.cue_verdict.proofs.decide.Goals as goal

pub returns-in_err-refusal : goal.returns-in_err-refusal
unfolding hearing
returns-in_err-refusal c = grind (arith, nat_tests, positive)

pub arriving-requires : goal.arriving-requires
arriving-requires c = let h : Held = record { field = c.args.f.now; words = c.args.words.now } in let z : delivery_refusal h c.args.lent c.args.row c.args.d ≡ 0 = grind arith in let g = delivery-facts h _ _ _ z in (ready-accepted h g.ready, g.ready.agreed, g.left, g.below)

pub returns : goal.returns
unfolding hearing
returns c = let e = c.arriving.ensures c.args.lent in grind (arith, nat_tests, positive)
