-- cue_verdict::delivery::refusal: the plan of a field that passes 31 and 71 is accepted, by `field-ready` and `ready-accepted`.
use Rattle.std.proofs.Common.{arith}
use Rattle.std.proofs.lemmas.Bool.Decides.{nat_tests}
use Rattle.refusal.proofs.laws.Number.{positive}
use Rattle.std.specs.Prelude.{◌≡◌}
use Rattle.field.specs.Held.{Held}
use Rattle.cue.specs.Calls.{field_refusal, delivery_refusal}
use Rattle.cue.proofs.laws.Refusals.{field-ready, ready-accepted}
use Rattle.cue_verdict.proofs.delivery.refusal.Goals as goal

pub returns-in_err-of_field : goal.returns-in_err-of_field
unfolding delivery_refusal
returns-in_err-of_field c = grind (arith, nat_tests, positive)

pub overflow_mul-end : goal.overflow_mul-end
overflow_mul-end c = let h : Held = record { field = c.args.f.now; words = c.args.words.now } in let z : field_refusal h 0 ≡ 0 = grind arith in omega (arith, c.links-end.ensures, (ready-accepted h (field-ready h 0 z).0).links_ok)

pub left_by_sending-requires : goal.left_by_sending-requires
left_by_sending-requires c = let h : Held = record { field = c.args.f.now; words = c.args.words.now } in let z : field_refusal h 0 ≡ 0 = grind arith in let r = (field-ready h 0 z).0 in (ready-accepted h r, r.agreed)

pub returns-then-lent-n : goal.returns-then-lent-n
unfolding delivery_refusal
returns-then-lent-n c = grind (arith, nat_tests, positive)

pub returns-then-end-d : goal.returns-then-end-d
unfolding delivery_refusal
returns-then-end-d c = grind (arith, nat_tests, positive)

pub returns : goal.returns
unfolding delivery_refusal
returns c = grind (arith, nat_tests, positive)
