-- host_run::steps::step: one law for each arm.
use Rattle.std.proofs.Common.{arith, rules}
use Rattle.std.proofs.lemmas.Bool.Decides.{nat_tests}
use Rattle.std.specs.Prelude.{◌≡◌, ◌≢◌, Err}
use mathlib.Core.Path.{refl}
use Rattle.field.specs.Step.{hand}
use Rattle.field.proofs.laws.Step.{wake-is-step, hand-is-step, serve-is-step, other-is-54}
use Rattle.refusal.specs.declared.Refusal.TheVariants.{StepKind}
use Rattle.field_serve.specs.Lent.{standing}
use Rattle.field_serve.proofs.Ready.{stays, hands, hand-sound}
use Rattle.field_serve.proofs.Turns.{moves-as}
use Rattle.host_run.proofs.steps.step.Goals as goal

pub returns-in_err-try_from : goal.returns-in_err-try_from
returns-in_err-try_from c = let q : c.from_residual.result ≡ Err StepKind = grind arith in let k : c.args.kind ≢ 1 = grind (arith, nat_tests) in let l : c.args.kind ≢ 2 = grind (arith, nat_tests) in let m : c.args.kind ≢ 3 = grind (arith, nat_tests) in let b = standing c.args.n.now c.args.f.now in rw q (record { advances = stays _ _ _ _ b c.requires _ 54 (other-is-54 _ c.args.kind _ _ k l m) refl; plan = refl })

pub returns-in-Wake : goal.returns-in-Wake
returns-in-Wake c = let e : c.args.kind ≡ 1 = grind arith in moves-as c.wake.ensures (wake-is-step _ _ _ _ e)

pub returns-in-HandOver : goal.returns-in-HandOver
returns-in-HandOver c = let e : c.args.kind ≡ 2 = grind arith in let b = standing c.args.n.now c.args.f.now in moves-as (record { advances = hands _ _ _ _ b c.requires (λ p. hand p c.args.number) (hand-sound _ _ _ _ b c.requires _) c.hand.ensures (search rules) refl; plan = refl }) (hand-is-step _ _ _ _ e)

pub returns-in-Serve : goal.returns-in-Serve
returns-in-Serve c = let e : c.args.kind ≡ 3 = grind arith in moves-as c.serve.ensures (serve-is-step _ _ _ _ e)
