-- host_setup::setup: from the clauses of what it calls, by the definitions.
use Rattle.std.proofs.Common.{◌≡◌, length, replicate, arith, rules}
use Rattle.std.proofs.lemmas.Bool.Decides.{nat_tests}
use Rattle.refusal.proofs.laws.Number.{positive}
use Rattle.plan.proofs.laws.Accepted.{accepted}
use Rattle.field.specs.Held.{set_up}
use Rattle.host_setup.proofs.setup.Goals as goal

pub returns-in_err-check : goal.returns-in_err-check
unfolding set_up
returns-in_err-check c = grind (arith, nat_tests, positive)

pub returns-then-words-ceiling_of : goal.returns-then-words-ceiling_of
unfolding set_up
returns-then-words-ceiling_of c = grind (arith, nat_tests)

pub fresh_field-requires : goal.fresh_field-requires
fresh_field-requires c = (accepted c.args.p.now (grind arith)).links_ok

pub returns : goal.returns
unfolding set_up
returns c =
    let zeros : c.fill.new.self ≡ replicate (length c.args.words.now) 0 = search rules in
    grind (arith, nat_tests)
