-- cue_verdict::gate::of_field: from the clauses of what it calls, by the definitions.
use Rattle.std.proofs.Common.{rules}
use Rattle.field_check.proofs.Admitted.{invalid, passes}
use Rattle.cue.proofs.laws.Refusals.{valid-plan-taken, field-31, field-71}
use Rattle.cue_verdict.proofs.gate.of_field.Goals as goal

pub returns-in_err-admit : goal.returns-in_err-admit
returns-in_err-admit c = grind (rules, invalid, field-31)

pub branches_agree-requires : goal.branches_agree-requires
branches_agree-requires c = valid-plan-taken (record { field = c.args.f.now; words = c.args.words.now }) (grind (rules, passes))

pub returns-then-not-branches_agree : goal.returns-then-not-branches_agree
returns-then-not-branches_agree c = grind (rules, passes, field-71)

pub returns : goal.returns
returns c = grind (rules, passes)
