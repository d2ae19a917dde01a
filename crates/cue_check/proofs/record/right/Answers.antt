-- cue_check::record::right: from the clauses of what it calls, by the definitions.
use Rattle.std.proofs.Common.{rules, tests}
use Rattle.cue.specs.Calls.{right_of}
use Rattle.cue_check.proofs.record.right.Goals as goal

pub returns-then-c-eq0 : goal.returns-then-c-eq0
unfolding right_of
returns-then-c-eq0 c = search (tests, rules)

pub returns-then-c-eq-NONE : goal.returns-then-c-eq-NONE
unfolding right_of
returns-then-c-eq-NONE c = search (tests, rules)

pub returns-then-own_branch : goal.returns-then-own_branch
unfolding right_of
returns-then-own_branch c = search (tests, rules)

pub returns-else-own_branch : goal.returns-else-own_branch
unfolding right_of
returns-else-own_branch c = search (tests, rules)
