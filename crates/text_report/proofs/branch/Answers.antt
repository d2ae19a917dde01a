-- text_report::branch: from the clauses of what it calls, by the definitions.
use Rattle.std.proofs.Common.{rules, tests, sym}
use Rattle.format_text.proofs.laws.Pages.{has_put_none, has_put_two, has_put_as}
use Rattle.text_report.specs.Text.{branch_text}
use Rattle.text_report.proofs.laws.Text.{branch_one}
use Rattle.text_report.proofs.branch.Goals as goal

pub returns-then-mark-ne-BRANCH : goal.returns-then-mark-ne-BRANCH
unfolding branch_text
returns-then-mark-ne-BRANCH c = search (tests, rules, has_put_none)

pub returns : goal.returns
returns c = has_put_as (sym (branch_one _ _ _ _ c.if-mark-ne-BRANCH.false)) (search (rules, has_put_two))
