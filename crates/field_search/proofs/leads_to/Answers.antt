-- field_search::leads_to: past the links by `dest-past`, else the definition's two cases, even and odd.
use native.Mathlib.Omega.{arith}
use mathlib.Core.Path.{sym}
use borrow.Author.Rules.{rules}
use Rattle.field_search.proofs.Queue.{dest-past, dest-even, dest-odd}
use Rattle.field_search.proofs.leads_to.Goals as goal

pub returns-then-k-ge-MAX_LINKS : goal.returns-then-k-ge-MAX_LINKS
returns-then-k-ge-MAX_LINKS c = sym (dest-past c.args.plan.now c.args.d c.requires (omega arith))

pub returns-then-d-eq0 : goal.returns-then-d-eq0
returns-then-d-eq0 c = search (rules, dest-even)

pub returns : goal.returns
returns c = search (rules, dest-odd)
