use Rattle.std.proofs.Common.{rules}
use Rattle.field_search.proofs.Search.{counted_start, counted-one, counted-on, counted-all}
use Rattle.field_search.proofs.many_in_air.Goals.{then-in_air, else-in_air}
use Rattle.field_search.proofs.many_in_air.Goals as goal

pub loop-w-init : goal.loop-w-init
loop-w-init c = search (rules, counted_start)

pub loop-w-preserved : goal.loop-w-preserved
loop-w-preserved c =
    elim c.if-in_air.branch [
      | then-in_air w ↦ search (rules, counted-one)
      | else-in_air w ↦ search (rules, counted-on)
    ]

pub returns : goal.returns
returns c = search (rules, counted-all)
