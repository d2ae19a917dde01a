use Rattle.std.proofs.Common.{rules}
use Rattle.field_search.proofs.Search.{counted_start, counted-one, counted-on, counted-all}
use Rattle.field_search.proofs.many_in_queue.Goals.{then-in_queue, else-in_queue}
use Rattle.field_search.proofs.many_in_queue.Goals as goal

pub loop-w-init : goal.loop-w-init
loop-w-init c = search (rules, counted_start)

pub loop-w-preserved : goal.loop-w-preserved
loop-w-preserved c =
    elim c.if-in_queue.branch [
      | then-in_queue w ↦ search (rules, counted-one)
      | else-in_queue w ↦ search (rules, counted-on)
    ]

pub returns : goal.returns
returns c = search (rules, counted-all)
