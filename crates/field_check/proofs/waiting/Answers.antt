-- field_check::waiting: the words before the first zero, counted, are those that wait, by `waiting-is`.
use Rattle.std.proofs.Common.{eqb, not, rules, tests}
use Rattle.std.proofs.lemmas.Iterator.{YieldsList-from_slice}
use Rattle.std.proofs.lemmas.Iterator.Consumers.{count_from_yields_List}
use Rattle.std.proofs.lemmas.Iterator.Search.{YieldsList-from_take_while}
use Rattle.std.proofs.lemmas.List.Folds.{length-prefix_len}
use Rattle.field_check.proofs.Words.{waiting-is}
use Rattle.field_check.proofs.waiting.Goals as goal

pub returns : goal.returns
returns c =
    let ws = c.args.lent.now in
    rw (waiting-is ws, ← length-prefix_len (λ x. not (eqb x 0)) ws)
    (count_from_yields_List c.take_while.result _ c.count.ensures.ran
    (YieldsList-from_take_while _ (λ x. not (eqb x 0)) (YieldsList-from_slice ws cc) c.take_while.ensures.closure c.take_while.ensures.done (λ x b q k. search (rules, tests))))
