-- field_check::nodes_fit: the test of a range is that of all modules, by `every-is`.
use Rattle.std.proofs.Common.{rules, tests, arith}
use Rattle.std.proofs.lemmas.Iterator.{YieldsList-from_range}
use Rattle.std.proofs.lemmas.Iterator.Search.{all_from_yields_List}
use Rattle.base.proofs.laws.Chains.{every-is}
use Rattle.field_check.proofs.nodes_fit.Goals as goal

pub returns : goal.returns
returns c =
    rw (← c.modules.ensures, every-is) (all_from_yields_List _ _ _ _ c.all.ensures.ran (YieldsList-from_range 0 c.modules.result c.modules.result (cc) (omega arith)) (λ x b q k. search (rules, tests)))
