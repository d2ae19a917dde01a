-- field_check::marks_fit: the test of the first marks is that of all directed ends, by `every-front`.
use Rattle.std.proofs.Common.{leb, take, rules, tests, arith, ◌*◌}
use Rattle.std.proofs.lemmas.Iterator.{YieldsList-from_slice}
use Rattle.std.proofs.lemmas.Iterator.Search.{all_from_yields_List}
use Rattle.base.proofs.laws.Chains.{every-front}
use Rattle.node.specs.Work.{REJECTED}
use Rattle.field_check.proofs.marks_fit.Goals as goal

pub returns : goal.returns
returns c =
    rw (← c.links.ensures, every-front (λ m. leb m REJECTED) c.args.marks.now 0 (2 * c.links.result) (omega arith))
    (all_from_yields_List _ _ _ _ c.all.ensures.ran (YieldsList-from_slice (take (2 * c.links.result) c.args.marks.now) cc) (λ x b q k. search (rules, tests)))
