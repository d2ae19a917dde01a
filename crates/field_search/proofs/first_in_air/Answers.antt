-- field_search::first_in_air: what position answers (`position_from_yields_List`) is the definition's place, by `first-is`.
use Rattle.std.proofs.Common.{rules, tests}
use Rattle.std.proofs.lemmas.Iterator.{YieldsList-from_slice}
use Rattle.std.proofs.lemmas.Iterator.Search.{position_from_yields_List}
use Rattle.base.proofs.laws.Chains.{first-is}
use Rattle.field_search.proofs.first_in_air.Goals as goal

pub returns : goal.returns
returns c =
    first-is _ c.args.words.now _ (position_from_yields_List _ _ _ _ c.position.ensures.ran (YieldsList-from_slice c.args.words.now cc) (λ x b q k. search (rules, tests)))
