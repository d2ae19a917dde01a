-- field_check::words_fit: the definition's test of all words, by `all_of-is`.
use Rattle.std.proofs.Common.{rules, tests}
use Rattle.std.proofs.lemmas.Iterator.{YieldsList-from_slice}
use Rattle.std.proofs.lemmas.Iterator.Search.{all_from_yields_List}
use Rattle.field.proofs.laws.Chains.{all_of-is}
use Rattle.field_check.proofs.words_fit.Goals as goal

pub returns : goal.returns
returns c = rw all_of-is (all_from_yields_List _ _ _ _ c.all.ensures.ran (YieldsList-from_slice c.args.words.now cc) (λ x b q k. search (rules, tests)))
