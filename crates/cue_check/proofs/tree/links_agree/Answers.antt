-- cue_check::tree::links_agree: from the clauses of what it calls, by the definitions.
use Rattle.std.proofs.Common.{length, sym, ◌∙◌, arith, rules, tests}
use Rattle.std.proofs.lemmas.Iterator.{YieldsList-from_range}
use Rattle.std.proofs.lemmas.Iterator.Search.{all_from_yields_List}
use Rattle.base.proofs.laws.Chains.{every-is}
use Rattle.cue_check.specs.Bytes.{byte_agrees}
use Rattle.cue_check.proofs.tree.links_agree.Goals as goal

pub returns : goal.returns
returns c =
    let n = length c.args.bytes.now in
    let agrees = byte_agrees c.args.bytes.now c.args.marks.now in
    all_from_yields_List agrees _ _ _ c.all.ensures.ran (YieldsList-from_range 0 n n (cc) (omega arith)) (λ x b q k. search (rules, tests))
    ∙ sym (every-is n agrees)
