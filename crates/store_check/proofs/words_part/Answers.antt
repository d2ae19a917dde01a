-- store_check::words_part: by `words-behind`.
use Rattle.store_check.proofs.Parts.{seen-accepted, numbers-inside, words-behind}
use Rattle.store_check.proofs.words_part.Goals as goal

pub numbers_size-n-requires : goal.numbers_size-n-requires
numbers_size-n-requires c = seen-accepted c.requires.read

pub slice_bounds-result-count : goal.slice_bounds-result-count
slice_bounds-result-count c = numbers-inside c.args.r.now c.args.plan.now c.requires c.numbers_size-n.result c.numbers_size-n.ensures c.behind_plan-behind.result.now c.behind_plan-behind.ensures

pub slice_bounds-result-start : goal.slice_bounds-result-start
slice_bounds-result-start c = numbers-inside c.args.r.now c.args.plan.now c.requires c.numbers_size-n.result c.numbers_size-n.ensures c.behind_plan-behind.result.now c.behind_plan-behind.ensures

pub returns : goal.returns
returns c =
    words-behind c.args.r.now c.args.plan.now c.requires c.numbers_size-n.result c.numbers_size-n.ensures c.behind_plan-behind.result.now c.behind_plan-behind.ensures
