-- store_check::field_fits: the array has words enough, by `seen-ceiling`; those that wait are `within` them; the answer by `last_fits`.
use native.Mathlib.Omega.{arith}
use mathlib.Core.Path.{sym}
use lib.Seq.{length-take-le}
use Rattle.field_check.proofs.Words.{within}
use Rattle.store_check.proofs.Parts.{seen-accepted, seen-ceiling}
use Rattle.store_check.proofs.Outcomes.{last_fits}
use Rattle.store_check.proofs.field_fits.Goals as goal

pub read_words-n-requires : goal.read_words-n-requires
read_words-n-requires c = let h = c.requires.0 in (h.numbers, omega (arith, h.enough, seen-ceiling h.numbers.read))

pub slice_bounds-words-end : goal.slice_bounds-words-end
slice_bounds-words-end c = omega (arith, c.read_words-n.ensures.1, c.requires.0.enough, seen-ceiling c.requires.0.numbers.read, c.read_words-n.auto.words)

pub slice_bounds-held-end : goal.slice_bounds-held-end
slice_bounds-held-end c = sym (length-take-le _ _ (omega (arith, c.read_words-n.ensures.1, c.requires.0.enough, seen-ceiling c.requires.0.numbers.read, c.read_words-n.auto.words)))

pub slice_bounds-state_fits-end : goal.slice_bounds-state_fits-end
slice_bounds-state_fits-end c = sym (length-take-le _ _ (within _ _ c.waiting-w.ensures))

pub state_fits-ok-requires : goal.state_fits-ok-requires
state_fits-ok-requires c = seen-accepted c.requires.0.numbers.read

pub returns : goal.returns
returns c =
    last_fits c.args.r.now c.args.plan.now c.requires.0 c.requires.1 _ _ _ _ c.read_field-sent.ensures.0 c.read_field-sent.ensures.1 c.read_field-sent.ensures.2
    c.read_words-n.ensures.0 c.read_words-n.result c.read_words-n.ensures.1 c.waiting-w.result c.waiting-w.ensures c.state_fits-ok.result c.state_fits-ok.ensures
