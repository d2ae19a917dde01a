use Rattle.store_field.proofs.Bytes.{word-start, word_on}
use Rattle.std.proofs.Common.{◌∙◌}
use Rattle.store_field.proofs.put_words.Goals as goal

pub loop-i-init : goal.loop-i-init
loop-i-init c = word-start c.args.out.now

pub loop-i-preserved : goal.loop-i-preserved
loop-i-preserved c = c.put64.ensures ∙ word_on c.args.out.now c.loop-i.out c.args.words.now c.loop-i.i c.loop-i-test.true c.loop-i.invariant
