use Rattle.std.proofs.Common.{◌*◌}
use Rattle.format_wide.specs.Wide.{at64}
use Rattle.store_field.proofs.Bytes.{read-start, read-on}
use Rattle.store_field.proofs.take_words.Goals as goal

pub loop-i-init : goal.loop-i-init
loop-i-init c = read-start _ _

pub loop-i-preserved : goal.loop-i-preserved
loop-i-preserved c =
    let a = c.args in
    read-on (λ j. at64 a.part.now (8 * j)) a.words.now c.loop-i.words c.loop-i.i c.at64.result c.at64.ensures c.loop-i.invariant
