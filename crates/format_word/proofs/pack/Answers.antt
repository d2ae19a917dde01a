-- format_word::pack: the parts lie apart, so that each `|` is a sum, by `or-packed`.
use Rattle.format_word.proofs.laws.Word.{or-packed}
use Rattle.format_word.proofs.pack.Goals as goal

pub returns : goal.returns
returns c = or-packed c.args.header c.args.carried c.args.link c.ranges.header.fits c.ranges.carried.fits c.ranges.link.fits
