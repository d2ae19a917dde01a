-- field_words::put: one word more behind those laid out, by `put-law`.
use Rattle.field_words.proofs.Laid.{put-law}
use Rattle.field_words.proofs.put.Goals as goal

pub returns : goal.returns
returns c = put-law c.args.lent.now c.args.n c.requires.0 c.requires.1 c.args.w
