-- cue_check::record::in_tree: by `mark-tells`.
use mathlib.Core.Path.{sym}
use Rattle.cue_check.proofs.laws.Bytes.{mark-tells}
use Rattle.cue_check.proofs.record.in_tree.Goals as goal

pub returns : goal.returns
returns c = let s = c.before in sym (mark-tells _ _ s.requires.1 _ s.requires.2)
