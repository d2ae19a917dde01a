-- store_check::take_record: the reads of a record that fits, by `fits-there`; its marks are as they were, by `marks-whole`.
use mathlib.Core.Path.{◌∙◌}
use Rattle.store_check.proofs.laws.Fitting.{fits-there, marks-whole}
use Rattle.store_check.proofs.take_record.Goals as goal

pub read_words-requires : goal.read_words-requires
read_words-requires c = (fits-there _ c.requires.0 c.requires.1, c.requires.4)

pub read_field-requires : goal.read_field-requires
read_field-requires c = (fits-there _ c.requires.0 c.requires.1, c.requires.2, c.requires.3)

pub returns : goal.returns
returns c =
    let f = c.read_field.ensures in
    (f.0, f.1 ∙ marks-whole c.args.r.now c.requires.0, f.2, c.read_words.ensures.0)
