-- store_records::split_record: no record by `none-short`, `none-version` or `none_long`, else one by `splits-whole`.
use Rattle.std.proofs.Common.{arith}
use Rattle.store_records.specs.Walk.{none-short, none-version, none_long, splits-whole}
use Rattle.store_records.proofs.split_record.Goals as goal

pub returns-then-s-lt5 : goal.returns-then-s-lt5
returns-then-s-lt5 c = grind (arith, none-short, none-version)

pub returns-then-s-follow : goal.returns-then-s-follow
returns-then-s-follow c = grind (arith, none_long)

pub returns : goal.returns
returns c = splits-whole _ c.if-s-lt5.false c.if-s-ne1.false c.at32-follow.ensures c.if-s-follow.false c.split_at.ensures.front c.split_at.ensures.back
