-- field_words::to_end: a word leaves (`left_laid`, `left-room`), and one more is put: by `left_end`.
use Rattle.field_words.proofs.Laid.{left_laid, left-room, left_end}
use Rattle.field_words.proofs.to_end.Goals as goal

pub put-requires : goal.put-requires
put-requires c =
    let e = c.before.before.before in
    let a = e.args in
    let p = e.requires in (
      left_laid a.lent.now a.n a.a p.0 p.1 e.leave.new.lent e.leave.ensures,
      left-room a.lent.now a.n a.a p.0 p.1 e.leave.new.lent e.leave.ensures,
    )

pub returns : goal.returns
returns c =
    let e = c.before.before.before.before.before.before in
    let a = e.args in
    let p = e.requires in
    left_end a.lent.now a.n a.a p.0 p.1 e.leave.new.lent e.leave.ensures a.w c.put.new.lent c.put.ensures
