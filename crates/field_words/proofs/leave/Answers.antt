-- field_words::leave: the part from place a on is closed up: one word less laid out, by `leave-law`.
use Rattle.field_words.proofs.Laid.{leave-law}
use Rattle.field_words.proofs.leave.Goals as goal

pub returns : goal.returns
returns c =
    let e = c.before.before.before.before.before in
    let lent = e.args.lent.now in
    rw c.close_up.ensures (leave-law lent e.args.n e.args.a e.requires.0 e.requires.1)
