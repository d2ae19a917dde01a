-- field_serve::take_out: past the last place nothing leaves, by `none_out`; else one word, by `one_out`.
use Rattle.field_serve.proofs.Words.{none_out, one_out}
use Rattle.field_serve.proofs.take_out.Goals as goal

pub returns-then-n-i : goal.returns-then-n-i
returns-then-n-i c = none_out _ _ _ c.requires c.if-n-i.true

pub returns : goal.returns
returns c =
    let t = c.before.before in
    let e = t.before.before in
    one_out _ _ _ e.requires e.if-n-i.false _ t.leave.ensures
