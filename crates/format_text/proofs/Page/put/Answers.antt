use Rattle.std.proofs.Common.{sym, ap, ◌∙◌, drop_of_length-le}
use Rattle.format_text.specs.Put.{put}
use Rattle.format_text.proofs.laws.Put.{put-none, put-end, put-turn}
use Rattle.format_text.proofs.Page.put.Goals as goal

pub returns-then-self : goal.returns-then-self
returns-then-self c =
    let l = c.loop-x.invariant in
    record { same = l.same; put = sym (l.rest ∙ put-end _ _ c.if-self.true) }

pub loop-x-preserved : goal.loop-x-preserved
loop-x-preserved c =
    let l = c.loop-x.invariant in
    record { same = l.same; rest = l.rest ∙ put-turn _ _ _ _ c.loop-x-test.true c.if-self.false }

pub returns : goal.returns
returns c =
    let l = c.loop-x.invariant in
    record { same = l.same; put = sym (l.rest ∙ ap (put _) (drop_of_length-le _ c.loop-x-test.false) ∙ put-none _) }
