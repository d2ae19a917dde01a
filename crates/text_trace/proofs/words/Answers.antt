use Rattle.std.proofs.Common.{sym, ◌∙◌}
use Rattle.text_trace.proofs.laws.Text.{words-turn, words-over}
use Rattle.text_trace.proofs.words.Goals as goal

pub loop-word-preserved : goal.loop-word-preserved
loop-word-preserved c =
    let l = c.loop-word.invariant in
    let line = c.put_line.ensures in
    record { same = line.same ∙ l.same; rest = l.rest ∙ words-turn _ _ _ c.loop-word-test.true line.put }

pub returns : goal.returns
returns c =
    let l = c.loop-word.invariant in
    record { same = l.same; put = sym (l.rest ∙ words-over _ _ _ c.loop-word-test.false) }
