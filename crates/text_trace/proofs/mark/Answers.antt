-- text_trace::mark: no link of v by `mark-none`; else its number and mark, by `mark-shown`.
use Rattle.std.proofs.Common.{rules, sym, ◌∙◌}
use Rattle.format_text.proofs.laws.Pages.{has_put_none, has_put_two, has_put_as}
use Rattle.text_trace.proofs.laws.Text.{mark-none, mark-shown}
use Rattle.text_trace.proofs.mark.Goals as goal

pub returns-then-not-owns : goal.returns-then-not-owns
returns-then-not-owns c = has_put_as (sym (mark-none _ _ _ _ (sym c.owns.ensures ∙ c.if-not-owns.true))) (has_put_none _)

pub returns : goal.returns
returns c =
    let own = sym c.owns.ensures ∙ c.if-not-owns.false in
    has_put_as (sym (mark-shown _ _ _ _ _ own (c.mark.ensures own))) (search (rules, has_put_two))
