-- text_report::part_of_lowest: whether u is its part's lowest, its label tells (`labels-lowest`).
use Rattle.std.proofs.Common.{◌≡◌, ℕ, Bool, true, false, cond, List, [], arith, sym, ◌∙◌}
use Rattle.base.specs.Limits.{max_modules}
use Rattle.graph.proofs.laws.Parts.{labels-lowest}
use Rattle.format_text.proofs.laws.Pages.{has_put_none, has_put_as}
use Rattle.text_report.proofs.part_of_lowest.Goals as goal

-- the one list or none, by the answer
off : {b : Bool} (t : List ℕ) → b ≡ false → [] ≡ cond b t []
off t e = rw e

on : {b : Bool} (t : List ℕ) → b ≡ true → t ≡ cond b t []
on t e = rw e

pub returns-then-lowest : goal.returns-then-lowest
returns-then-lowest c =
    let told = c.lowest.ensures ∙ labels-lowest _ max_modules _ c.requires.1 _ (omega arith) in
    has_put_as (on _ (sym told ∙ c.if-lowest.true)) c.part.ensures

pub returns-else-lowest : goal.returns-else-lowest
returns-else-lowest c =
    let told = c.lowest.ensures ∙ labels-lowest _ max_modules _ c.requires.1 _ (omega arith) in
    has_put_as (off _ (sym told ∙ c.if-lowest.false)) (has_put_none _)
