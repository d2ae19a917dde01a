-- format_text::Page::put_number: the digits that `io::decimal` leaves are the definition's, by `decimal-digits`.
use Rattle.std.proofs.Common.{arith, subst, ◌∙◌}
use Rattle.format_text.specs.Pages.{HasPut}
use Rattle.format_text.proofs.laws.Decimal.{decimal-digits}
use Rattle.format_text.proofs.Page.put_number.Goals as goal

pub returns : goal.returns
returns c =
    let told = c.decimal-n.ensures in
    subst (HasPut c.args.self.now c.put.new.self) (told.digits ∙ decimal-digits _ _ (omega arith) told.len) c.put.ensures
