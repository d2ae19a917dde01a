-- host_store::find_at: one law for each outcome: `find-76`, `find-77`, `find_none`, `find-done`.
use Rattle.std.proofs.Common.{rules}
use Rattle.host_store.proofs.Finds.{find-76, find-77, find_none, find-done}
use Rattle.host_store.proofs.find_at.Goals as goal

pub returns-in_err-check : goal.returns-in_err-check
returns-in_err-check c = grind (rules, find-76, find-77)

pub returns : goal.returns
returns c = grind (rules, find_none, find-done)
