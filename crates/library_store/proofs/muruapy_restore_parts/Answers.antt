-- library_store::muruapy_restore_parts: by `made-keeps` where the restore was refused, else by `made-into`, with the field in its parts.
use Rattle.std.specs.Prelude.{◌≡◌, refl}
use Rattle.std.proofs.Common.{rules}
use Rattle.refusal.specs.Number.{numbered}
use Rattle.refusal.proofs.laws.Number.{positive}
use Rattle.field.specs.Held.{blank_field, held_from}
use Rattle.store.specs.Calls.{restore_point}
use Rattle.library_field.proofs.laws.Lent.{made-into, made-keeps}
use Rattle.library_store.proofs.muruapy_restore_parts.Goals as goal

pub returns-in-Ok : goal.returns-in-Ok
returns-in-Ok c =
    let a = c.args in
    let e : record { refusal = 0; state = record { field = c.in-Ok.f; words = c.restore.new.words } } ≡ restore_point a.name.now a.store.now a.words.now = grind rules in
    let b = c.hand_back.ensures in
    rw (b.0, b.1, b.2) (made-into (held_from a.held.now a.cells.now a.marks.now a.sent.now a.words.now) 0 c.in-Ok.f c.restore.new.words e refl)

pub returns-in-Err : goal.returns-in-Err
returns-in-Err c =
    let a = c.args in
    let r = c.in-Err.refusal in
    let e : record { refusal = numbered r; state = record { field = blank_field; words = c.restore.new.words } } ≡ restore_point a.name.now a.store.now a.words.now = grind rules in
    rw c.number.ensures (made-keeps (held_from a.held.now a.cells.now a.marks.now a.sent.now a.words.now) (numbered r) blank_field c.restore.new.words e (positive r))
