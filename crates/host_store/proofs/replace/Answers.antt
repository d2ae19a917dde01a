-- host_store::replace: the record of the name leaves, so that the others end at `used` (`used-left`), and the new one is written there (`replaced`).
use native.Mathlib.Omega.{arith}
use Rattle.field.specs.Held.{field_from}
use Rattle.store_field.proofs.laws.Sizes.{record-size}
use Rattle.store_field.proofs.Record.{part-size}
use Rattle.host_store.proofs.Saves.{used-left, replaced}
use Rattle.host_store.proofs.replace.Goals as goal

pub slice_bounds-put_record-count : goal.slice_bounds-put_record-count
slice_bounds-put_record-count c = omega (arith, used-left c.args.name.now c.args.store.now _ c.leave.ensures _ c.used-a.ensures, c.requires.5, c.leave.auto.s)

pub slice_bounds-put_record-start : goal.slice_bounds-put_record-start
slice_bounds-put_record-start c = omega (arith, used-left c.args.name.now c.args.store.now _ c.leave.ensures _ c.used-a.ensures, c.requires.5, c.leave.auto.s)

pub put_record-requires : goal.put_record-requires
put_record-requires c =
    let p = c.requires in
    (p.0, p.1, p.2, p.3, simp part-size (omega (arith, used-left c.args.name.now c.args.store.now _ c.leave.ensures _ c.used-a.ensures, c.requires.5, c.leave.auto.s)))

pub returns : goal.returns
returns c =
    let a = c.args in
    replaced a.name.now a.store.now _ c.leave.ensures _ _ _ (used-left c.args.name.now c.args.store.now _ c.leave.ensures _ c.used-a.ensures) (omega (arith, c.requires.5, record-size a.name.now (field_from a.plan.now a.cells.now a.marks.now a.sent) a.words.now c.requires.0)) c.leave.auto.s c.put_record.ensures
