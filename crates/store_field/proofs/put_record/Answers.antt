-- store_field::put_record: the head, then the field and the words in the part behind it (`record-run`).
use native.Mathlib.Omega.{arith}
use mathlib.Core.Path.{refl}
use Rattle.field.specs.Held.{field_from}
use Rattle.store_laws.proofs.Words.{length-words}
use Rattle.store_field.proofs.laws.Sizes.{number-bytes, field-size}
use Rattle.store_field.proofs.Record.{part-size, record-run}
use Rattle.store_field.proofs.put_record.Goals as goal

pub put_body-requires : goal.put_body-requires
put_body-requires c =
    (c.requires.0.links_ok, c.requires.0.modules_ok, simp part-size (omega (arith, c.requires.4, c.put_head.auto.out, number-bytes c.args.plan.now c.requires.0)))

pub returns : goal.returns
returns c =
    let a = c.args in
    let f = field_from a.plan.now a.cells.now a.marks.now a.sent in
    record-run a.name.now f a.words.now a.out.now _ _ (omega (arith, c.record_size-size.ensures, field-size f c.requires.0, length-words a.words.now))
    (omega (arith, c.requires.4)) refl c.put_head.ensures c.put_body.ensures
