-- store_field::put_body: the field, then the words in the part behind it (`part-on`).
use native.Mathlib.Omega.{arith}
use Rattle.field.specs.Held.{field_from}
use Rattle.store.specs.Layout.{field_bytes, word_bytes}
use Rattle.store_field.proofs.laws.Sizes.{field-bytes}
use Rattle.store_field.proofs.Record.{part-size, part-on}
use Rattle.store_field.proofs.put_body.Goals as goal

pub slice_bounds-put_words-count : goal.slice_bounds-put_words-count
slice_bounds-put_words-count c = omega (arith, c.requires.2, c.put_field-a.ensures.1, c.put_field-a.auto.out, field-bytes (field_from c.args.plan.now c.args.cells.now c.args.marks.now c.args.sent))

pub slice_bounds-put_words-start : goal.slice_bounds-put_words-start
slice_bounds-put_words-start c = omega (arith, c.requires.2, c.put_field-a.ensures.1, c.put_field-a.auto.out, field-bytes (field_from c.args.plan.now c.args.cells.now c.args.marks.now c.args.sent))

pub put_words-requires : goal.put_words-requires
put_words-requires c = simp part-size (omega (arith, c.requires.2, c.put_field-a.ensures.1, c.put_field-a.auto.out, field-bytes (field_from c.args.plan.now c.args.cells.now c.args.marks.now c.args.sent)))

pub returns : goal.returns
returns c =
    let a = c.args in
    part-on a.out.now _ _ c.put_field-a.result (field_bytes (field_from a.plan.now a.cells.now a.marks.now a.sent)) (word_bytes a.words.now)
    (omega (arith, c.requires.2, c.put_field-a.ensures.1, c.put_field-a.auto.out, field-bytes (field_from c.args.plan.now c.args.cells.now c.args.marks.now c.args.sent))) c.put_field-a.ensures.1 c.put_field-a.ensures.0 c.put_words.ensures
