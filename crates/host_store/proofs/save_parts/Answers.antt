-- host_store::save_parts: one law for each return: `save-31`, `save-76`, `save-77`, `save-78`, `save-done`. What waits is the part of the words that is passed on.
use Rattle.std.specs.Prelude.{◌≡◌, Ok, true, [], ◌∷◌, ◌++◌, length, take}
use Rattle.std.proofs.Common.{rules, arith, ap, ◌∙◌}
use Rattle.field.specs.Held.{held_from}
use Rattle.field_check.specs.Checked.{check_of}
use Rattle.field_check.proofs.Admitted.{passes, admitted-waiting, words-waiting}
use Rattle.store.specs.Records.{records_in, stored}
use Rattle.store.specs.Names.{name_fits, is_named, without_first}
use Rattle.store.specs.Calls.{store_fits}
use Rattle.store_records.specs.Fit.{fit-stored}
use Rattle.store.specs.Layout.{record_size}
use Rattle.store_field.proofs.laws.Sizes.{record-with}
use Rattle.host_store.proofs.Saves.{save-31, save-76, save-77, save-78, save-done, kept-fits, name-bound, few-wait, few-sent}
use lib.Seq.{length-take-le}
use Rattle.host_store.proofs.save_parts.Goals as goal

pub returns-in_err-n : goal.returns-in_err-n
returns-in_err-n c = grind (rules, save-31)

pub returns-in_err-check : goal.returns-in_err-check
returns-in_err-check c = grind (rules, save-76, save-77)

pub overflow_sub-store : goal.overflow_sub-store
overflow_sub-store c = omega (arith, c.kept.ensures, kept-fits c.args.name.now c.args.store.now)

pub record_size-requires : goal.record_size-requires
record_size-requires c =
    let h = held_from c.args.plan.now c.args.cells.now c.args.marks.now c.args.sent c.args.words.now in
    let e : Ok c.in_ok-n.n ≡ check_of h = grind rules in
    (name-bound _ (grind rules), omega (arith, admitted-waiting _ _ e, few-wait h (passes _ _ e)))

pub returns-then-store-kept : goal.returns-then-store-kept
returns-then-store-kept c =
    let h = held_from c.args.plan.now c.args.cells.now c.args.marks.now c.args.sent c.args.words.now in
    let e : Ok c.in_ok-n.n ≡ check_of h = grind rules in
    save-78 _ h _ (passes _ _ e) (grind rules) (grind rules) _ _ _ (admitted-waiting _ _ e) c.kept.ensures c.record_size.ensures c.if-store-kept.true

pub replace-requires : goal.replace-requires
replace-requires c =
    let a = c.args in
    let h = held_from a.plan.now a.cells.now a.marks.now a.sent a.words.now in
    let e : Ok c.in_ok-n.n ≡ check_of h = grind rules in
    let f : store_fits a.store.now ≡ true = grind rules in
    let g : name_fits a.name.now ≡ true = grind rules in
    let r = c.in_ok-n.ensures.ready in
    let n : length (take c.in_ok-n.n a.words.now) ≡ c.in_ok-n.n = length-take-le _ _ r.laid.within in (
      r.plan,
      few-sent h (passes _ _ e),
      omega (arith, n, admitted-waiting _ _ e, few-wait h (passes _ _ e)),
      name-bound a.name.now g,
      fit-stored a.store.now f,
      omega (arith, ap (record_size a.plan.now (length a.name.now)) n, c.kept.ensures, c.record_size.ensures, c.if-store-kept.false, kept-fits a.name.now a.store.now),
    )

pub returns : goal.returns
returns c =
    let a = c.args in
    let h = held_from a.plan.now a.cells.now a.marks.now a.sent a.words.now in
    let e : Ok c.in_ok-n.n ≡ check_of h = grind rules in
    let f : store_fits a.store.now ≡ true = grind rules in
    let g : name_fits a.name.now ≡ true = grind rules in
    save-done _ h _ (passes _ _ e) f g _ _ _ (admitted-waiting _ _ e) c.kept.ensures c.record_size.ensures c.if-store-kept.false
    (omega (arith, c.kept.ensures, kept-fits a.name.now a.store.now)) _
    (c.replace.ensures ∙ ap (λ r. stored (length a.store.now) (without_first (is_named a.name.now) (records_in a.store.now) ++ (r ∷ [])))
    (record-with a.name.now h _ (words-waiting _ _ e)))
