-- host_store::restore: 76 and 77 by `restore-missing`, 21 by `restore-few`, else `restore-done`: what is found is the record of the name (`part-shown`), which fits (`part-fits`).
use Rattle.std.specs.Prelude.{◌≡◌, length}
use Rattle.std.proofs.Common.{rules, arith, refl, ap, ◌∙◌}
use Rattle.refusal.proofs.laws.Number.{positive}
use Rattle.field.specs.Held.{layout}
use Rattle.store.specs.Names.{shown_part}
use Rattle.store.specs.Reading.{held_in}
use Rattle.store.specs.Calls.{find_point}
use Rattle.host_store.proofs.Finds.{part-shown, part-fits}
use Rattle.host_store.proofs.Restores.{restore-missing, restore-few, restore-done}
use Rattle.host_store.proofs.restore.Goals as goal

pub returns-in_err-r : goal.returns-in_err-r
returns-in_err-r c = grind (rules, restore-missing, positive)

pub take_plan-requires : goal.take_plan-requires
take_plan-requires c =
    let z : (find_point c.args.name.now c.args.store.now).refusal ≡ 0 = grind rules in
    let r : c.in_ok-r.r.now ≡ shown_part c.args.name.now c.args.store.now = grind (rules, part-shown) in
    (rw r (part-fits _ _ z), refl)

pub returns-then-words-ceiling_of : goal.returns-then-words-ceiling_of
returns-then-words-ceiling_of c =
    let z : (find_point c.args.name.now c.args.store.now).refusal ≡ 0 = grind rules in
    let r : c.in_ok-r.r.now ≡ shown_part c.args.name.now c.args.store.now = grind (rules, part-shown) in
    restore-few _ _ _ z _ (c.take_plan.ensures ∙ ap (λ l. (held_in l).field.plan) r) (omega (arith, c.ceiling_of.ensures, c.if-words-ceiling_of.true))

pub bring_back-requires : goal.bring_back-requires
bring_back-requires c =
    let z : (find_point c.args.name.now c.args.store.now).refusal ≡ 0 = grind rules in
    let r : c.in_ok-r.r.now ≡ shown_part c.args.name.now c.args.store.now = grind (rules, part-shown) in
    (rw r (part-fits _ _ z), c.take_plan.ensures, omega (arith, c.ceiling_of.ensures, c.if-words-ceiling_of.false))

pub returns : goal.returns
returns c =
    let z : (find_point c.args.name.now c.args.store.now).refusal ≡ 0 = grind rules in
    let r : c.in_ok-r.r.now ≡ shown_part c.args.name.now c.args.store.now = grind (rules, part-shown) in
    let b = c.bring_back.ensures in
    restore-done _ _ _ z _ (c.take_plan.ensures ∙ ap (λ l. (held_in l).field.plan) r) (omega (arith, c.ceiling_of.ensures, c.if-words-ceiling_of.false)) _ _
    (b.0 ∙ ap (λ l. (held_in l).field) r) (b.1 ∙ ap (λ l. layout (length c.args.words.now) (held_in l).words) r)
