-- field_words::hand: refused by `not-handed`; else the word that is there (`in-air`) moves to the end, by `handed`.
use Prim.Native.Nat.{ℕ}
use mathlib.Core.List.{[], ◌∷◌, ◌++◌}
use mathlib.Core.Path.{◌≡◌, sym, ap, ◌∙◌}
use lib.ListN.{length, take}
use lib.Seq.{length-take-le}
use Rattle.std.specs.Prelude.{Ok}
use Rattle.std.proofs.Common.{rules}
use Rattle.field.specs.Held.{layout}
use Rattle.field.specs.Step.{without}
use Rattle.field_words.specs.Hands.{handable}
use Rattle.field_words.proofs.Outcomes.{not-handed, in-air, handed}
use Rattle.field_words.proofs.hand.Goals as goal

pub slice_bounds-handable-end-2 : goal.slice_bounds-handable-end-2
slice_bounds-handable-end-2 c = sym (length-take-le c.args.n c.args.lent.now c.requires.0.within)

pub returns-in_err-a : goal.returns-in_err-a
returns-in_err-a c = grind (rules, not-handed)

-- the word to hand over is there
pub offset_bounds-lent-a : goal.offset_bounds-lent-a
offset_bounds-lent-a c =
    let d : Ok c.in_ok-a.a ≡ handable c.args.plan.now c.args.d (take c.args.n c.args.lent.now) = grind rules in
    let l = in-air _ _ _ _ c.requires.0 d in
    search rules

pub bounds-lent-a : goal.bounds-lent-a
bounds-lent-a c =
    let d : Ok c.in_ok-a.a ≡ handable c.args.plan.now c.args.d (take c.args.n c.args.lent.now) = grind rules in
    let l = in-air _ _ _ _ c.requires.0 d in
    search rules

pub to_end-requires : goal.to_end-requires
to_end-requires c =
    let d : Ok c.in_ok-a.a ≡ handable c.args.plan.now c.args.d (take c.args.n c.args.lent.now) = grind rules in
    (c.requires.0, in-air _ _ _ _ c.requires.0 d)

pub returns : goal.returns
returns c =
    let d : Ok c.in_ok-a.a ≡ handable c.args.plan.now c.args.d (take c.args.n c.args.lent.now) = grind rules in
    let lent = c.args.lent.now in
    let n = c.args.n in
    handed _ lent n c.args.d c.requires.0 d c.to_end.new.lent
    (c.to_end.ensures ∙ ap (λ (x : ℕ). layout (length lent) (without c.in_ok-a.a (take n lent) ++ (x ∷ []))) c.hand_over-w.ensures)
