use Rattle.std.proofs.Common.{ℕ, ◌≡◌, ◌+◌, ◌*◌, ◌/◌, ◌%◌, ◌<◌, ◌≤◌, ap, ◌∙◌, refl, add-one, arith}
use mathlib.Core.List.{List}
use Rattle.base.proofs.laws.Table.{fill_start, fill-turn}
use Rattle.plan.specs.Links.{modules_of, Plan}
use Rattle.plan.proofs.laws.Accepted.{Accepted}
use Rattle.store.specs.Layout.{field_numbers}
use Rattle.field.specs.State.{WIDTH, CELLS}
use Rattle.store.specs.Reading.{number_in}
use Rattle.store_laws.proofs.Places.{places-length}
use Rattle.store_field.specs.Ends.{cell_number, entry, laid_starts}
use Rattle.store_field.proofs.Starts.{cell-inside, cell-reached}
use Rattle.store_field.proofs.take_cells.Goals as goal

-- the cell of this turn, and its number
module _ (p : Plan) (a : Accepted p) {i : ℕ} (l : i < modules_of p * WIDTH) where
  inside : i < CELLS
  inside = omega (arith, l, a.modules_ok)

  held : {s : ℕ} → 2 * field_numbers p ≤ s → 2 * cell_number p i + 1 < s
  held f = omega (arith, cell-inside p a i l, f)

  small : cell_number p i < 65536
  small = omega (arith, cell-inside p a i l, places-length p a, a.modules_ok, a.links_ok)

  number : (t : List ℕ) → t ≡ laid_starts p (modules_of p) → entry t (i / WIDTH) + i % WIDTH ≡ cell_number p i
  number t s = ap (λ (n : ℕ). n + i % WIDTH) (cell-reached p a i l t s)

pub loop-i-init : goal.loop-i-init
loop-i-init c = fill_start CELLS _ _ _ c.requires.3 (λ k l. refl)

pub overflow_add-starts : goal.overflow_add-starts
overflow_add-starts c =
    let p = c.args.plan.now in
    let l : c.loop-i.i < modules_of p * WIDTH = omega arith in
    record { fits = omega (arith, number p c.requires.0 l c.args.starts.now c.requires.2, small p c.requires.0 l) }

pub overflow_mul-starts : goal.overflow_mul-starts
overflow_mul-starts c =
    let p = c.args.plan.now in
    let l : c.loop-i.i < modules_of p * WIDTH = omega arith in
    record { fits = omega (arith, number p c.requires.0 l c.args.starts.now c.requires.2, small p c.requires.0 l) }

pub at-requires : goal.at-requires
at-requires c =
    let p = c.args.plan.now in
    let l : c.loop-i.i < modules_of p * WIDTH = omega arith in
    omega (arith, number p c.requires.0 l c.args.starts.now c.requires.2, held p c.requires.0 l c.requires.1)

pub loop-i-preserved : goal.loop-i-preserved
loop-i-preserved c =
    let p = c.args.plan.now in
    let f : ℕ → ℕ = λ k. number_in c.args.numbers.now (cell_number p k) in
    let l : c.loop-i.i < modules_of p * WIDTH = omega arith in
    rw (c.loop-i.invariant, add-one) (fill-turn CELLS f (entry c.args.cells.now) c.loop-i.i c.at.result (inside p c.requires.0 l)
    (c.at.ensures ∙ ap (number_in c.args.numbers.now) (number p c.requires.0 l c.args.starts.now c.requires.2)))
