use Rattle.std.proofs.Common.{ℕ, ◌≡◌, ◌+◌, ◌*◌, ◌<◌, ◌≤◌, ap, ◌∙◌, refl, length, add-one, arith}
use mathlib.Core.List.{List}
use Rattle.base.specs.Limits.{max_modules, max_ends}
use Rattle.base.specs.Table.{tabulate}
use Rattle.base.proofs.laws.Table.{length-tabulate, fill_start, fill-turn}
use Rattle.plan.specs.Links.{Plan, links_of, modules_of}
use Rattle.field.specs.Edges.{from}
use Rattle.plan.proofs.laws.Accepted.{Accepted}
use Rattle.store.specs.Layout.{field_numbers}
use Rattle.field.specs.State.{WIDTH}
use Rattle.field_laws.proofs.Places.{from-below}
use Rattle.store.specs.Reading.{number_in}
use Rattle.store_laws.proofs.Places.{places-length}
use Rattle.store_field.specs.Ends.{ends_below, values_from, mark_number, entry, laid_starts}
use Rattle.store_field.specs.Parts.{cut_mark}
use Rattle.store_field.proofs.Starts.{reached-none, starts-on, ends_more, mark-inside, mark-reached}
use Rattle.store_field.proofs.take_marks.Goals as goal

-- the end of this turn, and its number
module _ (p : Plan) (a : Accepted p) {d : ℕ} (l : d < 2 * links_of p) where
  below : d < max_ends
  below = omega (arith, l, a.links_ok)

  reached : (s t : List ℕ) → s ≡ laid_starts p (modules_of p) → t ≡ tabulate max_modules (λ v. entry s v + ends_below p v d)
      → entry t (from p d) ≡ values_from p (from p d) + ends_below p (from p d) d
  reached = mark-reached p a d l

  held : {s : ℕ} → 2 * field_numbers p ≤ s → 2 * mark_number p d + 1 < s
  held f = omega (arith, mark-inside p a d l, f)

  small : mark_number p d < 65536
  small = omega (arith, mark-inside p a d l, places-length p a, a.modules_ok, a.links_ok)

pub loop-d-init : goal.loop-d-init
loop-d-init c = record {
  reached = reached-none c.args.plan.now c.args.starts.now (ap length c.requires.2 ∙ length-tabulate max_modules _);
  read = fill_start max_ends _ _ _ c.requires.3 (λ k l. refl);
}

pub step_on-a-requires : goal.step_on-a-requires
step_on-a-requires c =
    let p = c.args.plan.now in
    let i = c.loop-d.invariant in
    let l : c.loop-d.d < 2 * links_of p = omega arith in (
      c.requires.0,
      l,
      ap length i.reached ∙ length-tabulate max_modules _,
      omega (arith, reached p c.requires.0 l c.args.starts.now c.loop-d.starts c.requires.2 i.reached, small p c.requires.0 l),
    )

pub overflow_add-a : goal.overflow_add-a
overflow_add-a c =
    let p = c.args.plan.now in
    let l : c.loop-d.d < 2 * links_of p = omega arith in
    record { fits = omega (arith, c.step_on-a.ensures.1, reached p c.requires.0 l c.args.starts.now c.loop-d.starts c.requires.2 c.loop-d.invariant.reached, small p c.requires.0 l) }

pub overflow_mul-a : goal.overflow_mul-a
overflow_mul-a c =
    let p = c.args.plan.now in
    let l : c.loop-d.d < 2 * links_of p = omega arith in
    record { fits = omega (arith, c.step_on-a.ensures.1, reached p c.requires.0 l c.args.starts.now c.loop-d.starts c.requires.2 c.loop-d.invariant.reached, small p c.requires.0 l) }

pub at-requires : goal.at-requires
at-requires c =
    let p = c.args.plan.now in
    let l : c.loop-d.d < 2 * links_of p = omega arith in
    omega (arith, c.step_on-a.ensures.1, reached p c.requires.0 l c.args.starts.now c.loop-d.starts c.requires.2 c.loop-d.invariant.reached, held p c.requires.0 l c.requires.1)

pub loop-d-preserved : goal.loop-d-preserved
loop-d-preserved c =
    let p = c.args.plan.now in
    let d = c.loop-d.d in
    let i = c.loop-d.invariant in
    let l : c.loop-d.d < 2 * links_of p = omega arith in
    let f : ℕ → ℕ = λ k. cut_mark (number_in c.args.numbers.now (mark_number p k)) in
    let n : c.step_on-a.result + WIDTH ≡ mark_number p d = omega (arith, c.step_on-a.ensures.1, reached p c.requires.0 l c.args.starts.now c.loop-d.starts c.requires.2 i.reached) in
    record {
      reached = starts-on (from p d) (λ v. entry c.args.starts.now v + ends_below p v d) (λ v. entry c.args.starts.now v + ends_below p v (d + 1)) c.loop-d.starts
          (omega (arith, from-below p c.requires.0 d l, c.requires.0.modules_ok)) i.reached (λ v. omega (arith, ends_more p v d)) c.step_on-a.ensures.0;
      read = rw (i.read, add-one) (fill-turn max_ends f (entry c.args.marks.now) d c.cut_mark.result (below p c.requires.0 l)
          (c.cut_mark.ensures ∙ ap cut_mark (c.at.ensures ∙ ap (number_in c.args.numbers.now) n)));
    }
