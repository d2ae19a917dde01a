use Rattle.std.proofs.Common.{ℕ, ◌≡◌, ◌+◌, ◌*◌, ◌<◌, length, refl, ap, ◌∙◌, add-one, arith}
use Rattle.base.specs.Limits.{max_modules}
use Rattle.base.proofs.laws.Table.{length-tabulate, get_d_tabulate, fill_start, fill-turn, fill-next}
use Rattle.plan.specs.Links.{Plan, modules_of, links_of}
use Rattle.plan.proofs.laws.Accepted.{Accepted}
use Rattle.field.specs.State.{WIDTH}
use Rattle.store.specs.Layout.{places_below}
use Rattle.store_field.specs.Ends.{ends_below, values_from, laid_starts, entry}
use Rattle.store_field.proofs.Starts.{starts-next, starts-small}
use mathlib.Core.List.{List}
use Rattle.store_field.proofs.lay_starts.Goals as goal

-- the module of this turn: its count, and that its numbers fit
module _ (p : Plan) (a : Accepted p) {v : ℕ} (l : v < modules_of p) where
  counted : (t : List ℕ) → t ≡ laid_starts p v → entry t v ≡ ends_below p v (2 * links_of p)
  counted t e = ap (λ u. entry u v) e ∙ fill-next max_modules (values_from p) (λ u. ends_below p u (2 * links_of p)) v (omega (arith, l, a.modules_ok))

  small : values_from p v + (WIDTH + ends_below p v (2 * links_of p)) < 65536
  small = starts-small p a v l

pub loop-v-init : goal.loop-v-init
unfolding places_below
loop-v-init c =
    let p = c.args.plan.now in
    let f : ℕ → ℕ = λ v. ends_below p v (2 * links_of p) in
    record {
      next = refl;
      laid = fill_start max_modules (values_from p) f c.args.starts.now (ap length c.requires.1 ∙ length-tabulate max_modules f)
          (λ k l. ap (λ t. entry t k) c.requires.1 ∙ get_d_tabulate max_modules f k l);
    }

pub overflow_add-s : goal.overflow_add-s
overflow_add-s c =
    let p = c.args.plan.now in
    let l : c.loop-v.v < modules_of p = omega arith in
    record { fits = omega (arith, counted p c.requires.0 l c.loop-v.starts c.loop-v.invariant.laid, small p c.requires.0 l) }

pub overflow_add-s-in-loop-v : goal.overflow_add-s-in-loop-v
overflow_add-s-in-loop-v c =
    let p = c.args.plan.now in
    let l : c.loop-v.v < modules_of p = omega arith in
    record { fits = omega (arith, counted p c.requires.0 l c.loop-v.starts c.loop-v.invariant.laid, small p c.requires.0 l) }

pub loop-v-preserved : goal.loop-v-preserved
loop-v-preserved c =
    let p = c.args.plan.now in
    let i = c.loop-v.invariant in
    let f : ℕ → ℕ = λ v. ends_below p v (2 * links_of p) in
    let l : c.loop-v.v < modules_of p = omega arith in
    record {
      next = omega (arith, counted p c.requires.0 l c.loop-v.starts i.laid, starts-next p c.requires.0 c.loop-v.v);
      laid = rw (i.laid, add-one) (fill-turn max_modules (values_from p) f c.loop-v.v c.loop-v.s (omega (arith, l, c.requires.0.modules_ok)) i.next);
    }
