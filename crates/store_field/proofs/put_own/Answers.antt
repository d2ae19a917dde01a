-- store_field::put_own: nothing where link k is not of v (`run_none`), else its mark (`run-one`).
use native.Mathlib.Omega.{arith}
use mathlib.Core.Path.{sym, ap, ◌∙◌}
use lib.ListN.{length}
use Rattle.field.proofs.laws.Edges.{end-small}
use Rattle.store_field.specs.Ends.{own_end, entry}
use Rattle.store_field.proofs.Ends.{own-none, own-one}
use Rattle.store_field.proofs.Runs.{run_none, run-one}
use Rattle.store_field.proofs.put_own.Goals as goal

pub returns-then-not-owns : goal.returns-then-not-owns
returns-then-not-owns c =
    let a = c.args in
    run_none (entry a.marks.now) a.out.now a.q (own_end a.plan.now a.v a.k)
    (own-none a.plan.now a.v a.k (sym c.owns.ensures ∙ c.if-not-owns.true))

pub bounds-marks-d : goal.bounds-marks-d
bounds-marks-d c =
    let a = c.args in
    omega (arith, c.end_at-d.ensures, end-small a.plan.now a.v a.k (omega (arith, c.requires)))

pub put-requires : goal.put-requires
put-requires c =
    omega (arith, c.requires.2, ap length (own-one c.args.plan.now c.args.v c.args.k c.end_at-d.result (sym c.owns.ensures ∙ c.if-not-owns.false) c.end_at-d.ensures))

pub returns : goal.returns
returns c =
    let a = c.args in
    let r = run-one (entry a.marks.now) a.out.now a.q c.end_at-d.result (own_end a.plan.now a.v a.k) (own-one c.args.plan.now c.args.v c.args.k c.end_at-d.result (sym c.owns.ensures ∙ c.if-not-owns.false) c.end_at-d.ensures) in
    (c.put.ensures ∙ r.0, r.1)
