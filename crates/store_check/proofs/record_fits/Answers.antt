-- store_check::record_fits: a bad name by `bad-name`, a bad plan by `bad-plan`, else as `sizes_fit` says.
use Rattle.std.specs.Prelude.{◌≡◌, ◌≢◌, true}
use Rattle.std.proofs.Common.{rules}
use Rattle.refusal.specs.Number.{refusal_in}
use Rattle.refusal.proofs.laws.Number.{positive}
use Rattle.store.specs.Names.{name_fits, name_in}
use Rattle.store_check.proofs.Parts.{plan-read}
use Rattle.store_check.proofs.Outcomes.{bad-name, bad-plan}
use Rattle.store_check.proofs.record_fits.Goals as goal

pub returns-then-not-name_fits : goal.returns-then-not-name_fits
returns-then-not-name_fits c = grind (rules, bad-name)

pub returns-else-is_ok : goal.returns-else-is_ok
returns-else-is_ok c =
    let n : refusal_in c.read_plan.result ≢ 0 = grind (rules, positive) in
    let t = c.read_plan.ensures.right in
    grind (rules, bad-plan)

pub sizes_fit-requires : goal.sizes_fit-requires
sizes_fit-requires c =
    let z : refusal_in c.read_plan.result ≡ 0 = grind rules in
    let n : name_fits (name_in c.args.r.now) ≡ true = grind rules in
    (plan-read _ c.read_plan.ensures z, n)
