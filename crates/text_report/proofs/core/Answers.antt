-- text_report::core: nobody by `core-blank`, refused by `core-unparted`, else a line for each part by `core-parts`.
use Rattle.std.proofs.Common.{◌≡◌, refl, arith}
use Rattle.refusal.proofs.laws.Number.{positive}
use Rattle.plan.specs.Refusal.{plan_refusal}
use Rattle.plan.proofs.laws.Accepted.{accepted}
use Rattle.format_text.proofs.laws.Pages.{has_put_as}
use Rattle.text_report.proofs.laws.Text.{core-blank, core-unparted, core-parts}
use Rattle.text_report.proofs.core.Goals as goal

pub returns-then-modules-eq0 : goal.returns-then-modules-eq0
returns-then-modules-eq0 c = has_put_as (grind (arith, core-blank, core-unparted, positive)) c.put.ensures

pub merge-requires : goal.merge-requires
merge-requires c =
    let z : plan_refusal c.args.plan.now ≡ 0 = grind arith in
    let a = accepted _ z in
    (refl, a.links_ok, λ k l. let o = a.each k l in (omega (arith, o.ordered, o.inside, a.modules_ok), omega (arith, o.inside, a.modules_ok)))

pub parts-requires : goal.parts-requires
parts-requires c = let z : plan_refusal c.args.plan.now ≡ 0 = grind arith in ((accepted _ z).modules_ok, c.merge.ensures)

pub returns : goal.returns
returns c = has_put_as (grind (arith, core-parts)) c.parts.ensures
