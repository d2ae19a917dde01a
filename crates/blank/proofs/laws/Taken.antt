-- A plan with nobody in it is taken (`blank-taken`).
use native.Mathlib.Omega.{arith}
use Rattle.std.specs.Prelude.{◌≡◌}
use Rattle.plan.specs.Links.{Plan}
use Rattle.plan.specs.Refusal.{plan_refusal}
use Rattle.plan.proofs.laws.Accepted.{accepted-back}
use Rattle.blank.specs.Claim.{Blank}

module _ (p : Plan) (b : Blank p) where
  pub blank-taken : plan_refusal p ≡ 0
  blank-taken = accepted-back p (record {
    modules_ok = omega (arith, b.nobody);
    links_ok = omega (arith, b.unlinked);
    each = λ k l. absurd (omega (arith, b.unlinked));
  })
