-- On a field of a plan with nobody in it no round is needed (`blank-rounds`).
use Prim.Native.Nat.{ℕ}
use Rattle.std.proofs.Common.{arith}
use Rattle.std.specs.Prelude.{◌≡◌}
use Rattle.std.proofs.Math.Path.{refl, ap}
use Rattle.std.proofs.Math.Bool.{true}
use Rattle.base.specs.Loop.{runs}
use Rattle.base.proofs.laws.Loop.{runs-rest}
use Rattle.field.specs.Held.{Held, state_of, valid}
use Rattle.field_calls.specs.Rounds.{round, at_rest}
use Rattle.field_calls.specs.Call.{run_rounds}
use Rattle.field_laws.proofs.Laid.{held_same}
use Rattle.blank.specs.Claim.{Blank}
use Rattle.blank.proofs.laws.Fields.{blank-rest}

module _ (h : Held) (b : Blank h.field.plan) (v : valid h ≡ true) where
  pub blank-rounds : (limit : ℕ) → run_rounds limit h ≡ record { done = 0; refusal = 0; state = h }
  unfolding run_rounds runs
  blank-rounds limit =
      let p = h.field.plan in
      rw (v, runs-rest at_rest (λ i. round p) 0 (state_of h) (state_of h) refl limit (omega arith) (blank-rest h b v)) (ap (λ (k : Held). record { done = 0; refusal = 0; state = k }) (held_same h v))
