-- What a passed check of the head says (`head_ok`), and back (`ok-head`).
use Rattle.std.specs.Prelude.{ℕ, ◌+◌, ◌*◌, ◌-◌, ◌≤◌, ◌≡◌, List, get_or, eqb}
use native.Mathlib.Omega.{arith}
use Rattle.std.proofs.Math.ListN.{length}
use borrow.Author.Tests.{ltb-false, le-ltb, eqb-true, eq-eqb, not-false}
use Rattle.base.proofs.laws.Refuse.{or_else-zero, or-false}
use Rattle.plan.proofs.laws.Accepted.{Counts, counted, counted_back}
use Rattle.plan_file.specs.Layout.{number_at}
use Rattle.plan_file.specs.Reading.{head_verdict, head_refusal}

pub record HeadOk (s : List ℕ) : Type 0 where
  pub version : get_or s 0 0 ≡ 1
  pub len : number_at s 0 ≡ 4 + 8 * number_at s 2
  pub size : length s ≡ 7 + 8 * number_at s 2
  pub counts : Counts (number_at s 1) (number_at s 2)

module _ (s : List ℕ) where
  pub head_ok : head_refusal s ≡ 0 → HeadOk s
  unfolding head_verdict
  head_ok h =
      let f11 = or_else-zero _ 10 h in
      let f12 = or_else-zero _ 11 f11.1 in
      let f13 = or_else-zero _ 12 f12.1 in
      let a = or-false _ _ f13.0 in
      let counts = counted (number_at s 1) (number_at s 2) (eqb (number_at s 0) (4 + 8 * number_at s 2)) f13.1 in
      let e = eqb-true (number_at s 0) (4 + 8 * number_at s 2) counts.1 in
      record {
        version = eqb-true _ _ (not-false _ f12.0);
        len = e;
        size = total (ltb-false (length s) 3 f11.0) (eqb-true (number_at s 0) (length s - 3) (not-false _ a.0)) e;
        counts = counts.0;
      }
    where
      total : 3 ≤ length s → number_at s 0 ≡ length s - 3 → number_at s 0 ≡ 4 + 8 * number_at s 2 → length s ≡ 7 + 8 * number_at s 2
      total a b e = omega arith

  pub ok-head : HeadOk s → head_refusal s ≡ 0
  unfolding head_verdict
  ok-head o = rw (
    le-ltb (length s) 3 (omega (arith, o.size)),
    eq-eqb (get_or s 0 0) 1 o.version,
    eq-eqb (number_at s 0) (length s - 3) (omega (arith, o.size, o.len)),
    le-ltb (number_at s 0) 4 (omega (arith, o.len)),
    eq-eqb (number_at s 0) (4 + 8 * number_at s 2) o.len,
  ) (counted_back (number_at s 1) (number_at s 2) o.counts)
