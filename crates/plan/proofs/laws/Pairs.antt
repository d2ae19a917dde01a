-- The links of an accepted plan ascend by (lower, higher), so no two of them join the same modules (`same-pair`).
use Rattle.std.specs.Prelude.{ℕ, zero, suc, ◌+◌, ◌*◌, ◌<◌, ◌≡◌, ◌&&◌, ◌||◌, eqb}
use Rattle.std.proofs.Common.{not-suc-le-zero, arith, sym, subst}
use Rattle.std.proofs.Math.Bool.{true, and-eq-true_iff}
use Rattle.std.proofs.Math.Dec.{ltb}
use borrow.Author.Tests.{eqb-true, ltb-true}
use Rattle.base.specs.Limits.{max_modules}
use Rattle.base.proofs.laws.Cond.{ltb-cases, by-eq}
use Rattle.base.proofs.laws.Search.{lt-suc-cases}
use Rattle.plan.specs.Links.{Plan, links_of, lower_of, higher_of}
use Rattle.plan.specs.Refusal.{ascends, in_order}
use Rattle.plan.proofs.laws.Accepted.{Accepted}

-- the two modules of link k as one number
abbrev pair : Plan → ℕ → ℕ
pair p k = lower_of p k * max_modules + higher_of p k

module _ (p : Plan) (a : Accepted p) where
  next-rises : (k : ℕ) → suc k < links_of p → pair p k < pair p (suc k)
  unfolding ascends in_order
  next-rises k l =
      let lo = lower_of p k in
      let lo' = lower_of p (suc k) in
      let x = a.each k (omega arith) in
      ltb-cases lo lo' (λ b. (b || (eqb lo lo' && ltb (higher_of p k) (higher_of p (suc k)))) ≡ true → pair p k < pair p (suc k))
      (λ h e. omega (arith, x.inside, a.modules_ok))
      (λ h e. let t = (and-eq-true_iff (eqb lo lo') (ltb (higher_of p k) (higher_of p (suc k)))).0 e in
      omega (arith, eqb-true lo lo' t.0, ltb-true (higher_of p k) (higher_of p (suc k)) t.1))
      (a.each (suc k) l).after

  links-rise : (k j : ℕ) → j < k → k < links_of p → pair p j < pair p k
  links-rise zero j h l = absurd (not-suc-le-zero h)
  links-rise (suc k) j h l = lt-suc-cases j k h
      (λ e. subst (λ i. pair p i < pair p (suc k)) (sym e) (next-rises k l))
      (λ b. omega (arith, links-rise k j b (omega arith), next-rises k l))

  pub same-pair : (j k : ℕ) → j < links_of p → k < links_of p → lower_of p j ≡ lower_of p k → higher_of p j ≡ higher_of p k → j ≡ k
  same-pair j k lj lk e f = by-eq j k (λ q. q)
      (λ n. ltb-cases j k (λ b. j ≡ k)
      (λ h. absurd (omega (arith, links-rise k j h lk)))
      (λ h. absurd (omega (arith, links-rise j k (omega arith) lj))))
