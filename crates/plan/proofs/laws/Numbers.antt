-- The numbers that a plan value is refused by: 14 to 18 (`plan-number`).
use Rattle.std.specs.Prelude.{ℕ, zero, suc, ◌≤◌, ◌≡◌, refl, ◌⊎◌, Bool, true, not, cond, ◌||◌, ltb, leb}
use Rattle.std.proofs.Common.{arith, inl, inr}
use Rattle.base.specs.Limits.{max_modules, max_links, max_reading}
use Rattle.base.specs.Refuse.{first_refusal}
use Rattle.base.proofs.laws.Cond.{eqb-cases, cond_has}
use Rattle.plan.specs.Links.{Plan, modules_of, links_of, lower_of, higher_of, near_of, far_of}
use Rattle.plan.specs.Refusal.{counts_refusal, in_order, link_verdict, link_refusal, links_refusal, plan_refusal}

-- 0, or one of 14 to 18
abbrev pub PlanNumber : ℕ → Type 0
PlanNumber r = (r ≡ 0) ⊎ ((14 ≤ r) × (r ≤ 18))

first-number : (a b : ℕ) → PlanNumber a → PlanNumber b → PlanNumber (first_refusal a b)
first-number a b x y = eqb-cases a 0 (λ t. PlanNumber (cond t b a)) (λ e. y) (λ n. x)

verdict-number : (n lo hi : ℕ) (t : Bool) (near far : ℕ) → PlanNumber (link_verdict n lo hi t near far)
unfolding link_verdict
verdict-number n lo hi t near far =
    cond_has PlanNumber (leb hi lo || leb n hi) 16 _ (inr (omega arith, omega arith))
    (cond_has PlanNumber (not t) 17 _ (inr (omega arith, omega arith))
    (cond_has PlanNumber (ltb max_reading near || ltb max_reading far) 18 _ (inr (omega arith, omega arith)) (inl refl)))

link-number : (p : Plan) (n k : ℕ) → PlanNumber (links_refusal p n k)
unfolding links_refusal
link-number p zero k = inl refl
link-number p (suc n) k = first-number (link_refusal p k) (links_refusal p n (suc k))
    (verdict-number (modules_of p) (lower_of p k) (higher_of p k) (in_order p k) (near_of p k) (far_of p k)) (link-number p n (suc k))

pub plan-number : (p : Plan) → PlanNumber (plan_refusal p)
unfolding plan_refusal
plan-number p = first-number (counts_refusal (modules_of p) (links_of p) true) _
    (cond_has PlanNumber (ltb max_modules (modules_of p)) 14 _ (inr (omega arith, omega arith)) (cond_has PlanNumber (ltb max_links (links_of p) || not true) 15 _ (inr (omega arith, omega arith)) (inl refl)))
    (link-number p (links_of p) 0)
