-- A plan with zeros past its links: the same plan, in the form in which it is read from bytes and in which a field holds it.
use Rattle.std.specs.Prelude.{ℕ, ◌-◌, ◌++◌, get_or, replicate}
use Rattle.base.specs.Table.{tabulate}
use Rattle.plan.specs.Links.{Plan, links_of, plan_numbers, plan_size}

-- a plan value of n numbers, zeros past them
unfoldable pub padded : ℕ → (ℕ → ℕ) → Plan
padded n f = tabulate n f ++ replicate (plan_size - n) 0

unfoldable pub trimmed : Plan → Plan
unfolding padded
trimmed p = padded (plan_numbers (links_of p)) (λ i. get_or p i 0)
