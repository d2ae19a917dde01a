-- Plan values that mean the same plan.
use Rattle.std.specs.Prelude.{ℕ, ◌<◌, ◌≡◌}
use Rattle.plan.specs.Links.{Plan, modules_of, links_of, lower_of, higher_of, near_of, far_of}

pub record Same (p q : Plan) : Type 0 where
  pub modules : modules_of p ≡ modules_of q
  pub links : links_of p ≡ links_of q
  pub lows : (k : ℕ) → k < links_of p → lower_of p k ≡ lower_of q k
  pub highs : (k : ℕ) → k < links_of p → higher_of p k ≡ higher_of q k
  pub nears : (k : ℕ) → k < links_of p → near_of p k ≡ near_of q k
  pub fars : (k : ℕ) → k < links_of p → far_of p k ≡ far_of q k
