-- `earlier` is a strict order of the links without ties (`order_of`); an earlier link costs no more (`earlier-cost`), and of equal costs has no larger sum
-- of readings (`earlier-sum`).
use Rattle.std.specs.Prelude.{ℕ, ◌<◌, ◌≤◌, ◌≡◌, ◌≢◌, ◌⊎◌, true, false}
use Rattle.std.proofs.Math.Dec.{ltb}
use Rattle.graph.specs.Order.{Order}
use Rattle.plan.specs.Links.{Plan, links_of}
use Rattle.plan.proofs.laws.Keys.{keyed, key_order, number_order}
use Rattle.plan.specs.Weights.{cost, reading_sum, among_equal, earlier}

module _ (p : Plan) where
  abbrev keys : Order (links_of p)
  keys = key_order (cost p) (key_order (reading_sum p) number_order)

  pub earlier-irrefl : (a : ℕ) → earlier p a a ≡ false
  unfolding earlier
  earlier-irrefl = keys.irrefl

  pub earlier-trans : (a b c : ℕ) → earlier p a b ≡ true → earlier p b c ≡ true → earlier p a c ≡ true
  unfolding earlier
  earlier-trans = keys.trans

  pub earlier-total : (a b : ℕ) → a < links_of p → b < links_of p → a ≢ b → (earlier p a b ≡ true) ⊎ (earlier p b a ≡ true)
  unfolding earlier
  earlier-total = keys.total

  -- an earlier link costs no more
  pub earlier-cost : (a b : ℕ) → earlier p a b ≡ true → cost p a ≤ cost p b
  unfolding earlier
  earlier-cost a b e = (keyed (cost p) (among_equal p) a b e).first

  -- and where it costs the same, its readings have no larger sum
  pub earlier-sum : (a b : ℕ) → earlier p a b ≡ true → cost p a ≡ cost p b → reading_sum p a ≤ reading_sum p b
  unfolding earlier
  earlier-sum a b e q = (keyed (reading_sum p) ltb a b ((keyed (cost p) (among_equal p) a b e).tie q)).first

  -- a strict order of the links without ties
  abbrev pub order_of : Order (links_of p)
  order_of = record { earlier = earlier p; irrefl = earlier-irrefl; trans = earlier-trans; total = earlier-total }
