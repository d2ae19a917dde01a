-- A law for each outcome of the head's check, each under the tests that came before: `h-short`, `h-version`, `h-length`, `h-least`, `h-counts`.
use Prim.Native.Nat.{ℕ, ◌-◌, ◌≤◌, ◌<◌}
use mathlib.Core.Path.{◌≡◌}
use mathlib.Core.Logic.{◌≢◌}
use borrow.Author.Tests.{lt-ltb, le-ltb, eq-eqb, ne_eqb}
use Rattle.plan_file.specs.Reading.{head_verdict}

module _ (size version len counts : ℕ) where
  pub h-short : size < 3 → 11 ≡ head_verdict size version len counts
  unfolding head_verdict
  h-short h = rw (lt-ltb size 3 h)

  module _ (a : 3 ≤ size) where
    pub h-version : version ≢ 1 → 12 ≡ head_verdict size version len counts
    unfolding head_verdict
    h-version h = rw (le-ltb size 3 a, ne_eqb version 1 h)

    module _ (b : version ≡ 1) where
      pub h-length : len ≢ size - 3 → 13 ≡ head_verdict size version len counts
      unfolding head_verdict
      h-length h = rw (le-ltb size 3 a, eq-eqb version 1 b, ne_eqb len (size - 3) h)

      module _ (d : len ≡ size - 3) where
        pub h-least : len < 4 → 13 ≡ head_verdict size version len counts
        unfolding head_verdict
        h-least h = rw (le-ltb size 3 a, eq-eqb version 1 b, eq-eqb len (size - 3) d, lt-ltb len 4 h)

        pub h-counts : 4 ≤ len → counts ≡ head_verdict size version len counts
        unfolding head_verdict
        h-counts h = rw (le-ltb size 3 a, eq-eqb version 1 b, eq-eqb len (size - 3) d, le-ltb len 4 h)
