-- store_check::store_fits: a walk; the store fits if what is left of it does, by `fit_on`, `fit-stops` and `fit-ends`.
use Rattle.std.proofs.Common.{◌≡◌, length}
use Rattle.store.specs.Calls.{store_fits}
use Rattle.store_check.proofs.store_fits.Given as goal

abbrev pub invariant-loop-record : goal.invariant-loop-record
invariant-loop-record l = store_fits l.s ≡ store_fits l.rest

abbrev pub decreases-loop-record : goal.decreases-loop-record
decreases-loop-record l = length l.rest
