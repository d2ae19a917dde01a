-- host_store::kept: what all take without what that of the name takes, by `lengths`; nothing where none has the name.
use Rattle.std.proofs.Common.{◌+◌, ◌≡◌, List, ℕ, length, arith, ap}
use Rattle.std.proofs.lemmas.Bool.Decides.{nat_tests}
use Rattle.store.specs.declared.Spot.{Spot}
use Rattle.store.specs.Records.{records_in, joined}
use Rattle.store.specs.Names.{is_named, without_first, spot_of}
use Rattle.store_records.specs.Spots.{lengths}
use Rattle.host_store.proofs.kept.Goals as goal

-- the records that stay and the one of the name
stay : (name s : List ℕ) → length (joined (without_first (is_named name) (records_in s))) + (spot_of name s).size ≡ length (joined (records_in s))
stay name s = lengths (is_named name) 0 (records_in s)

pub overflow_sub-result : goal.overflow_sub-result
overflow_sub-result c = omega (arith, stay c.args.name.now c.args.store.now, ap (λ (p : Spot). p.size) c.in-Some.ensures.1)

pub returns-in-Some : goal.returns-in-Some
returns-in-Some c = omega (arith, stay c.args.name.now c.args.store.now, ap (λ (p : Spot). p.size) c.in-Some.ensures.1)

pub returns-in-None : goal.returns-in-None
returns-in-None c = grind (arith, nat_tests, stay c.args.name.now c.args.store.now, c.in-None.ensures)
