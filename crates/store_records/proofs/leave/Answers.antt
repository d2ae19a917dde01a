-- store_records::leave: the part from the record on closes up, by `leave-is`; a name that is not held leaves all as it is, by `leave-none`.
use Rattle.std.proofs.Common.{arith, refl}
use Rattle.store.specs.Names.{is_named}
use Rattle.store_records.proofs.Turns.{spot-inside, part_room, leave-is, leave-none}
use Rattle.store_records.proofs.leave.Goals as goal

pub slice_bounds-close_up-count : goal.slice_bounds-close_up-count
slice_bounds-close_up-count c = omega (arith, spot-inside c.args.s.now (is_named c.args.name.now) c.in-Some.p c.in-Some.ensures.1)

pub slice_bounds-close_up-start : goal.slice_bounds-close_up-start
slice_bounds-close_up-start c = omega (arith, spot-inside c.args.s.now (is_named c.args.name.now) c.in-Some.p c.in-Some.ensures.1)

pub close_up-requires : goal.close_up-requires
close_up-requires c = part_room c.args.s.now (is_named c.args.name.now) c.in-Some.p c.in-Some.ensures.1

pub returns-in-Some : goal.returns-in-Some
returns-in-Some c =
    leave-is c.args.s.now (is_named c.args.name.now) c.in-Some.p c.in-Some.ensures.1 c.requires c.close_up.new.t c.close_up.ensures

pub returns-in_default : goal.returns-in_default
returns-in_default c = leave-none c.args.s.now (is_named c.args.name.now) _ refl (grind arith) c.requires
