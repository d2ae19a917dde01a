-- store_check::body_in: what is behind the name, nothing in a record that ends before its name does.
use Rattle.std.proofs.Common.{◌+◌, ◌≤◌, length, arith, sym, ◌∙◌, drop_of_length-le}
use Rattle.store.specs.Names.{name_size, body_in}
use Rattle.store_records.proofs.Bytes.{tail_all}
use Rattle.store_check.proofs.body_in.Goals as goal

pub returns-then-r-lt6 : goal.returns-then-r-lt6
unfolding body_in
returns-then-r-lt6 c = sym (drop_of_length-le c.args.r.now {i = 6 + name_size c.args.r.now} (omega arith))

pub returns-in-Some : goal.returns-in-Some
unfolding body_in
returns-in-Some c = c.in-Some.ensures.lookup.0.2 ∙ tail_all c.args.r.now (6 + name_size c.args.r.now)

pub returns-in-None : goal.returns-in-None
unfolding body_in
returns-in-None c =
    let l : length c.args.r.now ≤ 6 + name_size c.args.r.now = grind (arith, c.in-None.ensures.lookup) in
    sym (drop_of_length-le c.args.r.now l)
