-- store_records::name_in: a record that ends before its name has none; else what there is of it, by `take_min`.
use Rattle.std.proofs.Common.{◌<◌, length, get_or, take, arith, sym, ap, ◌∙◌, drop_of_length-le}
use Rattle.std.proofs.Math.Seq.{take-nil}
use Rattle.std.proofs.lemmas.List.{take_min}
use Rattle.store.specs.Names.{name_in}
use Rattle.store_records.proofs.Bytes.{tail_all}
use Rattle.store_records.proofs.name_in.Goals as goal

pub returns-in_default : goal.returns-in_default
unfolding name_in
returns-in_default c =
    let r = c.args.r.now in
    let l : length r < 6 = grind (arith, c.in_default.ensures.lookup) in
    sym (ap (take (get_or r 5 0)) (drop_of_length-le r {i = 6} (omega arith)) ∙ take-nil (get_or r 5 0))

pub returns : goal.returns
unfolding name_in
returns c =
    let r = c.args.r.now in
    ap (λ k. take k c.in-Some.rest.now) c.min.ensures ∙ take_min (get_or r 5 0) c.in-Some.rest.now
    ∙ ap (take (get_or r 5 0)) (c.in-Some.ensures.lookup.0.2 ∙ tail_all r 6)
