use Rattle.std.proofs.Common.{arith, sym, ap, ◌∙◌}
use Rattle.store_records.proofs.Turns.{splits-length, used-ends, used-on, seek-ends, seek_hit, seek-on}
use Rattle.store_records.proofs.place_of.Goals as goal

pub returns-then-is_named : goal.returns-then-is_named
returns-then-is_named c =
    seek_hit _ _ _ _ c.loop-record.invariant.sought c.in-Some.ensures (sym c.is_named.ensures ∙ c.if-is_named.true)

pub loop-record-preserved : goal.loop-record-preserved
loop-record-preserved c = record {
  bytes = omega (arith, splits-length c.in-Some.ensures);
  counted = used-on _ _ _ c.loop-record.invariant.counted c.in-Some.ensures;
  sought = seek-on _ _ _ _ c.loop-record.invariant.sought c.in-Some.ensures (sym c.is_named.ensures ∙ c.if-is_named.false);
}

pub returns : goal.returns
returns c =
    let i = c.loop-record.invariant in
    let n = seek-ends _ _ _ _ i.sought c.in_default.ensures in
    (n.0, sym n.1 ∙ ap (λ a. record { at = a; size = 0 }) (used-ends _ _ _ i.counted c.in_default.ensures))
