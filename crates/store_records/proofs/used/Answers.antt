use Rattle.std.proofs.Common.{arith}
use Rattle.store_records.proofs.Turns.{splits-length, used-ends, used-on}
use Rattle.store_records.proofs.used.Goals as goal

pub loop-record-preserved : goal.loop-record-preserved
loop-record-preserved c = record {
  bytes = omega (arith, splits-length c.in-Some.ensures);
  counted = used-on _ _ _ c.loop-record.invariant.counted c.in-Some.ensures;
}

pub returns : goal.returns
returns c = used-ends _ _ _ c.loop-record.invariant.counted c.in_default.ensures
