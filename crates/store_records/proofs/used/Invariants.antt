-- store_records::used: a walk; so many bytes and those of the records that are left, by `used-on` and `used-ends`.
use Rattle.std.proofs.Common.{◌≡◌, ◌+◌, length}
use Rattle.store.specs.Records.{records_in, joined}
use Rattle.store_records.proofs.used.Given as goal

abbrev pub invariant-loop-record : goal.invariant-loop-record
invariant-loop-record l = record {
  bytes : l.size + length l.rest ≡ length l.s;
  counted : length (joined (records_in l.s)) ≡ l.size + length (joined (records_in l.rest));
}

abbrev pub decreases-loop-record : goal.decreases-loop-record
decreases-loop-record l = length l.rest
