-- store_records::place_of: a walk; the record stands where it stands among those that are left, by `seek-on`, `seek_hit` and `seek-ends`;
-- where the records end, by `used-on` and `used-ends`.
use Rattle.std.proofs.Common.{◌≡◌, ◌+◌, length}
use Rattle.store.specs.Records.{records_in, joined}
use Rattle.store.specs.Names.{is_named, spot_from}
use Rattle.store_records.proofs.place_of.Given as goal

abbrev pub invariant-loop-record : goal.invariant-loop-record
invariant-loop-record l = record {
  bytes : l.at + length l.rest ≡ length l.s;
  counted : length (joined (records_in l.s)) ≡ l.at + length (joined (records_in l.rest));
  sought : spot_from (is_named l.name) 0 (records_in l.s) ≡ spot_from (is_named l.name) l.at (records_in l.rest);
}

abbrev pub decreases-loop-record : goal.decreases-loop-record
decreases-loop-record l = length l.rest
