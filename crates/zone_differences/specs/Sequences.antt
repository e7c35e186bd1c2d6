-- How differences stand in a transfer (RFC 1995 section 4).
use Rattle.std.specs.Prelude.{◌++◌, ◌∷◌, List, Result, Ok, Err}
use Rattle.std.specs.List.{flat_map}
use Rattle.wire_messages.specs.declared.rr.rdata.RData.{RData}
use Rattle.wire_messages.specs.declared.rr.record.Record.{Record}
use Rattle.hickory_base.specs.declared.errors.LookupError.{LookupError}
use Rattle.hickory_base.specs.declared.zone_store.lookup.ZoneTransfer.{ZoneTransfer}
use Rattle.zone_differences.specs.declared.difference.Difference.{Difference}

-- one difference: the old SOA, the records that go, the new SOA, the records that come
abbrev pub sequence : Difference → List (Record RData)
sequence difference = difference.old_soa ∷ difference.deleted ++ difference.new_soa ∷ difference.added

-- The SOA of the zone as it is, the differences from the oldest to the newest, and that SOA again. Given is what there
-- is in the place of the SOA alone.
abbrev pub with_differences : List Difference → Result ZoneTransfer LookupError → Result ZoneTransfer LookupError
with_differences differences (Ok soa) = Ok (record { records = soa.records ++ flat_map sequence differences ++ soa.records })
with_differences differences (Err e) = Err e
