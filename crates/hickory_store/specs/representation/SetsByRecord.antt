-- Required RRsets compared with the zone's, record by record: the same as set by set, and nothing has to be collected.
use Rattle.std.specs.Prelude.{◌&&◌, ◌||◌, Bool, true, List, [], ◌∷◌}
use Rattle.std.specs.List.{list_all, list_any}
use Rattle.wire_messages.specs.rr.RecordData.{type_of}
use Rattle.wire_messages.specs.declared.rr.rdata.RData.{RData}
use Rattle.wire_messages.specs.declared.rr.record.Record.{Record}
use Rattle.hickory_base.specs.zone_store.ZoneRecords.{is_of, rrset}
use Rattle.hickory_store.specs.updates.Identity.{same_record}

-- every record of a set is required
abbrev pub are_required : List (Record RData) → List (Record RData) → Bool
are_required required records = list_all (λ q. list_any (same_record q) required) records

-- a required record is among those of its RRset, and each of these is required; the last required record of the set
-- stands for that
abbrev pub is_matched_by : List (Record RData) → List (Record RData) → List (Record RData) → Record RData → Bool
is_matched_by records required later r = list_any (same_record r) records && (list_any (is_of r.name (type_of r.rdata)) later || are_required required records)

-- the zone's RRset
abbrev pub is_matched : List (Record RData) → List (Record RData) → List (Record RData) → Record RData → Bool
is_matched zone required later r = is_matched_by (rrset zone r.name (type_of r.rdata)) required later r

abbrev pub are_matched : List (Record RData) → List (Record RData) → List (Record RData) → Bool
are_matched zone required [] = true
are_matched zone required (r ∷ rs) = is_matched zone required rs r && are_matched zone required rs
