-- Records of a zone found by their name and type.
use Rattle.std.specs.Prelude.{◌≡◌, ◌<◌, ◌^◌, ℕ, cond, List, [], Option, Some, None}
use Rattle.std.specs.Map.{lookup}
use Rattle.wire_names.specs.rr.domain.DomainName.{DomainName}
use Rattle.wire_messages.specs.declared.rr.rdata.RData.{RData}
use Rattle.wire_messages.specs.declared.rr.rdata.RData.TheVariants as rdata
use Rattle.wire_messages.specs.declared.rr.record.Record.{Record}
use Rattle.hickory_base.specs.zone_store.ZoneRecords.{existing, rrset}
use Rattle.hickory_base.specs.zone_store.ZoneSets.{is_key}
use Rattle.wire_messages.specs.declared.rr.rr_key.RrKey.{RrKey}

-- what stands under each name and type is the RRset that these records have of them
abbrev pub HoldsSets : List (Record RData) → List (RrKey × List (Record RData)) → Type 0
HoldsSets records sets = (name : DomainName) (record_type : ℕ) → lookup (is_key name record_type) sets ≡ existing (rrset records name record_type)

-- this set, if any, stands under the key, and under each other key what stood there
abbrev pub PutsSet : RrKey → Option (List (Record RData)) → List (RrKey × List (Record RData)) → List (RrKey × List (Record RData)) → Type 0
PutsSet key set old new =
    (name : DomainName) (record_type : ℕ) → lookup (is_key name record_type) new ≡ cond (is_key name record_type key) set (lookup (is_key name record_type) old)

abbrev pub or_none : Option (List (Record RData)) → List (Record RData)
or_none None = []
or_none (Some records) = records

-- the records under a key
abbrev pub records_under : RrKey → List (RrKey × List (Record RData)) → List (Record RData)
records_under key sets = or_none (lookup (is_key key.name key.record_type) sets)

-- The serial of an SOA has 32 bits (RFC 1035 section 3.3.13).
abbrev pub HasSerial : Record RData → Type 0
HasSerial r = has_serial r.rdata where
  has_serial : RData → Type 0
  has_serial (rdata.SOA soa) = soa.serial < 2 ^ 32
  has_serial other = Unit {0}
