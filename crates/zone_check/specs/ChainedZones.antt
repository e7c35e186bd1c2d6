-- A signed zone of which nothing is found has a complete chain of NSEC or NSEC3 records.
use Rattle.std.specs.Prelude.{◌≡◌, ◌∷◌, ℕ, Bool, List, [], filter, is_some, map, not, true, Some}
use Rattle.std.specs.List.{Contains}
use Rattle.std.specs.Option.{option_and_then}
use Rattle.wire_messages.specs.rr.RecordData.{type_of}
use Rattle.wire_messages.specs.declared.rr.rdata.RData.{RData}
use Rattle.wire_messages.specs.declared.rr.record.Record.{Record}
use Rattle.wire_messages.specs.declared.rr.rr_key.RrKey.{RrKey}
use Rattle.zone_check.specs.CheckedZones.{CheckedZone, first_of, type_nsec3}
use Rattle.zone_check.specs.Findings.{Holds, at_place, of_zone}
use Rattle.zone_check.specs.HashedZones.{hashing_of, nsec3_of}
use Rattle.zone_check.specs.SignedZones.{IsHashed, IsSigned, nsec_of, octets_of}
use Rattle.zone_check.specs.declared.finding.Kind.{Kind}
use Rattle.zone_check.specs.declared.finding.Kind.TheVariants as kind
use Rattle.zone_denials.specs.Nsec.{Nsec}
use Rattle.zone_denials.specs.Nsec3.{Hashing, Nsec3}
use Rattle.zone_denials.specs.Nsec3Data.{parameters_in}
use Rattle.zone_denials.specs.SignedZone.{IsChained, ZoneKeys}
use Rattle.zone_denials.specs.SignedZone3.{IsChained3}

abbrev pub key_in : Record RData → RrKey
key_in r = record { name = r.name; record_type = type_of r.rdata }

-- the zone by the names and types of its records
abbrev pub keys_in : CheckedZone → ZoneKeys
keys_in zone = record { origin = zone.origin; keys = map key_in zone.records }

-- the kinds of findings of a record by which a chain of NSEC records is not complete, or may not be
abbrev pub chain_kinds : List Kind
chain_kinds = kind.Outside ∷ kind.SoaBelowApex ∷ kind.NoNsec ∷ kind.UnreadNsec ∷ kind.OtherNext ∷ kind.IdleType ∷ kind.Unlisted ∷ []

-- The same of a chain of NSEC3 records.
abbrev pub hash_chain_kinds : List Kind
hash_chain_kinds =
    kind.Outside ∷ kind.SoaBelowApex ∷ kind.UnreadNsec3 ∷ kind.OtherParameters ∷ kind.OtherNextHash ∷ kind.IdleNsec3 ∷ kind.BesideNsec3 ∷ kind.NoNsec3 ∷ kind.IdleType3 ∷ kind.Unlisted3 ∷ []

-- The zone is signed and has an SOA record, its names are fully qualified, as those of zone files are, and no finding of these
-- kinds holds.
pub record IsFaultless (kinds : List Kind) (zone : CheckedZone) : Type 0 where
  pub apex : zone.origin.is_fqdn ≡ true
  pub qualified : (r : Record RData) → Contains zone.records r → r.name.is_fqdn ≡ true
  pub signed : IsSigned zone
  pub start : ¬ (Holds zone (of_zone kind.NoSoa))
  pub none : (place : ℕ) (k : Kind) → Contains kinds k → ¬ (Holds zone (at_place place k))

-- An NSEC record of the zone says this.
pub record IsSaid (zone : CheckedZone) (n : Nsec) : Type 0 where
  pub r : Record RData
  pub held : Contains zone.records r
  pub says : nsec_of r ≡ Some n

-- Then NSEC records of a zone without NSEC3 parameters are a complete chain (RFC 4035 section 2.3).
abbrev pub FaultlessZonesAreChained : Type 0
FaultlessZonesAreChained = (zone : CheckedZone) → IsFaultless chain_kinds zone → ¬ (IsHashed zone) → (chain : List Nsec) × IsChained (keys_in zone) chain × ((n : Nsec) → Contains chain n → IsSaid zone n)

-- An NSEC3 record of the zone with these parameters says this.
pub record IsSaid3 (zone : CheckedZone) (by : Hashing) (n : Nsec3) : Type 0 where
  pub r : Record RData
  pub held : Contains zone.records r
  pub says : nsec3_of zone.origin r ≡ Some n
  pub parameters : option_and_then parameters_in (octets_of type_nsec3 r.rdata) ≡ Some by

-- whether the owner name of the record has no NSEC3 record
abbrev pub is_named : CheckedZone → Record RData → Bool
is_named zone r = not (is_some (first_of zone r.name type_nsec3))

-- the zone by the names and types of its records, without the owners of NSEC3 records (RFC 5155 section 7.2.8)
abbrev pub names_in : CheckedZone → ZoneKeys
names_in zone = record { origin = zone.origin; keys = map key_in (filter (is_named zone) zone.records) }

-- Then a zone with NSEC3 parameters has readable ones, and NSEC3 records with these are a complete chain (RFC 5155 section
-- 7.1).
abbrev pub FaultlessZonesAreHashed : Type 0
FaultlessZonesAreHashed = (zone : CheckedZone) → IsFaultless hash_chain_kinds zone → IsHashed zone → (by : Hashing) × (hashing_of zone ≡ Some by) × (chain : List Nsec3) × IsChained3 (names_in zone) by chain × ((n : Nsec3) → Contains chain n → IsSaid3 zone by n)
