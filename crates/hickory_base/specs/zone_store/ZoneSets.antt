-- The records of a zone, as sets by name and type (RFC 1034 section 3.6, RFC 2181 section 5).
use Rattle.std.specs.Prelude.{◌≡◌, ◌<◌, ◌^◌, ℕ, Bool, List, [], ◌∷◌, filter, length, map}
use Rattle.std.specs.List.{AllByRecursion, flat_map}
use Rattle.std.specs.List.Sorted.{IsStrictlySortedBy}
use Rattle.std.specs.Map.{keys_of}
use Rattle.std.specs.BTreeMap.{BTreeMap}
use Rattle.std.specs.declared.alloc.Global.{Global}
use Rattle.std.specs.declared.rc.Rc.{Rc}
use Rattle.std.specs.Ordering.{is_eq}
use Rattle.wire_names.specs.rr.domain.DomainName.{DomainName}
use Rattle.wire_names.specs.rr.domain.NameOrder.{SameName, name_eq}
use Rattle.wire_messages.specs.Numbers.{type_soa}
use Rattle.wire_messages.specs.rr.RecordData.{type_of}
use Rattle.wire_messages.specs.rr.RecordSameness.{SameRecord}
use Rattle.wire_messages.specs.declared.rr.rdata.RData.{RData}
use Rattle.wire_messages.specs.declared.rr.rdata.RData.TheVariants as rdata
use Rattle.wire_messages.specs.declared.rr.record.Record.{Record}
use Rattle.wire_messages.specs.declared.rr.rr_key.RrKey.{RrKey}
use Rattle.wire_messages.specs.rr.RrKeys.{key_cmp}
use Rattle.hickory_base.specs.declared.zone_store.record_set.RecordSet.{RecordSet}

-- The record is of the key's name and type.
pub record IsUnder (key : RrKey) (r : Record RData) : Type 0 where
  pub name : SameName r.name key.name
  pub record_type : type_of r.rdata ≡ key.record_type

-- no two records are the same
abbrev pub AreDistinct : List (Record RData) → Type 0
AreDistinct [] = Unit {0}
AreDistinct (r ∷ rs) = AllByRecursion (λ q. ¬ (SameRecord r q)) rs × AreDistinct rs

-- The data of an SOA record. Its serial is a number of 32 bits (RFC 1035 section 3.3.13), on which the arithmetic of
-- serials rests (RFC 1982 section 3).
abbrev pub IsSoaData : RData → Type 0
IsSoaData (rdata.SOA soa) = soa.serial < 2 ^ 32
IsSoaData other = ⊥

-- a record of type SOA has the data of one
abbrev pub IsWellTyped : Record RData → Type 0
IsWellTyped r = type_of r.rdata ≡ type_soa → IsSoaData r.rdata

-- A set as a zone holds it: not empty, under its own key, no record twice, and what is of type SOA an SOA.
pub record IsZoneSet (key : RrKey) (records : List (Record RData)) : Type 0 where
  pub filled : 0 < length records
  pub under : AllByRecursion (IsUnder key) records
  pub distinct : AreDistinct records
  pub typed : AllByRecursion IsWellTyped records

-- Each set is as a zone holds it.
abbrev pub IsZone : List (RrKey × List (Record RData)) → Type 0
IsZone sets = AllByRecursion (λ e. IsZoneSet e.0 e.1) sets

-- all records, in the order of the sets
abbrev pub zone_records : List (RrKey × List (Record RData)) → List (Record RData)
zone_records sets = flat_map (λ e. e.1) sets

-- the keys of the sets ascend, so that none stands twice
abbrev pub AreSetsInOrder : List (RrKey × List (Record RData)) → Type 0
AreSetsInOrder sets = IsStrictlySortedBy key_cmp (keys_of sets)

-- the key has this name and this type
abbrev pub is_key : DomainName → ℕ → RrKey → Bool
is_key name record_type key = is_eq (key_cmp (record { name = name; record_type = record_type }) key)

-- the key has this name
abbrev pub has_name : DomainName → RrKey → Bool
has_name name key = name_eq name key.name

-- the keys of this name, in their order
abbrev pub keys_at : DomainName → List (RrKey × List (Record RData)) → List RrKey
keys_at name sets = filter (has_name name) (keys_of sets)

-- the sets that a map of shared sets holds, in the order of their keys
abbrev pub shared_sets : List (RrKey × Rc RecordSet Global) → List (RrKey × List (Record RData))
shared_sets entries = map (λ e. (e.0, e.1.value)) entries

abbrev pub sets_of : BTreeMap RrKey (Rc RecordSet Global) → List (RrKey × List (Record RData))
sets_of sets = shared_sets sets.entries
