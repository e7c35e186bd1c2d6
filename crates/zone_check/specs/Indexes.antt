-- How records are found without a walk over all of them: by maps from what they are found by to the place of the first
-- such record.
use Rattle.std.specs.Prelude.{◌≡◌, ◌<◌, ◌↔◌, ⊤, ℕ, zero, suc, Bool, false, IsSome, List, MatchOption, Option, Some, None, is_some, cond, length}
use Rattle.std.specs.List.{find, slice_get}
use Rattle.std.specs.Option.{option_and_then, option_map_or}
use Rattle.std.specs.Cmp.Lexicographic.{slice_cmp}
use Rattle.std.specs.Ordering.{nat_cmp}
use Rattle.std.specs.declared.cmp.Ordering.{Ordering}
use Rattle.std.specs.BTreeMap.{BTreeMap, get}
use Rattle.wire_messages.specs.rr.RecordData.{type_of}
use Rattle.wire_messages.specs.declared.rr.rdata.RData.{RData}
use Rattle.wire_messages.specs.declared.rr.record.Record.{Record}
use Rattle.wire_messages.specs.declared.rr.rr_key.RrKey.{RrKey}
use Rattle.wire_messages.specs.rr.RrKeys.{key_cmp}
use Rattle.wire_names.specs.rr.domain.DomainName.{DomainName}
use Rattle.wire_names.specs.rr.domain.NameOrder.{lower_name, name_cmp}
use Rattle.zone_check.specs.CheckedZones.{Records, is_of, is_data_of, is_server_of, is_wild_address_of, type_nsec, type_nsec3param}
use Rattle.zone_check.specs.HashedZones.{IsOfName, is_at, is_of_hash, parameters_of}
use Rattle.zone_check.specs.SignedZones.{is_signature_of}
use Rattle.zone_denials.specs.Nsec3.{Hashing, IsBelow}

-- The place is that of the first of the last records that passes the test, or there is none.
abbrev pub Points : Records → Records → (Record RData → Bool) → Option ℕ → Type 0
Points records last test None = find test last ≡ None
Points records last test (Some place) = slice_get records place ≡ find test last

-- The map has for each name and type the place of its first record among the last.
abbrev pub HasFirsts : Records → Records → BTreeMap RrKey ℕ → Type 0
HasFirsts records last firsts = (q : RrKey) → Points records last (is_of q.name q.record_type) (get key_cmp firsts q)

-- The map has for each name the place of the first of the last records that may not stand beside a CNAME.
abbrev pub HasData : Records → Records → BTreeMap DomainName ℕ → Type 0
HasData records last others = (q : DomainName) → Points records last (is_data_of q) (get name_cmp others q)

-- The map has for each name the place of the first of the last records that is an address of the wildcard right below
-- the name.
abbrev pub HasWilds : Records → Records → BTreeMap DomainName ℕ → Type 0
HasWilds records last wilds = (q : DomainName) → Points records last (is_wild_address_of q) (get name_cmp wilds q)

-- The map has for each name the place of the first of the last records that is an NS record that names it as a host.
abbrev pub HasServers : Records → Records → BTreeMap DomainName ℕ → Type 0
HasServers records last servers = (q : DomainName) → Points records last (is_server_of q) (get name_cmp servers q)

-- The map has the names that NSEC records among the last records have.
abbrev pub HasNsecs : Records → BTreeMap DomainName ℕ → Type 0
HasNsecs last nsecs = (q : DomainName) → is_some (get name_cmp nsecs q) ≡ is_some (find (is_of q type_nsec) last)

-- The map has for each name and type the place of the first of the last records that is a signature over such records.
abbrev pub HasSignatures : Records → Records → BTreeMap RrKey ℕ → Type 0
HasSignatures records last signatures = (q : RrKey) → Points records last (is_signature_of q.name q.record_type) (get key_cmp signatures q)

-- whether the record at a place passes the test
abbrev pub passes_at : Records → (Record RData → Bool) → ℕ → Bool
passes_at records test place = option_map_or test (slice_get records place) false

-- the place of the last record before a place that passes the test, if one does
abbrev pub last_before : Records → (Record RData → Bool) → ℕ → Option ℕ
last_before records test zero = None
last_before records test (suc place) = cond (passes_at records test place) (Some place) (last_before records test place)

-- the place of the last record before a place that is of the name and the type of this one
abbrev pub earlier_of : Records → ℕ → Record RData → Option ℕ
earlier_of records place r = last_before records (is_of (lower_name r.name) (type_of r.rdata)) place

-- The map has for each name and type the place of its last record before a place.
abbrev pub HasLasts : Records → ℕ → BTreeMap RrKey ℕ → Type 0
HasLasts records place lasts = (q : RrKey) → get key_cmp lasts q ≡ last_before records (is_of q.name q.record_type) place

-- For each of so many records there is the place of the last one before it that is of its name and type.
pub record HasEarlierTo (records : Records) (count : ℕ) (earlier : List (Option ℕ)) : Type 0 where
  pub size : length earlier ≡ count
  pub each : (place : ℕ) (r : Record RData) → place < count → slice_get records place ≡ Some r → slice_get earlier place ≡ Some (earlier_of records place r)

-- And for all of them.
abbrev pub HasEarlier : Records → List (Option ℕ) → Type 0
HasEarlier records earlier = HasEarlierTo records (length records) earlier

-- the order of hashes (RFC 5155 section 3.1.7)
abbrev pub hash_cmp : List ℕ → List ℕ → Ordering
hash_cmp = slice_cmp nat_cmp

-- The map has the owner names of the last records.
abbrev pub HasOwners : Records → BTreeMap DomainName ℕ → Type 0
HasOwners last owners = (q : DomainName) → is_some (get name_cmp owners q) ≡ is_some (find (is_at q) last)

-- The map has for each hash the place of the first of the last records that is an NSEC3 record of that hash.
pub record PointsToHash (origin : DomainName) (records last : Records) (hashes : BTreeMap (List ℕ) ℕ) (q : List ℕ) : Type 0 where
  pub points : Points records last (is_of_hash origin q) (get hash_cmp hashes q)
  pub there : is_some (get hash_cmp hashes q) ≡ is_some (find (is_of_hash origin q) last)

abbrev pub HasHashes : DomainName → Records → Records → BTreeMap (List ℕ) ℕ → Type 0
HasHashes origin records last hashes = (q : List ℕ) → PointsToHash origin records last hashes q

-- The map has the hash, or the hash after another or before it.
abbrev pub IsKey : BTreeMap (List ℕ) ℕ → List ℕ → Type 0
IsKey hashes q = IsSome (get hash_cmp hashes q)

abbrev pub IsLaterKey : BTreeMap (List ℕ) ℕ → List ℕ → List ℕ → Type 0
IsLaterKey hashes hash q = IsBelow hash q × IsKey hashes q

abbrev pub IsEarlierKey : BTreeMap (List ℕ) ℕ → List ℕ → List ℕ → Type 0
IsEarlierKey hashes hash q = IsBelow q hash × IsKey hashes q

-- The map has the hashes of the names that exist by the last records.
abbrev pub HasNames : DomainName → Records → Hashing → Records → BTreeMap (List ℕ) ℕ → Type 0
HasNames origin records by last names = (q : List ℕ) → IsSome (get hash_cmp names q) ↔ IsOfName origin records by last q

-- the parameters among the records of a zone with this apex
abbrev pub hashing_in : DomainName → Records → Option Hashing
hashing_in origin records = option_and_then (λ (r : Record RData). parameters_of r.rdata) (find (is_of origin type_nsec3param) records)

-- The map has the hashes of all names that exist, if the zone has parameters.
abbrev pub HasAllNames : DomainName → Records → BTreeMap (List ℕ) ℕ → Type 0
HasAllNames origin records names = MatchOption (hashing_in origin records) ⊤ (λ by. HasNames origin records by records names)
