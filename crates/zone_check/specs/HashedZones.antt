-- What is asked of a zone that is signed with NSEC3 records (RFC 5155).
use Rattle.std.specs.Prelude.{◌≡◌, ◌<◌, ◌≤◌, ◌==◌, ◌&&◌, ◌⊎◌, ◌∷◌, ℕ, Bool, true, false, cond, IsSome, List, [], length, Option, Some, None, MatchOption}
use Rattle.std.specs.Cmp.Lexicographic.{slice_cmp}
use Rattle.std.specs.List.{Contains, find}
use Rattle.std.specs.Option.{option_and_then}
use Rattle.std.specs.Ordering.{is_eq, nat_cmp}
use Rattle.wire_names.specs.rr.domain.DomainName.{DomainName}
use Rattle.wire_names.specs.rr.domain.NameOrder.{Encloses, lower_name, name_eq}
use Rattle.wire_messages.specs.rr.RecordData.{type_of}
use Rattle.wire_messages.specs.declared.rr.rdata.RData.{RData}
use Rattle.wire_messages.specs.declared.rr.record.Record.{Record}
use Rattle.zone_check.specs.CheckedZones.{CheckedZone, IsCut, Owns, Records, ancestor, first_of, is_of, type_ds, type_nsec3, type_nsec3param, type_rrsig}
use Rattle.zone_check.specs.SignedZones.{HasIdleType, IsListed, IsOfZone, octets_of}
use Rattle.zone_denials.specs.HashLabels.{hash_in}
use Rattle.zone_denials.specs.Nsec3.{Hashing, IsBelow, Nsec3, hash_of}
use Rattle.zone_denials.specs.Nsec3Data.{nsec3_in, parameters_in, zone_parameters_in}

-- the parameters that an NSEC3PARAM record has (RFC 5155 section 4.2)
abbrev pub parameters_of : RData → Option Hashing
parameters_of content = option_and_then zone_parameters_in (octets_of type_nsec3param content)

-- the parameters of the zone, those of the first NSEC3PARAM record of its apex
abbrev pub hashing_of : CheckedZone → Option Hashing
hashing_of zone = option_and_then (λ (r : Record RData). parameters_of r.rdata) (first_of zone zone.origin type_nsec3param)

abbrev pub label_hash : List (List ℕ) → Option (List ℕ)
label_hash [] = None
label_hash (label ∷ labels) = hash_in label

-- whether the record is an NSEC3 record whose owner name is right below this apex
abbrev pub is_hash_owner : DomainName → Record RData → Bool
is_hash_owner origin r = (type_of r.rdata == type_nsec3) && name_eq (ancestor r.name 1) origin

-- the hash that the first label of the owner name of an NSEC3 record is (RFC 5155 section 3)
abbrev pub hash_at : DomainName → Record RData → Option (List ℕ)
hash_at origin r = cond (is_hash_owner origin r) (label_hash r.name.labels) None

abbrev pub is_hash : List ℕ → Option (List ℕ) → Bool
is_hash hash (Some other) = is_eq (slice_cmp nat_cmp other hash)
is_hash hash None = false

-- the record is an NSEC3 record of this hash
abbrev pub is_of_hash : DomainName → List ℕ → Record RData → Bool
is_of_hash origin hash r = is_hash hash (hash_at origin r)

-- the first NSEC3 record of the zone with this hash
abbrev pub first_with : CheckedZone → List ℕ → Option (Record RData)
first_with zone hash = find (is_of_hash zone.origin hash) zone.records

-- An NSEC3 record of the zone has the hash.
abbrev pub HasHash : CheckedZone → List ℕ → Type 0
HasHash zone hash = IsSome (first_with zone hash)

-- what an NSEC3 record of a zone with this apex says, if its owner name and its data have their form
abbrev pub nsec3_of : DomainName → Record RData → Option Nsec3
nsec3_of origin r = option_and_then (λ hash. option_and_then (nsec3_in hash) (octets_of type_nsec3 r.rdata)) (hash_at origin r)

-- what the first NSEC3 record with this hash says
abbrev pub nsec3_at : CheckedZone → List ℕ → Option Nsec3
nsec3_at zone hash = option_and_then (nsec3_of zone.origin) (first_with zone hash)

-- What is said holds of what an NSEC3 record says.
abbrev pub OfNsec3 : (Nsec3 → Type 0) → Option Nsec3 → Type 0
OfNsec3 Is said = MatchOption said ⊥ Is

-- An NSEC3 record has not the form of one of SHA-1, or an NSEC3PARAM record not that of one with flags 0 (RFC 5155 sections
-- 3, 4.1.2 and 11).
abbrev pub IsUnreadNsec3 : CheckedZone → Record RData → Type 0
IsUnreadNsec3 zone r = ((type_of r.rdata ≡ type_nsec3) × (nsec3_of zone.origin r ≡ None)) ⊎ ((type_of r.rdata ≡ type_nsec3param) × (parameters_of r.rdata ≡ None))

-- An NSEC3 record has other parameters than the zone (RFC 5155 section 7.1).
abbrev pub HasOtherParameters : Hashing → Record RData → Type 0
HasOtherParameters by r = MatchOption (option_and_then parameters_in (octets_of type_nsec3 r.rdata)) ⊥ (λ other. ¬ (other ≡ by))

-- An NSEC3 record has a hash after this one (RFC 5155 section 3.1.7).
pub record IsLaterHash (zone : CheckedZone) (hash other : List ℕ) : Type 0 where
  pub after : IsBelow hash other
  pub there : HasHash zone other

-- An NSEC3 record has a hash before this one.
pub record IsEarlierHash (zone : CheckedZone) (hash other : List ℕ) : Type 0 where
  pub before : IsBelow other hash
  pub there : HasHash zone other

-- It is the first of the hashes of which something is said.
pub record IsFirst (Is : List ℕ → Type 0) (hash : List ℕ) : Type 0 where
  pub is : Is hash
  pub least : (other : List ℕ) → Is other → ¬ (IsBelow other hash)

-- It is the last of them.
pub record IsLast (Is : List ℕ → Type 0) (hash : List ℕ) : Type 0 where
  pub is : Is hash
  pub greatest : (other : List ℕ) → Is other → ¬ (IsBelow hash other)

-- The hash is the next one of the NSEC3 records: the first after this one, or if none is, the first of all (RFC 5155 section
-- 3.1.7).
abbrev pub IsNextHash : CheckedZone → List ℕ → List ℕ → Type 0
IsNextHash zone hash next = IsFirst (IsLaterHash zone hash) next ⊎ (IsFirst (HasHash zone) next × ((other : List ℕ) → ¬ (IsLaterHash zone hash other)))

-- The record with this hash may cover another one: it is the last before that, or if none is, the last of all (RFC 5155
-- section 1.3).
abbrev pub IsCover : CheckedZone → List ℕ → List ℕ → Type 0
IsCover zone hash cover = IsLast (IsEarlierHash zone hash) cover ⊎ (IsLast (HasHash zone) cover × ((other : List ℕ) → ¬ (IsEarlierHash zone hash other)))

-- That record has opted out (RFC 5155 section 6).
pub record IsOptedOut (zone : CheckedZone) (hash : List ℕ) : Type 0 where
  pub cover : List ℕ
  pub covers : IsCover zone hash cover
  pub out : OfNsec3 (λ n. n.opt_out ≡ true) (nsec3_at zone cover)

-- The next hash of an NSEC3 record is not that of the next one (RFC 5155 section 3.1.7).
abbrev pub HasOtherNextHash : CheckedZone → Record RData → Type 0
HasOtherNextHash zone r = OfNsec3 (λ n. ¬ (IsNextHash zone n.hash n.next)) (nsec3_of zone.origin r)

-- The owner name is one of the zone: it has no NSEC3 record (RFC 5155 section 7.2.8).
abbrev pub IsNamed : CheckedZone → Record RData → Type 0
IsNamed zone r = ¬ (Owns zone r.name type_nsec3)

-- whether the record is of this name
abbrev pub is_at : DomainName → Record RData → Bool
is_at name r = name_eq r.name name

-- The name owns nothing, or only NSEC3 records and what is beside them.
abbrev pub OwnsNothing : CheckedZone → DomainName → Type 0
OwnsNothing zone name = (¬ (IsSome (find (is_at name) zone.records))) ⊎ Owns zone name type_nsec3

-- And what is said holds of it.
pub record IsEmptyAnd (zone : CheckedZone) (Is : DomainName → Type 0) (name : DomainName) : Type 0 where
  pub empty : OwnsNothing zone name
  pub is : Is name

-- The same of a name above this one, letter case aside.
pub record IsAbove (zone : CheckedZone) (Is : DomainName → Type 0) (name : DomainName) : Type 0 where
  pub count : ℕ
  pub above : 0 < count
  pub is_ancestor : count ≤ length name.labels
  pub holds : IsEmptyAnd zone Is (ancestor (lower_name name) count)

-- Of a name that exists by the record something is said: one thing of its owner name, or the other of a name above it that
-- owns nothing (RFC 4592 section 2.2.2).
pub record IsByName (zone : CheckedZone) (Is IsEmpty : DomainName → Type 0) (r : Record RData) : Type 0 where
  pub named : IsNamed zone r
  pub is : Is (lower_name r.name) ⊎ IsAbove zone IsEmpty r.name

-- Records of the name may have no NSEC3 record if they are covered by one that has opted out: they are not of the zone, or of
-- a cut without DS records (RFC 5155 section 7.1).
abbrev pub MayBeLeftOut : CheckedZone → DomainName → Type 0
MayBeLeftOut zone name = (¬ (IsOfZone zone name)) ⊎ (IsCut zone name × (¬ (Owns zone name type_ds)))

-- A name of the zone has no NSEC3 record, and has to have one: that which covers it has not opted out, or may not leave out
-- the record by which the name exists (RFC 5155 section 7.1).
pub record LacksHash (zone : CheckedZone) (by : Hashing) (owner name : DomainName) : Type 0 where
  pub of_zone : IsOfZone zone name
  pub none : ¬ (HasHash zone (hash_of by name))
  pub kept : (¬ (IsOptedOut zone (hash_of by name))) ⊎ (¬ (MayBeLeftOut zone owner))

-- The name is in the zone of this apex and has this hash.
pub record HasNameHash (origin : DomainName) (by : Hashing) (hash : List ℕ) (name : DomainName) : Type 0 where
  pub within : Encloses origin.labels name.labels
  pub is : hash_of by name ≡ hash

-- The hash is that of a name of the zone that exists by this record (RFC 5155 section 7.1).
pub record IsByRecord (origin : DomainName) (records : Records) (by : Hashing) (hash : List ℕ) (r : Record RData) : Type 0 where
  pub named : ¬ (IsSome (find (is_of r.name type_nsec3) records))
  pub count : ℕ
  pub is_ancestor : count ≤ length r.name.labels
  pub has : HasNameHash origin by hash (ancestor (lower_name r.name) count)

-- The hash is that of a name that exists by one of the last of these records.
pub record IsOfName (origin : DomainName) (records : Records) (by : Hashing) (last : Records) (hash : List ℕ) : Type 0 where
  pub r : Record RData
  pub held : Contains last r
  pub is : IsByRecord origin records by hash r

-- No name of the zone has the hash of an NSEC3 record.
abbrev pub IsIdleNsec3 : CheckedZone → Hashing → Record RData → Type 0
IsIdleNsec3 zone by r = MatchOption (hash_at zone.origin r) ⊥ (λ hash. ¬ (IsOfName zone.origin zone.records by zone.records hash))

-- The NSEC3 record of a name lists a type of which the zone has no records there (RFC 5155 section 3.1.8).
abbrev pub ListsIdleTypeOf : CheckedZone → Hashing → DomainName → Type 0
ListsIdleTypeOf zone by name = OfNsec3 (λ n. HasIdleType zone name n.types) (nsec3_at zone (hash_of by name))

-- The NSEC3 record of a name that owns nothing lists a type.
abbrev pub ListsType : CheckedZone → Hashing → DomainName → Type 0
ListsType zone by name = OfNsec3 (λ n. ¬ (n.types ≡ [])) (nsec3_at zone (hash_of by name))

-- The NSEC3 record of the owner name does not list the type of this record.
pub record IsUnlisted3 (zone : CheckedZone) (by : Hashing) (r : Record RData) : Type 0 where
  pub named : IsNamed zone r
  pub listed : IsListed zone r.name (type_of r.rdata)
  pub missing : OfNsec3 (λ n. ¬ (Contains n.types (type_of r.rdata))) (nsec3_at zone (hash_of by r.name))

-- A record beside an NSEC3 record, of which the owner name is no name of the zone (RFC 5155 section 7.2.8).
pub record IsBesideNsec3 (zone : CheckedZone) (r : Record RData) : Type 0 where
  pub other : ¬ (type_of r.rdata ≡ type_nsec3)
  pub unsigned : ¬ (type_of r.rdata ≡ type_rrsig)
  pub beside : Owns zone r.name type_nsec3
