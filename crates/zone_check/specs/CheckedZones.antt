-- A zone that is checked: its records in the order of its file (RFC 1035 section 5), and what its names own.
use Rattle.std.specs.Prelude.{◌<◌, ◌≤◌, ◌==◌, ◌&&◌, ◌||◌, ◌⊎◌, ℕ, Bool, true, false, not, IsSome, List, drop, length, Option, Some, None}
use Rattle.std.specs.List.{find}
use Rattle.wire_names.specs.rr.domain.DomainName.{DomainName}
use Rattle.wire_names.specs.rr.domain.NameOrder.{Encloses, is_wildcard, name_eq}
use Rattle.wire_messages.specs.rr.RecordData.{type_of}
use Rattle.wire_messages.specs.declared.rr.rdata.RData.{RData}
use Rattle.wire_messages.specs.declared.rr.rdata.RData.TheVariants as rdata
use Rattle.wire_messages.specs.declared.rr.record.Record.{Record}

-- records in their order
abbrev pub Records : Type 0
Records = List (Record RData)

-- The zone: the name of its apex, its records as the file has them, the serial that the one before it has, if that is
-- given, and the time, in seconds since 1970 modulo 2^32, if that is known.
pub record CheckedZone : Type 0 where
  pub origin : DomainName
  pub records : Records
  pub previous : Option ℕ
  pub time : Option ℕ

-- the zone of an apex, which is taken as fully qualified
abbrev pub checked_zone : DomainName → Records → Option ℕ → Option ℕ → CheckedZone
checked_zone origin records previous time = record { origin = record origin { is_fqdn = true }; records = records; previous = previous; time = time }

-- Types by their numbers (RFC 1035 section 3.2.2, RFC 2535 section 3, RFC 2782, RFC 3596 section 2.1, RFC 6672 section
-- 2.1, RFC 4034, RFC 5155).
abbrev pub type_a : ℕ
type_a = 1

abbrev pub type_ns : ℕ
type_ns = 2

abbrev pub type_cname : ℕ
type_cname = 5

abbrev pub type_soa : ℕ
type_soa = 6

abbrev pub type_key : ℕ
type_key = 25

abbrev pub type_aaaa : ℕ
type_aaaa = 28

abbrev pub type_srv : ℕ
type_srv = 33

abbrev pub type_dname : ℕ
type_dname = 39

abbrev pub type_ds : ℕ
type_ds = 43

abbrev pub type_rrsig : ℕ
type_rrsig = 46

abbrev pub type_nsec : ℕ
type_nsec = 47

abbrev pub type_nsec3 : ℕ
type_nsec3 = 50

abbrev pub type_nsec3param : ℕ
type_nsec3param = 51

-- the record is of this name, letter case aside (RFC 4343 section 3), and type
abbrev pub is_of : DomainName → ℕ → Record RData → Bool
is_of name t r = name_eq r.name name && (type_of r.rdata == t)

-- the first record of the name and type, if the zone has one
abbrev pub first_of : CheckedZone → DomainName → ℕ → Option (Record RData)
first_of zone name t = find (is_of name t) zone.records

-- The name owns records of the type.
abbrev pub Owns : CheckedZone → DomainName → ℕ → Type 0
Owns zone name t = IsSome (first_of zone name t)

-- The name owns an address (RFC 1035 section 3.4.1, RFC 3596 section 2.1).
abbrev pub OwnsAddress : CheckedZone → DomainName → Type 0
OwnsAddress zone name = Owns zone name type_a ⊎ Owns zone name type_aaaa

-- whether records of the type may not stand beside a CNAME: of all but itself and those of DNSSEC (RFC 1034 section
-- 3.6.2, RFC 2181 section 10.1, RFC 3007 section 1.1, RFC 4035 section 2.5)
abbrev pub is_data_type : ℕ → Bool
is_data_type t = not (t == type_cname || t == type_key || t == type_rrsig || t == type_nsec)

-- the record is of this name and of a type that may not stand beside a CNAME
abbrev pub is_data_of : DomainName → Record RData → Bool
is_data_of name r = name_eq r.name name && is_data_type (type_of r.rdata)

-- The name owns records that may not stand beside a CNAME.
abbrev pub OwnsData : CheckedZone → DomainName → Type 0
OwnsData zone name = IsSome (find (is_data_of name) zone.records)

-- the name that is left where so many labels are taken off its front
abbrev pub ancestor : DomainName → ℕ → DomainName
ancestor name k = record name { labels = drop k name.labels }

-- whether the record is an address of a wildcard, whose first label is `*` (RFC 4592 section 2.1.1)
abbrev pub is_wild_address : Record RData → Bool
is_wild_address r = is_wildcard r.name.labels && (type_of r.rdata == type_a || type_of r.rdata == type_aaaa)

-- the record is an address of the wildcard right below this name
abbrev pub is_wild_address_of : DomainName → Record RData → Bool
is_wild_address_of name r = name_eq (ancestor r.name 1) name && is_wild_address r

-- The wildcard right below the name owns an address.
abbrev pub HasWildAddress : CheckedZone → DomainName → Type 0
HasWildAddress zone name = IsSome (find (is_wild_address_of name) zone.records)

-- the host that an NS record names (RFC 1035 section 3.3.11)
abbrev pub server_of : RData → Option DomainName
server_of (rdata.NS host) = Some host
server_of other = None

-- the host is of this name
abbrev pub is_named : DomainName → Option DomainName → Bool
is_named name (Some host) = name_eq host name
is_named name None = false

-- the record is an NS record that names this host
abbrev pub is_server_of : DomainName → Record RData → Bool
is_server_of name r = is_named name (server_of r.rdata)

-- An NS record of the zone names this host.
abbrev pub IsServer : CheckedZone → DomainName → Type 0
IsServer zone name = IsSome (find (is_server_of name) zone.records)

-- The name is the apex or below it.
abbrev pub IsInZone : CheckedZone → DomainName → Type 0
IsInZone zone name = Encloses zone.origin.labels name.labels

-- The name is below the apex.
pub record IsBelowApex (zone : CheckedZone) (name : DomainName) : Type 0 where
  pub within : Encloses zone.origin.labels name.labels
  pub other : ¬ (Encloses name.labels zone.origin.labels)

-- The name is the apex.
pub record IsApex (zone : CheckedZone) (name : DomainName) : Type 0 where
  pub within : Encloses zone.origin.labels name.labels
  pub same : Encloses name.labels zone.origin.labels

-- A zone is cut at the name: below its apex there are NS records (RFC 1034 section 4.2, RFC 2181 section 6).
pub record IsCut (zone : CheckedZone) (name : DomainName) : Type 0 where
  pub below : IsBelowApex zone name
  pub servers : Owns zone name type_ns

-- The zone is cut above the name.
pub record IsBelowCut (zone : CheckedZone) (name : DomainName) : Type 0 where
  pub count : ℕ
  pub above : 0 < count
  pub is_ancestor : count ≤ length name.labels
  pub cut : IsCut zone (ancestor name count)

-- The name is in the zone and has DNAME records (RFC 6672 section 2.1).
pub record IsDnameOwner (zone : CheckedZone) (name : DomainName) : Type 0 where
  pub within : IsInZone zone name
  pub owner : Owns zone name type_dname

-- A name of the zone above the name has DNAME records (RFC 6672 section 2.4).
pub record IsBelowDname (zone : CheckedZone) (name : DomainName) : Type 0 where
  pub count : ℕ
  pub above : 0 < count
  pub is_ancestor : count ≤ length name.labels
  pub dname : IsDnameOwner zone (ancestor name count)

-- Below a name above the name there is a wildcard with an address (RFC 4592 section 2.1.1), from which the name may be
-- given one.
pub record IsBelowWildcard (zone : CheckedZone) (name : DomainName) : Type 0 where
  pub count : ℕ
  pub above : 0 < count
  pub is_ancestor : count ≤ length name.labels
  pub wild : HasWildAddress zone (ancestor name count)
