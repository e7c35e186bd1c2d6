-- What a careful operator asks of a zone before it is served, and what is found where the zone does not answer.
use Rattle.std.specs.Prelude.{◌≡◌, ◌≢◌, ◌<◌, ◌≤◌, ◌+◌, ◌==◌, ◌||◌, ◌⊎◌, ℕ, zero, suc, List, [], ◌∷◌, ◌++◌, length, map, drop, cond, nat_lt, Bool, true, false, Option, Some, None, Ok, Err, MatchOption}
use Rattle.std.specs.List.{slice_get}
use Rattle.std.specs.Option.{option_map}
use Rattle.wire_names.specs.rr.domain.DomainName.{DomainName}
use Rattle.wire_names.specs.rr.domain.NameOrder.{Encloses}
use Rattle.wire_messages.specs.rr.RecordData.{type_of}
use Rattle.wire_messages.specs.rr.RecordSameness.{SameData, SameRecord}
use Rattle.wire_messages.specs.serialize.reading.NameReading.{name}
use Rattle.wire_messages.specs.serialize.reading.Reading.{Read}
use Rattle.wire_messages.specs.declared.rr.rdata.RData.{RData}
use Rattle.wire_messages.specs.declared.rr.rdata.RData.TheVariants as rdata
use Rattle.wire_messages.specs.declared.rr.rdata.SOA.{SOA}
use Rattle.wire_messages.specs.declared.rr.record.Record.{Record}
use Rattle.zone_check.specs.CheckedZones.{CheckedZone, IsApex, IsBelowApex, IsBelowCut, IsBelowDname, IsBelowWildcard, IsCut, IsInZone, IsServer, Owns, OwnsAddress, OwnsData, Records, first_of}
use Rattle.zone_check.specs.CheckedZones.{type_rrsig, type_a, type_aaaa, type_cname, type_dname, type_ds, type_ns, type_nsec, type_nsec3param, type_soa, type_srv}
use Rattle.zone_check.specs.HashedZones.{HasOtherNextHash, HasOtherParameters, IsBesideNsec3, IsByName, IsIdleNsec3, IsUnlisted3, IsUnreadNsec3, LacksHash, ListsIdleTypeOf, ListsType, hashing_of}
use Rattle.zone_check.specs.Serials.{IsAbove}
use Rattle.zone_check.specs.SignedZones.{EndsSoon, HasEnded, HasIterations, HasOtherNext, IsSigned, IsUnlisted, IsUnreadNsec, IsUnsigned, LacksNsec, ListsIdleType, OfTimes, covered_of}
use Rattle.zone_denials.specs.Nsec3.{Hashing}
use Rattle.zone_check.specs.declared.finding.Finding.{Finding}
use Rattle.zone_check.specs.declared.finding.Kind.{Kind}
use Rattle.zone_check.specs.declared.finding.Kind.TheVariants as kind

-- The apex has no SOA record (RFC 1035 section 5.2).
abbrev pub LacksSoa : CheckedZone → Type 0
LacksSoa zone = ¬ (Owns zone zone.origin type_soa)

-- The apex has no NS record (RFC 1034 section 4.2.1).
abbrev pub LacksServers : CheckedZone → Type 0
LacksServers zone = ¬ (Owns zone zone.origin type_ns)

-- The owner name is neither the apex nor below it (RFC 1035 section 5.2).
abbrev pub IsOutside : CheckedZone → Record RData → Type 0
IsOutside zone r = ¬ (IsInZone zone r.name)

-- An SOA record stands below the apex, the top of the zone (RFC 1034 section 4.2.1, RFC 1035 section 5.2).
pub record IsSoaBelowApex (zone : CheckedZone) (r : Record RData) : Type 0 where
  pub typed : type_of r.rdata ≡ type_soa
  pub below : IsBelowApex zone r.name

-- a type of which a name owns one record: SOA (RFC 1035 section 5.2), CNAME (RFC 2181 section 10.1), DNAME (RFC 6672
-- section 2.4), NSEC (RFC 4035 section 2.3)
abbrev pub IsSingle : ℕ → Type 0
IsSingle t = (t ≡ type_soa) ⊎ (t ≡ type_cname) ⊎ (t ≡ type_dname) ⊎ (t ≡ type_nsec)

-- What is said holds of the first record of the same name and type.
abbrev pub OfFirst : (Record RData → Type 0) → CheckedZone → Record RData → Type 0
OfFirst Is zone r = MatchOption (first_of zone r.name (type_of r.rdata)) ⊥ Is

-- The name owns another record of a type of which it may own one: the data of the first are others.
pub record IsSecond (zone : CheckedZone) (r : Record RData) : Type 0 where
  pub single : IsSingle (type_of r.rdata)
  pub differs : OfFirst (λ first. ¬ (SameData first.rdata r.rdata)) zone r

-- A record before the place is the same, its TTL aside: of such only one is of the zone (RFC 2181 section 5).
pub record IsRepeated (records : Records) (place : ℕ) (r : Record RData) : Type 0 where
  pub before : ℕ
  pub other : Record RData
  pub on : before < place
  pub there : slice_get records before ≡ Some other
  pub same : SameRecord other r

-- A CNAME stands beside other data (RFC 1034 section 3.6.2, RFC 2181 section 10.1), a DNAME among them (RFC 6672
-- section 2.4).
pub record IsCnameBesideData (zone : CheckedZone) (r : Record RData) : Type 0 where
  pub typed : type_of r.rdata ≡ type_cname
  pub beside : OwnsData zone r.name

-- The record stands below a DNAME of the zone (RFC 6672 section 2.4).
abbrev pub IsUnderDname : CheckedZone → Record RData → Type 0
IsUnderDname zone r = IsBelowDname zone r.name

-- Data below a cut are no data of the zone; addresses may be glue (RFC 1034 section 4.2.1).
pub record IsDataBelowCut (zone : CheckedZone) (r : Record RData) : Type 0 where
  pub not_a : ¬ (type_of r.rdata ≡ type_a)
  pub not_aaaa : ¬ (type_of r.rdata ≡ type_aaaa)
  pub below : IsBelowCut zone r.name

-- whether records of the type may stand at a cut: the name servers, what DNSSEC has there (RFC 4035 sections 2.3 and
-- 2.4), and addresses, which may be glue
abbrev pub is_cut_type : ℕ → Bool
is_cut_type t = t == type_ns || t == type_ds || t == type_rrsig || t == type_nsec || t == type_a || t == type_aaaa

-- Other data at a cut are no data of the zone (RFC 1034 section 4.2.1).
pub record IsDataAtCut (zone : CheckedZone) (r : Record RData) : Type 0 where
  pub typed : is_cut_type (type_of r.rdata) ≡ false
  pub cut : IsCut zone r.name

-- The TTL is another than that of the first record of the RRset (RFC 2181 section 5.2). A signature has the TTL of what it
-- covers (RFC 4034 section 3).
pub record HasOtherTtl (zone : CheckedZone) (r : Record RData) : Type 0 where
  pub other : ¬ (type_of r.rdata ≡ type_rrsig)
  pub differs : OfFirst (λ first. first.ttl ≢ r.ttl) zone r

abbrev pub read_part : Read DomainName → Option DomainName
read_part (Ok part) = Some part.0
read_part (Err e) = None

-- the name that octets begin with, if they do
abbrev pub first_name : List ℕ → Option DomainName
first_name octets = read_part (name (record { bytes = octets; place = 0 }))

-- the host in the octets of an SRV record, behind priority, weight and port (RFC 2782)
abbrev pub srv_host : List ℕ → Option DomainName
srv_host octets = cond (nat_lt (length octets) 6) None (first_name (drop 6 octets))

-- the host that an NS, MX or SRV record names (RFC 1035 sections 3.3.9 and 3.3.11, RFC 2782)
abbrev pub host_of : RData → Option DomainName
host_of (rdata.NS host) = Some host
host_of (rdata.MX mx) = Some mx.exchange
host_of (rdata.Unknown code octets) = cond (code == type_srv) (srv_host octets) None
host_of other = None

-- The record names a host, of which what is said holds.
abbrev pub OfHost : (DomainName → Type 0) → RData → Type 0
OfHost Is content = MatchOption (host_of content) ⊥ Is

-- The name is of the zone's own data: in the zone, and neither at a cut nor below one.
pub record IsOwn (zone : CheckedZone) (name : DomainName) : Type 0 where
  pub within : IsInZone zone name
  pub uncut : ¬ (IsCut zone name)
  pub not_below : ¬ (IsBelowCut zone name)

-- The zone itself has to have the host's addresses, and has none, nor an alias, nor a wildcard that may give it one
-- (RFC 1035 section 3.3.9, RFC 1912 section 2.8, RFC 2782).
pub record IsWithoutAddress (zone : CheckedZone) (host : DomainName) : Type 0 where
  pub own : IsOwn zone host
  pub no_address : ¬ (OwnsAddress zone host)
  pub no_alias : ¬ (Owns zone host type_cname)
  pub no_wildcard : ¬ (IsBelowWildcard zone host)

-- The host of an NS, MX or SRV record is an alias (RFC 2181 section 10.3, RFC 2782).
pub record IsAliased (zone : CheckedZone) (host : DomainName) : Type 0 where
  pub own : IsOwn zone host
  pub alias : Owns zone host type_cname

-- An NS record at a cut names a host at the cut or below it, whose address is needed as glue (RFC 1034 section 4.2.1,
-- RFC 9471 section 2.1).
pub record IsServerBelow (zone : CheckedZone) (r : Record RData) (host : DomainName) : Type 0 where
  pub typed : type_of r.rdata ≡ type_ns
  pub cut : IsCut zone r.name
  pub below : Encloses r.name.labels host.labels

-- That glue is not there.
pub record LacksGlue (zone : CheckedZone) (r : Record RData) (host : DomainName) : Type 0 where
  pub server : IsServerBelow zone r host
  pub no_address : ¬ (OwnsAddress zone host)

-- An address at a cut or below it is there for name servers alone, as glue, and no NS record of the zone names its
-- owner (RFC 1034 section 4.2.1).
pub record IsIdleGlue (zone : CheckedZone) (r : Record RData) : Type 0 where
  pub address : (type_of r.rdata ≡ type_a) ⊎ (type_of r.rdata ≡ type_aaaa)
  pub cut : IsCut zone r.name ⊎ IsBelowCut zone r.name
  pub unnamed : ¬ (IsServer zone r.name)

-- the data of an SOA record (RFC 1035 section 3.3.13)
abbrev pub soa_of : RData → Option SOA
soa_of (rdata.SOA soa) = Some soa
soa_of other = None

-- the serial of an SOA record
abbrev pub serial_of : Record RData → Option ℕ
serial_of r = option_map (λ (soa : SOA). soa.serial) (soa_of r.rdata)

-- The record is an SOA record, of whose data what is said holds.
abbrev pub OfSoa : (SOA → Type 0) → RData → Type 0
OfSoa Is content = MatchOption (soa_of content) ⊥ Is

-- The serial is not above that of the zone before, if that is given (RFC 1982 section 3.2, RFC 1912 section 2.2).
abbrev pub IsNotAbove : CheckedZone → SOA → Type 0
IsNotAbove zone soa = MatchOption zone.previous ⊥ (λ previous. ¬ (IsAbove soa.serial previous))

-- The refresh time is below 20 minutes or above 12 hours (RFC 1912 section 2.2).
abbrev pub HasOddRefresh : SOA → Type 0
HasOddRefresh soa = (soa.refresh < 1200) ⊎ (43200 < soa.refresh)

-- The retry time is not below the refresh time, of which it is to be a fraction (RFC 1912 section 2.2).
abbrev pub HasOddRetry : SOA → Type 0
HasOddRetry soa = soa.refresh ≤ soa.retry

-- The expire time is not above refresh and retry times together, or not of 2 to 4 weeks (RFC 1912 section 2.2).
abbrev pub HasOddExpire : SOA → Type 0
HasOddExpire soa = (soa.expire ≤ soa.refresh + soa.retry) ⊎ (soa.expire < 1209600) ⊎ (2419200 < soa.expire)

-- The time that a denial may be kept is above one day (RFC 2308 section 5).
abbrev pub HasOddMinimum : SOA → Type 0
HasOddMinimum soa = 86400 < soa.minimum

-- A DS record stands at the apex (RFC 4035 section 2.4).
pub record IsDsAtApex (zone : CheckedZone) (r : Record RData) : Type 0 where
  pub typed : type_of r.rdata ≡ type_ds
  pub apex : IsApex zone r.name

-- An NSEC3PARAM record stands below the apex (RFC 5155 section 4).
pub record IsNsec3paramBelowApex (zone : CheckedZone) (r : Record RData) : Type 0 where
  pub typed : type_of r.rdata ≡ type_nsec3param
  pub below : IsBelowApex zone r.name

-- An RRSIG record covers a type of which the name has no records (RFC 4035 section 2.2).
abbrev pub CoversNothing : CheckedZone → Record RData → Type 0
CoversNothing zone r = MatchOption (covered_of r.rdata) ⊥ (λ t. ¬ (Owns zone r.name t))

-- What is found of an SOA record, by kind.
abbrev pub IsFoundOfSoa : Kind → CheckedZone → RData → Type 0
IsFoundOfSoa kind.SerialNotAbove zone content = OfSoa (IsNotAbove zone) content
IsFoundOfSoa kind.Refresh zone content = OfSoa HasOddRefresh content
IsFoundOfSoa kind.Retry zone content = OfSoa HasOddRetry content
IsFoundOfSoa kind.Expire zone content = OfSoa HasOddExpire content
IsFoundOfSoa kind.Minimum zone content = OfSoa HasOddMinimum content
IsFoundOfSoa other zone content = ⊥

-- What is found of a record if the zone is signed, by kind.
abbrev pub IsFoundIfSigned : Kind → CheckedZone → Record RData → Type 0
IsFoundIfSigned kind.NoNsec zone r = LacksNsec zone r
IsFoundIfSigned kind.UnreadNsec zone r = IsUnreadNsec r
IsFoundIfSigned kind.OtherNext zone r = HasOtherNext zone r
IsFoundIfSigned kind.IdleType zone r = ListsIdleType zone r
IsFoundIfSigned kind.Unlisted zone r = IsUnlisted zone r
IsFoundIfSigned kind.Unsigned zone r = IsUnsigned zone r
IsFoundIfSigned kind.Ended zone r = OfTimes HasEnded zone r.rdata
IsFoundIfSigned kind.EndsSoon zone r = OfTimes EndsSoon zone r.rdata
IsFoundIfSigned kind.Iterations zone r = HasIterations r.rdata
IsFoundIfSigned kind.UnreadNsec3 zone r = IsUnreadNsec3 zone r
IsFoundIfSigned other zone r = ⊥

abbrev pub IsFoundOfSigned : Kind → CheckedZone → Record RData → Type 0
IsFoundOfSigned k zone r = IsSigned zone × IsFoundIfSigned k zone r

-- What is found of the record at a place, be the zone signed or not, by kind.
abbrev pub IsFoundOfAny : Kind → CheckedZone → ℕ → Record RData → Type 0
IsFoundOfAny kind.Outside zone place r = IsOutside zone r
IsFoundOfAny kind.SoaBelowApex zone place r = IsSoaBelowApex zone r
IsFoundOfAny kind.Second zone place r = IsSecond zone r
IsFoundOfAny kind.Repeated zone place r = IsRepeated zone.records place r
IsFoundOfAny kind.CnameBesideData zone place r = IsCnameBesideData zone r
IsFoundOfAny kind.BelowDname zone place r = IsUnderDname zone r
IsFoundOfAny kind.BelowCut zone place r = IsDataBelowCut zone r
IsFoundOfAny kind.AtCut zone place r = IsDataAtCut zone r
IsFoundOfAny kind.OtherTtl zone place r = HasOtherTtl zone r
IsFoundOfAny kind.NoAddress zone place r = OfHost (IsWithoutAddress zone) r.rdata
IsFoundOfAny kind.NoGlue zone place r = OfHost (LacksGlue zone r) r.rdata
IsFoundOfAny kind.IdleGlue zone place r = IsIdleGlue zone r
IsFoundOfAny kind.HostIsAlias zone place r = OfHost (IsAliased zone) r.rdata
IsFoundOfAny kind.DsAtApex zone place r = IsDsAtApex zone r
IsFoundOfAny kind.Nsec3paramBelowApex zone place r = IsNsec3paramBelowApex zone r
IsFoundOfAny kind.CoversNothing zone place r = CoversNothing zone r
IsFoundOfAny other zone place r = IsFoundOfSoa other zone r.rdata

-- the kinds of findings that only signed zones have
abbrev pub is_for_signed : Kind → Bool
is_for_signed kind.NoNsec = true
is_for_signed kind.UnreadNsec = true
is_for_signed kind.OtherNext = true
is_for_signed kind.IdleType = true
is_for_signed kind.Unlisted = true
is_for_signed kind.Unsigned = true
is_for_signed kind.Ended = true
is_for_signed kind.EndsSoon = true
is_for_signed kind.Iterations = true
is_for_signed kind.UnreadNsec3 = true
is_for_signed other = false

-- What is found of an owner name, if the names of the zone are hashed by these parameters.
abbrev pub IsFoundOfOwner : Kind → CheckedZone → Hashing → DomainName → DomainName → Type 0
IsFoundOfOwner kind.NoNsec3 zone by owner name = LacksHash zone by owner name
IsFoundOfOwner kind.IdleType3 zone by owner name = ListsIdleTypeOf zone by name
IsFoundOfOwner other zone by owner name = ⊥

-- What is found of a name above an owner name that owns nothing.
abbrev pub IsFoundOfEmpty : Kind → CheckedZone → Hashing → DomainName → DomainName → Type 0
IsFoundOfEmpty kind.NoNsec3 zone by owner name = LacksHash zone by owner name
IsFoundOfEmpty kind.IdleType3 zone by owner name = ListsType zone by name
IsFoundOfEmpty other zone by owner name = ⊥

-- What is found of the names that exist by a record.
abbrev pub IsFoundByName : Kind → CheckedZone → Hashing → Record RData → Type 0
IsFoundByName k zone by r = IsByName zone (IsFoundOfOwner k zone by r.name) (IsFoundOfEmpty k zone by r.name) r

-- What is found of a record if the names of the zone are hashed by these parameters, by kind.
abbrev pub IsFoundIfHashed : Kind → CheckedZone → Hashing → Record RData → Type 0
IsFoundIfHashed kind.OtherParameters zone by r = HasOtherParameters by r
IsFoundIfHashed kind.OtherNextHash zone by r = HasOtherNextHash zone r
IsFoundIfHashed kind.IdleNsec3 zone by r = IsIdleNsec3 zone by r
IsFoundIfHashed kind.BesideNsec3 zone by r = IsBesideNsec3 zone r
IsFoundIfHashed kind.NoNsec3 zone by r = IsFoundByName kind.NoNsec3 zone by r
IsFoundIfHashed kind.IdleType3 zone by r = IsFoundByName kind.IdleType3 zone by r
IsFoundIfHashed kind.Unlisted3 zone by r = IsUnlisted3 zone by r
IsFoundIfHashed other zone by r = ⊥

abbrev pub IsFoundOfHashed : Kind → CheckedZone → Record RData → Type 0
IsFoundOfHashed k zone r = MatchOption (hashing_of zone) ⊥ (λ by. IsFoundIfHashed k zone by r)

-- the kinds of findings that only zones whose names are hashed have
abbrev pub is_for_hashed : Kind → Bool
is_for_hashed kind.OtherParameters = true
is_for_hashed kind.OtherNextHash = true
is_for_hashed kind.IdleNsec3 = true
is_for_hashed kind.BesideNsec3 = true
is_for_hashed kind.NoNsec3 = true
is_for_hashed kind.IdleType3 = true
is_for_hashed kind.Unlisted3 = true
is_for_hashed other = false

abbrev pub OneOf : Bool → Type 0 → Type 0 → Type 0
OneOf true A B = A
OneOf false A B = B

-- What is found of the record at a place, by kind.
abbrev pub IsFoundOf : Kind → CheckedZone → ℕ → Record RData → Type 0
IsFoundOf k zone place r = OneOf (is_for_hashed k) (IsFoundOfHashed k zone r) (OneOf (is_for_signed k) (IsFoundOfSigned k zone r) (IsFoundOfAny k zone place r))

-- What is found of the zone as a whole, by kind.
abbrev pub IsFoundOfZone : Kind → CheckedZone → Type 0
IsFoundOfZone kind.NoSoa zone = LacksSoa zone
IsFoundOfZone kind.NoServers zone = LacksServers zone
IsFoundOfZone other zone = ⊥

-- What is found holds, of the zone as a whole or of the record at this place, which is counted from 0.
abbrev pub Holds : CheckedZone → Finding → Type 0
Holds zone finding = MatchOption finding.place (IsFoundOfZone finding.kind zone) (λ place. MatchOption (slice_get zone.records place) ⊥ (IsFoundOf finding.kind zone place))

-- all kinds of findings of a record, in their order
abbrev pub kinds_of_records : List Kind
kinds_of_records =
    kind.Outside ∷ kind.SoaBelowApex ∷ kind.Second ∷ kind.Repeated ∷ kind.CnameBesideData ∷ kind.BelowDname ∷ kind.BelowCut ∷ kind.AtCut ∷ kind.OtherTtl ∷ kind.NoAddress ∷ kind.NoGlue ∷ kind.IdleGlue ∷ kind.HostIsAlias
    ∷ kind.SerialNotAbove ∷ kind.Refresh ∷ kind.Retry ∷ kind.Expire ∷ kind.Minimum ∷ kind.DsAtApex ∷ kind.Nsec3paramBelowApex ∷ kind.CoversNothing
    ∷ kind.NoNsec ∷ kind.UnreadNsec ∷ kind.OtherNext ∷ kind.IdleType ∷ kind.Unlisted ∷ kind.Unsigned ∷ kind.Ended ∷ kind.EndsSoon ∷ kind.Iterations
    ∷ kind.UnreadNsec3 ∷ kind.OtherParameters ∷ kind.OtherNextHash ∷ kind.IdleNsec3 ∷ kind.BesideNsec3 ∷ kind.NoNsec3 ∷ kind.IdleType3 ∷ kind.Unlisted3 ∷ []

abbrev pub at_place : ℕ → Kind → Finding
at_place place k = record { place = Some place; kind = k }

abbrev pub of_zone : Kind → Finding
of_zone k = record { place = None; kind = k }

-- all that could be found of the zone as a whole
abbrev pub of_whole : List Finding
of_whole = of_zone kind.NoSoa ∷ of_zone kind.NoServers ∷ []

-- all that could be found of so many records, record by record, and of each by kind
abbrev pub of_records : ℕ → List Finding
of_records zero = []
of_records (suc place) = of_records place ++ map (at_place place) kinds_of_records

-- all that could be found of a zone of so many records, in the order in which it is told
abbrev pub all_findings : ℕ → List Finding
all_findings count = of_whole ++ of_records count

-- The selected are those of all findings that hold of the zone, in their order, each once and no other.
pub data Selects (zone : CheckedZone) : List Finding → List Finding → Type 0 where
  none : Selects zone [] []
  holds : {all selected : List Finding} (finding : Finding) → Selects zone all selected → Holds zone finding → Selects zone (all ++ finding ∷ []) (selected ++ finding ∷ [])
  fails : {all selected : List Finding} (finding : Finding) → Selects zone all selected → ¬ (Holds zone finding) → Selects zone (all ++ finding ∷ []) selected

-- What is found of the zone: all that could be found and holds.
abbrev pub AreFindings : CheckedZone → List Finding → Type 0
AreFindings zone findings = Selects zone (all_findings (length zone.records)) findings
