-- What is asked of a signed zone: its signatures and its NSEC records (RFC 4034, RFC 4035, RFC 5155).
use Rattle.std.specs.Prelude.{◌≡◌, ◌<◌, ◌+◌, ◌%◌, ◌^◌, ◌==◌, ◌&&◌, ◌||◌, ◌⊎◌, ℕ, Bool, true, false, if◌then◌else◌, IsSome, List, Option, Some, None, MatchOption}
use Rattle.std.specs.List.{Contains, find}
use Rattle.std.specs.Option.{option_and_then}
use Rattle.wire_names.specs.rr.domain.DomainName.{DomainName}
use Rattle.wire_names.specs.rr.domain.NameOrder.{SameName, name_eq}
use Rattle.wire_messages.specs.rr.RecordData.{type_of}
use Rattle.wire_messages.specs.declared.rr.rdata.RData.{RData}
use Rattle.wire_messages.specs.declared.rr.rdata.RData.TheVariants as rdata
use Rattle.wire_messages.specs.declared.rr.record.Record.{Record}
use Rattle.zone_check.specs.CheckedZones.{CheckedZone, IsBelowCut, IsBelowDname, IsCut, IsInZone, Owns, Records, first_of, is_of}
use Rattle.zone_check.specs.CheckedZones.{type_cname, type_ds, type_ns, type_nsec, type_nsec3param, type_rrsig, type_soa}
use Rattle.zone_check.specs.Serials.{IsAbove}
use Rattle.zone_denials.specs.Nsec.{IsBefore, Nsec}
use Rattle.zone_denials.specs.Nsec3Data.{parameters_in}
use Rattle.zone_denials.specs.NsecData.{nsec_in}
use Rattle.zone_denials.specs.RrsigData.{covered_in, expiration_in}

-- the octets of data of this type, which has no form of its own here
abbrev pub octets_of : ℕ → RData → Option (List ℕ)
octets_of t (rdata.Unknown code octets) = if code == t then Some octets else None
octets_of t other = None

-- the type that an RRSIG record covers (RFC 4034 section 3.1.1)
abbrev pub covered_of : RData → Option ℕ
covered_of content = option_and_then covered_in (octets_of type_rrsig content)

-- the time at which an RRSIG record ends (RFC 4034 section 3.1.5)
abbrev pub expiration_of : RData → Option ℕ
expiration_of content = option_and_then expiration_in (octets_of type_rrsig content)

-- what an NSEC record says, if its data have their form (RFC 4034 section 4.1)
abbrev pub nsec_of : Record RData → Option Nsec
nsec_of r = option_and_then (nsec_in r.name) (octets_of type_nsec r.rdata)

-- The zone is signed: its apex has signatures (RFC 4035 section 2.2).
abbrev pub IsSigned : CheckedZone → Type 0
IsSigned zone = Owns zone zone.origin type_rrsig

-- The names of a signed zone are hashed: its apex has NSEC3 parameters (RFC 5155 section 4). Else NSEC records deny names.
abbrev pub IsHashed : CheckedZone → Type 0
IsHashed zone = Owns zone zone.origin type_nsec3param

-- The name is in the zone, and neither below a cut nor below a DNAME.
pub record IsOfZone (zone : CheckedZone) (name : DomainName) : Type 0 where
  pub within : IsInZone zone name
  pub uncut : ¬ (IsBelowCut zone name)
  pub undirected : ¬ (IsBelowDname zone name)

-- Each owner name of the zone has an NSEC record (RFC 4035 section 2.3); this one has none.
pub record LacksNsec (zone : CheckedZone) (r : Record RData) : Type 0 where
  pub unhashed : ¬ (IsHashed zone)
  pub of_zone : IsOfZone zone r.name
  pub none : ¬ (Owns zone r.name type_nsec)

-- The data of an NSEC record have not their form (RFC 4034 section 4.1).
pub record IsUnreadNsec (r : Record RData) : Type 0 where
  pub typed : type_of r.rdata ≡ type_nsec
  pub unread : nsec_of r ≡ None

-- A name after this one in canonical order has an NSEC record (RFC 4034 section 6.1).
pub record IsLaterOwner (records : Records) (name other : DomainName) : Type 0 where
  pub after : IsBefore name other
  pub owner : IsSome (find (is_of other type_nsec) records)

-- It is the first such name.
pub record IsFirstLater (records : Records) (name next : DomainName) : Type 0 where
  pub later : IsLaterOwner records name next
  pub first : (other : DomainName) → IsLaterOwner records name other → ¬ (IsBefore other next)

-- The next owner name of NSEC records: the first one after the name, or the apex if no other is (RFC 4034 section
-- 4.1.1).
abbrev pub IsNext : CheckedZone → DomainName → DomainName → Type 0
IsNext zone name next = IsFirstLater zone.records name next ⊎ (SameName next zone.origin × ((other : DomainName) → ¬ (IsLaterOwner zone.records name other)))

-- What is said holds of what an NSEC record says.
abbrev pub OfNsec : (Nsec → Type 0) → Record RData → Type 0
OfNsec Is r = MatchOption (nsec_of r) ⊥ Is

-- The next name of an NSEC record is not the next owner name.
abbrev pub HasOtherNext : CheckedZone → Record RData → Type 0
HasOtherNext zone r = OfNsec (λ n. ¬ (IsNext zone r.name n.next)) r

-- the types that are the zone's own at a cut (RFC 4035 section 2.3), SOA and CNAME, which may not be there, among them
abbrev pub is_type_at_cut : ℕ → Bool
is_type_at_cut t = t == type_ns || t == type_ds || t == type_rrsig || t == type_nsec || t == type_soa || t == type_cname

-- Records of the type at the name are in its NSEC record: all, and at a cut those that are the zone's own.
abbrev pub IsListed : CheckedZone → DomainName → ℕ → Type 0
IsListed zone name t = (is_type_at_cut t ≡ true) ⊎ (¬ (IsCut zone name))

-- A type of which the zone has no records at the name.
abbrev pub IsIdleType : CheckedZone → DomainName → ℕ → Type 0
IsIdleType zone name t = (¬ (Owns zone name t)) ⊎ (¬ (IsListed zone name t))

-- One of these types is such a type.
pub record HasIdleType (zone : CheckedZone) (name : DomainName) (types : List ℕ) : Type 0 where
  pub t : ℕ
  pub listed : Contains types t
  pub idle : IsIdleType zone name t

-- An NSEC record lists a type of which the zone has no records at its name (RFC 4034 section 4.1.2).
abbrev pub ListsIdleType : CheckedZone → Record RData → Type 0
ListsIdleType zone r = OfNsec (λ n. HasIdleType zone r.name n.types) r

-- the first NSEC record of a name
abbrev pub nsec_at : CheckedZone → DomainName → Option Nsec
nsec_at zone name = option_and_then nsec_of (first_of zone name type_nsec)

-- The name has an NSEC record, which does not list the type of this record.
pub record IsUnlisted (zone : CheckedZone) (r : Record RData) : Type 0 where
  pub listed : IsListed zone r.name (type_of r.rdata)
  pub missing : MatchOption (nsec_at zone r.name) ⊥ (λ n. ¬ (Contains n.types (type_of r.rdata)))

abbrev pub is_number : ℕ → Option ℕ → Bool
is_number t (Some other) = other == t
is_number t None = false

-- the record is an RRSIG record of this name that covers this type
abbrev pub is_signature_of : DomainName → ℕ → Record RData → Bool
is_signature_of name t r = name_eq r.name name && is_number t (covered_of r.rdata)

-- The name has a signature over records of the type.
abbrev pub IsCovered : CheckedZone → DomainName → ℕ → Type 0
IsCovered zone name t = IsSome (find (is_signature_of name t) zone.records)

-- Records of the type at the name are signed: all but signatures, and at a cut DS and NSEC records (RFC 4035 section
-- 2.2).
pub record IsToSign (zone : CheckedZone) (name : DomainName) (t : ℕ) : Type 0 where
  pub other : ¬ (t ≡ type_rrsig)
  pub own : (IsCut zone name) → (t ≡ type_ds) ⊎ (t ≡ type_nsec)

-- The records of a signed zone are signed; this one is not (RFC 4035 section 2.2).
pub record IsUnsigned (zone : CheckedZone) (r : Record RData) : Type 0 where
  pub of_zone : IsOfZone zone r.name
  pub to_sign : IsToSign zone r.name (type_of r.rdata)
  pub none : ¬ (IsCovered zone r.name (type_of r.rdata))

-- What is said holds of the time and of the time at which a signature ends.
abbrev pub OfTimes : (ℕ → ℕ → Type 0) → CheckedZone → RData → Type 0
OfTimes Is zone content = MatchOption zone.time ⊥ (λ time. MatchOption (expiration_of content) ⊥ (Is time))

-- The signature has ended (RFC 4034 section 3.1.5).
abbrev pub HasEnded : ℕ → ℕ → Type 0
HasEnded time expiration = IsAbove time expiration

-- The signature ends within 7 days.
pub record EndsSoon (time expiration : ℕ) : Type 0 where
  pub lasts : ¬ (HasEnded time expiration)
  pub soon : HasEnded ((time + 604800) % 2 ^ 32) expiration

-- An NSEC3PARAM record has iterations (RFC 5155 section 4.1.3, RFC 9276 section 3.1).
abbrev pub HasIterations : RData → Type 0
HasIterations content = MatchOption (option_and_then parameters_in (octets_of type_nsec3param content)) ⊥ (λ by. 0 < by.iterations)
