-- The NSEC RRsets of a zone and what they say (RFC 4034 section 4, RFC 4035 section 2.3).
use Rattle.std.specs.Prelude.{◌≡◌, ◌==◌, ℕ, if◌then◌else◌, cond, List, [], ◌∷◌, Option, Some, None}
use Rattle.std.specs.List.{Contains}
use Rattle.std.specs.Option.{option_and_then, unwrap_or}
use Rattle.std.specs.BTreeMap.Range.{IsLeBy}
use Rattle.wire_names.specs.rr.domain.DomainName.{DomainName}
use Rattle.wire_names.specs.rr.domain.NameOrder.{name_cmp}
use Rattle.wire_messages.specs.Numbers.{type_nsec}
use Rattle.wire_messages.specs.declared.rr.rdata.RData.{RData}
use Rattle.wire_messages.specs.declared.rr.rdata.RData.TheVariants as rdata
use Rattle.wire_messages.specs.declared.rr.rr_key.RrKey.{RrKey}
use Rattle.zone_answers.specs.Zones.{Records, Sets}
use Rattle.zone_denials.specs.Nsec.{Nsec}
use Rattle.zone_denials.specs.NsecData.{nsec_in}

-- an RRset under its owner name and type
abbrev pub Rrset : Type 0
Rrset = RrKey × Records

-- the octets of data of type NSEC, which has no form of its own here
abbrev pub octets_of : RData → Option (List ℕ)
octets_of (rdata.Unknown code octets) = if code == type_nsec then Some octets else None
octets_of other = None

-- a record of this owner that lists no types
abbrev pub listless : DomainName → Nsec
listless owner = record { owner = owner; next = owner; types = [] }

-- what the data of an NSEC record of this owner say (RFC 4034 section 4.1); without the form of such data they list no
-- types
abbrev pub nsec_of : DomainName → RData → Nsec
nsec_of owner content = unwrap_or (option_and_then (nsec_in owner) (octets_of content)) (listless owner)

abbrev pub said_by : DomainName → Records → Nsec
said_by owner [] = listless owner
said_by owner (r ∷ rs) = nsec_of owner r.rdata

-- what an NSEC RRset says: it has one record (RFC 4035 section 2.3)
abbrev pub said : Rrset → Nsec
said e = said_by e.0.name e.1

-- the owner name of records, if there are any
abbrev pub first_name : Records → Option DomainName
first_name [] = None
first_name (r ∷ rs) = Some r.name

-- the NSEC records of a zone, in canonical order
abbrev pub chain_in : Sets → List Nsec
chain_in [] = []
chain_in (e ∷ sets) = cond (e.0.record_type == type_nsec) (said e ∷ chain_in sets) (chain_in sets)

-- The name is the other one, or before it in canonical order (RFC 4034 section 6.1).
abbrev pub IsUpTo : DomainName → DomainName → Type 0
IsUpTo name other = IsLeBy name_cmp name other

-- The NSEC RRset whose owner name is the last one at the name or before it. If the name has NSEC records, it has these.
-- Otherwise this RRset covers the name.
pub record IsNsecFor (sets : Sets) (name : DomainName) (e : Rrset) : Type 0 where
  pub held : Contains sets e
  pub nsec : e.0.record_type ≡ type_nsec
  pub up_to : IsUpTo e.0.name name
  pub last : (f : Rrset) → Contains sets f → f.0.record_type ≡ type_nsec → IsUpTo f.0.name name → IsUpTo f.0.name e.0.name

abbrev pub NsecFor : Sets → DomainName → Option Rrset → Type 0
NsecFor sets name None = (f : Rrset) → Contains sets f → f.0.record_type ≡ type_nsec → ¬ (IsUpTo f.0.name name)
NsecFor sets name (Some e) = IsNsecFor sets name e
