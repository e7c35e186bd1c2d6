-- The signatures of RRsets: RRSIG records, each of which covers the type of one RRset of its owner (RFC 4034 section 3.1.1,
-- RFC 4035 section 2.2).
use Rattle.std.specs.Prelude.{◌==◌, ℕ, Bool, false, if◌then◌else◌, List, [], filter, Option, Some, None}
use Rattle.std.specs.Option.{option_and_then, unwrap_or}
use Rattle.wire_names.specs.rr.domain.DomainName.{DomainName}
use Rattle.wire_messages.specs.Numbers.{type_rrsig}
use Rattle.wire_messages.specs.declared.rr.rdata.RData.{RData}
use Rattle.wire_messages.specs.declared.rr.rdata.RData.TheVariants as rdata
use Rattle.wire_messages.specs.declared.rr.record.Record.{Record}
use Rattle.zone_answers.specs.Zones.{Records, Sets, rrset}
use Rattle.zone_denials.specs.RrsigData.{covered_in}

-- the octets of data of type RRSIG, which has no form of its own here
abbrev pub octets_of : RData → Option (List ℕ)
octets_of (rdata.Unknown code octets) = if code == type_rrsig then Some octets else None
octets_of other = None

abbrev pub is_type : ℕ → Option ℕ → Bool
is_type t None = false
is_type t (Some covered) = covered == t

-- the record is an RRSIG record that covers this type
abbrev pub covers : ℕ → Record RData → Bool
covers t r = is_type t (option_and_then covered_in (octets_of r.rdata))

-- the signatures of the RRset of this owner and type
abbrev pub signatures_of : Sets → DomainName → ℕ → Records
signatures_of sets owner t = filter (covers t) (unwrap_or (rrset sets owner type_rrsig) [])
