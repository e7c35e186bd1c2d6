-- Records that help to use others (RFC 1034 section 4.3.2, step 6; RFC 1035 section 3.3): the addresses of the hosts
-- that they name, glue among them (RFC 9471).
use Rattle.std.specs.Prelude.{◌≡◌, ℕ, Bool, true, false, not, cond, nat_lt, is_some, ◌==◌, ◌||◌, List, [], ◌∷◌, ◌++◌, drop, length, Option, Some, None, Ok, Err}
use Rattle.std.specs.List.{list_any}
use Rattle.wire_names.specs.rr.domain.DomainName.{DomainName}
use Rattle.wire_names.specs.rr.domain.NameOrder.{lower_name}
use Rattle.wire_messages.specs.Numbers.{type_a, type_aaaa, type_https, type_mx, type_ns, type_srv, type_svcb}
use Rattle.wire_messages.specs.rr.RecordData.{type_of}
use Rattle.wire_messages.specs.serialize.reading.NameReading.{name}
use Rattle.wire_messages.specs.serialize.reading.Reading.{Read}
use Rattle.wire_messages.specs.declared.rr.rdata.RData.{RData}
use Rattle.wire_messages.specs.declared.rr.rdata.RData.TheVariants as rdata
use Rattle.wire_messages.specs.declared.rr.record.Record.{Record}
use Rattle.hickory_base.specs.zone_store.ZoneRecords.{is_of}
use Rattle.zone_answers.specs.declared.additionals.Source.{Source}
use Rattle.zone_answers.specs.declared.additionals.Source.TheVariants as source
use Rattle.zone_answers.specs.Chains.{IsIn, owned_by}
use Rattle.zone_answers.specs.Zones.{Answers, Outcome, Records, Zone, answer, referral, rrset, wild_answer}

-- where the name of a host begins in data that lie as octets: behind priority, weight and port (SRV, RFC 2782), or
-- behind the priority (SVCB and HTTPS, RFC 9460 section 2.2)
abbrev pub target_start : ℕ → Option ℕ
target_start t = cond (t == type_srv) (Some 6) (cond (t == type_svcb || t == type_https) (Some 2) None)

abbrev pub read_part : Read DomainName → Option DomainName
read_part (Ok part) = Some part.0
read_part (Err e) = None

-- the name that the octets begin with, if they do
abbrev pub first_name : List ℕ → Option DomainName
first_name bytes = read_part (name (record { bytes = bytes; place = 0 }))

abbrev pub name_from : Option ℕ → List ℕ → Option DomainName
name_from None bytes = None
name_from (Some start) bytes = cond (nat_lt (length bytes) start) None (first_name (drop start bytes))

-- the host that data name: a server of a zone, a mail exchange, or what a service is offered by
abbrev pub host_in : RData → Option DomainName
host_in (rdata.NS name) = Some name
host_in (rdata.MX mx) = Some mx.exchange
host_in (rdata.Unknown t bytes) = name_from (target_start t) bytes
host_in other = None

-- whether data of the type may name a host
abbrev pub is_of_hosts : ℕ → Bool
is_of_hosts t = t == type_ns || (t == type_mx || is_some (target_start t))

-- data of such a type name none
abbrev pub is_hostless : RData → Bool
is_hostless content = not (is_of_hosts (type_of content))

-- whether glue is added to an answer for a host that data of the type name
abbrev pub has_glue : ℕ → Bool
has_glue t = t == type_ns || (t == type_mx || t == type_srv)

-- Where the addresses of the host that data name are taken from. Beside an answer that is glue too, if the answer has
-- NS, MX or SRV records (RFC 1034 section 4.3.2, step 6; RFC 1035 section 3.3.9; RFC 2782). A priming query needs it
-- (RFC 9609 section 4.1).
abbrev pub source_of : Source → RData → Source
source_of source.Answer content = cond (has_glue (type_of content)) source.AnswerOrGlue source.Answer
source_of from content = from

abbrev pub some_records : Option Records → Records
some_records None = []
some_records (Some rs) = rs

-- the RRset of the zone, glue too, if the source has glue
abbrev pub glue_of : Source → Zone → DomainName → ℕ → Records
glue_of source.Answer zone host t = []
glue_of from zone host t = some_records (rrset zone.sets host t)

-- the records that are asked for, if they are the answer; at a cut and below it these, which are glue
abbrev pub records_in : Records → DomainName → Outcome → Records
records_in glue host (answer rs) = rs
records_in glue host (wild_answer rs) = owned_by host rs
records_in glue host (referral servers) = glue
records_in glue host other = []

-- What the zone itself answers for a host, by a wildcard too, and this glue if the host is at a cut or below it; nothing
-- of an alias, and nothing of what lies outside the zone or below a DNAME.
pub data IsAnswered (glue : Records) (zone : Zone) (host : DomainName) (t : ℕ) : Records → Type 0 where
  outside : ¬ (IsIn zone host) → IsAnswered glue zone host t []
  inside : {outcome : Outcome} → IsIn zone host → Answers zone host t outcome → IsAnswered glue zone host t (records_in glue host outcome)

-- The records of this type that are to be had for a host: beside an answer what the zone answers for it; beside a
-- referral the RRset as the zone has it, glue too (RFC 1034 section 4.2.1).
abbrev pub IsHad : Source → Zone → DomainName → ℕ → Records → Type 0
IsHad source.Glue zone host t rs = rs ≡ glue_of source.Glue zone host t
IsHad from zone host t rs = IsAnswered (glue_of from zone host t) zone host t rs

-- What a reply gains by the RRset of a host and type: nothing if the reply has it already.
pub data Gains (from : Source) (zone : Zone) (present : Records) (host : DomainName) (t : ℕ) : Records → Type 0 where
  stands_already : list_any (is_of host t) present ≡ true → Gains from zone present host t []
  is_added : {rs : Records} → list_any (is_of host t) present ≡ false → IsHad from zone host t rs → Gains from zone present host t rs

-- What a reply gains by the host that data name: its addresses, of IPv4 first.
pub data GainsFor (from : Source) (zone : Zone) (present : Records) (content : RData) : Records → Type 0 where
  no_host : host_in content ≡ None → GainsFor from zone present content []
  host : {four six : Records} {name : DomainName} → host_in content ≡ Some name → Gains (source_of from content) zone present (lower_name name) type_a four
      → Gains (source_of from content) zone (present ++ four) (lower_name name) type_aaaa six → GainsFor from zone present content (four ++ six)

-- The addresses of the hosts that records name, one host after the other, by which a reply grows that has these records.
pub data AreAdditionals (from : Source) (zone : Zone) : Records → Records → Records → Type 0 where
  no_record : {present : Records} → AreAdditionals from zone present [] []
  record_by : {present gained rest naming : Records} {r : Record RData} → GainsFor from zone present r.rdata gained → AreAdditionals from zone (present ++ gained) naming rest
      → AreAdditionals from zone present (r ∷ naming) (gained ++ rest)
