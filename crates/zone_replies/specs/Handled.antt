-- How the zone's replies are given as a handler of the catalog.
use Rattle.std.specs.Prelude.{◌≡◌, ◌⊎◌, ◌==◌, ◌&&◌, ◌||◌, ◌∷◌, ℕ, Bool, true, false, not, cond, [], Option, None, Some, Result, Ok, Err}
use Rattle.std.specs.Bool.{MatchBool}
use Rattle.std.specs.List.{AllByRecursion}
use Rattle.wire_names.specs.rr.domain.DomainName.{DomainName}
use Rattle.wire_names.specs.rr.domain.NameOrder.{lower_name, name_eq}
use Rattle.wire_messages.specs.Numbers.{class_in, code_no_error, code_nx_domain, type_ixfr, type_soa}
use Rattle.wire_messages.specs.declared.op.query.Query.{Query}
use Rattle.hickory_base.specs.requests.Questions.{one_query}
use Rattle.hickory_base.specs.requests.Requests.{ReceivedRequest}
use Rattle.hickory_base.specs.zone_store.Lookups.{Flow}
use Rattle.hickory_base.specs.zone_store.Serials.{is_greater}
use Rattle.hickory_base.specs.zone_store.ZoneAnswers.{MemoryZone, no_data, no_name, soa_serial, zone_soa}
use Rattle.hickory_base.specs.declared.errors.LookupError.{LookupError}
use Rattle.hickory_base.specs.declared.errors.LookupError.TheVariants.{Memory, ResponseCode}
use Rattle.hickory_base.specs.declared.zone_store.handler.ZoneType.{ZoneType}
use Rattle.hickory_base.specs.declared.zone_store.handler.ZoneType.TheVariants.{External, Primary, Secondary}
use Rattle.hickory_base.specs.declared.zone_store.lookup.AuthLookup.{AuthLookup}
use Rattle.hickory_base.specs.declared.zone_store.lookup.AuthLookup.TheVariants as lookup
use Rattle.hickory_base.specs.declared.zone_store.lookup.LookupControlFlow.TheVariants.{Break, Continue}
use Rattle.hickory_base.specs.declared.zone_store.lookup.WholeReply.{WholeReply}
use Rattle.wire_messages.specs.declared.protocol.Protocol.{Protocol}
use Rattle.wire_messages.specs.declared.protocol.Protocol.TheVariants.{Udp}
use Rattle.wire_messages.specs.declared.rr.rdata.RData.{RData}
use Rattle.wire_messages.specs.declared.rr.rdata.RData.TheVariants as rdata
use Rattle.zone_answers.specs.Additionals.{is_hostless}
use Rattle.zone_replies.specs.Replies.{RepliesTo, denial_soa, is_class, whole, as_zone}
use Rattle.zone_answers.specs.Zones.{Records, Zone}

-- the server holds the zone or a copy of it, so that the catalog puts the SOA into its denials
abbrev pub is_held : ZoneType → Bool
is_held Primary = true
is_held Secondary = true
is_held External = false

-- What stands for the zone's reply: the reply itself; where nothing was followed and nothing is added, records that are
-- not the SOA, or a denial, for which `lookup` gives the SOA.
pub data StandsFor (zone : MemoryZone) (query : Query) : Result AuthLookup LookupError → Type 0 where
  in_whole : {reply : WholeReply} → RepliesTo (as_zone zone) query reply → StandsFor zone query (Ok (lookup.Whole reply))
  by_records : {rs : Records} → is_held zone.zone_type ≡ true → (query.query_type == type_soa) ≡ false → AllByRecursion (λ q. is_hostless q.rdata ≡ true) rs
      → RepliesTo (as_zone zone) query (whole code_no_error true rs [] []) → StandsFor zone query (Ok (lookup.Records rs []))
  by_no_name : is_held zone.zone_type ≡ true → RepliesTo (as_zone zone) query (whole code_nx_domain true [] (denial_soa (as_zone zone)) []) → StandsFor zone query no_name
  by_no_data : is_held zone.zone_type ≡ true → RepliesTo (as_zone zone) query (whole code_no_error true [] (denial_soa (as_zone zone)) []) → StandsFor zone query no_data

-- a search: the one question of the request is replied to, but for want of memory
abbrev pub SearchedFor : MemoryZone → Result Query LookupError → Flow → Type 0
SearchedFor zone (Ok query) answer = (result : _) × (StandsFor zone query result ⊎ (result ≡ Err Memory)) × (answer ≡ Continue result)
SearchedFor zone (Err e) answer = answer ≡ Break (Err e)

abbrev pub Searched : MemoryZone → ReceivedRequest → Flow → Type 0
Searched zone request answer = SearchedFor zone (one_query request.message.queries.queries) answer

-- the question of a name and a type of the zone's class
abbrev pub question : DomainName → ℕ → Query
question name t = record { name = name; query_type = t; query_class = class_in }

-- whether the SOA of the zone is looked up
abbrev pub is_soa : Zone → DomainName → ℕ → Bool
is_soa zone name t = name_eq zone.origin name && (t == type_soa)

-- the records of a reply: its answer section, or its code as an error
abbrev pub records_of : WholeReply → Result AuthLookup LookupError
records_of reply = cond (reply.response_code == code_no_error) (Ok (lookup.Records reply.answers [])) (Err (ResponseCode reply.response_code))

-- What a lookup gives, by which the catalog completes a reply: of the zone's SOA that of a denial, else the answer
-- section of what the zone replies.
abbrev pub IsLookedUp : Zone → DomainName → ℕ → Result AuthLookup LookupError → Type 0
IsLookedUp zone name t result = MatchBool (is_soa zone name t) (result ≡ Ok (lookup.Records (denial_soa zone) []))
    ((reply : WholeReply) × RepliesTo zone (question name t) reply × (result ≡ records_of reply))

abbrev pub LookedUp : MemoryZone → DomainName → ℕ → Flow → Type 0
LookedUp zone name t answer = (result : _) × (IsLookedUp (as_zone zone) name t result ⊎ (result ≡ Err Memory)) × (answer ≡ Continue result)

-- The question names the zone: by its apex and its class.
abbrev pub names_zone : Zone → Query → Bool
names_zone zone query = is_class query.query_class && name_eq zone.origin (lower_name query.name)

-- the serial of the version of the zone that the client of an IXFR has: that of the SOA in the authority section (RFC
-- 1995 section 3)
abbrev pub held_serial : Records → Option ℕ
held_serial (r ∷ rs) = serial_in r.rdata where
  serial_in : RData → Option ℕ
  serial_in (rdata.SOA soa) = Some soa.serial
  serial_in other = None
held_serial [] = None

-- The version of this serial, if there is one, is the zone's, of this serial, or newer.
abbrev pub is_no_older : Option ℕ → ℕ → Bool
is_no_older (Some held) own = not (is_greater own held)
is_no_older None own = false

abbrev pub is_datagram : Protocol → Bool
is_datagram Udp = true
is_datagram other = false

-- A query for what changed, IXFR, gets the SOA alone over UDP, where the client turns to TCP for more, and where the
-- version that the client has is no older than the zone's (RFC 1995 section 2).
abbrev pub is_by_soa : MemoryZone → ReceivedRequest → Query → Bool
is_by_soa zone request query =
    query.query_type == type_ixfr && (is_datagram request.protocol || is_no_older (held_serial request.message.authorities) (soa_serial (zone_soa zone)))
