-- What a list of blocked names answers.
use Rattle.std.specs.Prelude.{◌≡◌, ◌==◌, ◌⊎◌, ℕ, if◌then◌else◌, List, [], ◌∷◌, Option, Result, Ok, Err, unwrap_or, option_map}
use Rattle.std.specs.Option.{option_to_list}
use Rattle.std.specs.String.{string_bytes}
use Rattle.std.specs.declared.net.ipv4_addr.Ipv4Addr.{Ipv4Addr}
use Rattle.std.specs.declared.net.ipv6_addr.Ipv6Addr.{Ipv6Addr}
use Rattle.wire_names.specs.rr.domain.DomainName.{DomainName}
use Rattle.wire_names.specs.rr.domain.NameOrder.{lower_name}
use Rattle.wire_messages.specs.Numbers.{class_in, type_aaaa}
use Rattle.wire_messages.specs.declared.op.query.Query.{Query}
use Rattle.wire_messages.specs.declared.rr.rdata.RData.{RData}
use Rattle.wire_messages.specs.declared.rr.rdata.RData.TheVariants.{A, AAAA, TXT}
use Rattle.wire_messages.specs.declared.rr.record.Proof.TheVariants.{Indeterminate}
use Rattle.wire_messages.specs.declared.rr.record.Record.{Record}
use Rattle.hickory_base.specs.zone_store.Lookups.{Flow}
use Rattle.hickory_base.specs.requests.Questions.{one_query}
use Rattle.hickory_base.specs.requests.Requests.{ReceivedRequest}
use Rattle.hickory_base.specs.declared.errors.LookupError.{LookupError}
use Rattle.hickory_base.specs.declared.errors.LookupError.TheVariants.{Memory}
use Rattle.hickory_base.specs.declared.zone_store.lookup.AuthLookup.{AuthLookup}
use Rattle.hickory_base.specs.declared.zone_store.lookup.AuthLookup.TheVariants.{Resolved}
use Rattle.hickory_base.specs.declared.zone_store.lookup.LookupControlFlow.TheVariants.{Break, Skip}
use Rattle.hickory_store.specs.blocklist.Blocked.{IsBlocked}
use Rattle.hickory_store.specs.declared.blocklist.config.BlocklistConfig.{BlocklistConfig}
use Rattle.hickory_store.specs.declared.blocklist.config.BlocklistConsultAction.{BlocklistConsultAction}
use Rattle.hickory_store.specs.declared.blocklist.config.BlocklistConsultAction.TheVariants.{Disabled, Enforce, Log}

-- a list of blocked names, and how it is used
pub record Blocklist : Type 0 where
  pub origin : DomainName
  pub config : BlocklistConfig
  pub entries : List DomainName

-- 0.0.0.0
abbrev pub no_ipv4 : Ipv4Addr
no_ipv4 = record { octets = 0 ∷ 0 ∷ 0 ∷ 0 ∷ [] }

-- ::
abbrev pub no_ipv6 : Ipv6Addr
no_ipv6 = record { segments = 0 ∷ 0 ∷ 0 ∷ 0 ∷ 0 ∷ 0 ∷ 0 ∷ 0 ∷ [] }

-- the address that blocked names have: an IPv6 address for type AAAA (RFC 3596, section 2.1), and an IPv4 address for
-- every other type
abbrev pub sinkhole_data : BlocklistConfig → ℕ → RData
sinkhole_data config record_type =
    if record_type == type_aaaa then AAAA (unwrap_or config.sinkhole_ipv6 no_ipv6) else A (unwrap_or config.sinkhole_ipv4 no_ipv4)

-- a record of an answer
abbrev pub block_record : BlocklistConfig → DomainName → RData → Record RData
block_record config name rdata = record { name = name; dns_class = class_in; ttl = config.ttl; rdata = rdata; proof = Indeterminate }

-- the message as the one character string of a TXT record (RFC 1035, section 3.3.14)
abbrev pub message_data : BlocklistConfig → Option RData
message_data config = option_map (λ message. TXT (string_bytes message ∷ [])) config.block_message

-- the records of an answer: the address, and the message where there is one
abbrev pub block_records : BlocklistConfig → DomainName → ℕ → List (Record RData)
block_records config name record_type =
    block_record config name (sinkhole_data config record_type) ∷ option_to_list (option_map (λ rdata. block_record config name rdata) (message_data config))

-- the answer for a blocked name, as a resolver would give it
abbrev pub found_for : BlocklistConfig → DomainName → ℕ → AuthLookup
found_for config name record_type = Resolved (record {
  query = record { name = name; query_type = record_type; query_class = class_in };
  answers = block_records config name record_type;
  authorities = [];
  additionals = [];
})

abbrev pub IsBlockedBy : Blocklist → DomainName → Type 0
IsBlockedBy list name = IsBlocked list.entries list.config.wildcard_match list.config.min_wildcard_depth name

-- For a blocked name an answer that stands, and for any other what is answered otherwise; or memory was refused.
abbrev pub Answers : Blocklist → DomainName → ℕ → Flow → Flow → Type 0
Answers list name record_type otherwise answer =
    (IsBlockedBy list name × (answer ≡ Break (Ok (found_for list.config name record_type))))
    ⊎ (¬ (IsBlockedBy list name) × (answer ≡ otherwise))
    ⊎ (answer ≡ Break (Err Memory))

abbrev pub SearchedFor : Blocklist → Result Query LookupError → Flow → Type 0
SearchedFor list (Ok query) answer = Answers list (lower_name query.name) query.query_type Skip answer
SearchedFor list (Err e) answer = answer ≡ Break (Err e)

-- a request: its one question is looked up
abbrev pub Searched : Blocklist → ReceivedRequest → Flow → Type 0
Searched list request answer = SearchedFor list (one_query request.message.queries.queries) answer

abbrev pub ConsultedBy : BlocklistConsultAction → Blocklist → DomainName → ℕ → Flow → Flow → Type 0
ConsultedBy Enforce list name record_type last answer = Answers list name record_type last answer
ConsultedBy Disabled list name record_type last answer = answer ≡ last
ConsultedBy Log list name record_type last answer = answer ≡ last

-- another handler's answer: only a list that enforces answers in its place
abbrev pub Consulted : Blocklist → DomainName → ℕ → Flow → Flow → Type 0
Consulted list name record_type last answer = ConsultedBy list.config.consult_action list name record_type last answer
