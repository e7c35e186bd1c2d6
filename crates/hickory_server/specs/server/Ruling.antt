-- The rules of a server: what it makes of a message, and of a request, before its zones are asked.
use Rattle.std.specs.Prelude.{◌≡◌, ◌==◌, ◌≢◌, ◌≤◌, ◌⊎◌, ◌∷◌, [], ℕ, true, None, List, Option, cond, find, get_or, max, min}
use Rattle.std.specs.Option.{option_map_or}
use Rattle.std.specs.Net.Socket.{socket_ip}
use Rattle.std.specs.declared.net.SocketAddr.{SocketAddr}
use Rattle.wire_names.specs.rr.domain.DomainName.{DomainName}
use Rattle.wire_names.specs.rr.domain.NameOrder.{name_eq}
use Rattle.wire_messages.specs.Numbers.{class_any, class_in, code_not_auth, code_refused, opcode_query, opcode_update, type_axfr, type_ixfr, type_soa}
use Rattle.wire_messages.specs.op.Metadata.{response_to}
use Rattle.wire_messages.specs.serialize.writing.Reply.{Reply}
use Rattle.wire_messages.specs.declared.op.header.MessageType.TheVariants as message_type
use Rattle.wire_messages.specs.declared.op.query.Query.{Query}
use Rattle.wire_messages.specs.declared.protocol.Protocol.TheVariants.{Udp}
use Rattle.server_limits.specs.Access.{AccessSets, IsAllowed}
use Rattle.hickory_base.specs.requests.Questions.{edns_version, payload_limit}
use Rattle.hickory_base.specs.requests.Requests.{ReceivedRequest}
use Rattle.hickory_base.specs.declared.requests.message_request.MessageRequest.{MessageRequest}
use Rattle.hickory_catalog.specs.replies.Replies.{bare_contents, error_reply, plain_reply}
use Rattle.hickory_catalog.specs.replies.ReplyEdns.{reply_edns}
use Rattle.hickory_catalog.specs.requests.Server.{Server}
use Rattle.hickory_server.specs.declared.server.rules.Rules.{Rules}
use Rattle.hickory_server.specs.declared.server.rules.Ruling.{Ruling}
use Rattle.hickory_server.specs.declared.server.rules.ZoneTransfers.{ZoneTransfers}
use Rattle.hickory_server.specs.declared.server.rules.Ruling.TheVariants.{Pass, Refuse, Transfer, Truncate}

-- The message is itself a response: QR is set, the highest bit of its third byte (RFC 1035 section 4.1.1).
abbrev pub IsResponse : List ℕ → Type 0
IsResponse bytes = 128 ≤ get_or bytes 2 0

-- how many bytes a reply over UDP has at most, whatever the client takes: as set, and at least 512 (RFC 1035 section
-- 4.2.1)
abbrev pub udp_limit : Rules → ℕ
udp_limit rules = max rules.max_udp 512

-- how many bytes a reply to a request has at most over UDP: what the client takes (RFC 6891 section 6.2.3) and the
-- server allows
abbrev pub datagram_limit : Rules → ReceivedRequest → ℕ
datagram_limit rules request = min (payload_limit request.message.edns) (udp_limit rules)

-- The message is a request of this opcode and of this one question, in the version of EDNS that is known (RFC 1035
-- section 4.1.1, RFC 6891 section 6.1.3).
pub record Asks (message : MessageRequest) (opcode : ℕ) (query : Query) : Type 0 where
  pub version : edns_version message.edns ≡ 0
  pub asks : message.metadata.message_type ≡ message_type.Query
  pub op_code : message.metadata.op_code ≡ opcode
  pub question : message.queries.queries ≡ query ∷ []

-- The message is a query of this one question.
abbrev pub IsQuery : MessageRequest → Query → Type 0
IsQuery message query = Asks message opcode_query query

-- The message is an update whose zone section, which is in the place of the questions, names this zone (RFC 2136
-- section 2.3).
abbrev pub IsUpdate : MessageRequest → Query → Type 0
IsUpdate message zone = Asks message opcode_update zone × (zone.query_type ≡ type_soa)

-- It asks in class IN or ANY (RFC 1035 sections 3.2.4 and 3.2.5).
abbrev pub IsOfServedClass : Query → Type 0
IsOfServedClass query = (query.query_class ≡ class_in) ⊎ (query.query_class ≡ class_any)

-- It asks for a whole zone, by AXFR (RFC 5936 section 2), or for what changed in it, by IXFR (RFC 1995 section 2).
abbrev pub IsTransfer : Query → Type 0
IsTransfer query = (query.query_type ≡ type_axfr) ⊎ (query.query_type ≡ type_ixfr)

-- The message is a query for a transfer.
abbrev pub AsksForTransfer : MessageRequest → Type 0
AsksForTransfer message = (query : Query) × IsQuery message query × IsTransfer query

-- It asks for what changed in a zone.
abbrev pub IsIncremental : Query → Type 0
IsIncremental query = query.query_type ≡ type_ixfr

-- This address may use the server.
abbrev pub MayUse : Rules → SocketAddr → Type 0
MayUse rules source = IsAllowed rules.access.deny rules.access.allow (socket_ip source)

-- the rules that the zone of this name has of its own, if it has any, whatever the letter case of the name
abbrev pub own_of : List ZoneTransfers → DomainName → Option ZoneTransfers
own_of zones name = find (λ zone. name_eq zone.apex name) zones

-- those of the zone that a request is for: the one of the name of its question
abbrev pub own_by : List ZoneTransfers → List Query → Option ZoneTransfers
own_by zones (query ∷ []) = own_of zones query.name
own_by zones queries = None

abbrev pub own_for : Rules → MessageRequest → Option ZoneTransfers
own_for rules message = own_by rules.zones.items message.queries.queries

-- who may have that zone transferred: who its own rules say, if it has any, and no other; else who the rules for all
-- zones say
abbrev pub transfers_for : Rules → MessageRequest → AccessSets
transfers_for rules message = option_map_or (λ zone. zone.access) (own_for rules message) rules.transfers

-- The zone of the request may be transferred to the address that the request came from.
abbrev pub MayTransfer : Rules → ReceivedRequest → Type 0
MayTransfer rules request = IsAllowed (transfers_for rules request.message).deny (transfers_for rules request.message).allow (socket_ip request.source)

-- A query is refused if its class is not served, or if it asks for a transfer and its address may have none.
abbrev pub IsRefusedQuery : Rules → ReceivedRequest → Query → Type 0
IsRefusedQuery rules request query = IsQuery request.message query × (¬ (IsOfServedClass query) ⊎ (IsTransfer query × ¬ (MayTransfer rules request)))

-- An update is refused if the zone that it names is of another class than IN (RFC 2136 section 3.1.1).
abbrev pub IsRefusedUpdate : MessageRequest → Query → Type 0
IsRefusedUpdate message zone = IsUpdate message zone × (zone.query_class ≢ class_in)

-- What the rules make of a request. A query for what changed in a zone is answered by what the zone's handlers give as
-- a transfer, over UDP too (RFC 1995 sections 2 and 4). A query for a whole zone over UDP is truncated, since it is for
-- TCP (RFC 5936 section 4.2). All other requests that are not refused pass.
abbrev pub IsRuling : Rules → ReceivedRequest → Ruling → Type 0
IsRuling rules request Refuse = (query : Query) × (IsRefusedQuery rules request query ⊎ IsRefusedUpdate request.message query)
IsRuling rules request Truncate = (query : Query) × IsQuery request.message query × IsOfServedClass query × IsTransfer query × ¬ (IsIncremental query) × MayTransfer rules request
    × (request.protocol ≡ Udp)
IsRuling rules request Transfer = (query : Query) × IsQuery request.message query × IsOfServedClass query × IsIncremental query × MayTransfer rules request
IsRuling rules request Pass = ((query : Query) → IsQuery request.message query
    → IsOfServedClass query × ¬ (IsIncremental query) × (IsTransfer query → MayTransfer rules request × (request.protocol ≢ Udp)))
    × ((zone : Query) → ¬ (IsRefusedUpdate request.message zone))

-- the code of what is refused: NotAuth for an update (RFC 2136 section 3.1.1), and Refused for a query (RFC 1035
-- section 4.1.1)
abbrev pub code_of_refusal : MessageRequest → ℕ
code_of_refusal message = cond (message.metadata.op_code == opcode_update) code_not_auth code_refused

-- the reply to what is refused: that code, and no records
abbrev pub refusal : {H : Type 0} → Server H → ReceivedRequest → Reply
refusal server request = error_reply request.message (reply_edns server.identifier request.message.edns) (code_of_refusal request.message)

-- the reply to what is truncated: TC, and no records
abbrev pub truncation : ReceivedRequest → Reply
truncation request = plain_reply request.message (reply_edns None request.message.edns) (bare_contents (record (response_to request.message.metadata) { truncation = true }))
