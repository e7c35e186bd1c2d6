-- What a server without zones replies to a query and to an update.
use Rattle.std.proofs.Common.{◌≡◌, ◌∙◌, ◌⊎◌, inl, inr, ℕ, List, [], ◌∷◌, Option, Some, None, Ok, refl, ap, arith, length, length-append}
use Rattle.std.specs.List.{AllZip}
use Rattle.wire_names.specs.rr.domain.DomainName.{DomainName}
use Rattle.wire_names.specs.rr.domain.NameOrder.{lower_name}
use Rattle.wire_messages.specs.Numbers.{code_not_auth, code_refused, opcode_query, opcode_update}
use Rattle.wire_messages.specs.serialize.writing.Reply.{Reply}
use Rattle.wire_messages.specs.declared.op.query.Query.{Query}
use Rattle.hickory_base.specs.requests.Questions.{one_query}
use Rattle.hickory_base.specs.requests.Requests.{ReceivedRequest}
use Rattle.hickory_base.specs.declared.requests.message_request.MessageRequest.{MessageRequest}
use Rattle.hickory_catalog.specs.queries.Queries.{QueryReplies}
use Rattle.hickory_catalog.specs.queries.Queries as queries
use Rattle.hickory_catalog.specs.replies.Replies.{error_reply}
use Rattle.hickory_catalog.specs.replies.ReplyEdns.{reply_edns}
use Rattle.hickory_catalog.specs.requests.Requests.{RequestAnswered, request_fault, asks, refused, updates}
use Rattle.hickory_catalog.specs.requests.Server.{Server}
use Rattle.hickory_catalog.specs.updates.Updates.{UpdateReply, updated_zone}
use Rattle.hickory_catalog.specs.updates.Updates as update
use Rattle.hickory_catalog.specs.zones.Zones.{ZoneChains}
use Rattle.hickory_server.specs.server.Ruling.{Asks, IsQuery, IsRuling, IsUpdate, code_of_refusal}
use Rattle.hickory_server.specs.server.Sending.{IsSentAs}
use Rattle.hickory_server.specs.declared.server.rules.Rules.{Rules}
use Rattle.hickory_server.specs.declared.server.rules.Ruling.TheVariants.{Refuse}
use Rattle.hickory_server.specs.declared.server.sending.Sending.{Sending}

-- a query and an update are looked into
pub looked_into : (message : MessageRequest) (query : Query) → IsQuery message query → request_fault message ≡ None
looked_into message query is = rw (is.version, is.asks, is.op_code) refl

update_looked_into : (message : MessageRequest) (zone : Query) → Asks message opcode_update zone → request_fault message ≡ None
update_looked_into message zone is = rw (is.version, is.asks, is.op_code) refl

pub one_is : (message : MessageRequest) (op_code : ℕ) (query : Query) → Asks message op_code query → one_query message.queries.queries ≡ Ok query
one_is message op_code query is = ap one_query is.question

-- the code of what is refused
of_query : (message : MessageRequest) (query : Query) → IsQuery message query → code_of_refusal message ≡ code_refused
of_query message query is = rw is.op_code refl

of_update : (message : MessageRequest) (zone : Query) → IsUpdate message zone → code_of_refusal message ≡ code_not_auth
of_update message zone is = rw is.0.op_code refl

-- an update names its zone
named : (request : ReceivedRequest) (zone : Query) → IsUpdate request.message zone → updated_zone request ≡ Some (lower_name zone.name)
named request zone is = rw (one_is request.message opcode_update zone is.0, is.1) refl

module _ {H : Type 0} (server : Server H) (request : ReceivedRequest) (now : ℕ) (replies : List Reply) (query : Query) (none : server.zones ≡ []) where
  abbrev IsRefused : Type 0
  IsRefused = replies ≡ error_reply request.message (reply_edns server.identifier request.message.edns) (code_of_refusal request.message) ∷ []

  by_query : IsQuery request.message query → QueryReplies server request (reply_edns server.identifier request.message.edns) now replies → IsRefused
  by_query is (queries.other_count e r) = let one = one_is request.message opcode_query query is in absurd cc
  by_query is (queries.no_zone one found r) = rw (of_query request.message query is) r
  by_query is (queries.zone one found r) =
      let (k, within, at) = found.1.among in
      let empty : length server.zones ≡ 0 = ap length none in
      absurd (omega (arith, within, empty))

  by_update : IsUpdate request.message query → (reply : Reply) (zones : ZoneChains H) → UpdateReply server request (reply_edns server.identifier request.message.edns) now reply zones
      → reply ≡ error_reply request.message (reply_edns server.identifier request.message.edns) (code_of_refusal request.message)
  by_update is reply zones (update.unnamed name r kept) = let named_so = named request query is in absurd cc
  by_update is reply zones (update.no_apex name other r kept) = rw (of_update request.message query is) r
  by_update is reply zones (update.no_handler name handler r kept) =
      let (k, zone_is, within, at, nobody) = handler in
      let empty : length server.zones ≡ 0 = ap length none in
      absurd (omega (arith, within, empty))
  by_update is reply zones (update.answered name updated code twelve with_signature) =
      let changed = updated.changed in
      let around = length-append changed.lesser ((changed.apex, updated.chain) ∷ changed.greater) in
      let before = ap length changed.before in
      let empty : length server.zones ≡ 0 = ap length none in
      absurd (omega (arith, around, before, empty))

  pub refuses : (zones : List (DomainName × List H)) → IsQuery request.message query ⊎ IsUpdate request.message query → RequestAnswered server request now replies zones → IsRefused
  refuses zones (inl is) (refused fault r kept) = let fine = looked_into request.message query is in absurd cc
  refuses zones (inl is) (asks fine other answered) = by_query is answered.are_replies
  refuses zones (inl is) (updates fine update answered) = let op = is.op_code in absurd cc
  refuses zones (inr is) (refused fault r kept) = let fine = update_looked_into request.message query is.0 in absurd cc
  refuses zones (inr is) (asks fine other answered) = let op = is.0.op_code in absurd cc
  refuses zones (inr is) (updates fine update answered) = answered.only ∙ ap (λ (r : Reply). r ∷ []) (by_update is answered.reply zones answered.is_reply)

-- the same, where the server has this identifier
pub refuses_as : {H : Type 0} {server : Server H} {request : ReceivedRequest} {now : ℕ} {replies : List Reply} {zones : List (DomainName × List H)} {query : Query} (identifier : Option (List ℕ))
    → RequestAnswered server request now replies zones → server.zones ≡ [] → server.identifier ≡ identifier → IsQuery request.message query ⊎ IsUpdate request.message query
    → replies ≡ error_reply request.message (reply_edns identifier request.message.edns) (code_of_refusal request.message) ∷ []
refuses_as {server = server} {request = request} {now = now} {replies = replies} {zones = zones} {query = query} identifier answered none named_so is =
    rw (← named_so) (refuses server request now replies query none zones is answered)

-- what is refused is a query or an update
pub is_either : (rules : Rules) (request : ReceivedRequest) → IsRuling rules request Refuse → (query : Query) × (IsQuery request.message query ⊎ IsUpdate request.message query)
is_either rules request (query, inl refused_query) = (query, inl refused_query.0)
is_either rules request (zone, inr refused_update) = (zone, inr refused_update.0)

-- one reply is sent as one message
pub one_sent : (sending : Sending) (replies : List Reply) (reply : Reply) (sent : List (List ℕ)) → replies ≡ reply ∷ [] → AllZip (IsSentAs sending) replies sent
    → (bytes : List ℕ) × (sent ≡ bytes ∷ []) × IsSentAs sending reply bytes
one_sent sending replies reply sent one are = by sent (rw one at are) where
  by : (sent : List (List ℕ)) → AllZip (IsSentAs sending) (reply ∷ []) sent → (bytes : List ℕ) × (sent ≡ bytes ∷ []) × IsSentAs sending reply bytes
  by [] are = absurd are
  by (bytes ∷ []) (first, rest) = (bytes, refl, first)
  by (bytes ∷ other ∷ others) (first, rest) = absurd rest
