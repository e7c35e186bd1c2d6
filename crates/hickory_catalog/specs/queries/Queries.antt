-- Which replies a query gets.
use Rattle.std.specs.Prelude.{◌≡◌, ◌==◌, ◌<◌, ◌^◌, ℕ, Bool, true, false, List, [], ◌∷◌, slice_get, Option, Some, None, MatchOption, Result, Ok, Err}
use Rattle.wire_messages.specs.Numbers.{code_form_err, code_refused, code_serv_fail, type_axfr}
use Rattle.wire_messages.specs.op.EdnsFields.{EdnsFields}
use Rattle.wire_names.specs.rr.domain.NameOrder.{lower_name}
use Rattle.wire_messages.specs.serialize.writing.Reply.{Reply}
use Rattle.wire_messages.specs.op.Metadata.{response_to}
use Rattle.wire_messages.specs.declared.op.header.Metadata.{Metadata}
use Rattle.wire_messages.specs.declared.op.query.Query.{Query}
use Rattle.hickory_base.specs.zone_store.Lookups.{SignerContext, asks_for_dnssec, result_of, whole_reply}
use Rattle.hickory_base.specs.requests.Questions.{one_query}
use Rattle.hickory_base.specs.requests.Requests.{ReceivedRequest, information}
use Rattle.hickory_base.specs.declared.errors.LookupError.{LookupError}
use Rattle.hickory_base.specs.declared.zone_store.handler.ZoneHandler.{Ghosts}
use Rattle.hickory_base.specs.declared.zone_store.handler.ZoneType.{ZoneType}
use Rattle.hickory_base.specs.declared.zone_store.handler.ZoneType.TheVariants.{Primary, Secondary, External}
use Rattle.hickory_base.specs.declared.zone_store.lookup.AuthLookup.{AuthLookup}
use Rattle.hickory_base.specs.declared.zone_store.lookup.LookupOptions.{LookupOptions}
use Rattle.hickory_base.specs.declared.zone_store.lookup.WholeReply.{WholeReply}
use Rattle.hickory_base.specs.declared.zone_store.lookup.ZoneTransfer.{ZoneTransfer}
use Rattle.hickory_catalog.specs.queries.Authoritative.{AuthoritativeReply}
use Rattle.hickory_catalog.specs.zones.Find.{Finds}
use Rattle.hickory_catalog.specs.queries.Forwarded.{forwarded_contents}
use Rattle.hickory_catalog.specs.replies.Replies.{Contents, error_reply}
use Rattle.hickory_catalog.specs.requests.Server.{Server}
use Rattle.hickory_catalog.specs.replies.Signing.{SignedReply, Signer}
use Rattle.hickory_catalog.specs.queries.Transcripts.{ChainAnswers, is_memory}
use Rattle.hickory_catalog.specs.transfers.Transfers.{AreTransferReplies, TransferAsked, is_split, transfer_contents}
use Rattle.hickory_catalog.specs.zones.Zones.{ZoneChains}
use Rattle.hickory_catalog.specs.declared.chains.ChainAnswer.{ChainAnswer}

-- A request, and the one question in it.
pub record AskedQuery : Type 0 where
  pub request : ReceivedRequest
  pub query : Query

-- what a handler that is consulted is told to take care of: what the reply's EDNS says
abbrev pub consult_options : Option EdnsFields → LookupOptions
consult_options edns = record { dnssec_ok = asks_for_dnssec edns }

-- What a handler that was asked replies to what the chain answered in the end, where that is not the whole reply: a
-- primary or a secondary server answers of its zone, any other passes on what it was told.
abbrev pub ReplyByType : {H : Type 0} → Ghosts H → H → ZoneType → AskedQuery → Result AuthLookup LookupError → Contents → Type 0
ReplyByType handler h Primary asked result contents = AuthoritativeReply handler h asked.request asked.query contents result
ReplyByType handler h Secondary asked result contents = AuthoritativeReply handler h asked.request asked.query contents result
ReplyByType handler h External asked result contents = contents ≡ forwarded_contents asked.request.message asked.query (handler.validates_dnssec h) result

-- What a reply says that a handler has whole: its code, AA and sections, as they are. RA, AD and TC are clear (RFC 1035
-- section 4.1.1).
abbrev pub whole_contents : Metadata → WholeReply → Contents
whole_contents request reply = record {
  metadata = record (response_to request) { authoritative = reply.authoritative; response_code = reply.response_code };
  answers = reply.answers;
  authorities = reply.authorities;
  additionals = reply.additionals;
}

-- What is replied to what the chain answered in the end: the whole reply, if it is one, whatever the handler that was
-- asked is to the zone. Its code has twelve bits (RFC 6891 section 6.1.3).
abbrev pub HandlerReply : {H : Type 0} → Ghosts H → H → ZoneType → AskedQuery → Result AuthLookup LookupError → Contents → Type 0
HandlerReply handler h zone_type asked result contents = MatchOption (whole_reply result) (ReplyByType handler h zone_type asked result contents)
    (λ reply. (contents ≡ whole_contents asked.request.message.metadata reply) × (reply.response_code < 2 ^ 12))

-- the answer says that memory was refused
abbrev pub is_out_of_memory : {T : Type 0} → Result T LookupError → Bool
is_out_of_memory (Ok found) = false
is_out_of_memory (Err e) = is_memory e

-- The one reply to a query from the zone of this chain of handlers, at this moment, but to a transfer that a handler
-- answers. A transfer of the zone is of type AXFR (RFC 1035 section 3.2.3).
pub data ZoneReply {H : Type 0} (server : Server H) (chain : List H) (asked : AskedQuery) (edns : Option EdnsFields) (now : ℕ) (reply : Reply) : Type 0 where
  -- Nobody answers a transfer: ServFail. No signature is asked for.
  untransferred : (asked.query.query_type == type_axfr) ≡ true
      → TransferAsked server.handler asked.request now chain None
      → reply ≡ error_reply asked.request.message edns code_serv_fail → ZoneReply server chain asked edns now reply
  -- Nobody answers a lookup: ServFail. No signature is asked for.
  unanswered : {final : ChainAnswer} → (asked.query.query_type == type_axfr) ≡ false
      → ChainAnswers server.handler asked.request (information asked.request asked.query) (consult_options edns) chain final
      → result_of final.given.0 ≡ None
      → reply ≡ error_reply asked.request.message edns code_serv_fail → ZoneReply server chain asked edns now reply
  -- The chain answers, and the handler that was asked makes the reply.
  lookup : {h : H} {final : ChainAnswer} {result : Result AuthLookup LookupError} (contents : Contents) → (asked.query.query_type == type_axfr) ≡ false
      → ChainAnswers server.handler asked.request (information asked.request asked.query) (consult_options edns) chain final
      → result_of final.given.0 ≡ Some result → slice_get chain final.place ≡ Some h
      → is_out_of_memory result ≡ false
      → HandlerReply server.handler h (server.handler.zone_type_of h) asked result contents
      → SignedReply server.signer asked.request.message edns contents final.given.1 reply
      → ZoneReply server chain asked edns now reply

-- The replies to a transfer, where a handler gives it or says why not.
pub data GivenReplies (signer : Signer) (request : ReceivedRequest) (edns : Option EdnsFields) (result : Result ZoneTransfer LookupError) (context : SignerContext) (replies : List Reply) : Type 0 where
  -- It is sent in one reply.
  whole : {reply : Reply} → is_out_of_memory result ≡ false → is_split request.protocol result context ≡ false
      → SignedReply signer request.message edns (transfer_contents request.message.metadata result) context reply
      → replies ≡ reply ∷ [] → GivenReplies signer request edns result context replies
  -- It is sent in as many as it takes.
  split : {transfer : ZoneTransfer} → result ≡ Ok transfer → context ≡ None → is_split request.protocol result context ≡ true
      → AreTransferReplies request.message edns transfer.records replies → GivenReplies signer request edns result context replies

-- The replies to a query from the zone of this chain.
pub data ZoneReplies {H : Type 0} (server : Server H) (chain : List H) (asked : AskedQuery) (edns : Option EdnsFields) (now : ℕ) (replies : List Reply) : Type 0 where
  one : {reply : Reply} → ZoneReply server chain asked edns now reply → replies ≡ reply ∷ [] → ZoneReplies server chain asked edns now replies
  -- A handler gives the transfer, or says why not.
  transfer : {result : Result ZoneTransfer LookupError} {context : SignerContext} → (asked.query.query_type == type_axfr) ≡ true
      → TransferAsked server.handler asked.request now chain (Some (result, context))
      → GivenReplies server.signer asked.request edns result context replies
      → ZoneReplies server chain asked edns now replies

-- The replies to a query from this chain, whichever zone is nearest to its name, with this EDNS, at this moment.
pub data ChainReplies {H : Type 0} (server : Server H) (chain : List H) (request : ReceivedRequest) (edns : Option EdnsFields) (now : ℕ) (replies : List Reply) : Type 0 where
  -- There is not just one question: FormErr.
  other_count : {e : LookupError} → one_query request.message.queries.queries ≡ Err e
      → replies ≡ error_reply request.message edns code_form_err ∷ [] → ChainReplies server chain request edns now replies
  -- The chain answers the question.
  asked : {query : Query} → one_query request.message.queries.queries ≡ Ok query
      → ZoneReplies server chain (record { request = request; query = query }) edns now replies → ChainReplies server chain request edns now replies

-- The replies to a query, with this EDNS, at this moment.
pub data QueryReplies {H : Type 0} (server : Server H) (request : ReceivedRequest) (edns : Option EdnsFields) (now : ℕ) (replies : List Reply) : Type 0 where
  -- There is not just one question: FormErr.
  other_count : {e : LookupError} → one_query request.message.queries.queries ≡ Err e
      → replies ≡ error_reply request.message edns code_form_err ∷ [] → QueryReplies server request edns now replies
  -- No zone answers for the name: Refused.
  no_zone : {query : Query} → one_query request.message.queries.queries ≡ Ok query
      → Finds server.zones (lower_name query.name) None
      → replies ≡ error_reply request.message edns code_refused ∷ [] → QueryReplies server request edns now replies
  -- The zone of this chain answers for the name.
  zone : {query : Query} {chain : List H} → one_query request.message.queries.queries ≡ Ok query
      → Finds server.zones (lower_name query.name) (Some chain)
      → ZoneReplies server chain (record { request = request; query = query }) edns now replies → QueryReplies server request edns now replies

-- What a query comes to: the replies that are sent, and the zones after it, which are as they were.
pub record QueryAnswered {H : Type 0} (server : Server H) (request : ReceivedRequest) (edns : Option EdnsFields) (now : ℕ) (replies : List Reply) (zones : ZoneChains H) : Type 0 where
  pub are_replies : QueryReplies server request edns now replies
  pub kept : zones ≡ server.zones
