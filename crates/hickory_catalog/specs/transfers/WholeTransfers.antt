-- Which replies a query gets that is answered by the whole zone, whatever type it asks for: so is an IXFR where no
-- increments are at hand (RFC 1995 section 4).
use Rattle.std.specs.Prelude.{◌≡◌, ℕ, List, [], ◌∷◌, Option, Some, None, Result, Ok, Err}
use Rattle.wire_names.specs.rr.domain.NameOrder.{lower_name}
use Rattle.wire_messages.specs.Numbers.{code_form_err, code_refused, code_serv_fail}
use Rattle.wire_messages.specs.op.EdnsFields.{EdnsFields}
use Rattle.wire_messages.specs.serialize.writing.Reply.{Reply}
use Rattle.wire_messages.specs.declared.op.query.Query.{Query}
use Rattle.wire_names.specs.rr.domain.DomainName.{DomainName}
use Rattle.hickory_base.specs.requests.Questions.{one_query}
use Rattle.hickory_base.specs.requests.Requests.{ReceivedRequest}
use Rattle.hickory_base.specs.declared.errors.LookupError.{LookupError}
use Rattle.hickory_base.specs.declared.zone_store.handler.ZoneHandler.{Ghosts}
use Rattle.hickory_base.specs.declared.zone_store.lookup.ZoneTransfer.{ZoneTransfer}
use Rattle.hickory_base.specs.zone_store.Lookups.{SignerContext}
use Rattle.hickory_catalog.specs.requests.Alone.{IsOfZone, alone}
use Rattle.hickory_catalog.specs.zones.Find.{Finds}
use Rattle.hickory_catalog.specs.queries.Queries.{GivenReplies}
use Rattle.hickory_catalog.specs.replies.Replies.{error_reply}
use Rattle.hickory_catalog.specs.requests.Server.{Server, server_of}
use Rattle.hickory_catalog.specs.replies.Signing.{Signer}
use Rattle.hickory_catalog.specs.transfers.Transfers.{TransferAsked}
use Rattle.hickory_catalog.specs.zones.Zones.{AreInOrder}
use Rattle.hickory_catalog.specs.declared.catalog.Catalog.{Catalog}

-- The replies to a request for the zone of this chain, with this EDNS, at this moment.
pub data ChainTransfers {H : Type 0} (server : Server H) (chain : List H) (request : ReceivedRequest) (edns : Option EdnsFields) (now : ℕ) (replies : List Reply) : Type 0 where
  -- Nobody gives the transfer: ServFail. No signature is asked for.
  nobody : TransferAsked server.handler request now chain None
      → replies ≡ error_reply request.message edns code_serv_fail ∷ [] → ChainTransfers server chain request edns now replies
  -- A handler gives it, or says why not.
  given : {result : Result ZoneTransfer LookupError} {context : SignerContext} → TransferAsked server.handler request now chain (Some (result, context))
      → GivenReplies server.signer request edns result context replies → ChainTransfers server chain request edns now replies

-- The replies to a query that is answered by the whole zone of its name, with this EDNS, at this moment.
pub data TransferReplies {H : Type 0} (server : Server H) (request : ReceivedRequest) (edns : Option EdnsFields) (now : ℕ) (replies : List Reply) : Type 0 where
  -- There is not just one question: FormErr.
  other_count : {e : LookupError} → one_query request.message.queries.queries ≡ Err e
      → replies ≡ error_reply request.message edns code_form_err ∷ [] → TransferReplies server request edns now replies
  -- No zone answers for the name: Refused.
  no_zone : {query : Query} → one_query request.message.queries.queries ≡ Ok query
      → Finds server.zones (lower_name query.name) None
      → replies ≡ error_reply request.message edns code_refused ∷ [] → TransferReplies server request edns now replies
  -- The zone of this chain answers for the name.
  zone : {query : Query} {chain : List H} → one_query request.message.queries.queries ≡ Ok query
      → Finds server.zones (lower_name query.name) (Some chain)
      → ChainTransfers server chain request edns now replies → TransferReplies server request edns now replies

-- A query of a zone that is answered by the whole zone has the replies that it would have where that zone is the only
-- one.
abbrev pub TransferredAlone : {S H : Type 0} → Ghosts H → (S → Signer) → Type 0
TransferredAlone {S} {H} handler signature_for = (catalog : Catalog S H) (request : ReceivedRequest) (edns : Option EdnsFields) (now : ℕ) (replies : List Reply) (zone : DomainName × List H)
    → AreInOrder catalog.zones → IsOfZone catalog.zones request zone
    → TransferReplies (server_of handler signature_for catalog) request edns now replies
    → TransferReplies (alone (server_of handler signature_for catalog) zone) request edns now replies
