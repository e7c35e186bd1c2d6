-- What the bytes of a catalog's reply are read as.
use Rattle.std.specs.Prelude.{◌≡◌, ℕ, ◌+◌, ◌<◌, ◌≤◌, ◌^◌, false, List, [], length, Option, IfSome}
use Rattle.std.specs.List.{AllByRecursion}
use Rattle.wire_messages.specs.Numbers.{opcode_update}
use Rattle.wire_messages.specs.op.EdnsFields.{EdnsFields}
use Rattle.wire_messages.specs.serialize.layout.MessageLayout.{IsPlainRecord}
use Rattle.wire_reading.specs.serialize.layout.WholeMessage.{MessageAt}
use Rattle.wire_reading.specs.serialize.reading.MessageReading.{Reads}
use Rattle.hickory_wire.specs.serialize.writing.Decoding.{decoded_message, without_proof}
use Rattle.hickory_wire.specs.serialize.writing.ReadingBack.{ReadsBack}
use Rattle.wire_messages.specs.serialize.writing.Reply.{Reply, reply_lists, size_limit}
use Rattle.wire_messages.specs.serialize.writing.ReplyRanges.{IsEdnsInRange}
use Rattle.hickory_wire.specs.serialize.writing.ReplyParts.{ReplyEncoded}
use Rattle.wire_writing.specs.serialize.writing.Writing.{Fronts, Written, written_header}
use Rattle.wire_messages.specs.declared.op.header.Header.{Header}
use Rattle.wire_messages.specs.declared.op.header.Metadata.{Metadata}
use Rattle.wire_messages.specs.declared.op.query.Query.{Query}
use Rattle.wire_messages.specs.declared.protocol.Protocol.{Protocol}
use Rattle.hickory_base.specs.requests.RepeatableQuestions.{HasRepeatableQuestions}
use Rattle.hickory_base.specs.requests.Requests.{ReceivedRequest}
use Rattle.hickory_base.specs.declared.requests.message_request.MessageRequest.{MessageRequest}
use Rattle.hickory_base.specs.declared.zone_store.handler.ZoneHandler.{Ghosts}
use Rattle.hickory_base.specs.zone_store.Lookups.{SignerContext}
use Rattle.hickory_catalog.specs.queries.Queries.{ChainReplies, QueryReplies}
use Rattle.hickory_catalog.specs.replies.Replies.{Contents, error_reply}
use Rattle.hickory_catalog.specs.replies.ReplyEdns.{reply_edns, with_high_code}
use Rattle.hickory_catalog.specs.requests.Requests.{RequestAnswered}
use Rattle.hickory_catalog.specs.requests.Server.{server_of}
use Rattle.hickory_catalog.specs.replies.Signing.{SignedReply, Signer}
use Rattle.hickory_catalog.specs.updates.Updates.{UpdateReply}
use Rattle.hickory_catalog.specs.transfers.WholeTransfers.{TransferReplies}
use Rattle.hickory_catalog.specs.zones.Zones.{ZoneChains}
use Rattle.hickory_catalog.specs.declared.catalog.Catalog.{Catalog}

-- A header for a reply to this request: its id and opcode, a code of twelve bits (RFC 6891 section 6.1.3), and no TC.
pub record IsReplyHeader (request reply : Metadata) : Type 0 where
  pub id : reply.id ≡ request.id
  pub op_code : reply.op_code ≡ request.op_code
  pub response_code : reply.response_code < 2 ^ 12
  pub untruncated : reply.truncation ≡ false

-- A reply to this request, where there is this EDNS for it: its header is one for a reply, it repeats the questions,
-- and its OPT record has the high bits of its code. All its authorities stand in one list.
pub record RepliesTo (request : MessageRequest) (edns : Option EdnsFields) (reply : Reply) : Type 0 where
  pub header : IsReplyHeader request.metadata reply.metadata
  pub question : reply.question ≡ request.queries.bytes
  pub question_count : reply.question_count ≡ length request.queries.queries
  pub edns_is : reply.edns ≡ with_high_code reply.metadata.response_code edns
  pub one_list : reply.soa ≡ []

-- Each reply to a query is one to the request, and has no TC of its own.
abbrev pub QueryRepliesFit : {S H : Type 0} → Ghosts H → (S → Signer) → Type 0
QueryRepliesFit {S} {H} handler signature_for = (catalog : Catalog S H) (request : ReceivedRequest) (edns : Option EdnsFields) (now : ℕ) (replies : List Reply)
    → QueryReplies (server_of handler signature_for catalog) request edns now replies → AllByRecursion (RepliesTo request.message edns) replies

-- So is each reply to a query that a given chain answers,
abbrev pub ChainRepliesFit : {S H : Type 0} → Ghosts H → (S → Signer) → Type 0
ChainRepliesFit {S} {H} handler signature_for = (catalog : Catalog S H) (chain : List H) (request : ReceivedRequest) (edns : Option EdnsFields) (now : ℕ) (replies : List Reply)
    → ChainReplies (server_of handler signature_for catalog) chain request edns now replies → AllByRecursion (RepliesTo request.message edns) replies

-- each reply to an update, which is a request of opcode Update (RFC 2136 section 1.3),
abbrev pub UpdateRepliesFit : {S H : Type 0} → Ghosts H → (S → Signer) → Type 0
UpdateRepliesFit {S} {H} handler signature_for = (catalog : Catalog S H) (request : ReceivedRequest) (edns : Option EdnsFields) (now : ℕ) (reply : Reply) (zones : ZoneChains H)
    → request.message.metadata.op_code ≡ opcode_update
    → UpdateReply (server_of handler signature_for catalog) request edns now reply zones → RepliesTo request.message edns reply

-- so is each reply to a request, whatever it comes to,
abbrev pub RequestRepliesFit : {S H : Type 0} → Ghosts H → (S → Signer) → Type 0
RequestRepliesFit {S} {H} handler signature_for = (catalog : Catalog S H) (request : ReceivedRequest) (now : ℕ) (replies : List Reply) (zones : ZoneChains H)
    → RequestAnswered (server_of handler signature_for catalog) request now replies zones
    → AllByRecursion (RepliesTo request.message (reply_edns catalog.nsid request.message.edns)) replies

-- each reply to a query that is answered by what is given as a transfer,
abbrev pub TransferRepliesFit : {S H : Type 0} → Ghosts H → (S → Signer) → Type 0
TransferRepliesFit {S} {H} handler signature_for = (catalog : Catalog S H) (request : ReceivedRequest) (edns : Option EdnsFields) (now : ℕ) (replies : List Reply)
    → TransferReplies (server_of handler signature_for catalog) request edns now replies → AllByRecursion (RepliesTo request.message edns) replies

-- each error reply,
abbrev pub ErrorRepliesFit : Type 0
ErrorRepliesFit = (request : MessageRequest) (edns : Option EdnsFields) (code : ℕ) → code < 2 ^ 12 → RepliesTo request edns (error_reply request edns code)

-- and whatever is signed that has such a header.
abbrev pub SignedRepliesFit : Type 0
SignedRepliesFit = (signer : Signer) (request : MessageRequest) (edns : Option EdnsFields) (contents : Contents) (context : SignerContext) (reply : Reply)
    → SignedReply signer request edns contents context reply → IsReplyHeader request.metadata contents.metadata → RepliesTo request edns reply

-- The EDNS that is made for a reply fits an OPT record, and a reply with it may have 512 bytes or more over any
-- transport (RFC 6891 section 6.2.3).
abbrev pub ReplyEdnsFits : Type 0
ReplyEdnsFits = (identifier : Option (List ℕ)) (asked : Option EdnsFields)
    → IfSome (reply_edns identifier asked) IsEdnsInRange
    × ((protocol : Protocol) (code : ℕ) → 512 ≤ size_limit protocol (with_high_code code (reply_edns identifier asked)))

-- Each record of the reply, OPT and TSIG among them, reads back as itself but for its proof, and no OPT, TSIG or SIG
-- stands among the others.
pub record HasReadableRecords (reply : Reply) : Type 0 where
  pub records : AllByRecursion (AllByRecursion (λ r. ReadsBack (without_proof r))) (reply_lists reply)
  pub plain_answers : AllByRecursion IsPlainRecord reply.answers
  pub plain_authorities : AllByRecursion IsPlainRecord reply.authorities
  pub plain_additionals : AllByRecursion IsPlainRecord reply.additionals

-- The bytes are the reply, of whose lists so much was written; the header is the one that tells this; and in the bytes
-- stands the message of that header, the questions and what was written (RFC 1035 section 4.1), which is also what is
-- read of them.
pub record ReplyDecodes (limit : ℕ) (reply : Reply) (queries : List Query) (bytes : List ℕ) (header : Header) : Type 0 where
  pub fronts : Fronts
  pub written : Written limit reply bytes fronts
  pub header_is : header ≡ written_header reply fronts
  pub stands : MessageAt bytes (decoded_message reply queries fronts)
  pub reads : Reads bytes (decoded_message reply queries fronts)

-- A reply to a request is encoded as what is written of it, and never as the ServFail of twelve bytes, and that is what
-- stands in the bytes and is read of them: where the limit has room for header and questions, the questions are such as
-- can be repeated, and the records read back.
abbrev pub CatalogReplyDecodes : Type 0
CatalogReplyDecodes = (request : ReceivedRequest) (edns : Option EdnsFields) (reply : Reply) (limit : ℕ) (bytes : List ℕ) (header : Header)
    → RepliesTo request.message edns reply → HasRepeatableQuestions request → HasReadableRecords reply
    → 12 + length request.message.queries.bytes ≤ limit
    → ReplyEncoded limit reply bytes header → ReplyDecodes limit reply request.message.queries.queries bytes header
