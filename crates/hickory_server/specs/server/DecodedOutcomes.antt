-- What the bytes of the replies to a message are read as (RFC 1035 section 4.1).
use Rattle.std.specs.Prelude.{◌≡◌, ◌+◌, ◌≤◌, ℕ, List, [], ◌∷◌, length}
use Rattle.std.specs.List.{AllByRecursion, AllZip}
use Rattle.wire_names.specs.rr.domain.DomainName.{DomainName}
use Rattle.wire_messages.specs.serialize.writing.Reply.{Reply, size_limit}
use Rattle.wire_messages.specs.declared.op.header.Header.{Header}
use Rattle.wire_messages.specs.declared.op.query.Query.{Query}
use Rattle.wire_messages.specs.declared.protocol.Protocol.{Protocol}
use Rattle.server_limits.specs.Access.{AccessSets}
use Rattle.hickory_base.specs.requests.Questions.{QuestionSection}
use Rattle.hickory_base.specs.requests.RepeatableQuestions.{AreRepeatable, HasRepeatableQuestions}
use Rattle.hickory_base.specs.requests.Requests.{ReceivedRequest}
use Rattle.hickory_base.specs.responses.EncodingSinks.{IsEncodingOf}
use Rattle.hickory_base.specs.declared.zone_store.handler.ZoneHandler.{Ghosts}
use Rattle.hickory_catalog.specs.replies.DecodedReplies.{HasReadableRecords, ReplyDecodes}
use Rattle.hickory_catalog.specs.requests.Requests.{RequestAnswered}
use Rattle.hickory_catalog.specs.requests.Server.{Server, server_of}
use Rattle.hickory_catalog.specs.replies.Signing.{Signer}
use Rattle.hickory_catalog.specs.declared.catalog.Catalog.{Catalog}
use Rattle.hickory_server.specs.server.Serving.{IsRequestOf, StepOver}
use Rattle.hickory_server.specs.declared.server.serve.Incoming.{Incoming}
use Rattle.hickory_server.specs.declared.server.serve.Outcome.{Outcome}
use Rattle.hickory_server.specs.declared.server.serve.Outcome.TheVariants.{Replies}

-- Where each record of the reply reads back, and the transport's limit has room for the header and these questions, the
-- bytes are read as the header that tells what was left out, the questions, and what was written of its lists.
abbrev pub IsReadBack : Protocol → QuestionSection → Reply → List ℕ → Type 0
IsReadBack protocol section reply bytes = HasReadableRecords reply → 12 + length section.bytes ≤ size_limit protocol reply.edns
    → (header : Header) × ReplyDecodes (size_limit protocol reply.edns) reply section.queries bytes header

-- Whatever a request comes to, each of its replies reads back from its bytes, where its questions can be repeated.
abbrev pub AnswersReadBack : {S H : Type 0} → Ghosts H → (S → Signer) → Type 0
AnswersReadBack {S} {H} handler signature_for = (catalog : Catalog S H) (request : ReceivedRequest) (now : ℕ) (replies : List Reply) (zones : List (DomainName × List H)) (protocol : Protocol) (encoded : List (List ℕ))
    → RequestAnswered (server_of handler signature_for catalog) request now replies zones
    → HasRepeatableQuestions request → AllZip (IsEncodingOf protocol) replies encoded
    → AllZip (IsReadBack protocol request.message.queries) replies encoded

-- There is room for the header and the question in each reply to a request of one question, over any transport.
abbrev pub OneQuestionHasRoom : {S H : Type 0} → Ghosts H → (S → Signer) → Type 0
OneQuestionHasRoom {S} {H} handler signature_for = (catalog : Catalog S H) (request : ReceivedRequest) (now : ℕ) (replies : List Reply) (zones : List (DomainName × List H)) (protocol : Protocol) (query : Query)
    → RequestAnswered (server_of handler signature_for catalog) request now replies zones
    → HasRepeatableQuestions request → request.message.queries.queries ≡ query ∷ []
    → AllByRecursion (λ (reply : Reply). 12 + length request.message.queries.bytes ≤ size_limit protocol reply.edns) replies

-- The replies to a message are those that its request comes to, and each reads back from its bytes, where no name of
-- its questions leads into its header or runs on behind the last of them.
pub record OutcomeReadsBack {H : Type 0} (over : Protocol) (server : Server H) (message : Incoming) (encoded : List (List ℕ)) (zones : List (DomainName × List H)) : Type 0 where
  pub request : ReceivedRequest
  pub is_request : IsRequestOf message request
  pub replies : List Reply
  pub answered : RequestAnswered server request message.now replies zones
  pub read_back : AreRepeatable message.bytes.items request.message.queries.queries → AllZip (IsReadBack over request.message.queries) replies encoded

-- So it is of whatever becomes of a message that has replies, at the limit of any transport.
abbrev pub StepsReadBack : {S H : Type 0} → Ghosts H → (S → Signer) → Type 0
StepsReadBack {S} {H} handler signature_for = (over : Protocol) (access : AccessSets) (catalog : Catalog S H) (message : Incoming) (outcome : Outcome) (zones : List (DomainName × List H)) (encoded : List (List ℕ))
    → StepOver over access (server_of handler signature_for catalog) message outcome zones → outcome ≡ Replies encoded
    → OutcomeReadsBack over (server_of handler signature_for catalog) message encoded zones
