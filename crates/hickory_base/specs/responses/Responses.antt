-- Replies as iterators give their records, and what is told of a reply.
use Rattle.std.specs.Prelude.{◌≡◌, ℕ, List, [], length, map, Option, None}
use Rattle.std.specs.Iterator.{Drains}
use Rattle.std.specs.Iterator.Adapters.{once_item}
use Rattle.std.specs.Option.{option_copied}
use Rattle.std.specs.declared.iter.Once.{Once}
use Rattle.wire_messages.specs.op.EdnsFields.{EdnsFields}
use Rattle.wire_messages.specs.op.Metadata.{response_to}
use Rattle.wire_messages.specs.serialize.writing.Reply.{Reply}
use Rattle.wire_messages.specs.declared.op.header.Header.{Header}
use Rattle.wire_messages.specs.declared.op.header.Metadata.{Metadata}
use Rattle.wire_messages.specs.declared.rr.rdata.RData.{RData}
use Rattle.wire_messages.specs.declared.rr.record.Record.{Record}
use Rattle.hickory_base.specs.requests.Questions.{QuestionSection}
use Rattle.hickory_base.specs.declared.responses.message_response.MessageResponse.{MessageResponse}
use Rattle.hickory_base.specs.declared.responses.message_response.MessageResponseBuilder.{MessageResponseBuilder}
use Rattle.hickory_base.specs.declared.responses.message_response.ResponseInfo.{ResponseInfo}

-- the header that the information tells
abbrev pub header_of : ResponseInfo → Header
header_of info = info.header

-- The iterator gives these records, one after another, and ends; each item of it is a record by record_of.
abbrev pub GivesBy : {I X : Type 0} → (I → Option X → I → Type 0) → (X → Record RData) → I → List (Record RData) → Type 0
GivesBy next_gives record_of it records = (items : List _) × Drains next_gives it items × (map record_of items ≡ records)

-- The reply is that of the response: its parts, the questions of its request with their number, and the records that
-- its iterators give.
pub record IsReplyOf {A N S D : Type 0} (answers_give : A → List (Record RData) → Type 0) (authorities_give : N → List (Record RData) → Type 0) (soa_gives : S → List (Record RData) → Type 0) (additionals_give : D → List (Record RData) → Type 0)
    (response : MessageResponse A N S D) (reply : Reply) : Type 0 where
  pub metadata : reply.metadata ≡ response.metadata
  pub question : reply.question ≡ response.queries.now.bytes
  pub question_count : reply.question_count ≡ length response.queries.now.queries
  pub edns : reply.edns ≡ option_copied response.edns
  pub answers : answers_give response.answers reply.answers
  pub authorities : authorities_give response.authorities reply.authorities
  pub soa : soa_gives response.soa reply.soa
  pub additionals : additionals_give response.additionals reply.additionals
  pub signature : reply.signature ≡ response.signature

-- the metadata of an error reply: that of a reply to the request, with this code
abbrev pub error_metadata : Metadata → ℕ → Metadata
error_metadata request code = record (response_to request) { response_code = code }

-- what each reply of a builder has: the questions of the request, and EDNS
pub record ReplyBase : Type 0 where
  pub questions : QuestionSection
  pub edns : Option EdnsFields

-- what the builder's replies have
abbrev pub base_of : MessageResponseBuilder → ReplyBase
base_of builder = record { questions = builder.queries.now; edns = option_copied builder.edns }

-- The response has what the builder's replies have, this metadata, and no signature.
pub record IsBuilt {A N S D : Type 0} (base : ReplyBase) (metadata : Metadata) (response : MessageResponse A N S D) : Type 0 where
  pub metadata_is : response.metadata ≡ metadata
  pub queries : response.queries.now ≡ base.questions
  pub edns : option_copied response.edns ≡ base.edns
  pub signature : response.signature ≡ None

-- The response gives no record.
pub record HasNoRecords {X : Type 0} (response : MessageResponse (Once X) (Once X) (Once X) (Once X)) : Type 0 where
  pub answers : once_item response.answers ≡ None
  pub authorities : once_item response.authorities ≡ None
  pub soa : once_item response.soa ≡ None
  pub additionals : once_item response.additionals ≡ None

-- The reply of these records that repeats these questions, with this EDNS and this metadata, and without a signature.
abbrev pub lent_reply : QuestionSection → Option EdnsFields → Metadata → List (Record RData) → List (Record RData) → List (Record RData) → Reply
lent_reply questions edns metadata answers authorities additionals = record {
  metadata = metadata;
  question = questions.bytes;
  question_count = length questions.queries;
  edns = edns;
  answers = answers;
  authorities = authorities;
  soa = [];
  additionals = additionals;
  signature = None;
}
