-- Requests as they are read (RFC 1035 section 4.1).
use Rattle.std.specs.Prelude.{◌≡◌, ◌≢◌, ℕ, List, [], None, Ok, false, slice_range}
use Rattle.wire_messages.specs.Numbers.{opcode_query}
use Rattle.wire_messages.specs.serialize.reading.Cursor.{Cursor}
use Rattle.wire_messages.specs.serialize.layout.MessageLayout.{ItemsAt, QuestionRead, high_code, with_high_code}
use Rattle.wire_messages.specs.op.Metadata.{bare_metadata}
use Rattle.wire_reading.specs.serialize.reading.MessageFaults.{MessageFault}
use Rattle.wire_reading.specs.serialize.reading.MessageReading.{Fault}
use Rattle.wire_messages.specs.serialize.reading.Reading.{Read, ◌>>=◌}
use Rattle.wire_messages.specs.serialize.reading.RecordReading.{question}
use Rattle.wire_messages.specs.serialize.reading.SectionReading.{header, items, section_record, additionals_after, no_additionals}
use Rattle.wire_names.specs.declared.error.DecodeError.{DecodeError}
use Rattle.wire_names.specs.declared.error.DecodeError.TheVariants.{Memory}
use Rattle.wire_names.specs.declared.error.ProtoError.{ProtoError}
use Rattle.wire_names.specs.declared.error.ProtoError.TheVariants.{Decode}
use Rattle.wire_messages.specs.declared.op.header.Header.{Header}
use Rattle.wire_messages.specs.declared.op.header.HeaderCounts.{HeaderCounts}
use Rattle.wire_messages.specs.declared.op.header.MessageType.TheVariants as message_type
use Rattle.wire_reading.specs.declared.op.message.Message.{Message}
use Rattle.hickory_base.specs.requests.Questions.{QuestionSection}
use Rattle.hickory_base.specs.requests.Requests.{ReceivedRequest}
use Rattle.hickory_base.specs.declared.requests.message_request.MessageRequest.{MessageRequest}

-- a message without a record in its additional section, as none is read yet
abbrev pub HasNoAdditional : MessageRequest → Type 0
HasNoAdditional m = (m.additionals ≡ []) × (m.signature ≡ None) × (m.edns ≡ None)

-- a message without a record
abbrev pub HasNoRecord : MessageRequest → Type 0
HasNoRecord m = (m.answers ≡ []) × (m.authorities ≡ []) × HasNoAdditional m

-- Nothing is left of the message of a request: it has no bytes, no question and no record, and the header of a query
-- with id 0; and it was not read.
pub record IsCleared (request : ReceivedRequest) : Type 0 where
  pub bytes : request.bytes ≡ []
  pub metadata : request.message.metadata ≡ bare_metadata 0 message_type.Query opcode_query
  pub queries : request.message.queries ≡ record { queries = []; bytes = [] }
  pub records : HasNoRecord request.message
  pub unread : request.was_read ≡ false

-- so many questions, and the bytes from the first of them to the place behind the last
unfoldable pub question_section : ℕ → Cursor → Read QuestionSection
question_section count c = items question count [] c >>= λ queries. Ok (record { queries = queries.0; bytes = slice_range c.bytes c.place queries.1.place }, queries.1)

-- so many records of the additional section, and what its OPT record says, put into a message that has none
unfoldable pub additionals_of : MessageRequest → ℕ → Cursor → Read MessageRequest
additionals_of m count c = additionals_after count no_additionals c >>= λ extras. Ok (
  record m {
    metadata = with_high_code m.metadata (high_code extras.0.edns);
    additionals = extras.0.records;
    signature = extras.0.signature;
    edns = extras.0.edns;
  },
  extras.1,
)

-- the records behind the questions, put into a message that has none
unfoldable pub sections : MessageRequest → HeaderCounts → Cursor → Read MessageRequest
sections m counts c = items section_record counts.answers [] c >>= λ answers. items section_record counts.authorities [] answers.1 >>= λ authorities.
    additionals_of (record m { answers = answers.0; authorities = authorities.0 }) counts.additionals authorities.1

-- the message of a request
abbrev pub message_of : MessageRequest → Message
message_of m = record {
  metadata = m.metadata;
  queries = m.queries.queries;
  answers = m.answers;
  authorities = m.authorities;
  additionals = m.additionals;
  edns = m.edns;
  signature = m.signature;
}

-- The question section is what is read behind the header that is read here.
pub record FollowsHeader (start : Cursor) (section : QuestionSection) : Type 0 where
  pub read : Header × Cursor
  pub next : Cursor
  pub header_is_read : header start ≡ Ok read
  pub is_read : question_section read.0.counts.queries read.1 ≡ Ok (section, next)

-- The questions stand one behind the other behind the header of the message, and the bytes are those from there to the
-- place behind the last.
pub record IsQuestionSection (bytes : List ℕ) (section : QuestionSection) : Type 0 where
  pub stop : ℕ
  pub stand : ItemsAt (QuestionRead bytes) 12 section.queries stop
  pub bytes_are : section.bytes ≡ slice_range bytes 12 stop

-- The error is the first fault of bytes that begin with no message, as it stands there and as reading meets it, and no
-- want of memory.
pub record IsFaultOf (bytes : List ℕ) (e : ProtoError) : Type 0 where
  pub fault : DecodeError
  pub stands : MessageFault bytes fault
  pub first : Fault bytes fault
  pub no_want : fault ≢ Memory
  pub is : e ≡ Decode fault
