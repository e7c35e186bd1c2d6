-- A reply whose records iterators give.
use Rattle.std.specs.Prelude.{◌≡◌, ℕ, ◌+◌, ◌<◌, ◌||◌, List, length, Option}
use Rattle.std.specs.Borrow.{Bor}
use Rattle.std.specs.Option.{option_copied}
use Rattle.hickory_wire.specs.serialize.writing.Decoding.{IsDecodable, decoded_message}
use Rattle.wire_writing.specs.representation.Endings.{GivesRecords}
use Rattle.wire_reading.specs.serialize.layout.WholeMessage.{MessageAt}
use Rattle.wire_reading.specs.serialize.reading.MessageReading.{Reads}
use Rattle.wire_messages.specs.serialize.writing.Reply.{Reply, reply_lists}
use Rattle.wire_writing.specs.serialize.writing.Writing.{ListsWritten, OwnersRepeat, Fronts, fronts_list, is_any_cut, Written, GetsStuck, Encoded, written_header}
use Rattle.wire_names.specs.declared.error.ProtoError.{ProtoError}
use Rattle.wire_names.specs.declared.error.ProtoError.TheVariants.{MaxSizeExceeded}
use Rattle.wire_messages.specs.declared.op.header.Header.{Header}
use Rattle.wire_messages.specs.declared.op.header.Metadata.{Metadata}
use Rattle.hickory_wire.specs.declared.serialize.writing.message_encoder.ReplyParts.{ReplyParts}
use Rattle.hickory_wire.specs.declared.serialize.writing.message_encoder.Sections.{Sections}
use Rattle.wire_messages.specs.declared.op.query.Query.{Query}
use Rattle.wire_messages.specs.declared.rr.rdata.RData.{RData}
use Rattle.wire_messages.specs.declared.rr.record.Record.{Record}

-- the records of the four lists
pub record RecordLists : Type 0 where
  pub answers : List (Record RData)
  pub authorities : List (Record RData)
  pub soa : List (Record RData)
  pub additionals : List (Record RData)

-- the reply of these parts and lists
abbrev pub reply_of : {A N S D : Type 0} → ReplyParts A N S D → RecordLists → Reply
reply_of parts lists = record {
  metadata = parts.metadata;
  question = parts.question.now;
  question_count = parts.question_count;
  edns = option_copied parts.edns;
  answers = lists.answers;
  authorities = lists.authorities;
  soa = lists.soa;
  additionals = lists.additionals;
  signature = option_copied parts.signature;
}

-- The iterators of the parts give these lists.
pub record GivesLists {A N S D : Type 0} (answers : A → Option (Bor (Record RData)) → A → Type 0) (authorities : N → Option (Bor (Record RData)) → N → Type 0) (soa : S → Option (Bor (Record RData)) → S → Type 0) (additionals : D → Option (Bor (Record RData)) → D → Type 0) (parts : ReplyParts A N S D) (lists : RecordLists) : Type 0 where
  pub answers_given : GivesRecords answers parts.answers lists.answers
  pub authorities_given : GivesRecords authorities parts.authorities lists.authorities
  pub soa_given : GivesRecords soa parts.soa lists.soa
  pub additionals_given : GivesRecords additionals parts.additionals lists.additionals

-- What is told of the sections sums up what was written of the five lists.
pub record SumsUp (s : Sections) (fronts : Fronts) : Type 0 where
  pub answers : s.answers ≡ fronts.answers.count
  pub authorities : s.authorities ≡ fronts.authorities.count
  pub additionals : s.additionals ≡ fronts.additionals.count + fronts.opt.count + fronts.signature.count
  pub is_cut : s.stops.is_cut ≡ is_any_cut fronts

-- the header of what is told of the sections
abbrev pub header_by : Metadata → ℕ → Sections → Header
header_by metadata question_count s = record {
  metadata = record metadata { truncation = metadata.truncation || s.stops.is_cut };
  counts = record { queries = question_count; answers = s.answers; authorities = s.authorities; additionals = s.additionals };
}

-- The lists of the reply are put behind old, and owner names that repeat are pointers. It is told what was written, and
-- the fault, if one was met.
pub record WritesLists (limit : ℕ) (old : List ℕ) (reply : Reply) (new : List ℕ) (s : Sections) : Type 0 where
  pub fronts : Fronts
  pub lists : ListsWritten limit (reply_lists reply) old new (fronts_list fronts) s.stops.fault
  pub owners : OwnersRepeat limit old reply fronts new
  pub sums : SumsUp s fronts

-- The bytes are the reply, this is their header, and what was written stands in them as a message and reads back.
pub record ReplyWritten (limit : ℕ) (reply : Reply) (bytes : List ℕ) (header : Header) : Type 0 where
  pub fronts : Fronts
  pub written : Written limit reply bytes fronts
  pub header_is : header ≡ written_header reply fronts
  pub stands : (queries : List Query) → IsDecodable reply queries → MessageAt bytes (decoded_message reply queries fronts)
  pub reads : (queries : List Query) → IsDecodable reply queries → Reads bytes (decoded_message reply queries fronts)

-- The bytes are the reply or what stands for it, this is their header, and what was written of a reply stands in them
-- as a message and reads back.
pub record ReplyEncoded (limit : ℕ) (reply : Reply) (bytes : List ℕ) (header : Header) : Type 0 where
  pub encoded : Encoded limit reply bytes header
  pub stands : (fronts : Fronts) (queries : List Query) → Written limit reply bytes fronts → IsDecodable reply queries → MessageAt bytes (decoded_message reply queries fronts)
  pub reads : (fronts : Fronts) (queries : List Query) → Written limit reply bytes fronts → IsDecodable reply queries → Reads bytes (decoded_message reply queries fronts)

-- Why a reply is not written: header and questions pass the limit, or a record without a form is met.
pub data CannotBeWritten (limit : ℕ) (reply : Reply) : ProtoError → Type 0 where
  too_large : limit < 12 + length reply.question → CannotBeWritten limit reply MaxSizeExceeded
  formless : {e : ProtoError} → GetsStuck limit reply e → CannotBeWritten limit reply e
