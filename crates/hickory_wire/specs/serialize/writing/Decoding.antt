-- What reading gives of a reply that was written.
use Rattle.std.specs.Prelude.{◌≡◌, ℕ, zero, suc, ◌%◌, List, ◌++◌, length, take, map, ◌||◌, Option, None, option_map, IfSome}
use Rattle.std.specs.List.{AllByRecursion}
use Rattle.wire_messages.specs.serialize.layout.MessageLayout.{ItemsAt, IsPlainRecord, high_code, with_high_code}
use Rattle.wire_messages.specs.serialize.layout.QuestionLayout.{QuestionAt, IsFormedQuestion}
use Rattle.wire_messages.specs.serialize.layout.FieldRanges.{IsReadAsItsType}
use Rattle.wire_messages.specs.serialize.layout.NameLayout.{IsFullyQualified}
use Rattle.wire_messages.specs.serialize.writing.Reply.{Reply}
use Rattle.wire_writing.specs.serialize.writing.Writing.{Fronts, header_and_questions, is_any_cut}
use Rattle.wire_reading.specs.declared.op.message.Message.{Message}
use Rattle.wire_messages.specs.declared.op.query.Query.{Query}
use Rattle.wire_messages.specs.declared.rr.rdata.RData.{RData}
use Rattle.wire_messages.specs.declared.rr.record.Proof.TheVariants.{Indeterminate}
use Rattle.wire_messages.specs.declared.rr.record.Record.{Record}
use Rattle.wire_messages.specs.declared.rr.tsig.TSIG.{TSIG}

-- the record as it is read: nothing is known of its proof
abbrev pub without_proof : {R : Type 0} → Record R → Record R
without_proof r = record r { proof = Indeterminate }

-- A record of a section that reads back as itself where it is written, but for its proof. That its numbers are such as
-- its fields hold is seen to where it is written.
pub record IsReadable (r : Record RData) : Type 0 where
  pub name : IsFullyQualified r.name
  pub rdata : IsReadAsItsType r.rdata
  pub section : IsPlainRecord r

-- a TSIG that is read as it is written
pub record IsReadableSignature (r : Record TSIG) : Type 0 where
  pub name : IsFullyQualified r.name
  pub algorithm : IsFullyQualified r.rdata.algorithm

-- What is written of the reply reads back: its questions stand behind the header in just the bytes that are repeated,
-- and none of their names leads into the header; each record, where it is written, reads back as itself; no OPT, TSIG
-- or SIG stands in a section. That the numbers of the header and of EDNS are such as their fields hold is seen to where
-- they are written, too.
pub record IsDecodable (reply : Reply) (queries : List Query) : Type 0 where
  pub asked : ItemsAt (QuestionAt 12 (header_and_questions reply)) 12 queries (length (header_and_questions reply))
  pub questions : AllByRecursion IsFormedQuestion queries
  pub question_count : reply.question_count ≡ length queries
  pub answers : AllByRecursion IsReadable reply.answers
  pub authorities : AllByRecursion IsReadable reply.authorities
  pub soa : AllByRecursion IsReadable reply.soa
  pub additionals : AllByRecursion IsReadable reply.additionals
  pub signature : IfSome reply.signature IsReadableSignature

-- what an option holds, where so much of its list was written
abbrev pub front_of_option : {A : Type 0} → ℕ → Option A → Option A
front_of_option zero content = None
front_of_option (suc n) content = content

-- the message of header, questions and what was written
abbrev pub decoded_message : Reply → List Query → Fronts → Message
decoded_message reply queries f = record {
  metadata = with_high_code
      (record reply.metadata { truncation = reply.metadata.truncation || is_any_cut f; response_code = reply.metadata.response_code % 16 })
      (high_code (front_of_option f.opt.count reply.edns));
  queries = queries;
  answers = map without_proof (take f.answers.count reply.answers);
  authorities = map without_proof (take f.authorities.count (reply.authorities ++ reply.soa));
  additionals = map without_proof (take f.additionals.count reply.additionals);
  edns = front_of_option f.opt.count reply.edns;
  signature = option_map without_proof (front_of_option f.signature.count reply.signature);
}
