-- How a whole message stands in bytes (RFC 1035 section 4.1).
use Rattle.std.specs.Prelude.{◌≡◌, ℕ, List, length}
use Rattle.std.specs.List.{AllByRecursion}
use Rattle.wire_messages.specs.serialize.layout.HeaderLayout.{HeaderAt}
use Rattle.wire_messages.specs.serialize.layout.MessageLayout.{ItemsAt, QuestionRead, IsPlainRecord, AdditionalSection, high_code, with_high_code}
use Rattle.wire_messages.specs.serialize.layout.RecordLayout.{RecordAt}
use Rattle.wire_messages.specs.declared.op.header.Header.{Header}
use Rattle.wire_reading.specs.declared.op.message.Message.{Message}
use Rattle.wire_messages.specs.declared.rr.rdata.RData.{RData}
use Rattle.wire_messages.specs.declared.rr.record.Record.{Record}

-- The bytes begin with this message.
pub record MessageAt (bytes : List ℕ) (m : Message) : Type 0 where
  pub header : Header
  pub all : List (Record RData)
  pub answers_at : ℕ
  pub authorities_at : ℕ
  pub additionals_at : ℕ
  pub stop : ℕ
  pub header_stands : HeaderAt bytes header
  pub queries : ItemsAt (QuestionRead bytes) 12 m.queries answers_at
  pub answers : ItemsAt (RecordAt bytes) answers_at m.answers authorities_at
  pub authorities : ItemsAt (RecordAt bytes) authorities_at m.authorities additionals_at
  pub additionals : ItemsAt (RecordAt bytes) additionals_at all stop
  pub query_count : length m.queries ≡ header.counts.queries
  pub answer_count : length m.answers ≡ header.counts.answers
  pub authority_count : length m.authorities ≡ header.counts.authorities
  pub additional_count : length all ≡ header.counts.additionals
  pub answers_plain : AllByRecursion IsPlainRecord m.answers
  pub authorities_plain : AllByRecursion IsPlainRecord m.authorities
  pub section : AdditionalSection all m.additionals m.edns m.signature
  pub metadata : m.metadata ≡ with_high_code header.metadata (high_code m.edns)
