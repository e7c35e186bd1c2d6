-- Whole messages as they are read, with the first fault that is met (RFC 1035 section 4.1).
use Rattle.std.specs.Prelude.{◌≡◌, ℕ, List, [], Ok, Err}
use Rattle.wire_messages.specs.serialize.reading.Cursor.{Cursor}
use Rattle.wire_messages.specs.serialize.layout.MessageLayout.{high_code, with_high_code}
use Rattle.wire_messages.specs.serialize.reading.Reading.{Read, ◌>>=◌}
use Rattle.wire_messages.specs.serialize.reading.RecordReading.{question}
use Rattle.wire_messages.specs.serialize.reading.SectionReading.{header, items, section_record, additionals_after, no_additionals}
use Rattle.wire_names.specs.declared.error.DecodeError.{DecodeError}
use Rattle.wire_reading.specs.declared.op.message.Message.{Message}

unfoldable pub message : Cursor → Read Message
message c = do
  h ← header c
  queries ← items question h.0.counts.queries [] h.1
  answers ← items section_record h.0.counts.answers [] queries.1
  authorities ← items section_record h.0.counts.authorities [] answers.1
  extras ← additionals_after h.0.counts.additionals no_additionals authorities.1
  Ok (
    record {
      metadata = with_high_code h.0.metadata (high_code extras.0.edns);
      queries = queries.0;
      answers = answers.0;
      authorities = authorities.0;
      additionals = extras.0.records;
      edns = extras.0.edns;
      signature = extras.0.signature;
    },
    extras.1,
  )

abbrev pub front_of : List ℕ → Cursor
front_of bytes = record { bytes = bytes; place = 0 }

-- The bytes begin with this message. Bytes behind it are free.
pub record Reads (bytes : List ℕ) (m : Message) : Type 0 where
  pub stop : Cursor
  pub reads : message (front_of bytes) ≡ Ok (m, stop)

-- The bytes begin with no message, and this is the first fault in reading order.
abbrev pub Fault : List ℕ → DecodeError → Type 0
Fault bytes e = message (front_of bytes) ≡ Err e
