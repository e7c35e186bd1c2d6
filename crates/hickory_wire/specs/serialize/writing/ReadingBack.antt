-- Records and replies that read back as themselves.
use Rattle.std.specs.Prelude.{List, length}
use Rattle.std.specs.List.{AllByRecursion}
use Rattle.hickory_wire.specs.serialize.writing.Decoding.{IsDecodable, without_proof}
use Rattle.wire_messages.specs.serialize.writing.FullForm.{record_octets}
use Rattle.wire_messages.specs.serialize.layout.RecordLayout.{RecordAt}
use Rattle.wire_messages.specs.serialize.writing.Reply.{Reply, reply_lists}
use Rattle.wire_messages.specs.declared.op.query.Query.{Query}
use Rattle.wire_messages.specs.declared.rr.rdata.RData.{RData}
use Rattle.wire_messages.specs.declared.rr.record.Record.{Record}

-- A record that reads back as itself: of its octets in full, standing alone, just this record is read (RFC 1035 section
-- 4.1.3).
abbrev pub ReadsBack : Record RData → Type 0
ReadsBack r = RecordAt (record_octets r) 0 r (length (record_octets r))

-- A reply that reads back: so does what is written of it, and each record of its five lists, OPT and TSIG among them,
-- reads back as itself, but for its proof.
pub record ReplyReadsBack (reply : Reply) (queries : List Query) : Type 0 where
  pub decodable : IsDecodable reply queries
  pub records : AllByRecursion (AllByRecursion (λ r. ReadsBack (without_proof r))) (reply_lists reply)
