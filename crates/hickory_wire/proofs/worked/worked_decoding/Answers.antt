-- Every premise under which the reply reads back.
use Rattle.std.proofs.Common.{codes, refl, arith}
use Rattle.wire_reading.specs.serialize.reading.MessageReading.{message}
use Rattle.wire_messages.specs.serialize.reading.NameReading.{name, labels_from, labels_within}
use Rattle.wire_messages.specs.serialize.reading.RecordReading.{question, resource, record_data, form}
use Rattle.wire_messages.specs.serialize.reading.SectionReading.{header, items, section_record, additionals_after}
use Rattle.hickory_wire.specs.worked.Worked.{at}
use Rattle.hickory_wire.specs.worked.WorkedReplies.{www_reply_in_full}
use Rattle.hickory_wire.proofs.lemmas.worked.Literals.{stands, end_at, label_at}
use Rattle.hickory_wire.proofs.worked.worked_decoding.Goals as goal

pub returns-clause-www_decodable : goal.returns-clause-www_decodable
returns-clause-www_decodable c = record {
  asked = (
    33,
    record {
      middle = 29;
      name = record { labels = label_at 12 (codes "www") refl refl refl refl (label_at 16 (codes "example") refl refl refl refl (label_at 24 (codes "com") refl refl refl refl (end_at 28 refl refl refl))); short = omega arith };
      fields = stands _ _ _ refl refl;
      after = refl;
    },
    refl,
  );
  questions = (record { name = refl; query_type = omega arith; query_class = omega arith }, tt);
  question_count = refl;
  answers = (record { name = refl; rdata = tt; section = refl }, tt);
  authorities = tt;
  soa = tt;
  additionals = tt;
  signature = tt;
}

pub returns-clause-bad_version_decodable : goal.returns-clause-bad_version_decodable
returns-clause-bad_version_decodable c = record {
  asked = refl;
  questions = tt;
  question_count = refl;
  answers = tt;
  authorities = tt;
  soa = tt;
  additionals = tt;
  signature = tt;
}

pub returns-clause-reads : goal.returns-clause-reads
unfolding message header items question section_record additionals_after resource record_data form name labels_from labels_within
returns-clause-reads c = record { stop = at www_reply_in_full 64; reads = refl }
