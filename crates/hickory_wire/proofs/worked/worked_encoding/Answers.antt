-- Replies that are encoded: the one that fits, those that are too large, and one with no form.
use Rattle.std.proofs.Common.{◌++◌, [], refl, arith}
use Rattle.hickory_wire.specs.worked.Worked.{a_record}
use Rattle.hickory_wire.specs.worked.WorkedReplies.{all_of, fronts_with, formless_reply, too_long_string}
use Rattle.wire_writing.specs.serialize.writing.Writing.{header_and_questions}
use Rattle.wire_writing.specs.serialize.writing.Writing.Encoded.{written, too_large, formless}
use Rattle.wire_writing.specs.serialize.writing.Writing.ListsWritten.{stuck_list}
use Rattle.wire_names.specs.declared.error.ProtoError.TheVariants.{CharacterDataTooLong}
use Rattle.hickory_wire.proofs.lemmas.worked.LiteralReplies.{www_written, one_owner, put_address}
use Rattle.hickory_wire.proofs.worked.worked_encoding.Goals as goal

pub returns-clause-www : goal.returns-clause-www
returns-clause-www c = written www_written

pub returns-clause-question_too_large : goal.returns-clause-question_too_large
returns-clause-question_too_large c = too_large (omega arith) refl

pub returns-clause-header_too_large : goal.returns-clause-header_too_large
returns-clause-header_too_large c = too_large (omega arith) refl

pub returns-clause-formless : goal.returns-clause-formless
returns-clause-formless c = formless {e = CharacterDataTooLong} (record {
  body = header_and_questions formless_reply ++ a_record;
  put = fronts_with (all_of 1) (all_of 0) (all_of 0);
  fits = omega arith;
  lists = stuck_list {front = all_of 1} (record {
    counted = omega arith;
    puts = (header_and_questions formless_reply ++ a_record, put_address 512 (header_and_questions formless_reply) (omega arith) (omega arith), refl);
    ends = record { next = too_long_string; rest = []; is = refl; formless = refl };
  }) refl refl;
  owners = record { sections = header_and_questions formless_reply ++ a_record; repeating = one_owner (put_address 512 (header_and_questions formless_reply) (omega arith) (omega arith)); last = refl };
}) refl
