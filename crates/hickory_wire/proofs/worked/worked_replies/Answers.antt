-- Replies, one list of records after the other.
use Rattle.std.proofs.Common.{◌≡◌, ℕ, List, [], ◌∷◌, ◌++◌, length, drop, take, replicate, codes, None, refl, sym, ap, arith}
use Rattle.wire_messages.specs.serialize.layout.MessageLayout.{tsig_record}
use Rattle.wire_messages.specs.serialize.writing.Reply.{opt_record}
use Rattle.hickory_wire.specs.worked.Worked.{a_record, signature_record}
use Rattle.hickory_wire.specs.worked.WorkedReplies.{www_answer, www_answer_bytes, www_reply, www_reply_in_full, www_reply_compressed, dnssec_ok_fields, dnssec_ok_reply, dnssec_ok_bytes, bad_version_fields, bad_version_reply, bad_version_bytes, signed_reply, signed_bytes, long_reply, hundred_answers, thirty_answers}
use Rattle.wire_writing.specs.serialize.writing.Writing.{Puts, PutsRepeating, ListFront, ListWritten, ListsWritten, ending_of, header_and_questions}
use Rattle.wire_writing.specs.declared.serialize.writing.record_encoder.Ending.TheVariants.{Cut}
use Rattle.wire_writing.specs.serialize.writing.Writing.ListsWritten.{none_left, next_list}
use Rattle.wire_messages.specs.serialize.writing.RecordSize.{full_size}
use Rattle.wire_messages.specs.declared.rr.rdata.RData.{RData}
use Rattle.wire_messages.specs.declared.rr.record.Record.{Record}
use Rattle.hickory_wire.proofs.lemmas.worked.Literals.{stands, root_at, octets_at, end_at, label_at, pointer_at}
use Rattle.hickory_wire.proofs.lemmas.worked.LiteralReplies.{no_records, three_empty, four_empty, answered_once, put_answer, put_again, all_put, none_before, one_owner, put_address, body_of, www_written}
use Rattle.hickory_wire.proofs.worked.worked_replies.Goals as goal

pub returns-clause-in_full : goal.returns-clause-in_full
returns-clause-in_full c = www_written

pub returns-clause-just_enough : goal.returns-clause-just_enough
returns-clause-just_enough c = record {
  body = body_of www_reply_in_full;
  limited = omega arith;
  in_range = record { metadata = record { id = omega arith; op_code = omega arith; response_code = omega arith }; edns = tt };
  fits = omega arith;
  lists = next_list (record { counted = omega arith; puts = (body_of www_reply_in_full, put_answer 64 (header_and_questions www_reply) (omega arith) (omega arith), refl); ends = refl }) (four_empty 64 (body_of www_reply_in_full));
  owners = record { sections = body_of www_reply_in_full; repeating = one_owner (put_answer 64 (header_and_questions www_reply) (omega arith) (omega arith)); last = refl };
  is = refl;
}

-- the answer, its name a pointer to the question's
answer_compressed : Puts 512 (header_and_questions www_reply) www_answer (body_of www_reply_compressed)
answer_compressed = record {
  more = drop 33 www_reply_compressed;
  formed = refl;
  in_range = record { class = omega arith; ttl = omega arith; rdata = record { four = refl } };
  appended = refl;
  in_full = tt;
  small = omega arith;
  within = omega arith;
  form = record {
    middle = 35;
    len = 4;
    owner = record { labels = pointer_at 33 0 12 29 refl refl refl refl (label_at 12 (codes "www") refl refl refl refl (label_at 16 (codes "example") refl refl refl refl (label_at 24 (codes "com") refl refl refl refl (end_at 28 refl refl refl)))); short = omega arith };
    fixed = stands _ _ _ refl refl;
    small = omega arith;
    rdata = octets_at 45 _ refl refl refl;
    counted = refl;
  };
}

pub returns-clause-compressed : goal.returns-clause-compressed
returns-clause-compressed c = record {
  body = body_of www_reply_compressed;
  limited = omega arith;
  in_range = record { metadata = record { id = omega arith; op_code = omega arith; response_code = omega arith }; edns = tt };
  fits = omega arith;
  lists = next_list (record { counted = omega arith; puts = (body_of www_reply_compressed, answer_compressed, refl); ends = refl }) (four_empty 512 (body_of www_reply_compressed));
  owners = record { sections = body_of www_reply_compressed; repeating = one_owner answer_compressed; last = refl };
  is = refl;
}

pub returns-clause-answer_left_out : goal.returns-clause-answer_left_out
returns-clause-answer_left_out c = record {
  body = header_and_questions www_reply;
  limited = omega arith;
  in_range = record { metadata = record { id = omega arith; op_code = omega arith; response_code = omega arith }; edns = tt };
  fits = omega arith;
  lists = next_list (record { counted = omega arith; puts = refl; ends = record { next = www_answer; rest = []; is = refl; formed = refl; large = omega arith } }) (four_empty 63 (header_and_questions www_reply));
  owners = record { sections = header_and_questions www_reply; repeating = refl; last = refl };
  is = refl;
}

-- what is written of the first list, where no fault is met
first_list : {limit : ℕ} {records : List (Record RData)} {lists : List (List (Record RData))} {old new : List ℕ} {front : ListFront} {fronts : List ListFront}
    → ListsWritten limit (records ∷ lists) old new (front ∷ fronts) None → (middle : List ℕ) × ListWritten limit old records middle front.count (ending_of front.is_cut)
first_list (next_list {middle = middle} written others) = (middle, written)

-- of the reply's one answer, none is left out where there is room for it
not_cut : (middle : List ℕ) → ListWritten 64 (header_and_questions www_reply) (www_answer ∷ []) middle 0 Cut → ⊥
not_cut middle written =
    let at_start : length middle ≡ 33 = ap length written.puts in
    let next : www_answer ≡ written.ends.next = cc in
    let size : full_size written.ends.next ≡ 31 = sym (ap full_size next) in
    absurd (omega (arith, written.ends.large))

pub returns-clause-not_left_out : goal.returns-clause-not_left_out
returns-clause-not_left_out c = λ written. let first = first_list written.lists in not_cut first.0 first.1

pub returns-clause-question_alone : goal.returns-clause-question_alone
returns-clause-question_alone c = record {
  body = header_and_questions www_reply;
  limited = omega arith;
  in_range = record { metadata = record { id = omega arith; op_code = omega arith; response_code = omega arith }; edns = tt };
  fits = omega arith;
  lists = next_list (record { counted = omega arith; puts = refl; ends = record { next = www_answer; rest = []; is = refl; formed = refl; large = omega arith } }) (four_empty 33 (header_and_questions www_reply));
  owners = record { sections = header_and_questions www_reply; repeating = refl; last = refl };
  is = refl;
}

-- the first answer behind the header
abbrev first_answer : List ℕ
first_answer = header_and_questions long_reply ++ www_answer_bytes

pub returns-clause-lists_cut_apart : goal.returns-clause-lists_cut_apart
returns-clause-lists_cut_apart c = record {
  body = first_answer ++ a_record;
  limited = omega arith;
  in_range = record { metadata = record { id = omega arith; op_code = omega arith; response_code = omega arith }; edns = tt };
  fits = omega arith;
  lists = next_list (record { counted = omega arith; puts = (first_answer, put_answer 60 (header_and_questions long_reply) (omega arith) (omega arith), refl); ends = record { next = www_answer; rest = www_answer ∷ []; is = refl; formed = refl; large = omega arith } })
      (next_list (record { counted = omega arith; puts = (first_answer ++ a_record, put_address 60 first_answer (omega arith) (omega arith), refl); ends = refl }) (three_empty 60 (first_answer ++ a_record)));
  owners = record { sections = first_answer ++ a_record; repeating = (first_answer, put_answer 60 (header_and_questions long_reply) (omega arith) (omega arith), none_before first_answer 12 www_answer.name.labels, (first_answer ++ a_record, put_address 60 first_answer (omega arith) (omega arith), λ earlier has low some. absurd (some refl), refl)); last = refl };
  is = refl;
}

-- the first answer in full, and the others by pointers
thirty_put : PutsRepeating 512 [] (header_and_questions hundred_answers) (replicate 30 www_answer) (body_of thirty_answers)
thirty_put = (answered_once, put_answer 512 (header_and_questions hundred_answers) (omega arith) (omega arith), none_before answered_once 12 www_answer.name.labels, put_again 512 29 (record { place = 12; labels = www_answer.name.labels } ∷ []) [] (body_of thirty_answers) (omega arith) refl)

pub returns-clause-hundred_answers : goal.returns-clause-hundred_answers
returns-clause-hundred_answers c = record {
  body = body_of thirty_answers;
  limited = omega arith;
  in_range = record { metadata = record { id = omega arith; op_code = omega arith; response_code = omega arith }; edns = tt };
  fits = omega arith;
  lists = next_list (record { counted = omega arith; puts = all_put 512 [] (replicate 30 www_answer) (header_and_questions hundred_answers) (body_of thirty_answers) thirty_put; ends = record { next = www_answer; rest = replicate 69 www_answer; is = refl; formed = refl; large = omega arith } })
      (four_empty 512 (body_of thirty_answers));
  owners = record { sections = body_of thirty_answers; repeating = thirty_put; last = refl };
  is = refl;
}

-- an OPT record behind the header
dnssec_ok_put : Puts 512 (header_and_questions dnssec_ok_reply) (opt_record dnssec_ok_fields) (body_of dnssec_ok_bytes)
dnssec_ok_put = record {
  more = drop 12 dnssec_ok_bytes;
  formed = refl;
  in_range = record { class = omega arith; ttl = omega arith; rdata = tt };
  appended = refl;
  in_full = tt;
  small = omega arith;
  within = omega arith;
  form = record { middle = 13; len = 0; owner = root_at 12 refl refl refl; fixed = stands _ _ _ refl refl; small = omega arith; rdata = octets_at 23 [] refl refl refl; counted = refl };
}

pub returns-clause-dnssec_ok : goal.returns-clause-dnssec_ok
returns-clause-dnssec_ok c = record {
  body = body_of dnssec_ok_bytes;
  limited = omega arith;
  in_range = record { metadata = record { id = omega arith; op_code = omega arith; response_code = omega arith }; edns = record { rcode_high = omega arith; version = omega arith; reserved_flags = omega arith } };
  fits = omega arith;
  lists = next_list (no_records 512 (header_and_questions dnssec_ok_reply)) (next_list (no_records 512 (header_and_questions dnssec_ok_reply)) (next_list (no_records 512 (header_and_questions dnssec_ok_reply))
      (next_list (record { counted = omega arith; puts = (body_of dnssec_ok_bytes, dnssec_ok_put, refl); ends = refl }) (next_list (no_records 512 (body_of dnssec_ok_bytes)) none_left))));
  owners = record { sections = header_and_questions dnssec_ok_reply; repeating = refl; last = (body_of dnssec_ok_bytes, dnssec_ok_put, refl) };
  is = refl;
}

-- an OPT record with a high code behind the header
bad_version_put : Puts 512 (header_and_questions bad_version_reply) (opt_record bad_version_fields) (body_of bad_version_bytes)
bad_version_put = record {
  more = drop 12 bad_version_bytes;
  formed = refl;
  in_range = record { class = omega arith; ttl = omega arith; rdata = tt };
  appended = refl;
  in_full = tt;
  small = omega arith;
  within = omega arith;
  form = record { middle = 13; len = 0; owner = root_at 12 refl refl refl; fixed = stands _ _ _ refl refl; small = omega arith; rdata = octets_at 23 [] refl refl refl; counted = refl };
}

pub returns-clause-bad_version : goal.returns-clause-bad_version
returns-clause-bad_version c = record {
  body = body_of bad_version_bytes;
  limited = omega arith;
  in_range = record { metadata = record { id = omega arith; op_code = omega arith; response_code = omega arith }; edns = record { rcode_high = omega arith; version = omega arith; reserved_flags = omega arith } };
  fits = omega arith;
  lists = next_list (no_records 512 (header_and_questions bad_version_reply)) (next_list (no_records 512 (header_and_questions bad_version_reply)) (next_list (no_records 512 (header_and_questions bad_version_reply))
      (next_list (record { counted = omega arith; puts = (body_of bad_version_bytes, bad_version_put, refl); ends = refl }) (next_list (no_records 512 (body_of bad_version_bytes)) none_left))));
  owners = record { sections = header_and_questions bad_version_reply; repeating = refl; last = (body_of bad_version_bytes, bad_version_put, refl) };
  is = refl;
}

-- a TSIG record behind the header
signature_put : Puts 512 (header_and_questions signed_reply) (tsig_record signature_record) (body_of signed_bytes)
signature_put = record {
  more = drop 12 signed_bytes;
  formed = refl;
  in_range = record { class = omega arith; ttl = omega arith; rdata = (omega arith, omega arith, omega arith, omega arith, omega arith, omega arith) };
  appended = refl;
  in_full = (take 11 (drop 12 signed_bytes), refl);
  small = omega arith;
  within = omega arith;
  form = record {
    middle = 13;
    len = 17;
    owner = root_at 12 refl refl refl;
    fixed = stands _ _ _ refl refl;
    small = omega arith;
    rdata = record { middle = 24; algorithm = root_at 23 refl refl refl; fields = octets_at 24 _ refl refl refl };
    counted = refl;
  };
}

pub returns-clause-signed : goal.returns-clause-signed
returns-clause-signed c = record {
  body = body_of signed_bytes;
  limited = omega arith;
  in_range = record { metadata = record { id = omega arith; op_code = omega arith; response_code = omega arith }; edns = tt };
  fits = omega arith;
  lists = next_list (no_records 512 (header_and_questions signed_reply)) (next_list (no_records 512 (header_and_questions signed_reply)) (next_list (no_records 512 (header_and_questions signed_reply))
      (next_list (no_records 512 (header_and_questions signed_reply)) (next_list (record { counted = omega arith; puts = (body_of signed_bytes, signature_put, refl); ends = refl }) none_left))));
  owners = record { sections = header_and_questions signed_reply; repeating = refl; last = (body_of signed_bytes, signature_put, refl) };
  is = refl;
}
