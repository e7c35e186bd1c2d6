-- A reply with all five lists, each record put in full behind the one before.
use Rattle.std.proofs.Common.{◌≡◌, ℕ, ◌+◌, ◌^◌, ◌<◌, ◌≤◌, List, [], ◌++◌, length, None, refl, sym, subst, arith}
use Rattle.std.proofs.lemmas.List.Elements.{All-from_recursion}
use Rattle.wire_names.specs.rr.domain.DomainName.{IsLabel, AreLabels}
use Rattle.wire_messages.specs.serialize.writing.FullForm.{HasNames, record_octets}
use Rattle.wire_messages.specs.serialize.layout.FieldRanges.{IsRecordInRange}
use Rattle.wire_messages.specs.serialize.layout.MessageLayout.{tsig_record}
use Rattle.wire_messages.specs.serialize.writing.RecordSize.{data_len, unwritable_reason, full_size}
use Rattle.wire_messages.specs.serialize.writing.Reply.{opt_record}
use Rattle.hickory_wire.specs.worked.Worked.{root, record_of, address, signature_record}
use Rattle.hickory_wire.specs.worked.WorkedLists.{five_lists, formless_and_large, root_authority, root_pointer, root_server}
use Rattle.hickory_wire.specs.worked.WorkedReplies.{all_of, fronts_with, dnssec_ok_fields, too_long_string}
use Rattle.wire_writing.specs.serialize.writing.Writing.{Puts, header_and_questions}
use Rattle.wire_writing.specs.serialize.writing.Writing.Encoded.{formless}
use Rattle.wire_writing.specs.serialize.writing.Writing.ListsWritten.{none_left, next_list, stuck_list}
use Rattle.wire_names.specs.declared.error.ProtoError.TheVariants.{CharacterDataTooLong}
use Rattle.wire_messages.specs.declared.rr.rdata.RData.{RData}
use Rattle.wire_messages.specs.declared.rr.record.Record.{Record}
use Rattle.wire_writing.proofs.lemmas.serialize.writing.FullForms.{puts_full}
use Rattle.hickory_wire.proofs.worked.worked_lists.Goals as goal

no_labels : AreLabels []
no_labels = record { each = All-from_recursion IsLabel [] tt; short = omega arith }

-- a record of the root is put in full
put_root : (limit : ℕ) (old : List ℕ) (r : Record RData) → 12 ≤ length old → r.name.labels ≡ [] → HasNames r.rdata → unwritable_reason r.rdata ≡ None → IsRecordInRange r → data_len r.rdata < 2 ^ 16 → length old + full_size r ≤ limit → Puts limit old r (old ++ record_octets r)
put_root limit old r low is names formed in_range small fit = puts_full limit old (old ++ record_octets r) r low (subst AreLabels (sym is) no_labels) names formed in_range small refl fit

abbrev root_answer : Record RData
root_answer = record_of root 1 0 address

-- the bytes behind each record
abbrev start : List ℕ
start = header_and_questions five_lists

abbrev one : List ℕ
one = start ++ record_octets root_answer

abbrev two : List ℕ
two = one ++ record_octets root_server

abbrev three : List ℕ
three = two ++ record_octets root_authority

abbrev four : List ℕ
four = three ++ record_octets root_pointer

abbrev five : List ℕ
five = four ++ record_octets (opt_record dnssec_ok_fields)

abbrev six : List ℕ
six = five ++ record_octets (tsig_record signature_record)

put_answer : (limit : ℕ) → 84 ≤ limit → Puts limit start root_answer one
put_answer limit fit = put_root limit start root_answer (omega arith) refl tt refl (record { class = omega arith; ttl = omega arith; rdata = record { four = refl } }) (omega arith) (omega arith)

put_server : (limit : ℕ) → 84 ≤ limit → Puts limit one root_server two
put_server limit fit = put_root limit one root_server (omega arith) refl no_labels refl (record { class = omega arith; ttl = omega arith; rdata = tt }) (omega arith) (omega arith)

put_authority : (limit : ℕ) → 84 ≤ limit → Puts limit two root_authority three
put_authority limit fit = put_root limit two root_authority (omega arith) refl (no_labels, no_labels) refl (record { class = omega arith; ttl = omega arith; rdata = (omega arith, omega arith, omega arith, omega arith, omega arith) }) (omega arith) (omega arith)

put_pointer : (limit : ℕ) → 84 ≤ limit → Puts limit three root_pointer four
put_pointer limit fit = put_root limit three root_pointer (omega arith) refl no_labels refl (record { class = omega arith; ttl = omega arith; rdata = tt }) (omega arith) (omega arith)

put_opt : Puts 123 four (opt_record dnssec_ok_fields) five
put_opt = put_root 123 four (opt_record dnssec_ok_fields) (omega arith) refl tt refl (record { class = omega arith; ttl = omega arith; rdata = tt }) (omega arith) (omega arith)

put_signature : Puts 123 five (tsig_record signature_record) six
put_signature = put_root 123 five (tsig_record signature_record) (omega arith) refl no_labels refl (record { class = omega arith; ttl = omega arith; rdata = (omega arith, omega arith, omega arith, omega arith, omega arith, omega arith) }) (omega arith) (omega arith)

pub returns-clause-in_full : goal.returns-clause-in_full
returns-clause-in_full c = record {
  body = six;
  limited = omega arith;
  in_range = record { metadata = record { id = omega arith; op_code = omega arith; response_code = omega arith }; edns = record { rcode_high = omega arith; version = omega arith; reserved_flags = omega arith } };
  fits = omega arith;
  lists = next_list (record { counted = omega arith; puts = (one, put_answer 123 (omega arith), refl); ends = refl })
      (next_list (record { counted = omega arith; puts = (two, put_server 123 (omega arith), (three, put_authority 123 (omega arith), refl)); ends = refl })
      (next_list (record { counted = omega arith; puts = (four, put_pointer 123 (omega arith), refl); ends = refl })
      (next_list (record { counted = omega arith; puts = (five, put_opt, refl); ends = refl })
      (next_list (record { counted = omega arith; puts = (six, put_signature, refl); ends = refl }) none_left))));
  owners = record { sections = four; repeating = (one, put_answer 123 (omega arith), λ earlier has low some. absurd (some refl), (two, put_server 123 (omega arith), λ earlier has low some. absurd (some refl), (three, put_authority 123 (omega arith), λ earlier has low some. absurd (some refl), (four, put_pointer 123 (omega arith), λ earlier has low some. absurd (some refl), refl)))); last = (five, put_opt, (six, put_signature, refl)) };
  is = refl;
}

pub returns-clause-left_out : goal.returns-clause-left_out
returns-clause-left_out c = record {
  body = four;
  limited = omega arith;
  in_range = record { metadata = record { id = omega arith; op_code = omega arith; response_code = omega arith }; edns = record { rcode_high = omega arith; version = omega arith; reserved_flags = omega arith } };
  fits = omega arith;
  lists = next_list (record { counted = omega arith; puts = (one, put_answer 84 (omega arith), refl); ends = refl })
      (next_list (record { counted = omega arith; puts = (two, put_server 84 (omega arith), (three, put_authority 84 (omega arith), refl)); ends = refl })
      (next_list (record { counted = omega arith; puts = (four, put_pointer 84 (omega arith), refl); ends = refl })
      (next_list (record { counted = omega arith; puts = refl; ends = record { next = opt_record dnssec_ok_fields; rest = []; is = refl; formed = refl; large = omega arith } })
      (next_list (record { counted = omega arith; puts = refl; ends = record { next = tsig_record signature_record; rest = []; is = refl; formed = refl; large = omega arith } }) none_left))));
  owners = record { sections = four; repeating = (one, put_answer 84 (omega arith), λ earlier has low some. absurd (some refl), (two, put_server 84 (omega arith), λ earlier has low some. absurd (some refl), (three, put_authority 84 (omega arith), λ earlier has low some. absurd (some refl), (four, put_pointer 84 (omega arith), λ earlier has low some. absurd (some refl), refl)))); last = refl };
  is = refl;
}

pub returns-clause-no_form_first : goal.returns-clause-no_form_first
returns-clause-no_form_first c = formless {e = CharacterDataTooLong} (record {
  body = header_and_questions formless_and_large;
  put = fronts_with (all_of 0) (all_of 0) (all_of 0);
  fits = omega arith;
  lists = stuck_list {front = all_of 0} (record { counted = omega arith; puts = refl; ends = record { next = too_long_string; rest = []; is = refl; formless = refl } }) refl refl;
  owners = record { sections = header_and_questions formless_and_large; repeating = refl; last = refl };
}) refl
