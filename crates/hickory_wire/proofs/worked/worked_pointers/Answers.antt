-- An exchange that ends in a pointer, and an additional behind an answer that was left out.
use Rattle.std.proofs.Common.{◌≡◌, [], drop, codes, refl, arith}
use Rattle.wire_messages.specs.serialize.writing.RecordSize.{full_size}
use Rattle.wire_writing.specs.serialize.writing.Writing.{Puts, header_and_questions}
use Rattle.wire_writing.specs.serialize.writing.Writing.ListsWritten.{none_left, next_list}
use Rattle.hickory_wire.specs.worked.WorkedPointers.{mail_answer, mail_reply, mail_bytes, large_answer, net_address, large_reply, large_bytes}
use Rattle.hickory_wire.proofs.lemmas.worked.Literals.{stands, octets_at, end_at, label_at, pointer_at}
use Rattle.hickory_wire.proofs.lemmas.worked.LiteralReplies.{body_of, four_empty, no_records, one_owner}
use Rattle.hickory_wire.proofs.worked.worked_pointers.Goals as goal

mail_put : Puts 512 (header_and_questions mail_reply) mail_answer (body_of mail_bytes)
mail_put = record {
  more = drop 12 mail_bytes;
  formed = refl;
  in_range = record { class = omega arith; ttl = omega arith; rdata = omega arith };
  appended = refl;
  in_full = tt;
  small = omega arith;
  within = omega arith;
  form = record {
    middle = 25;
    len = 9;
    owner = record { labels = label_at 12 (codes "example") refl refl refl refl (label_at 20 (codes "com") refl refl refl refl (end_at 24 refl refl refl)); short = omega arith };
    fixed = stands _ _ _ refl refl;
    small = omega arith;
    rdata = record {
      middle = 37;
      preference = octets_at 35 _ refl refl refl;
      exchange = record {
        labels = label_at 37 (codes "mail") refl refl refl refl (pointer_at 42 0 12 25 refl refl refl refl (label_at 12 (codes "example") refl refl refl refl (label_at 20 (codes "com") refl refl refl refl (end_at 24 refl refl refl))));
        short = omega arith;
      };
    };
    counted = refl;
  };
}

pub returns-clause-exchange : goal.returns-clause-exchange
returns-clause-exchange c = record {
  body = body_of mail_bytes;
  limited = omega arith;
  in_range = record { metadata = record { id = omega arith; op_code = omega arith; response_code = omega arith }; edns = tt };
  fits = omega arith;
  lists = next_list (record { counted = omega arith; puts = (body_of mail_bytes, mail_put, refl); ends = refl }) (four_empty 512 (body_of mail_bytes));
  owners = record { sections = body_of mail_bytes; repeating = one_owner mail_put; last = refl };
  is = refl;
}

address_put : Puts 512 (header_and_questions large_reply) net_address (body_of large_bytes)
address_put = record {
  more = drop 12 large_bytes;
  formed = refl;
  in_range = record { class = omega arith; ttl = omega arith; rdata = record { four = refl } };
  appended = refl;
  in_full = tt;
  small = omega arith;
  within = omega arith;
  form = record {
    middle = 27;
    len = 4;
    owner = record { labels = label_at 12 (codes "a") refl refl refl refl (label_at 14 (codes "example") refl refl refl refl (label_at 22 (codes "net") refl refl refl refl (end_at 26 refl refl refl))); short = omega arith };
    fixed = stands _ _ _ refl refl;
    small = omega arith;
    rdata = octets_at 37 _ refl refl refl;
    counted = refl;
  };
}

pub returns-clause-behind_a_cut : goal.returns-clause-behind_a_cut
returns-clause-behind_a_cut c =
    let start = header_and_questions large_reply in
    let size : full_size large_answer ≡ 527 = refl in
    record {
      body = body_of large_bytes;
      limited = omega arith;
      in_range = record { metadata = record { id = omega arith; op_code = omega arith; response_code = omega arith }; edns = tt };
      fits = omega arith;
      lists = next_list (record { counted = omega arith; puts = refl; ends = record { next = large_answer; rest = []; is = refl; formed = refl; large = omega (arith, size) } })
          (next_list (no_records 512 start) (next_list (record { counted = omega arith; puts = (body_of large_bytes, address_put, refl); ends = refl })
          (next_list (no_records 512 (body_of large_bytes)) (next_list (no_records 512 (body_of large_bytes)) none_left))));
      owners = record { sections = body_of large_bytes; repeating = one_owner address_put; last = refl };
      is = refl;
    }
