use Rattle.std.proofs.Common.{rules, arith, refl, ap, ◌≡◌, ◌∙◌, ◌+◌, ◌<◌, length, take}
use Rattle.wire_writing.proofs.lemmas.serialize.writing.CompressedForms.{name_len-pos, at_most, cut_back, puts, noted}
use Rattle.wire_writing.proofs.serialize.writing.record_encoder.write_record.Goals as goal

pub returns-then-not-has_room-clause-ends : goal.returns-then-not-has_room-clause-ends
returns-then-not-has_room-clause-ends c =
    let large : c.args.limit < length c.args.bytes.now.items + (1 + 10 + c.least_data_len.result) = search rules in
    (refl, c.in-Ok.ensures.len.0, omega (arith, large, c.least_data_len.ensures, name_len-pos c.args.record.now.name.labels, c.in-Ok.ensures.len.1))

pub returns-then-len-from-clause-ends : goal.returns-then-len-from-clause-ends
returns-then-len-from-clause-ends c =
    let w = c.in_ok-write_whole_record.ensures in
    let place : c.len-place.result ≡ length c.args.bytes.now.items = search rules in
    let large : c.args.limit < length c.write_whole_record.new.bytes.items = search rules in (
      c.truncate.ensures.items ∙ ap (λ n. take n c.write_whole_record.new.bytes.items) place ∙ (cut_back c.args.bytes.now.items c.write_whole_record.new.bytes.items c.args.table.now c.write_whole_record.new.table c.args.record.now w).0,
      c.in-Ok.ensures.len.0,
      omega (arith, large, at_most c.args.bytes.now.items c.write_whole_record.new.bytes.items c.args.table.now c.write_whole_record.new.table c.args.record.now w),
    )

pub returns-then-len-from-clause-notes : goal.returns-then-len-from-clause-notes
returns-then-len-from-clause-notes c =
    let mark : c.mark-mark.result ≡ length c.args.table.now = search rules in
    c.take_back.ensures ∙ ap (λ n. take n c.write_whole_record.new.table) mark ∙ (cut_back c.args.bytes.now.items c.write_whole_record.new.bytes.items c.args.table.now c.write_whole_record.new.table c.args.record.now c.in_ok-write_whole_record.ensures).1

pub returns-clause-ends : goal.returns-clause-ends
returns-clause-ends c =
    puts c.args.limit c.args.bytes.now.items c.write_whole_record.new.bytes.items c.args.table.now c.write_whole_record.new.table c.args.record.now c.requires.noted c.in_ok-write_whole_record.ensures c.in-Ok.ensures.len.0 (search rules)

pub returns-clause-notes : goal.returns-clause-notes
returns-clause-notes c =
    noted c.args.limit c.args.bytes.now.items c.write_whole_record.new.bytes.items c.args.table.now c.write_whole_record.new.table c.args.record.now c.requires.noted c.in_ok-write_whole_record.ensures
