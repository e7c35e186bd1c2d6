use Rattle.std.proofs.Common.{rules, arith, ap, refl, ◌≡◌, ◌+◌, ◌-◌, length, length-append}
use Rattle.wire_messages.specs.rr.RecordData.{type_of}
use Rattle.wire_writing.proofs.lemmas.serialize.writing.CompressedForms.{writes_record}
use Rattle.wire_writing.proofs.serialize.writing.record_encoder.write_whole_record.Goals as goal

pub returns : goal.returns
returns c =
    let kind : c.value.result ≡ type_of c.args.record.now.rdata = search rules in
    let start : c.len-start.result ≡ length c.write_fixed.new.bytes.items = search rules in
    let d = c.in_ok-write_data.ensures.data in
    let size : c.len.result ≡ length c.write_data.new.bytes.items = search rules in
    let len : c.len.result - c.len-start.result + length c.write_fixed.new.bytes.items ≡ length c.write_data.new.bytes.items = omega (arith, size, start, ap length d.is, length-append c.write_fixed.new.bytes.items d.more) in
    let fields = c.in_ok-write_fixed.ensures.bytes in
    writes_record c.args.bytes.now.items c.write_owner.new.bytes.items c.write_fixed.new.bytes.items c.write_data.new.bytes.items c.put_data_len.new.bytes.items
    c.args.table.now c.write_owner.new.table c.write_data.new.table c.args.record.now c.value.result c.value-2.result c.args.record.now.ttl c.len-start.result _ _
    c.requires.header c.in_ok-write_owner.ensures.are c.requires.small (record { class = search rules; ttl = c.write_fixed.ensures.ttl; rdata = c.in_ok-write_data.ensures.in_range })
    c.in_ok-write_owner.ensures.labels c.in_ok-write_owner.ensures.compresses fields kind c.value-2.ensures refl d start refl len c.put_data_len.ensures
