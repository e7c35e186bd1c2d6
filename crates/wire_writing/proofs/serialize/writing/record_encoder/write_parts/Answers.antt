use Rattle.std.proofs.Common.{◌+◌, ◌≤◌, length, rules}
use Rattle.wire_names.specs.rr.domain.DomainName.{name_len}
use Rattle.wire_writing.specs.representation.WrittenParts.{record_of}
use Rattle.wire_writing.proofs.lemmas.serialize.writing.FullForms.{put_parts}
use Rattle.wire_writing.proofs.serialize.writing.record_encoder.write_parts.Goals as goal

pub returns : goal.returns
returns c proof =
    let fits : length c.args.bytes.now.items + (name_len c.args.parts.name.now.labels + 10 + c.in-Ok.len) ≤ c.args.limit = search rules in
    put_parts c.args.limit c.args.bytes.now.items c.write_name.new.bytes.items c.write_fixed.new.bytes.items c.write.new.bytes.items (record_of c.args.parts proof)
    c.value.result c.args.parts.dns_class c.args.parts.ttl c.in-Ok.len c.requires.header c.full_name_len.ensures.labels c.full_len.ensures.names c.in-Ok.ensures.len (record { class = search rules; ttl = search rules; rdata = c.in_ok-write.ensures.in_range }) (search rules)
    c.in_ok-write_name.ensures c.in_ok-write_fixed.ensures.bytes c.in_ok-write.ensures.bytes (search rules) (search rules) (search rules) fits
