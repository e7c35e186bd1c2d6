use Rattle.std.proofs.Common.{◌∙◌, ap, take, string_bytes}
use Rattle.std.proofs.lemmas.List.{length-take-le}
use Rattle.std.specs.Net.Addr.{segments_of}
use Rattle.text_print.proofs.Addresses.{put_ipv6_field}
use Rattle.text_print.proofs.Spelled.{slice_bytes, take_bytes}
use Rattle.text_print.proofs.fields.put_ipv6.Goals as goal

pub returns : goal.returns
returns c =
    let chunk = c.in-Some.ensures.cases in
    (chunk.enough, put_ipv6_field c.from-address.result (take 16 c.args.data.now) (string_bytes c.args.out.now) (string_bytes c.write.new.self) (length-take-le 16 c.args.data.now chunk.enough) (take_bytes 16 c.args.data.now (slice_bytes c.args.data.now c.type_inv.data)) (c.from-address.ensures ∙ ap segments_of chunk.same) c.in_ok-write.ensures.bytes)
