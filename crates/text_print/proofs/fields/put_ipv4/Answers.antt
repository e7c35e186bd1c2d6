use Rattle.std.proofs.Common.{◌∙◌, take, string_bytes}
use Rattle.std.proofs.lemmas.List.{length-take-le}
use Rattle.text_print.proofs.Addresses.{put_ipv4_field}
use Rattle.text_print.proofs.Spelled.{slice_bytes, take_bytes}
use Rattle.text_print.proofs.fields.put_ipv4.Goals as goal

pub returns : goal.returns
returns c =
    let chunk = c.in-Some.ensures.cases in
    (chunk.enough, put_ipv4_field c.from-address.result (take 4 c.args.data.now) (string_bytes c.args.out.now) (string_bytes c.write.new.self) (length-take-le 4 c.args.data.now chunk.enough) (take_bytes 4 c.args.data.now (slice_bytes c.args.data.now c.type_inv.data)) (c.from-address.ensures ∙ chunk.same) c.in_ok-write.ensures.bytes)
