use Rattle.std.proofs.Common.{◌∙◌, ap, sym, take, string_bytes}
use Rattle.std.proofs.lemmas.List.{length-take-le}
use Rattle.std.proofs.lemmas.Nat.{be_bytes_2}
use Rattle.std.specs.Int.{w16, from_be_bytes}
use Rattle.text_print.proofs.Spelled.{slice_bytes, take_bytes}
use Rattle.text_print.proofs.Types.{put_type_field}
use Rattle.text_print.proofs.fields.put_record_type.Goals as goal

pub returns : goal.returns
returns c =
    let chunk = c.in-Some.ensures.cases in
    let number = c.from_be_bytes.result in (
      chunk.enough,
      put_type_field number (take 2 c.args.data.now) (string_bytes c.args.out.now) (string_bytes c.put_type.new.out)
          (sym (be_bytes_2 (take 2 c.args.data.now) number (length-take-le 2 c.args.data.now chunk.enough) (take_bytes 2 c.args.data.now (slice_bytes c.args.data.now c.type_inv.data)) (c.from_be_bytes.ensures ∙ ap (from_be_bytes w16) chunk.same))) c.in_ok-put_type.ensures,
    )
