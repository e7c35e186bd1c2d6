use Rattle.std.proofs.Common.{refl, arith, length, take, drop, ◌-◌, string_bytes}
use Rattle.text_print.proofs.PrintedFields.{bare_front}
use Rattle.text_print.proofs.Spelled.{slice_bytes}
use Rattle.text_print.proofs.fields.put_string_field.Goals as goal

pub returns : goal.returns
returns c =
    bare_front c.args.data.now (take c.from-len.result (take (length c.args.data.now - 1) (drop 1 c.args.data.now))) (string_bytes c.args.out.now) (string_bytes c.put_bare.new.out) c.from-len.result (slice_bytes c.args.data.now c.type_inv.data)
    (omega (arith, c.in-len1-up.len_at_least)) c.from-len.ensures (omega (arith, c.if-len-behind.false)) refl (c.is_word.ensures.some c.if-not-is_word.false) (c.is_word.ensures.each c.if-not-is_word.false) c.in_ok-put_bare.ensures
