use Rattle.std.proofs.Common.{refl, arith, length, take, drop, ◌-◌, string_bytes}
use Rattle.text_print.proofs.PrintedFields.{string_front}
use Rattle.text_print.proofs.Spelled.{slice_bytes}
use Rattle.text_print.proofs.fields.put_string.Goals as goal

pub returns-clause-put : goal.returns-clause-put
returns-clause-put c =
    string_front c.args.data.now (take c.from-len.result (take (length c.args.data.now - 1) (drop 1 c.args.data.now))) (string_bytes c.args.out.now) (string_bytes c.put_quoted.new.out) c.from-len.result (slice_bytes c.args.data.now c.type_inv.data)
    (omega (arith, c.in-len1-up.len_at_least)) c.from-len.ensures (omega (arith, c.if-len-behind.false)) refl c.in_ok-put_quoted.ensures
