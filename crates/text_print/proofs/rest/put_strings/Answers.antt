use Rattle.std.proofs.Common.{refl, arith, string_bytes}
use Rattle.text_print.proofs.Behind.{strings_end, strings_init, strings_step}
use Rattle.text_print.proofs.PrintedFields.{if_some}
use Rattle.text_print.proofs.rest.put_strings.Goals as goal

pub strings-init : goal.strings-init
strings-init c = record { within = omega arith; put = strings_init (string_bytes c.args.out.now) (string_bytes c.args.out.now) refl }

pub strings-smaller : goal.strings-smaller
strings-smaller c = let some = if_some _ c.in_ok-len.field-0 c.in-Some.len c.in-Some.is c.in_ok-len.ensures.some in omega (arith, some, c.strings-test.true)

pub strings-preserved : goal.strings-preserved
strings-preserved c =
    let one = if_some _ c.in_ok-len.field-0 c.in-Some.len c.in-Some.is c.in_ok-len.ensures.put in
    let both = strings_step c.args.data.now c.strings.place c.in-Some.len (string_bytes c.args.out.now) (string_bytes c.strings.out) (string_bytes c.put_string.new.out) c.strings.invariant.within c.strings.invariant.put one in
    record { within = both.0; put = both.1 }

pub returns : goal.returns
returns c = λ some. strings_end c.args.data.now c.strings.place (string_bytes c.args.out.now) (string_bytes c.strings.out) (omega (arith, c.strings-test.false)) c.strings.invariant.within c.strings.invariant.put some
