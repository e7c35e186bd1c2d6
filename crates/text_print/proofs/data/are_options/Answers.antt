use Rattle.std.proofs.Common.{arith, rules, subst}
use Rattle.wire_messages.specs.rr.RecordData.{IsOption}
use Rattle.text_print.proofs.Wholes.{recursion_more}
use Rattle.text_print.proofs.data.are_options.Goals as goal

pub loop-option-preserved : goal.loop-option-preserved
loop-option-preserved c =
    recursion_more IsOption c.args.options.now c.loop-option.option-index c.option-item.result c.loop-option-test.true c.loop-option.invariant
    (subst IsOption c.option-item.is (record { code = search rules; short = omega (arith, c.len.ensures, c.if-len-gt-MAX_DATA_LEN.false) }))
