-- One byte more is compared.
use Rattle.std.proofs.Common.{◌∙◌, arith}
use Rattle.tsig.proofs.SameBytes.{compared_one_more}
use Rattle.tsig.proofs.macs.is_same_mac.Goals as goal

pub loop-i-preserved : goal.loop-i-preserved
loop-i-preserved c =
    c.loop-i.invariant ∙ compared_one_more c.args.a.now c.args.b.now c.loop-i.i c.loop-i.differences (omega arith) (grind arith)
