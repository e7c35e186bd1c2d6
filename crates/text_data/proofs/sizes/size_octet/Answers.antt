use Rattle.std.proofs.Common.{arith, inr}
use Rattle.text_data.proofs.SizeOctets.{one_less}
use Rattle.text_data.proofs.sizes.size_octet.Goals as goal

pub loop-exponent-preserved : goal.loop-exponent-preserved
loop-exponent-preserved c = record {
  first = one_less c.args.cents c.loop-exponent.base c.loop-exponent.exponent c.loop-exponent.invariant.first;
  some = inr (omega arith);
  small = omega (arith, c.loop-exponent.invariant.small);
}
