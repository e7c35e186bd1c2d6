use Rattle.std.proofs.Common.{arith}
use Rattle.text_data.specs.LocationText.{without_metres}
use Rattle.text_data.proofs.DecimalOnce.{decimal_once}
use Rattle.text_data.proofs.sizes.size_of.Goals as goal

pub returns-in_err-cents-clause-none : goal.returns-in_err-cents-clause-none
returns-in_err-cents-clause-none c = rw c.from_residual.ensures (λ octet is. c.in_err-cents.ensures.none is.cents is.spelled (omega (arith, is.most)))

pub returns-then-cents-gt-MOST-clause-none : goal.returns-then-cents-gt-MOST-clause-none
returns-then-cents-gt-MOST-clause-none c = λ octet is. omega (arith, decimal_once 2 (without_metres c.args.text.now) c.in_ok-cents.cents is.cents c.in_ok-cents.ensures.value is.spelled, is.most, c.if-cents-gt-MOST.true)

pub returns-clause-value : goal.returns-clause-value
returns-clause-value c = record { cents = c.in_ok-cents.cents; spelled = c.in_ok-cents.ensures.value; most = omega (arith, c.if-cents-gt-MOST.false); written = c.size_octet.ensures }
