use Rattle.std.proofs.Common.{◌∙◌, arith, sym}
use Rattle.zone_text.proofs.NumberBelow.{below, no_number}
use Rattle.zone_text.proofs.zone_file.number_range.number_below.Goals as goal

pub returns-in_err-number-clause-number : goal.returns-in_err-number-clause-number
returns-in_err-number-clause-number c = c.from_residual.ensures ∙ sym (no_number c.args.bound c.args.text.now c.in_err-number.ensures.none (omega (arith, c.ranges.bound.fits)))

pub returns-then-number-bound-clause-number : goal.returns-then-number-bound-clause-number
returns-then-number-bound-clause-number c = sym (below c.args.bound c.args.text.now c.in_ok-number.number c.in_ok-number.ensures.number.0 c.if-number-bound.true)
