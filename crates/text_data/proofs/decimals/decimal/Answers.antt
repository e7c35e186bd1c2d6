use Rattle.text_data.proofs.DecimalOnce.{no_decimal}
use Rattle.text_data.proofs.decimals.decimal.Goals as goal

pub returns-in_err-whole-clause-none : goal.returns-in_err-whole-clause-none
returns-in_err-whole-clause-none c = rw c.from_residual.ensures (no_decimal c.args.places c.args.text.now c.cut_at.result.0.now c.requires.some c.requires.few c.cut_at.ensures.before c.in_err-whole.ensures.none)
