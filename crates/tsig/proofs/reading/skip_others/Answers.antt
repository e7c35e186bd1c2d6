-- One is skipped, or has the first fault.
use Rattle.std.proofs.Common.{◌∙◌, arith}
use Rattle.std.proofs.lemmas.Result.{err_from_is_err_and}
use Rattle.tsig.specs.Reading.{other}
use Rattle.tsig.proofs.Skips.{skip_more, skip_fails, skip_none}
use Rattle.tsig.proofs.reading.skip_others.Goals as goal

pub loop-left-preserved : goal.loop-left-preserved
loop-left-preserved c =
    c.loop-left.invariant ∙ skip_more other c.loop-left.left c.loop-left.decoder _ _ (omega arith) c.in_ok-read_other.ensures.0

pub returns : goal.returns
returns c = c.loop-left.invariant ∙ skip_none other c.loop-left.left c.loop-left.decoder (omega arith)

pub returns-in_err-read_other : goal.returns-in_err-read_other
returns-in_err-read_other c =
    let p = err_from_is_err_and c.from_residual.result c.from_residual.ensures.1 in
    rw (p.1, p.2) (λ ne. c.loop-left.invariant ∙ skip_fails other c.loop-left.left c.loop-left.decoder _ (omega arith) (c.in_err-read_other.ensures.0 ne))
