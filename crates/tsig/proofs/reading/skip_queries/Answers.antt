-- One is skipped, or has the first fault.
use Rattle.std.proofs.Common.{◌∙◌, arith}
use Rattle.std.proofs.lemmas.Result.{err_from_is_err_and}
use Rattle.wire_messages.specs.serialize.reading.RecordReading.{question}
use Rattle.tsig.proofs.Skips.{skip_more, skip_fails, skip_none}
use Rattle.tsig.proofs.reading.skip_queries.Goals as goal

pub loop-left-preserved : goal.loop-left-preserved
loop-left-preserved c =
    c.loop-left.invariant ∙ skip_more question c.loop-left.left c.loop-left.decoder _ _ (omega arith) c.in_ok-read_query.ensures.exact.0

pub returns : goal.returns
returns c = c.loop-left.invariant ∙ skip_none question c.loop-left.left c.loop-left.decoder (omega arith)

pub returns-in_err-read_query : goal.returns-in_err-read_query
returns-in_err-read_query c =
    let p = err_from_is_err_and c.from_residual.result c.from_residual.ensures.1 in
    rw (p.1, p.2) (λ ne. c.loop-left.invariant ∙ skip_fails question c.loop-left.left c.loop-left.decoder _ (omega arith) (c.in_err-read_query.ensures.exact.0 ne))
