use Rattle.std.proofs.Common.{◌∙◌}
use Rattle.std.proofs.lemmas.Result.{err_from_is_err_and}
use Rattle.wire_messages.specs.serialize.reading.RecordReading.{question}
use Rattle.wire_reading.proofs.lemmas.serialize.reading.ItemsRead.{items_go_on, items_fail, items_done}
use Rattle.wire_reading.proofs.serialize.reading.decoder.BinDecoder.read_queries.Goals as goal

pub returns-in_err-query : goal.returns-in_err-query
returns-in_err-query c =
    let p = err_from_is_err_and c.from_residual.result c.from_residual.ensures.1 in
    rw (p.1, p.2) (items_fail question c.args.count c.queries.counter c.queries.queries c.queries.self _ c.queries.invariant.so_far _ c.queries-test.true c.in_err-query.ensures.exact.0, c.in_err-query.ensures.exact.1 ∙ c.queries.invariant.kept)

pub queries-preserved : goal.queries-preserved
queries-preserved c = record {
  so_far = rw c.in_ok-push.ensures.ok (items_go_on question c.args.count c.queries.counter c.queries.queries c.queries.self _ c.queries.invariant.so_far c.in_ok-query.query c.read_query.new.self c.queries-test.true c.in_ok-query.ensures.exact.0);
  kept = c.in_ok-query.ensures.exact.1 ∙ c.queries.invariant.kept;
}

pub returns : goal.returns
returns c = (items_done question c.args.count c.queries.counter c.queries.queries c.queries.self _ c.queries.invariant.so_far c.queries-test.false, c.queries.invariant.kept)
