use Rattle.std.proofs.Common.{◌∙◌, ◌∷◌, [], arith}
use Rattle.std.proofs.lemmas.List.{length-append}
use Rattle.std.proofs.lemmas.Result.{err_from_is_err_and}
use Rattle.wire_messages.specs.serialize.reading.RecordReading.{question}
use Rattle.wire_reading.proofs.lemmas.serialize.reading.ItemsRead.{items_go_on, items_fail, items_done}
use Rattle.hickory_base.proofs.requests.request_reading.read_query_list.Goals as goal

pub returns-in_err-read_lower_query-clause-exact : goal.returns-in_err-read_lower_query-clause-exact
returns-in_err-read_lower_query-clause-exact c =
    let p = err_from_is_err_and c.from_residual.result c.from_residual.ensures.1 in
    rw (p.1, p.2) (items_fail question c.args.count c.queries.counter c.queries.queries c.queries.decoder _ c.queries.invariant.so_far _ c.queries-test.true c.in_err-read_lower_query.ensures.0, c.in_err-read_lower_query.ensures.1 ∙ c.queries.invariant.kept)

pub queries-preserved : goal.queries-preserved
queries-preserved c = record {
  so_far = rw c.in_ok-push.ensures.ok (items_go_on question c.args.count c.queries.counter c.queries.queries c.queries.decoder _ c.queries.invariant.so_far c.in_ok-read_lower_query.field-0 c.read_lower_query.new.decoder c.queries-test.true c.in_ok-read_lower_query.ensures.0);
  kept = c.in_ok-read_lower_query.ensures.1 ∙ c.queries.invariant.kept;
  number = rw c.in_ok-push.ensures.ok (omega (arith, length-append c.queries.queries (c.in_ok-read_lower_query.field-0 ∷ []), c.queries.invariant.number));
}

pub returns-clause-exact : goal.returns-clause-exact
returns-clause-exact c = (items_done question c.args.count c.queries.counter c.queries.queries c.queries.decoder _ c.queries.invariant.so_far c.queries-test.false, c.queries.invariant.kept)
