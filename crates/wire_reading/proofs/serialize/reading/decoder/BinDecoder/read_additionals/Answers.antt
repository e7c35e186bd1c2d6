use Rattle.std.proofs.Common.{◌∙◌}
use Rattle.std.proofs.lemmas.Result.{err_from_is_err_and}
use Rattle.wire_reading.proofs.lemmas.serialize.reading.ItemsRead.{additionals_go_on, additionals_fail, additionals_done}
use Rattle.wire_reading.proofs.serialize.reading.decoder.BinDecoder.read_additionals.Goals as goal

pub returns-in_err-read_additional : goal.returns-in_err-read_additional
returns-in_err-read_additional c =
    let p = err_from_is_err_and c.from_residual.result c.from_residual.ensures.1 in
    rw (p.1, p.2) (additionals_fail c.args.count c.additionals.counter c.additionals.additionals c.additionals.self _ c.additionals.invariant.so_far _ c.additionals-test.true c.in_err-read_additional.ensures.exact, c.in_err-read_additional.ensures.kept ∙ c.additionals.invariant.kept)

pub additionals-preserved : goal.additionals-preserved
additionals-preserved c = record {
  so_far = additionals_go_on c.args.count c.additionals.counter c.additionals.additionals c.additionals.self _ c.additionals.invariant.so_far c.read_additional.new.self c.read_additional.new.additionals c.additionals-test.true c.in_ok-read_additional.ensures.exact;
  kept = c.in_ok-read_additional.ensures.kept ∙ c.additionals.invariant.kept;
}

pub returns : goal.returns
returns c = (additionals_done c.args.count c.additionals.counter c.additionals.additionals c.additionals.self _ c.additionals.invariant.so_far c.additionals-test.false, c.additionals.invariant.kept)
