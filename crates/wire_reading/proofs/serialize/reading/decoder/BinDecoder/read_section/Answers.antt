use Rattle.std.proofs.Common.{◌∙◌}
use Rattle.std.proofs.lemmas.Result.{err_from_is_err_and}
use Rattle.wire_messages.specs.serialize.reading.SectionReading.{section_record}
use Rattle.wire_reading.proofs.lemmas.serialize.reading.ItemsRead.{items_go_on, items_fail, items_done}
use Rattle.wire_reading.proofs.serialize.reading.decoder.BinDecoder.read_section.Goals as goal

pub returns-in_err-next : goal.returns-in_err-next
returns-in_err-next c =
    let p = err_from_is_err_and c.from_residual.result c.from_residual.ensures.1 in
    rw (p.1, p.2) (items_fail section_record c.args.count c.records.counter c.records.records c.records.self _ c.records.invariant.so_far _ c.records-test.true c.in_err-next.ensures.0, c.in_err-next.ensures.1 ∙ c.records.invariant.kept)

pub records-preserved : goal.records-preserved
records-preserved c = record {
  so_far = rw c.in_ok-push.ensures.ok (items_go_on section_record c.args.count c.records.counter c.records.records c.records.self _ c.records.invariant.so_far c.in_ok-next.next c.read_section_record.new.self c.records-test.true c.in_ok-next.ensures.0);
  kept = c.in_ok-next.ensures.1 ∙ c.records.invariant.kept;
}

pub returns : goal.returns
returns c = (items_done section_record c.args.count c.records.counter c.records.records c.records.self _ c.records.invariant.so_far c.records-test.false, c.records.invariant.kept)
