use Rattle.std.proofs.Common.{◌≡◌, false, None, refl, rules}
use Rattle.wire_writing.specs.representation.Endings.{is_cut_by}
use Rattle.wire_writing.proofs.lemmas.serialize.writing.RecordLists.{adds_run, adds_stuck, fault_is}
use Rattle.wire_writing.proofs.serialize.writing.list_encoder.write_list.Goals as goal

pub returns-then-is_some-clause-written : goal.returns-then-is_some-clause-written
returns-then-is_some-clause-written g c =
    let given = c.drain.ensures in
    let some = fault_is c.args.stops.now.fault (search rules) in
    (given.0, false, given.1, adds_stuck c.args.limit c.args.stops.now c.args.bytes.now.items given.0 some.0 some.1, (refl, refl))

pub returns-clause-written : goal.returns-clause-written
returns-clause-written g c =
    let w = c.in_ok-run.ensures.written in
    let run = c.in_ok-run.run' in
    let none : c.args.stops.now.fault ≡ None = search rules in (
      w.0,
      is_cut_by run.ending,
      w.1,
      adds_run c.args.limit c.args.stops.now c.close.new.stops c.args.bytes.now.items c.write_records.new.bytes.items w.0 run.count run.ending none c.close.ensures.fault c.close.ensures.cut w.2,
      w.3,
    )
