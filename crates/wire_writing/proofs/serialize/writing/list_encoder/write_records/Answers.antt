use Rattle.std.proofs.Common.{arith, rules, refl}
use Rattle.wire_writing.specs.representation.Endings.{OwnerNoted}
use Rattle.wire_writing.specs.serialize.writing.Writing.{Puts}
use Rattle.wire_writing.proofs.lemmas.serialize.writing.NotedRuns.{run_put, run_skips}
use Rattle.wire_writing.proofs.lemmas.serialize.writing.RecordLists.{nows, nows-more, list_put, list_skips, Puts-longer}
use Rattle.wire_writing.proofs.serialize.writing.list_encoder.write_records.Goals as goal

pub loop-record-preserved-in-Whole-2 : goal.loop-record-preserved-in-Whole-2
loop-record-preserved-in-Whole-2 g c =
    let l = c.loop-record in
    let put : Puts c.args.limit l.bytes.items c.in-Some.record.now c.write_record.new.bytes.items = rw c.in-Whole-2.is at c.in_ok-other.ensures.ends in
    let owner : OwnerNoted l.bytes.items c.in-Some.record.now c.write_record.new.bytes.items l.table c.write_record.new.table = rw c.in-Whole-2.is at c.in_ok-other.ensures.notes in
    let whole = rw c.in-Whole.is at l.invariant.written in
    let longer = Puts-longer put in
    record {
      can = search rules;
      finite = search rules;
      header = omega (arith, l.invariant.header, longer);
      longer = omega (arith, l.invariant.longer, longer);
      within = put.within;
      written = rw (nows-more l.yielded c.in-Some.record, c.in-Whole.is)
          (list_put c.args.limit c.args.bytes.now.items (nows l.yielded) c.in-Some.record.now l.bytes.items l.count c.write_record.new.bytes.items whole put);
      run = rw (nows-more l.yielded c.in-Some.record)
          (run_put c.args.limit (nows l.yielded) c.in-Some.record.now c.args.bytes.now.items l.bytes.items c.write_record.new.bytes.items c.args.table.now l.table c.write_record.new.table l.count whole.ends l.invariant.run put owner);
      noted = owner.hold;
    }

pub loop-record-preserved : goal.loop-record-preserved
loop-record-preserved g c =
    let l = c.loop-record in
    record {
      can = search rules;
      finite = search rules;
      header = l.invariant.header;
      longer = l.invariant.longer;
      within = l.invariant.within;
      written = rw (nows-more l.yielded c.in-Some.record) (list_skips c.args.limit c.args.bytes.now.items (nows l.yielded) c.in-Some.record.now l.bytes.items l.count l.ending c.in_default.not-Whole l.invariant.written);
      run = rw (nows-more l.yielded c.in-Some.record) (run_skips c.args.limit (nows l.yielded) c.in-Some.record.now c.args.bytes.now.items l.bytes.items l.bytes.items c.args.table.now l.table l.table l.count l.invariant.written.counted l.invariant.run refl refl);
      noted = l.invariant.noted;
    }
