use Rattle.wire_writing.proofs.serialize.writing.list_encoder.drain.Given as goal

abbrev pub invariant-loop-record : goal.invariant-loop-record
invariant-loop-record g l = record {
  can : (goal.iterator-loop-record g).can_next l._record-iterator;
  finite : (goal.iterator-loop-record g).is_finite l._record-iterator;
}
