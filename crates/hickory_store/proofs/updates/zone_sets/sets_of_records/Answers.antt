-- The record goes behind the front.
use Rattle.std.proofs.Common.{◌∙◌, ◌∷◌, [], ◌++◌, List, sym, ap}
use Rattle.std.specs.Vec.Iter.{into_iter_items}
use Rattle.wire_messages.specs.declared.rr.rdata.RData.{RData}
use Rattle.wire_messages.specs.declared.rr.record.Record.{Record}
use Rattle.hickory_store.proofs.lemmas.file.SetsOfRecords.{append_one}
use Rattle.hickory_store.proofs.updates.zone_sets.sets_of_records.Goals as goal

pub loop-q-preserved : goal.loop-q-preserved
loop-q-preserved c =
    let front : List (Record RData) = c.loop-q.invariant.2 in (
      tt,
      tt,
      front ++ c.in-Some.q ∷ [],
      append_one front c.in-Some.q (into_iter_items c.next.new.self) ∙ ap (λ (xs : List (Record RData)). front ++ xs) (sym c.in-Some.ensures.steps.0) ∙ c.loop-q.invariant.3,
      c.in_ok-put_record.ensures front c.loop-q.invariant.4,
    )
