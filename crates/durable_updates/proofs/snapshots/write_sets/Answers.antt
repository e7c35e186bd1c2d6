-- One set more is said.
use Rattle.std.proofs.Common.{◌≡◌, ◌∙◌, ◌++◌, ℕ, List, ap, append_assoc, subst, sym}
use Rattle.std.specs.declared.alloc.Global.{Global}
use Rattle.std.specs.declared.rc.Rc.{Rc}
use Rattle.wire_messages.specs.declared.rr.rdata.RData.{RData}
use Rattle.wire_messages.specs.declared.rr.record.Record.{Record}
use Rattle.wire_messages.specs.declared.rr.rr_key.RrKey.{RrKey}
use Rattle.hickory_base.specs.declared.zone_store.record_set.RecordSet.{RecordSet}
use Rattle.hickory_base.specs.zone_store.ZoneSets.{shared_sets, zone_records}
use Rattle.journal.specs.Read.{contents}
use Rattle.durable_updates.specs.Snapshots.{Say}
use Rattle.durable_updates.proofs.Recalled.{say_more}
use Rattle.durable_updates.proofs.snapshots.write_sets.Goals as goal

pub loop-set-preserved : goal.loop-set-preserved
loop-set-preserved c =
    let was = c.loop-set.invariant in
    let records : List (Record RData) = c.records.result.now in
    let behind : List (Record RData) = zone_records (shared_sets c.next.new.self) in
    let value : c.in-Some.set.now.value ≡ c.records.result.now = sym (c.records.ensures.value ∙ c.deref.ensures) in
    let step : zone_records (shared_sets c.loop-set.set-iterator) ≡ c.records.result.now ++ zone_records (shared_sets c.next.new.self) =
    ap (λ (es : List (RrKey × Rc RecordSet Global)). zone_records (shared_sets es)) c.in-Some.ensures.steps ∙ ap (λ (l : List (Record RData)). l ++ zone_records (shared_sets c.next.new.self)) value in
    let new = c.in_ok-push_records.ensures in (
      was.0 ++ records,
      was.1 ∙ ap (λ (l : List (Record RData)). was.0 ++ l) step ∙ sym (append_assoc was.0 records behind),
      subst (λ (l : List (List ℕ)). Say l (was.0 ++ records)) (sym new.1) (say_more (contents c.loop-set.entries.items) new.0 was.0 records was.2 new.2),
    )
