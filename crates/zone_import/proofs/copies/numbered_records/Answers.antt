-- One set more is copied.
use Rattle.std.proofs.Common.{◌≡◌, ◌∙◌, ◌++◌, List, ap, append_assoc, map, sym}
use Rattle.wire_messages.specs.declared.rr.rdata.RData.{RData}
use Rattle.wire_messages.specs.declared.rr.record.Record.{Record}
use Rattle.hickory_base.specs.zone_store.ZoneSets.{shared_sets, zone_records}
use Rattle.zone_import.specs.Imports.{numbered}
use Rattle.zone_import.proofs.SameLists.{first_set, map_two}
use Rattle.zone_import.proofs.copies.numbered_records.Goals as goal

pub loop-set-preserved : goal.loop-set-preserved
loop-set-preserved c =
    let was = c.loop-set.invariant in
    let records : List (Record RData) = c.records.result.now in
    let value : c.in-Some.set.now.value ≡ records = sym (c.records.ensures.value ∙ c.deref.ensures) in
    let step : zone_records (shared_sets c.loop-set.set-iterator) ≡ records ++ zone_records (shared_sets c.next.new.self) =
    first_set c.loop-set.set-iterator c.next.new.self (c.in-Some.field-0-0.now, c.in-Some.set.now) records c.in-Some.ensures.steps value in (
      was.0 ++ records,
      was.1 ∙ ap (λ (l : List (Record RData)). was.0 ++ l) step ∙ sym (append_assoc was.0 records (zone_records (shared_sets c.next.new.self))),
      c.in_ok-push_numbered.ensures ∙ ap (λ (l : List (Record RData)). l ++ map (numbered c.args.serial) records) was.2 ∙ sym (map_two (numbered c.args.serial) was.0 records),
    )
