-- One set more is the same.
use Rattle.std.proofs.Common.{◌≡◌, ◌∙◌, ◌++◌, [], List, ap, append_assoc, refl, rules, subst, sym, true}
use Rattle.std.specs.declared.alloc.Global.{Global}
use Rattle.std.specs.declared.rc.Rc.{Rc}
use Rattle.wire_messages.specs.declared.rr.rdata.RData.{RData}
use Rattle.wire_messages.specs.declared.rr.record.Record.{Record}
use Rattle.wire_messages.specs.declared.rr.rr_key.RrKey.{RrKey}
use Rattle.hickory_base.specs.declared.zone_store.record_set.RecordSet.{RecordSet}
use Rattle.hickory_base.specs.zone_store.ZoneSets.{IsZone, shared_sets, zone_records}
use Rattle.zone_import.proofs.SameLists.{first_set, same_both}
use Rattle.zone_import.proofs.sameness.are_same_sets.Goals as goal

abbrev Entries : Type 0
Entries = List (RrKey × Rc RecordSet Global)

pub loop-set-init : goal.loop-set-init
loop-set-init c =
    let sets : c.into_iter-set-iterator.result ≡ c.args.sets.now.entries = c.into_iter-set-iterator.ensures.into_iter_gives.0 in
    let others : c.iter-left.result ≡ c.args.others.now.entries = c.iter-left.ensures.rest in (
      [],
      [],
      ap (λ (es : Entries). zone_records (shared_sets es)) (sym sets),
      ap (λ (es : Entries). zone_records (shared_sets es)) (sym others),
      (λ q. refl),
      subst (λ (es : Entries). IsZone (shared_sets es)) (sym sets) c.requires.0,
      subst (λ (es : Entries). IsZone (shared_sets es)) (sym others) c.requires.1,
    )

pub loop-set-preserved : goal.loop-set-preserved
loop-set-preserved c =
    let was = c.loop-set.invariant in
    let records : List (Record RData) = c.records.result.now in
    let others : List (Record RData) = c.records-in-loop-set.result.now in
    let value : c.in-Some.set.now.value ≡ records = sym (c.records.ensures.value ∙ c.deref.ensures) in
    let value_too : c.in-Some-next.other.now.value ≡ others = sym (c.records-in-loop-set.ensures.value ∙ c.deref-in-loop-set.ensures) in
    let behind : List (Record RData) = zone_records (shared_sets c.next.new.self) in
    let behind_too : List (Record RData) = zone_records (shared_sets c.next-in-loop-set.new.self) in
    let step : zone_records (shared_sets c.loop-set.set-iterator) ≡ records ++ behind =
    first_set c.loop-set.set-iterator c.next.new.self (c.in-Some.field-0-0.now, c.in-Some.set.now) records c.in-Some.ensures.steps value in
    let step_too : zone_records (shared_sets c.loop-set.left) ≡ others ++ behind_too =
    first_set c.loop-set.left c.next-in-loop-set.new.self (c.in-Some-next.field-0-0.now, c.in-Some-next.other.now) others c.in-Some-next.ensures.steps value_too in
    let yes : c.in_ok-is_same_set.field-0 ≡ true = search rules in (
      was.0 ++ records,
      was.1 ++ others,
      was.2 ∙ ap (λ (l : List (Record RData)). was.0 ++ l) step ∙ sym (append_assoc was.0 records behind),
      was.3 ∙ ap (λ (l : List (Record RData)). was.1 ++ l) step_too ∙ sym (append_assoc was.1 others behind_too),
      same_both was.0 was.1 records others was.4 (c.in_ok-is_same_set.ensures yes),
      (subst (λ (es : Entries). IsZone (shared_sets es)) c.in-Some.ensures.steps was.5).1,
      (subst (λ (es : Entries). IsZone (shared_sets es)) c.in-Some-next.ensures.steps was.6).1,
    )
