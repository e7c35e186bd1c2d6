-- The sets hold each record once, so they make a zone.
use Rattle.std.proofs.Common.{◌∙◌, List, ap, subst, sym}
use Rattle.std.specs.List.Sorted.{IsStrictlySortedBy}
use Rattle.wire_messages.specs.rr.RrKeys.{key_cmp}
use Rattle.wire_messages.specs.declared.rr.rdata.RData.{RData}
use Rattle.wire_messages.specs.declared.rr.record.Record.{Record}
use Rattle.hickory_base.specs.zone_store.ZoneAnswers.{MemoryZone}
use Rattle.hickory_base.specs.zone_store.ZoneSets.{sets_of}
use Rattle.hickory_base.proofs.lemmas.zone_store.ZoneByName.{keys-shared}
use Rattle.hickory_store.specs.file.FirstRecords.{first_records}
use Rattle.hickory_store.specs.file.RecordZones.{AreOfZone}
use Rattle.hickory_store.specs.representation.ZoneSets.{HoldsSets}
use Rattle.hickory_store.proofs.lemmas.file.RecordZones.{is_zone, one_soa}
use Rattle.hickory_store.proofs.file.zones.zone_of_records.Goals as goal

pub new-requires-2 : goal.new-requires-2
new-requires-2 c =
    let sets = c.in_ok-sets.sets in
    let holds = subst (λ (rs : List (Record RData)). HoldsSets rs (sets_of sets)) c.in_ok-kept.ensures c.in_ok-sets.ensures in
    let right = subst (AreOfZone c.args.apex.now) c.as_slice.ensures.value c.in_ok-check_records.ensures.ok in
    is_zone c.identities.ensures.records c.args.apex.now c.args.records.items right (sets_of sets)
    (subst (IsStrictlySortedBy key_cmp) (sym (keys-shared sets.entries)) c.len.ensures.ordered) holds

pub returns-clause-zone : goal.returns-clause-zone
returns-clause-zone c =
    let sets = c.in_ok-sets.sets in
    let records : List (Record RData) = c.args.records.items in
    let holds : HoldsSets (first_records records) (sets_of sets) = subst (λ (rs : List (Record RData)). HoldsSets rs (sets_of sets)) c.in_ok-kept.ensures c.in_ok-sets.ensures in
    record {
      right = subst (AreOfZone c.args.apex.now) c.as_slice.ensures.value c.in_ok-check_records.ensures.ok;
      one_soa = one_soa c.args.apex.now records (sets_of sets) holds c.in_ok-check_soa.ensures.ok;
      origin = ap (λ (z : MemoryZone). z.origin) c.new-2.ensures ∙ c.in_ok-origin.ensures;
      kind = ap (λ (z : MemoryZone). z.zone_type) c.new-2.ensures;
      policy = ap (λ (z : MemoryZone). z.axfr_policy) c.new-2.ensures;
      sets = subst (λ (z : MemoryZone). HoldsSets (first_records records) z.sets) (sym c.new-2.ensures) holds;
    }
