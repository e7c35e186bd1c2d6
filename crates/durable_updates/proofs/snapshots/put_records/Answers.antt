-- The records of the zone that was made.
use Rattle.std.proofs.Common.{◌≡◌, ◌∙◌, List, ap, subst, sym}
use Rattle.wire_names.specs.rr.domain.DomainName.{DomainName}
use Rattle.wire_messages.specs.declared.rr.rdata.RData.{RData}
use Rattle.wire_messages.specs.declared.rr.record.Record.{Record}
use Rattle.wire_messages.specs.declared.rr.rr_key.RrKey.{RrKey}
use Rattle.hickory_base.specs.zone_store.ZoneAnswers.{MemoryZone}
use Rattle.hickory_base.specs.zone_store.ZoneSets.{zone_records}
use Rattle.hickory_store.specs.updates.Identity.{ttl_at}
use Rattle.hickory_store.specs.updates.UpdateLaws.{HasOneSoa}
use Rattle.durable_updates.proofs.snapshots.put_records.Goals as goal

pub returns-clause-records : goal.returns-clause-records
returns-clause-records g c = λ q.
    ap (λ (s : List (RrKey × List (Record RData))). ttl_at (zone_records s) q) (ap (λ (z : MemoryZone). z.sets) c.replace_records.ensures ∙ c.take_records-sets.ensures.sets) ∙ c.in_ok-made.ensures.same q

pub returns-clause-soa : goal.returns-clause-soa
returns-clause-soa g c =
    let sets : c.replace_records.new.self.sets ≡ c.in_ok-made.made.sets = ap (λ (z : MemoryZone). z.sets) c.replace_records.ensures ∙ c.take_records-sets.ensures.sets in
    let origin : c.replace_records.new.self.origin ≡ c.args.zone.now.zone.origin = ap (λ (z : MemoryZone). z.origin) c.replace_records.ensures ∙ ap (λ (z : MemoryZone). z.origin) c.in_memory_mut.ensures.value in
    subst (λ (o : DomainName). HasOneSoa o (zone_records c.replace_records.new.self.sets)) (sym origin)
    (subst (λ (s : List (RrKey × List (Record RData))). HasOneSoa c.args.zone.now.zone.origin (zone_records s)) (sym sets) c.in_ok-made.ensures.soa)
