use Rattle.std.proofs.Common.{◌≡◌, true, rules}
use Rattle.wire_names.specs.rr.domain.NameOrder.{name_eq}
use Rattle.hickory_base.proofs.lemmas.zone_store.SoaAsked.{found_alike, name_itself, of_lent}
use Rattle.hickory_base.specs.zone_store.ZoneAnswers.{found, zone_answer}
use Rattle.hickory_base.proofs.zone_store.in_memory.InMemoryZoneHandler.soa_asked.Goals.{else-value-via-then-value+else-eq, else-value-via-else-value}
use Rattle.hickory_base.proofs.zone_store.in_memory.InMemoryZoneHandler.soa_asked.Goals as goal

pub returns-then-eq-clause-asked : goal.returns-then-eq-clause-asked
returns-then-eq-clause-asked c =
    let zone = c.args.self.now in
    let name = c.args.name.now in
    let soa : c.args.record_type ≡ 6 = search rules in
    let same : name_eq name zone.origin ≡ true = search rules in
    of_lent c.soa_set.result (λ records. zone_answer zone.sets name c.args.record_type ≡ found records) (found_alike name zone.origin c.args.record_type zone.sets _ soa same c.soa_set.ensures)

pub returns-else-value-clause-given : goal.returns-else-value-clause-given
returns-else-value-clause-given c = λ same soa. elim c.else-value.branch [
  | else-value-via-then-value+else-eq w ↦
      let itself : name_eq c.args.name.now c.args.self.now.origin ≡ true = rw same (name_itself c.args.self.now.origin) in
      absurd (search rules)
  | else-value-via-else-value w ↦ absurd (search rules)
]
