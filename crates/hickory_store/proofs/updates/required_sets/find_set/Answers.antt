use Rattle.std.proofs.Common.{ℕ, ap, ◌∙◌}
use Rattle.wire_names.specs.rr.domain.DomainName.{DomainName}
use Rattle.wire_names.specs.rr.domain.NameOrder.{lower_name}
use Rattle.wire_messages.specs.rr.RecordData.{type_of}
use Rattle.hickory_base.specs.zone_store.ZoneRecords.{existing, rrset}
use Rattle.hickory_base.specs.zone_store.ZoneSets.{zone_records}
use Rattle.wire_messages.specs.declared.rr.rr_key.RrKey.{RrKey}
use Rattle.hickory_store.proofs.lemmas.updates.NamedSets.{rrset_at}
use Rattle.hickory_store.proofs.updates.required_sets.find_set.Goals as goal

pub returns : goal.returns
returns c =
    let records = zone_records c.args.zone.now.sets in
    let r = c.args.r.now in
    c.record_set.ensures
    ∙ ap (λ (k : RrKey). existing (rrset records k.name k.record_type)) c.new-key.ensures
    ∙ ap (λ (n : DomainName). existing (rrset records n c.record_type.result)) c.in_ok-name.ensures
    ∙ ap (λ (t : ℕ). existing (rrset records (lower_name r.name) t)) c.record_type.ensures
    ∙ ap existing (rrset_at r.name (type_of r.rdata) records)
