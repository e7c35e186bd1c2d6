use Rattle.std.proofs.Common.{ap, ◌∙◌}
use Rattle.std.specs.List.{list_any}
use Rattle.wire_names.specs.rr.domain.DomainName.{DomainName}
use Rattle.hickory_base.specs.zone_store.ZoneRecords.{is_at}
use Rattle.hickory_base.specs.zone_store.ZoneSets.{zone_records}
use Rattle.hickory_store.proofs.lemmas.updates.NamedSets.{any_at}
use Rattle.hickory_store.proofs.updates.prerequisites.name_is_in_use.Goals as goal

pub returns : goal.returns
returns c =
    let records = zone_records c.args.zone.now.sets in
    c.is_in_use.ensures ∙ ap (λ (n : DomainName). list_any (is_at n) records) c.in_ok-new.ensures ∙ any_at c.args.r.now.name records
