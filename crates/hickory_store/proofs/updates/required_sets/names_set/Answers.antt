use Rattle.std.proofs.Common.{sym, ◌∙◌}
use Rattle.std.specs.Prelude.{◌==◌}
use Rattle.wire_messages.specs.rr.RecordData.{type_of}
use Rattle.hickory_base.specs.zone_store.ZoneRecords.{is_of}
use Rattle.hickory_store.proofs.lemmas.updates.NamedSets.{any_filter}
use Rattle.hickory_store.proofs.updates.required_sets.names_set.Goals as goal

pub returns : goal.returns
returns c =
    let r = c.args.r.now in
    c.require_of_set.ensures ∙ sym (any_filter (λ q. q.dns_class == 1) (is_of r.name (type_of r.rdata)) c.args.prerequisites.now)
