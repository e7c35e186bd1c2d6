-- The zone of the records.
use Rattle.std.proofs.Common.{◌≡◌, ◌∙◌, List, ap, map}
use Rattle.wire_messages.specs.declared.rr.rdata.RData.{RData}
use Rattle.wire_messages.specs.declared.rr.record.Record.{Record}
use Rattle.wire_messages.specs.declared.rr.rr_key.RrKey.{RrKey}
use Rattle.hickory_base.specs.zone_store.ZoneSets.{zone_records}
use Rattle.hickory_store.proofs.lemmas.updates.DataTypes.{one_type}
use Rattle.hickory_store.specs.updates.Identity.{ttl_at}
use Rattle.durable_updates.proofs.Recalled.{made_same}
use Rattle.zone_import.specs.Imports.{numbered}
use Rattle.zone_import.proofs.copies.with_serial.Goals as goal

pub returns-in-Ok : goal.returns-in-Ok
returns-in-Ok c =
    let records : c.in_ok-records.records.items ≡ map (numbered c.args.serial) (zone_records c.args.zone.now.sets) =
    c.in_ok-records.ensures ∙ ap (λ (s : List (RrKey × List (Record RData))). map (numbered c.args.serial) (zone_records s)) c.records.ensures.sets in
    λ q. made_same c.identities.ensures.records (one_type c.record_comparisons.ensures.rdata) c.in_ok-records.records.items c.in-Ok.made.sets c.records-in-Ok.ensures.zone c.records-in-Ok.ensures.ordered c.in-Ok.ensures.zone.sets q
    ∙ ap (λ (l : List (Record RData)). ttl_at l q) records
