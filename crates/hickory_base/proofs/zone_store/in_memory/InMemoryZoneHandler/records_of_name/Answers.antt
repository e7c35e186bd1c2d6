-- The records of a name are those under the keys that have it.
use Rattle.std.proofs.Common.{◌≡◌, sym, ap, ◌∙◌, filter}
use Rattle.std.proofs.lemmas.Result.{IfOk-weaker}
use Rattle.hickory_base.specs.zone_store.ZoneAnswers.{records_at}
use Rattle.hickory_base.specs.zone_store.ZoneRecords.{is_at}
use Rattle.hickory_base.specs.zone_store.ZoneSets.{sets_of, zone_records}
use Rattle.wire_messages.specs.declared.rr.rr_key.RrKey.{RrKey}
use Rattle.hickory_base.proofs.lemmas.zone_store.ZoneByName.{records_found}
use Rattle.hickory_base.proofs.zone_store.in_memory.InMemoryZoneHandler.records_of_name.Goals as goal

pub returns : goal.returns
returns c =
    let sets = sets_of c.self.inside.records in
    rw (← c.self.view_is) (IfOk-weaker c.copies_of_name.result _ (λ all. all.items ≡ filter (is_at c.args.name) (zone_records sets))
    (λ all h. h ∙ ap (λ (k : RrKey). records_at k.name sets) c.new-first.ensures ∙ sym (records_found c.args.name sets c.self.invariant.1))
    c.copies_of_name.ensures)
