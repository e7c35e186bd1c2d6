-- The keys are those of the map.
use Rattle.std.proofs.Common.{◌≡◌, ap, ◌∙◌}
use Rattle.std.proofs.lemmas.Result.{IfOk-weaker}
use Rattle.hickory_base.specs.zone_store.ZoneSets.{keys_at, sets_of}
use Rattle.wire_messages.specs.declared.rr.rr_key.RrKey.{RrKey}
use Rattle.hickory_base.proofs.zone_store.in_memory.InMemoryZoneHandler.keys_of_name.Goals as goal

pub returns : goal.returns
returns c =
    let sets = sets_of c.self.inside.records in
    rw (← c.self.view_is) (IfOk-weaker c.keys_of_name.result _ (λ keys. keys.items ≡ keys_at c.args.name sets)
    (λ keys h. h ∙ ap (λ (k : RrKey). keys_at k.name sets) c.new-first.ensures)
    c.keys_of_name.ensures)
