use Rattle.std.proofs.Common.{sym, ap, ◌∙◌}
use Rattle.std.specs.List.{list_any}
use Rattle.hickory_base.specs.zone_store.ZoneSets.{has_name, sets_of}
use Rattle.wire_messages.specs.declared.rr.rr_key.RrKey.{RrKey}
use Rattle.hickory_base.proofs.lemmas.zone_store.ZoneByName.{name_found}
use Rattle.hickory_base.proofs.zone_store.in_memory.InMemoryZoneHandler.is_in_use.Goals as goal

pub returns : goal.returns
returns c =
    let key : _ = ap (λ (k : RrKey). list_any (λ e. has_name k.name e.0) (sets_of c.self.inside.records)) c.new-first.ensures in
    rw (← c.self.view_is) (c.is_in_use.ensures ∙ key ∙ sym (name_found c.args.name _ c.self.invariant.1))
