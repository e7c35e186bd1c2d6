use Rattle.std.proofs.Common.{sym, ◌∙◌}
use Rattle.hickory_base.proofs.lemmas.zone_store.ZoneByName.{rrset_found}
use Rattle.hickory_base.proofs.zone_store.in_memory.InMemoryZoneHandler.record_set.Goals as goal

pub returns : goal.returns
returns c = rw (← c.self.view_is) (c.set_under.ensures ∙ sym (rrset_found c.args.key.now.name c.args.key.now.record_type _ c.self.invariant.2 c.self.invariant.1))
