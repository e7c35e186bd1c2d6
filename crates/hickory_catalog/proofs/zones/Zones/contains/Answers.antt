use Rattle.std.proofs.Common.{Vec, Global}
use Rattle.hickory_catalog.proofs.lemmas.zones.Lookups.{has_zone}
use Rattle.hickory_catalog.proofs.zones.Zones.contains.Goals as goal

pub returns : goal.returns
returns g c = has_zone (λ (chain : Vec g.row.H.Denot Global). chain.items) c.args.name.now c.self.inside.chains.entries c.args.self.now _ c.self.view_is c.contains_key.ensures
