use Rattle.std.proofs.Common.{Vec, Global}
use Rattle.hickory_catalog.proofs.lemmas.zones.Lookups.{in_order}
use Rattle.hickory_catalog.proofs.zones.Zones.in_order.Goals as goal

pub returns : goal.returns
returns g c = in_order (λ (chain : Vec g.row.H.Denot Global). chain.items) c.self.inside.chains.entries c.args.self.now c.self.view_is c.self.invariant
