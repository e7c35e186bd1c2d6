use Rattle.std.proofs.Common.{Vec, Global}
use Rattle.hickory_catalog.proofs.lemmas.zones.PlacesInOrder.{taken_at}
use Rattle.hickory_catalog.proofs.zones.Zones.remove.Goals as goal

pub returns : goal.returns
returns g c =
    taken_at (λ (chain : Vec g.row.H.Denot Global). chain.items) c.remove.result c.args.name.now c.self.inside.chains.entries c.remove.new.self.entries c.args.self.now
    c.self.view_is c.remove.ensures.value c.self.invariant c.remove.ensures.entries
