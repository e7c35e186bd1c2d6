use Rattle.std.proofs.Common.{Vec, Global}
use Rattle.std.specs.Map.Iter.{deref_pair}
use Rattle.hickory_catalog.proofs.lemmas.zones.LastUpTo.{last_lent}
use Rattle.hickory_catalog.proofs.lemmas.zones.Lookups.{in_order}
use Rattle.hickory_catalog.proofs.zones.Zones.last_up_to.Goals as goal

pub returns-clause-last : goal.returns-clause-last
returns-clause-last g c =
    last_lent (λ (chain : Vec g.row.H.Denot Global). chain.items) deref_pair c.args.name.now c.self.inside.chains c.args.self.now c.range.result c.next_back.new.self c.next_back.result
    c.self.view_is (c.range.ensures.between tt) (c.range.ensures.in_range tt) c.next_back.ensures.steps

pub returns-clause-ordered : goal.returns-clause-ordered
returns-clause-ordered g c = in_order (λ (chain : Vec g.row.H.Denot Global). chain.items) c.self.inside.chains.entries c.args.self.now c.self.view_is c.self.invariant
