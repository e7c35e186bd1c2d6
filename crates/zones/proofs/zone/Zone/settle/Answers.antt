use Rattle.std.proofs.Common.{ap}
use Rattle.durable_updates.specs.Holding.{ZoneInMemory}
use Rattle.zones.proofs.KeptOverviews.{journal_changed}
use Rattle.zones.proofs.zone.Zone.settle.Goals as goal

pub invariant_of-self-2 : goal.invariant_of-self-2
invariant_of-self-2 g c = journal_changed c.self.inside.kept c.in-Journal.zone c.settle.new.self c.self.inside.overview c.in-Journal.is (ap (λ (z : ZoneInMemory g.row.V.Denot). z.updatable) c.settle.ensures.others) c.self.invariant
