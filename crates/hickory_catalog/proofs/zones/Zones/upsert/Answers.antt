use Rattle.std.proofs.Common.{Vec, Global, rules}
use Rattle.hickory_catalog.proofs.lemmas.zones.PlacesInOrder.{put_at}
use Rattle.hickory_catalog.proofs.zones.Zones.upsert.Goals as goal
use Rattle.hickory_catalog.proofs.zones.Zones.upsert.Goals.{in-Ok, in-Err}

pub returns-clause-changed : goal.returns-clause-changed
returns-clause-changed g c =
    elim c.match-insert.branch [
      | in-Ok w ↦
          put_at (λ (chain : Vec g.row.H.Denot Global). chain.items) c.match-insert.result w.in-Ok.old c.args.name c.self.inside.chains.entries c.insert.new.self.entries c.args.self.now c.args.handlers
          w.result-is c.self.view_is w.in-Ok.ensures.old c.self.invariant w.in-Ok.ensures.entries
      | in-Err w ↦ search rules
    ]
