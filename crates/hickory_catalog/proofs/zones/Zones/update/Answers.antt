use Rattle.std.proofs.Common.{Vec, Global, rules}
use Rattle.hickory_catalog.proofs.lemmas.updates.UpdatedZones.{handler_answered, no_handler, no_zone}
use Rattle.hickory_catalog.proofs.zones.Zones.update.Goals as goal
use Rattle.hickory_catalog.proofs.zones.Zones.update.Goals.{in-None, in-Some-update_chain}

pub returns-in_default : goal.returns-in_default
returns-in_default g c =
    (no_zone (λ (chain : Vec g.row.H.Denot Global). chain.items) c.args.name.now c.self.inside.chains.entries c.args.self.now c.self.view_is c.in_default.ensures.value, search rules)

pub returns : goal.returns
returns g c =
    let written = (c.get_mut.follows.holds c.update_chain.new.chain).0 in
    elim c.match-update_chain.branch [
      | in-None w ↦
          rw w.result-is (no_handler (λ (chain : Vec g.row.H.Denot Global). chain.items) c.args.name.now c.self.inside.chains.entries c.args.self.now c.self.view_is
          g.H.ZoneHandler (c.args.request.now, c.args.now) c.in-Some.chain.now c.update_chain.new.chain _ c.in-Some.ensures.value c.self.invariant written (rw w.in-None.is at c.update_chain.ensures))
      | in-Some-update_chain w ↦
          rw w.result-is (handler_answered (λ (chain : Vec g.row.H.Denot Global). chain.items) c.args.name.now c.self.inside.chains.entries c.args.self.now c.self.view_is
          g.H.ZoneHandler (c.args.request.now, c.args.now) c.in-Some.chain.now c.update_chain.new.chain _ c.in-Some.ensures.value c.self.invariant written _ _ (rw w.in-Some-update_chain.is at c.update_chain.ensures))
    ]
