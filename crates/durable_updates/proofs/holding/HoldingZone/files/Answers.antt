-- The journal of the zone, and the spare one.
use Rattle.std.proofs.Common.{IfSome, List, None, Some, Vec, ℕ, sym, subst}
use Rattle.std.specs.declared.alloc.Global.{Global}
use Rattle.journal.specs.Read.{contents}
use Rattle.durable_updates.specs.Holding.{AreFilesOf, ZoneInMemory}
use Rattle.durable_updates.specs.Recorded.{IsNext}
use Rattle.durable_updates.proofs.HeldZones.{nothing_held}
use Rattle.durable_updates.proofs.holding.HoldingZone.files.Goals as goal

pub returns-in-Some : goal.returns-in-Some
returns-in-Some g c =
    subst (λ (z : ZoneInMemory g.row.V.Denot). AreFilesOf g.D.Disk z.holds z.updatable.zone c.disk.result.now (Some c.disk-in-Some.result.now)) c.self.view_is (record {
      journal = c.self.inside.journal;
      in_file = sym c.disk.ensures;
      durable = λ none. nothing_held g.D.Disk (λ (entries : Vec (Vec ℕ Global) Global). contents entries.items) c.self.inside.held c.self.inside.zone.zone c.self.inside.journal none c.self.invariant.0;
      spare = (c.in-Some.spare.journal, sym c.disk-in-Some.ensures, (subst (λ o. IfSome o (λ s. IsNext g.D.Disk c.self.inside.journal s.journal s.generation)) c.in-Some.is c.self.invariant.1).is_spare);
    })

pub returns-in-None : goal.returns-in-None
returns-in-None g c =
    subst (λ (z : ZoneInMemory g.row.V.Denot). AreFilesOf g.D.Disk z.holds z.updatable.zone c.disk-in-None.result.now None) c.self.view_is (record {
      journal = c.self.inside.journal;
      in_file = sym c.disk-in-None.ensures;
      durable = λ none. nothing_held g.D.Disk (λ (entries : Vec (Vec ℕ Global) Global). contents entries.items) c.self.inside.held c.self.inside.zone.zone c.self.inside.journal none c.self.invariant.0;
      spare = tt;
    })
