-- The addresses of the servers at the cuts so far are told.
use Rattle.std.proofs.Common.{take}
use Rattle.hickory_base.specs.zone_store.ZoneSets.{sets_of}
use Rattle.zone_answers.specs.representation.TopCuts.{AreGlueOf}
use Rattle.zone_answers.proofs.cuts.Cuts.glue.Given as goal

abbrev pub invariant-loop-servers : goal.invariant-loop-servers
invariant-loop-servers l = AreGlueOf (record { origin = l.zone.origin.now; sets = sets_of l.zone.sets.now }) (take l.servers-index l.servers-items) l.glue.items
