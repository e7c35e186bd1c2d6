-- The places of the servers at the cuts so far are told.
use Rattle.std.proofs.Common.{take}
use Rattle.zone_answers.specs.representation.TopCuts.{AreHostsOf}
use Rattle.zone_answers.proofs.cuts.Cuts.hosts.Given as goal

abbrev pub invariant-loop-servers : goal.invariant-loop-servers
invariant-loop-servers l = AreHostsOf l.origin l.sets (take l.servers-index l.servers-items) l.hosts.items
