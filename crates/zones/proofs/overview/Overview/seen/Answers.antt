-- By the origin and the sets that were read.
use Rattle.std.proofs.Common.{subst}
use Rattle.std.specs.Prelude.{◌↔◌, IsTrue}
use Rattle.zone_answers.specs.Zones.{AreOwners}
use Rattle.zones.proofs.overview.Overview.seen.Goals as goal

pub returns-clause-owned : goal.returns-clause-owned
returns-clause-owned c =
    subst (λ o. IsTrue c.are_owners.result ↔ AreOwners o c.args.zone.now.sets) c.origin-2.ensures
    (subst (λ s. IsTrue c.are_owners.result ↔ AreOwners c.origin-2.result.now s) c.records-2.ensures.sets c.are_owners.ensures)
