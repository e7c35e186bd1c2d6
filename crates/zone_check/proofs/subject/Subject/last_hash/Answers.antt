use Rattle.std.proofs.Common.{ℕ, List, subst}
use Rattle.std.specs.Prelude.{MatchOption}
use Rattle.std.specs.Option.{option_copied}
use Rattle.zone_check.proofs.HashKeys.{match_last}
use Rattle.zone_check.specs.CheckedZones.{CheckedZone}
use Rattle.zone_check.specs.HashedZones.{HasHash, IsLast}
use Rattle.zone_check.proofs.subject.Subject.last_hash.Goals as goal

pub returns : goal.returns
returns c = subst (λ (z : CheckedZone). MatchOption (option_copied c.last_hash.result) ((other : List ℕ) → ¬ (HasHash z other)) (IsLast (HasHash z))) c.self.view_is (match_last c.self.inside.hashes (record { origin = c.self.inside.origin; records = c.self.inside.records.now; previous = c.self.inside.previous; time = c.self.inside.time }) c.self.invariant.9 (option_copied c.last_hash.result) c.last_hash.ensures)
