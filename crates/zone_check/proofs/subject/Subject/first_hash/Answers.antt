use Rattle.std.proofs.Common.{ℕ, List, subst}
use Rattle.std.specs.Prelude.{MatchOption}
use Rattle.std.specs.Option.{option_copied}
use Rattle.zone_check.proofs.HashKeys.{match_first}
use Rattle.zone_check.specs.CheckedZones.{CheckedZone}
use Rattle.zone_check.specs.HashedZones.{HasHash, IsFirst}
use Rattle.zone_check.proofs.subject.Subject.first_hash.Goals as goal

pub returns : goal.returns
returns c = subst (λ (z : CheckedZone). MatchOption (option_copied c.first_hash.result) ((other : List ℕ) → ¬ (HasHash z other)) (IsFirst (HasHash z))) c.self.view_is (match_first c.self.inside.hashes (record { origin = c.self.inside.origin; records = c.self.inside.records.now; previous = c.self.inside.previous; time = c.self.inside.time }) c.self.invariant.9 (option_copied c.first_hash.result) c.first_hash.ensures)
