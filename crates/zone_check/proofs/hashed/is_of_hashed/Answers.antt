use Rattle.std.proofs.Common.{◌↔◌, IfOk, IsTrue, Option, subst}
use Rattle.std.specs.Prelude.{MatchOption}
use Rattle.zone_check.specs.Findings.{IsFoundIfHashed}
use Rattle.zone_denials.specs.Nsec3.{Hashing}
use Rattle.zone_check.proofs.hashed.is_of_hashed.Goals as goal

pub returns-in-Some : goal.returns-in-Some
returns-in-Some c = subst (λ (o : Option Hashing). IfOk c.is_if_hashed.result (λ is. IsTrue is ↔ MatchOption o ⊥ (λ b. IsFoundIfHashed c.args.kind c.args.zone.now b c.args.record.now))) c.in-Some.ensures c.is_if_hashed.ensures
