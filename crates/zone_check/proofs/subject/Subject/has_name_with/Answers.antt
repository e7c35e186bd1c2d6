use Rattle.std.proofs.Common.{◌≡◌, ◌↔◌, ◌∙◌, Option, Some, IsTrue, sym, subst}
use Rattle.std.specs.Prelude.{MatchOption, ⊤}
use Rattle.zone_check.specs.CheckedZones.{CheckedZone}
use Rattle.zone_check.specs.HashedZones.{IsOfName, hashing_of}
use Rattle.zone_check.specs.Indexes.{HasNames}
use Rattle.zone_denials.specs.Nsec3.{Hashing}
use Rattle.zone_check.proofs.subject.Subject.has_name_with.Goals as goal

pub returns : goal.returns
returns c = subst (λ (z : CheckedZone). (by : Hashing) → hashing_of z ≡ Some by → (IsTrue c.contains_key.result ↔ IsOfName z.origin z.records by z.records c.args.hash.now)) c.self.view_is (λ by is.
    let s = c.self.inside in
    let has : HasNames s.origin s.records.now by s.records.now s.names = subst (λ (o : Option Hashing). MatchOption o ⊤ (λ b. HasNames s.origin s.records.now b s.records.now s.names)) is c.self.invariant.10 in
    (λ t. (has c.args.hash.now).0 (sym c.contains_key.ensures ∙ t), λ x. c.contains_key.ensures ∙ (has c.args.hash.now).1 x))
