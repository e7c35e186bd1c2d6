use Rattle.std.proofs.Common.{◌≡◌, ◌↔◌, ◌∙◌, IfOk, IsTrue, ℕ, List, Option, Some, option_map, sym, ap, subst}
use Rattle.std.specs.Prelude.{MatchOption}
use Rattle.wire_names.specs.rr.domain.DomainName.{DomainName}
use Rattle.zone_check.specs.HashedZones.{nsec3_at}
use Rattle.zone_check.specs.SignedZones.{HasIdleType}
use Rattle.zone_denials.specs.Nsec3.{Nsec3, hash_of}
use Rattle.zone_denials.specs.Nsec3Data.{hashing_by, nsec3_by}
use Rattle.zone_check.proofs.hashed.lists_idle_type_of.Goals as goal

pub returns-in-Some : goal.returns-in-Some
returns-in-Some c =
    let zone = c.args.zone.now in
    let name = c.args.name.now in
    let digest = c.hash-digest.result in
    let says : nsec3_at zone (hash_of (hashing_by c.args.by.now) name) ≡ Some (nsec3_by digest c.in-Some.data) = ap (nsec3_at zone) (sym c.hash-digest.ensures) ∙ sym c.in_ok-data.ensures ∙ ap (option_map (nsec3_by digest)) c.in-Some.is in
    subst (λ (said : Option Nsec3). IfOk c.has_idle_type.result (λ is. IsTrue is ↔ MatchOption said ⊥ (λ n. HasIdleType zone name n.types))) (sym says)
    (subst (λ (ts : List ℕ). IfOk c.has_idle_type.result (λ is. IsTrue is ↔ HasIdleType zone name ts)) c.as_slice.ensures.value
    (subst (λ (d : DomainName). IfOk c.has_idle_type.result (λ is. IsTrue is ↔ HasIdleType zone d c.as_slice.result.now)) c.as_name.ensures.name c.has_idle_type.ensures))
