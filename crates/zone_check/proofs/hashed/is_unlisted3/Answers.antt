use Rattle.std.proofs.Common.{◌≡◌, ◌↔◌, ◌∙◌, IsTrue, ℕ, List, Some, option_map, refl, sym, ap, subst}
use Rattle.std.specs.List.{Contains}
use Rattle.zone_check.proofs.HashedAnswers.{hash_lower, unlisted_is}
use Rattle.zone_check.proofs.SignedAnswers.{any_is}
use Rattle.zone_check.proofs.Walks.{refused}
use Rattle.zone_check.specs.HashedZones.{nsec3_at}
use Rattle.zone_check.specs.SignedZones.{IsListed}
use Rattle.zone_denials.specs.Nsec3.{hash_of}
use Rattle.zone_denials.specs.Nsec3Data.{hashing_by, nsec3_by}
use Rattle.zone_check.proofs.hashed.is_unlisted3.Goals as goal

pub returns-in-Some : goal.returns-in-Some
returns-in-Some c =
    let zone = c.args.zone.now in
    let by = hashing_by c.args.by.now in
    let r = c.args.record.now in
    let t = c.record_type-record_type.result in
    let digest = c.hash-digest.result in
    let listed : IsListed zone r.name t = c.in_ok-is_listed.ensures.0 c.if-not-branch.false in
    let any : IsTrue c.contains.result ↔ Contains c.as_slice.result.now t = any_is _ t (λ y. refl) c.as_slice.result.now c.contains.result c.contains.ensures.value in
    let says : nsec3_at zone (hash_of by r.name) ≡ Some (nsec3_by digest c.in-Some.data) = ap (nsec3_at zone) (sym (c.hash-digest.ensures ∙ hash_lower by r.name c.in_ok-name.name c.in_ok-name.ensures)) ∙ sym c.in_ok-data.ensures ∙ ap (option_map (nsec3_by digest)) c.in-Some.is in
    unlisted_is zone by r (nsec3_by digest c.in-Some.data) c.contains.result (λ o. refused c.in_ok-owns.field-0 (c.in_ok-owns.ensures.1 o) c.if-branch.false)
    (subst (IsListed zone r.name) c.record_type-record_type.ensures listed) says
    (subst (λ (u : ℕ). IsTrue c.contains.result ↔ Contains c.in-Some.data.types.items u) c.record_type-record_type.ensures (subst (λ (ts : List ℕ). IsTrue c.contains.result ↔ Contains ts t) c.as_slice.ensures.value any))
