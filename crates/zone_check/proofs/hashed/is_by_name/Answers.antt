use Rattle.std.proofs.Common.{sym, subst, inl, inr}
use Rattle.zone_check.proofs.HashedAnswers.{if_iff}
use Rattle.zone_check.proofs.Walks.{refused}
use Rattle.zone_check.specs.Findings.{IsFoundByName, IsFoundOfEmpty, IsFoundOfOwner}
use Rattle.zone_check.specs.HashedZones.{IsAbove}
use Rattle.zone_denials.specs.Nsec3Data.{hashing_by}
use Rattle.zone_check.proofs.hashed.is_by_name.Goals as goal

pub returns : goal.returns
returns c =
    let zone = c.args.zone.now in
    let by = hashing_by c.args.by.now in
    let r = c.args.record.now in
    let k = c.args.kind in
    if_iff c.is_of_above.result (IsAbove zone (IsFoundOfEmpty k zone by r.name) r.name) (IsFoundByName k zone by r)
    (λ a. record { named = λ o. refused c.in_ok-owns.field-0 (c.in_ok-owns.ensures.1 o) c.if-branch.false; is = inr a })
    (λ b. elim b.is [
      | inl own ↦ absurd (refused c.in_ok-is_of_owner.field-0 (c.in_ok-is_of_owner.ensures.1 (subst (IsFoundOfOwner k zone by r.name) (sym c.in_ok-name.ensures) own)) c.if-branch-2.false)
      | inr a ↦ a
    ]) c.is_of_above.ensures
