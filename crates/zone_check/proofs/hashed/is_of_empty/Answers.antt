use Rattle.zone_check.proofs.HashedAnswers.{if_iff}
use Rattle.zone_check.specs.Findings.{IsFoundOfEmpty}
use Rattle.zone_check.specs.HashedZones.{IsEmptyAnd}
use Rattle.zone_denials.specs.Nsec3Data.{hashing_by}
use Rattle.zone_check.proofs.hashed.is_of_empty.Goals as goal

pub returns : goal.returns
returns c =
    let zone = c.args.zone.now in
    let by = hashing_by c.args.by.now in
    if_iff c.is_if_empty.result (IsFoundOfEmpty c.args.kind zone by c.args.owner.now c.args.name.now) (IsEmptyAnd zone (IsFoundOfEmpty c.args.kind zone by c.args.owner.now) c.args.name.now)
    (λ is. record { empty = c.in_ok-owns_nothing.ensures.0 c.if-not-branch.false; is = is }) (λ e. e.is) c.is_if_empty.ensures
