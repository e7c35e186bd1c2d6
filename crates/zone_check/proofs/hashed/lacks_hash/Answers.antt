use Rattle.std.proofs.Common.{ℕ, List, subst, sym}
use Rattle.std.specs.Prelude.{◌⊎◌}
use Rattle.zone_check.proofs.HashedAnswers.{if_iff}
use Rattle.zone_check.proofs.Walks.{refused}
use Rattle.zone_check.specs.HashedZones.{HasHash, IsOptedOut, LacksHash, MayBeLeftOut}
use Rattle.zone_check.specs.SignedZones.{IsOfZone}
use Rattle.zone_denials.specs.Nsec3Data.{hashing_by}
use Rattle.zone_check.proofs.hashed.lacks_hash.Goals as goal

pub returns : goal.returns
returns c =
    let zone = c.args.zone.now in
    let by = hashing_by c.args.by.now in
    let owner = c.args.owner.now in
    let name = c.args.name.now in
    let of_zone : IsOfZone zone name = subst (IsOfZone zone) c.as_name.ensures.name (c.in_ok-is_of_zone.ensures.0 c.if-not-branch.false) in
    if_iff c.is_kept.result ((¬ (IsOptedOut zone c.hash-digest.result)) ⊎ (¬ (MayBeLeftOut zone owner))) (LacksHash zone by owner name)
    (λ kept. record {
      of_zone = of_zone;
      none = λ h. refused c.has_hash.result (c.has_hash.ensures.1 (subst (HasHash zone) (sym c.hash-digest.ensures) h)) c.if-has_hash.false;
      kept = subst (λ (h : List ℕ). (¬ (IsOptedOut zone h)) ⊎ (¬ (MayBeLeftOut zone owner))) c.hash-digest.ensures kept;
    })
    (λ lacks. subst (λ (h : List ℕ). (¬ (IsOptedOut zone h)) ⊎ (¬ (MayBeLeftOut zone owner))) (sym c.hash-digest.ensures) lacks.kept) c.is_kept.ensures
