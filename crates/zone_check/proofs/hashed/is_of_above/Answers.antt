use Rattle.std.proofs.Common.{◌≡◌, ◌<◌, ◌∙◌, length, refl, sym, ap, subst}
use Rattle.wire_names.specs.rr.domain.DomainName.{wire_form}
use Rattle.zone_check.specs.Findings.{IsFoundOfEmpty}
use Rattle.zone_check.specs.HashedZones.{IsEmptyAnd}
use Rattle.zone_denials.specs.Nsec3Data.{hashing_by}
use Rattle.zone_check.proofs.Walks.{Reached, Walk, empty_by, next, not_empty_by, nowhere, reached, refused}
use Rattle.zone_check.proofs.hashed.is_of_above.Goals as goal

pub returns-then-branch : goal.returns-then-branch
returns-then-branch c =
    let owner = c.args.owner.now in
    let here = c.above.name in
    let some : 0 < length here.labels = not_empty_by here.labels c.as_wire.result.now c.is_empty.result (c.as_wire.ensures.labels ∙ ap (λ n. wire_form n.labels) c.as_name.ensures.name) c.is_empty.ensures c.above-test.true in
    let r : Reached (IsEmptyAnd c.args.zone.now (IsFoundOfEmpty c.args.kind c.args.zone.now (hashing_by c.args.by.now) c.args.owner.now)) owner = reached (IsEmptyAnd c.args.zone.now (IsFoundOfEmpty c.args.kind c.args.zone.now (hashing_by c.args.by.now) c.args.owner.now)) owner here c.above.invariant some (subst (IsEmptyAnd c.args.zone.now (IsFoundOfEmpty c.args.kind c.args.zone.now (hashing_by c.args.by.now) c.args.owner.now)) c.remove_first_label.ensures (c.in_ok-is_of_empty.ensures.0 c.if-branch.true)) in
    (λ _. record { count = r.count; above = r.above; is_ancestor = r.within; holds = r.holds }, λ _. refl)

pub above-preserved : goal.above-preserved
above-preserved c =
    let owner = c.args.owner.now in
    let here = c.above.name in
    let some : 0 < length here.labels = not_empty_by here.labels c.as_wire.result.now c.is_empty.result (c.as_wire.ensures.labels ∙ ap (λ n. wire_form n.labels) c.as_name.ensures.name) c.is_empty.ensures c.above-test.true in
    subst (Walk (IsEmptyAnd c.args.zone.now (IsFoundOfEmpty c.args.kind c.args.zone.now (hashing_by c.args.by.now) c.args.owner.now)) owner) (sym c.remove_first_label.ensures) (next (IsEmptyAnd c.args.zone.now (IsFoundOfEmpty c.args.kind c.args.zone.now (hashing_by c.args.by.now) c.args.owner.now)) owner here c.above.invariant some (λ is. refused c.in_ok-is_of_empty.field-0 (c.in_ok-is_of_empty.ensures.1 (subst (IsEmptyAnd c.args.zone.now (IsFoundOfEmpty c.args.kind c.args.zone.now (hashing_by c.args.by.now) c.args.owner.now)) (sym c.remove_first_label.ensures) is)) c.if-branch.false))

pub returns : goal.returns
returns c =
    let owner = c.args.owner.now in
    let here = c.above.name in
    let none : length here.labels ≡ 0 = empty_by here.labels c.as_wire.result.now c.is_empty.result (c.as_wire.ensures.labels ∙ ap (λ n. wire_form n.labels) c.as_name.ensures.name) c.is_empty.ensures c.above-test.false in
    (λ no. absurd (cc), λ a. absurd (nowhere (IsEmptyAnd c.args.zone.now (IsFoundOfEmpty c.args.kind c.args.zone.now (hashing_by c.args.by.now) c.args.owner.now)) owner here c.above.invariant none a.count a.above a.is_ancestor a.holds))
