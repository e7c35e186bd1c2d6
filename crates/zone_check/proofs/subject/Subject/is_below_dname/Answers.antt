use Rattle.std.proofs.Common.{◌≡◌, ◌<◌, ◌∙◌, length, refl, sym, ap, subst}
use Rattle.wire_names.specs.rr.domain.DomainName.{wire_form}
use Rattle.wire_names.specs.rr.domain.NameOrder.{lower_name}
use Rattle.zone_check.specs.CheckedZones.{IsDnameOwner, ancestor}
use Rattle.zone_check.proofs.SameNames.{dname_alike, same_ancestor, to_lower}
use Rattle.zone_check.proofs.Walks.{Reached, Walk, empty_by, next, not_empty_by, nowhere, reached, refused}
use Rattle.zone_check.proofs.subject.Subject.is_below_dname.Goals as goal

pub returns-then-is_dname_owner : goal.returns-then-is_dname_owner
returns-then-is_dname_owner c =
    let zone = c.args.self.now in
    let name = c.args.name.now in
    let here = c.above.key.name in
    let some : 0 < length here.labels = not_empty_by here.labels c.as_wire.result.now c.is_empty.result (c.as_wire.ensures.labels ∙ ap (λ n. wire_form n.labels) c.as_name.ensures.name) c.is_empty.ensures c.above-test.true in
    let r : Reached (IsDnameOwner zone) name = reached (IsDnameOwner zone) name here c.above.invariant.walk some (subst (IsDnameOwner zone) c.remove_first_label.ensures (c.is_dname_owner.ensures.0 c.if-is_dname_owner.true)) in
    (λ _. record { count = r.count; above = r.above; is_ancestor = r.within; dname = dname_alike zone (ancestor (lower_name name) r.count) (ancestor name r.count) (same_ancestor name r.count) r.holds }, λ _. refl)

pub above-preserved : goal.above-preserved
above-preserved c =
    let zone = c.args.self.now in
    let name = c.args.name.now in
    let here = c.above.key.name in
    let some : 0 < length here.labels = not_empty_by here.labels c.as_wire.result.now c.is_empty.result (c.as_wire.ensures.labels ∙ ap (λ n. wire_form n.labels) c.as_name.ensures.name) c.is_empty.ensures c.above-test.true in
    record {
      typed = c.above.invariant.typed;
      walk = subst (Walk (IsDnameOwner zone) name) (sym c.remove_first_label.ensures) (next (IsDnameOwner zone) name here c.above.invariant.walk some (λ is. refused c.is_dname_owner.result (c.is_dname_owner.ensures.1 (subst (IsDnameOwner zone) (sym c.remove_first_label.ensures) is)) c.if-is_dname_owner.false));
    }

pub returns : goal.returns
returns c =
    let zone = c.args.self.now in
    let name = c.args.name.now in
    let here = c.above.key.name in
    let none : length here.labels ≡ 0 = empty_by here.labels c.as_wire.result.now c.is_empty.result (c.as_wire.ensures.labels ∙ ap (λ n. wire_form n.labels) c.as_name.ensures.name) c.is_empty.ensures c.above-test.false in
    (λ no. absurd (cc), λ below. absurd (nowhere (IsDnameOwner zone) name here c.above.invariant.walk none below.count below.above below.is_ancestor (dname_alike zone (ancestor name below.count) (ancestor (lower_name name) below.count) (to_lower name below.count) below.dname)))
