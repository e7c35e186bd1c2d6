use Rattle.std.proofs.Common.{◌≡◌, ◌<◌, ◌∙◌, length, refl, sym, ap, subst}
use Rattle.wire_names.specs.rr.domain.DomainName.{wire_form}
use Rattle.wire_names.specs.rr.domain.NameOrder.{lower_name}
use Rattle.zone_check.specs.CheckedZones.{IsCut, ancestor}
use Rattle.zone_check.proofs.SameNames.{cut_alike, same_ancestor, to_lower}
use Rattle.zone_check.proofs.Walks.{Reached, Walk, empty_by, next, not_empty_by, nowhere, reached, refused}
use Rattle.zone_check.proofs.subject.Subject.is_below_cut.Goals as goal

pub returns-then-is_cut_at : goal.returns-then-is_cut_at
returns-then-is_cut_at c =
    let zone = c.args.self.now in
    let name = c.args.name.now in
    let here = c.above.key.name in
    let some : 0 < length here.labels = not_empty_by here.labels c.as_wire.result.now c.is_empty.result (c.as_wire.ensures.labels ∙ ap (λ n. wire_form n.labels) c.as_name.ensures.name) c.is_empty.ensures c.above-test.true in
    let r : Reached (IsCut zone) name = reached (IsCut zone) name here c.above.invariant.walk some (subst (IsCut zone) c.remove_first_label.ensures (c.is_cut_at.ensures.0 c.if-is_cut_at.true)) in
    (λ _. record { count = r.count; above = r.above; is_ancestor = r.within; cut = cut_alike zone (ancestor (lower_name name) r.count) (ancestor name r.count) (same_ancestor name r.count) r.holds }, λ _. refl)

pub above-preserved : goal.above-preserved
above-preserved c =
    let zone = c.args.self.now in
    let name = c.args.name.now in
    let here = c.above.key.name in
    let some : 0 < length here.labels = not_empty_by here.labels c.as_wire.result.now c.is_empty.result (c.as_wire.ensures.labels ∙ ap (λ n. wire_form n.labels) c.as_name.ensures.name) c.is_empty.ensures c.above-test.true in
    record {
      typed = c.above.invariant.typed;
      walk = subst (Walk (IsCut zone) name) (sym c.remove_first_label.ensures) (next (IsCut zone) name here c.above.invariant.walk some (λ is. refused c.is_cut_at.result (c.is_cut_at.ensures.1 (subst (IsCut zone) (sym c.remove_first_label.ensures) is)) c.if-is_cut_at.false));
    }

pub returns : goal.returns
returns c =
    let zone = c.args.self.now in
    let name = c.args.name.now in
    let here = c.above.key.name in
    let none : length here.labels ≡ 0 = empty_by here.labels c.as_wire.result.now c.is_empty.result (c.as_wire.ensures.labels ∙ ap (λ n. wire_form n.labels) c.as_name.ensures.name) c.is_empty.ensures c.above-test.false in
    (λ no. absurd (cc), λ below. absurd (nowhere (IsCut zone) name here c.above.invariant.walk none below.count below.above below.is_ancestor (cut_alike zone (ancestor name below.count) (ancestor (lower_name name) below.count) (to_lower name below.count) below.cut)))
