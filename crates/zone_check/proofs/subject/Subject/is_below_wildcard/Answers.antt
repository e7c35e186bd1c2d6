use Rattle.std.proofs.Common.{◌≡◌, ◌<◌, ◌∙◌, length, refl, sym, ap, subst}
use Rattle.wire_names.specs.rr.domain.DomainName.{wire_form}
use Rattle.wire_names.specs.rr.domain.NameOrder.{lower_name}
use Rattle.zone_check.specs.CheckedZones.{HasWildAddress, ancestor}
use Rattle.zone_check.proofs.SameNames.{has_wild_alike, same_ancestor, to_lower}
use Rattle.zone_check.proofs.Walks.{Reached, Walk, empty_by, next, not_empty_by, nowhere, reached, refused}
use Rattle.zone_check.proofs.subject.Subject.is_below_wildcard.Goals as goal

pub returns-then-has_wild_address : goal.returns-then-has_wild_address
returns-then-has_wild_address c =
    let zone = c.args.self.now in
    let name = c.args.name.now in
    let here = c.above.here in
    let some : 0 < length here.labels = not_empty_by here.labels c.as_wire.result.now c.is_empty.result (c.as_wire.ensures.labels ∙ ap (λ n. wire_form n.labels) c.as_name.ensures.name) c.is_empty.ensures c.above-test.true in
    let r : Reached (HasWildAddress zone) name = reached (HasWildAddress zone) name here c.above.invariant some (subst (HasWildAddress zone) c.remove_first_label.ensures (c.has_wild_address.ensures.0 c.if-has_wild_address.true)) in
    (λ _. record { count = r.count; above = r.above; is_ancestor = r.within; wild = has_wild_alike zone (ancestor (lower_name name) r.count) (ancestor name r.count) (same_ancestor name r.count) r.holds }, λ _. refl)

pub above-preserved : goal.above-preserved
above-preserved c =
    let zone = c.args.self.now in
    let name = c.args.name.now in
    let here = c.above.here in
    let some : 0 < length here.labels = not_empty_by here.labels c.as_wire.result.now c.is_empty.result (c.as_wire.ensures.labels ∙ ap (λ n. wire_form n.labels) c.as_name.ensures.name) c.is_empty.ensures c.above-test.true in
    subst (Walk (HasWildAddress zone) name) (sym c.remove_first_label.ensures) (next (HasWildAddress zone) name here c.above.invariant some (λ is. refused c.has_wild_address.result (c.has_wild_address.ensures.1 (subst (HasWildAddress zone) (sym c.remove_first_label.ensures) is)) c.if-has_wild_address.false))

pub returns : goal.returns
returns c =
    let zone = c.args.self.now in
    let name = c.args.name.now in
    let here = c.above.here in
    let none : length here.labels ≡ 0 = empty_by here.labels c.as_wire.result.now c.is_empty.result (c.as_wire.ensures.labels ∙ ap (λ n. wire_form n.labels) c.as_name.ensures.name) c.is_empty.ensures c.above-test.false in
    (λ no. absurd (cc), λ below. absurd (nowhere (HasWildAddress zone) name here c.above.invariant none below.count below.above below.is_ancestor (has_wild_alike zone (ancestor name below.count) (ancestor (lower_name name) below.count) (to_lower name below.count) below.wild)))
