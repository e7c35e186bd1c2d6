use Rattle.std.proofs.Common.{◌≡◌, ◌<◌, ◌∙◌, length, sym, ap, subst}
use Rattle.wire_names.specs.rr.domain.DomainName.{DomainName, wire_form}
use Rattle.zone_check.proofs.NameHashes.{Gains, GainsUpTo, all_up, next}
use Rattle.zone_check.proofs.Walks.{empty_by, not_empty_by}
use Rattle.zone_denials.specs.Nsec3Data.{hashing_by}
use Rattle.zone_check.proofs.hashes.put_names.Goals as goal

pub above-preserved : goal.above-preserved
above-preserved c =
    let origin = c.args.origin.now in
    let by = hashing_by c.args.by.now in
    let here = c.above.name in
    let some : 0 < length here.labels = not_empty_by here.labels c.as_wire.result.now c.is_empty.result (c.as_wire.ensures.labels ∙ ap (λ n. wire_form n.labels) c.as_name.ensures.name) c.is_empty.ensures c.above-test.true in
    subst (λ (d : DomainName). GainsUpTo origin by c.args.name c.args.names.now d c.put_name-in-above.new.names) (sym c.remove_first_label.ensures)
    (next origin by c.args.name c.args.names.now c.above.names c.put_name-in-above.new.names here c.above.invariant some (subst (λ (d : DomainName). Gains origin by d c.above.names c.put_name-in-above.new.names) c.remove_first_label.ensures c.in_ok-put_name-2.ensures))

pub returns : goal.returns
returns c =
    let here = c.above.name in
    let none : length here.labels ≡ 0 = empty_by here.labels c.as_wire.result.now c.is_empty.result (c.as_wire.ensures.labels ∙ ap (λ n. wire_form n.labels) c.as_name.ensures.name) c.is_empty.ensures c.above-test.false in
    all_up c.args.origin.now (hashing_by c.args.by.now) c.args.name c.args.names.now c.above.names here c.above.invariant none
