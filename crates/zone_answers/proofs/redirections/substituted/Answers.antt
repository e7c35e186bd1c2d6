use Rattle.std.proofs.Common.{◌≡◌, ◌∙◌, Some, None, ℕ, List, cond, length, take, sym, ap, arith}
use Rattle.wire_names.specs.rr.domain.DomainName.{wire_form}
use Rattle.zone_answers.specs.Redirections.{substitute}
use Rattle.zone_answers.proofs.lemmas.names.Fronts.{fits_made, front_bytes, front_size, front_wire, made_is, made_short, too_long_made}
use Rattle.zone_answers.proofs.redirections.substituted.Goals as goal

pub slice_bounds-front-end : goal.slice_bounds-front-end
slice_bounds-front-end c =
    let ls : List (List ℕ) = c.args.name.now.labels in
    c.front_len.ensures ∙ sym (ap length (front_bytes ls c.args.kept c.front_len.result c.as_wire.result.now c.as_wire.ensures.labels c.front_len.ensures) ∙ front_size ls c.args.kept)

pub returns-then-front-end-gt254 : goal.returns-then-front-end-gt254
returns-then-front-end-gt254 c =
    let name = c.args.name.now in
    let target = c.args.target.now in
    let front : take c.front_len.result c.as_wire.result.now ≡ wire_form (take c.args.kept name.labels) = front_bytes name.labels c.args.kept c.front_len.result c.as_wire.result.now c.as_wire.ensures.labels c.front_len.ensures in
    sym (ap (λ b. cond b None (Some (substitute name c.args.kept target))) (too_long_made name target c.args.kept _ _ front c.as_wire-end.ensures.labels (omega (arith, c.if-front-end-gt254.true))))

pub append-requires-clause-wire : goal.append-requires-clause-wire
append-requires-clause-wire c =
    let ls : List (List ℕ) = c.args.name.now.labels in
    front_wire ls c.args.kept (take c.front_len.result c.as_wire.result.now) (front_bytes ls c.args.kept c.front_len.result c.as_wire.result.now c.as_wire.ensures.labels c.front_len.ensures) c.as_wire.ensures.bounds

pub append-requires-2-clause-fits : goal.append-requires-2-clause-fits
append-requires-2-clause-fits c =
    let name = c.args.name.now in
    let front : take c.front_len.result c.as_wire.result.now ≡ wire_form (take c.args.kept name.labels) = front_bytes name.labels c.args.kept c.front_len.result c.as_wire.result.now c.as_wire.ensures.labels c.front_len.ensures in
    made_short name c.args.target.now c.args.kept _ _ front c.as_wire-end.ensures.labels c.append.new.self c.new-labels.result c.new-labels.ensures c.append.ensures (omega (arith, c.if-front-end-gt254.false))

pub returns : goal.returns
returns c =
    let name = c.args.name.now in
    let target = c.args.target.now in
    let front : take c.front_len.result c.as_wire.result.now ≡ wire_form (take c.args.kept name.labels) = front_bytes name.labels c.args.kept c.front_len.result c.as_wire.result.now c.as_wire.ensures.labels c.front_len.ensures in
    ap Some (made_is name target c.args.kept _ _ front c.as_wire-end.ensures.labels c.in_ok-to_name.field-0 c.new-labels.result c.append.new.self c.append-2.new.self c.is_fqdn.result c.new-labels.ensures c.append.ensures c.append-2.ensures c.is_fqdn.ensures c.in_ok-to_name.ensures)
    ∙ sym (ap (λ b. cond b None (Some (substitute name c.args.kept target))) (fits_made name target c.args.kept _ _ front c.as_wire-end.ensures.labels (omega (arith, c.if-front-end-gt254.false))))
