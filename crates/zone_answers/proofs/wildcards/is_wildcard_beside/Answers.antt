use Rattle.std.proofs.Common.{ap, get_or, rules, ◌∙◌}
use Rattle.wire_names.specs.rr.domain.DomainName.{wire_form}
use Rattle.zone_answers.proofs.lemmas.names.WildcardLabels.{beside_bytes, same_rest}
use Rattle.zone_answers.proofs.wildcards.is_wildcard_beside.Goals as goal

pub returns : goal.returns
returns c =
    λ same.
    beside_bytes c.args.wild.now.labels c.args.name.now.labels c.as_wire-other.result.now c.as_wire-wire.result.now
    (c.as_wire-other.ensures.labels ∙ ap (λ d. wire_form d.labels) c.as_name-2.ensures.name) (c.as_wire-wire.ensures.labels ∙ ap (λ d. wire_form d.labels) c.as_name.ensures.name)
    (search rules) (search rules) (search rules) c.if-other-ne42.false
    (same_rest c.as_wire-other.result.now c.as_wire-wire.result.now c.from.result (get_or c.as_wire-wire.result.now 0 0) c.from.ensures (c.are_same.ensures.0 same))
