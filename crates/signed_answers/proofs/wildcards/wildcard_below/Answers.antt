use Rattle.std.proofs.Common.{◌+◌, ◌<◌, length, ap, subst, ◌∙◌}
use Rattle.wire_names.specs.rr.domain.DomainName.{wire_form}
use Rattle.zone_answers.proofs.lemmas.names.WildcardLabels.{too_long, wildcard_is}
use Rattle.signed_answers.proofs.wildcards.wildcard_below.Goals as goal

pub returns-in-None : goal.returns-in-None
returns-in-None c =
    too_long c.args.name.now.labels
    (subst (λ bytes. 254 < length bytes + 2) (c.as_wire.ensures.labels ∙ ap (λ d. wire_form d.labels) c.as_name-name.ensures.name) c.in-None.ensures)

pub returns-in_ok-new-in-Some : goal.returns-in_ok-new-in-Some
returns-in_ok-new-in-Some c =
    wildcard_is c.args.name.now c.as_name-name.result.now c.in_ok-source-in-Some.source c.in_ok-new-in-Some.field-0 c.as_wire.result.now c.in-Some.labels c.is_fqdn.result c.as_name-name.ensures.name c.as_name-name.ensures.lower c.as_wire.ensures.labels
    c.in-Some.ensures (c.is_fqdn.ensures ∙ ap (λ d. d.is_fqdn) c.as_name-name.ensures.name) c.in_ok-source-in-Some.ensures c.in_ok-new-in-Some.ensures
