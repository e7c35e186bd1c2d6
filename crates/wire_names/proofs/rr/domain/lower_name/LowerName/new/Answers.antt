use Rattle.std.proofs.Common.{◌≡◌, ◌∙◌, ℕ, List, ap, sym}
use Rattle.wire_names.specs.rr.domain.DomainName.{DomainName, cut}
use Rattle.wire_names.specs.rr.domain.NameOrder.{lower_labels}
use Rattle.wire_names.specs.representation.OrderKey.{order_key}
use Rattle.wire_names.proofs.lemmas.rr.domain.WireForm.{cut-wire}
use Rattle.wire_names.proofs.lemmas.rr.domain.SameNames.{lower_labels-twice}
use Rattle.wire_names.proofs.rr.domain.lower_name.LowerName.new.Goals as goal

pub invariant_of-result : goal.invariant_of-result
invariant_of-result c =
    let e : c.in_ok-name.name.labels ≡ lower_labels c.args.name.now.labels = ap (λ (d : DomainName). d.labels) c.in_ok-name.ensures in (
      ap lower_labels e ∙ lower_labels-twice c.args.name.now.labels ∙ sym e,
      c.in_ok-key.ensures ∙ ap (λ (bytes : List ℕ). order_key (cut bytes)) c.as_wire.ensures.labels ∙ ap order_key (cut-wire c.in_ok-name.name.labels),
    )
