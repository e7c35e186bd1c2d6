use Rattle.std.proofs.Common.{◌≡◌, ◌∙◌, ℕ, List, ap, sym}
use Rattle.wire_names.specs.rr.domain.DomainName.{DomainName, cut}
use Rattle.wire_names.specs.rr.domain.NameOrder.{lower_labels}
use Rattle.wire_names.specs.representation.OrderKey.{order_key}
use Rattle.wire_names.proofs.lemmas.rr.domain.WireForm.{cut-wire}
use Rattle.wire_names.proofs.lemmas.rr.domain.SameNames.{lower_labels-twice}
use Rattle.wire_names.proofs.rr.domain.lower_name.LowerName.set_any.Goals as goal

pub invariant_of-lowered : goal.invariant_of-lowered
invariant_of-lowered c =
    let e : c.set_any_lowered.new.self.labels ≡ lower_labels c.args.name.now.labels = ap (λ (d : DomainName). d.labels) c.in_ok-set_any_lowered.ensures in (
      ap lower_labels e ∙ lower_labels-twice c.args.name.now.labels ∙ sym e,
      c.in_ok-set_order_key.ensures ∙ ap (λ (bytes : List ℕ). order_key (cut bytes)) c.as_wire.ensures.labels ∙ ap order_key (cut-wire c.set_any_lowered.new.self.labels),
    )
