use Rattle.std.proofs.Common.{rules, ◌≡◌, ◌∙◌, ℕ, List, ap, sym}
use Rattle.wire_names.specs.rr.domain.DomainName.{DomainName, cut}
use Rattle.wire_names.specs.representation.NameBytes.{wire_bytes}
use Rattle.wire_names.specs.rr.domain.NameOrder.{lower_labels, lower_name}
use Rattle.wire_names.specs.representation.OrderKey.{order_key}
use Rattle.wire_names.proofs.lemmas.rr.domain.WireForm.{cut-wire}
use Rattle.wire_names.proofs.lemmas.rr.domain.SameNames.{lower_labels-twice}
use Rattle.wire_names.proofs.rr.domain.lower_name.LowerName.set_short.Goals as goal

pub invariant_of-self-then-set_plain_key : goal.invariant_of-self-then-set_plain_key
invariant_of-self-then-set_plain_key c =
    let whole : c.set_lowered.new.self ≡ lower_name c.args.name.now = search rules in
    let e : c.set_lowered.new.self.labels ≡ lower_labels c.args.name.now.labels = ap (λ (d : DomainName). d.labels) whole in
    let key : wire_bytes c.set_plain_key.new.key ≡ order_key (cut c.as_wire.result.now) = search rules in (
      ap lower_labels e ∙ lower_labels-twice c.args.name.now.labels ∙ sym e,
      key ∙ ap (λ (bytes : List ℕ). order_key (cut bytes)) c.as_wire.ensures.labels ∙ ap order_key (cut-wire c.set_lowered.new.self.labels),
    )
