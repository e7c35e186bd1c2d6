use Rattle.std.proofs.Common.{take, drop, ap, sym, subst, ◌∙◌}
use Rattle.wire_names.specs.rr.domain.DomainName.{DomainName}
use Rattle.wire_names.specs.representation.NameBytes.{wire_bytes}
use Rattle.wire_names.specs.rr.domain.NameOrder.{IsSharedEnd}
use Rattle.wire_names.proofs.lemmas.rr.domain.SharedEnds.{SharedLabels, shared_labels, shared_lower, shared_end}
use Rattle.wire_names.proofs.rr.domain.lower_name.LowerName.keep_shared_end.Goals as goal

pub keep_last-requires : goal.keep_last-requires
keep_last-requires c =
    let s : SharedLabels c.self.inside.name.labels c.other.inside.name.labels (wire_bytes c.truncate.new.self) =
    shared_labels c.self.inside.name.labels c.other.inside.name.labels c.as_slice.result.now c.as_slice-2.result.now (wire_bytes c.truncate.new.self) c.shared_len-shared.result c.self.invariant.0 c.other.invariant.0
    (c.as_slice.ensures ∙ c.self.invariant.1) (c.as_slice-2.ensures ∙ c.other.invariant.1) c.shared_len-shared.ensures (c.truncate.ensures ∙ ap (take c.shared_len-shared.result) (sym c.as_slice.ensures)) in
    (s.dropped, c.wire_len.ensures (drop s.dropped c.self.inside.name.labels) (c.as_slice-3.ensures ∙ s.key))

pub invariant_of-self : goal.invariant_of-self
invariant_of-self c =
    let s : SharedLabels c.self.inside.name.labels c.other.inside.name.labels (wire_bytes c.truncate.new.self) =
    shared_labels c.self.inside.name.labels c.other.inside.name.labels c.as_slice.result.now c.as_slice-2.result.now (wire_bytes c.truncate.new.self) c.shared_len-shared.result c.self.invariant.0 c.other.invariant.0
    (c.as_slice.ensures ∙ c.self.invariant.1) (c.as_slice-2.ensures ∙ c.other.invariant.1) c.shared_len-shared.ensures (c.truncate.ensures ∙ ap (take c.shared_len-shared.result) (sym c.as_slice.ensures)) in
    shared_lower c.self.inside.name.labels c.other.inside.name.labels (wire_bytes c.truncate.new.self) s c.self.invariant.0 c.keep_last.new.self.labels
    (ap (λ (d : DomainName). d.labels) (c.keep_last.ensures s.dropped (c.wire_len.ensures (drop s.dropped c.self.inside.name.labels) (c.as_slice-3.ensures ∙ s.key))))

pub returns : goal.returns
returns c =
    let s : SharedLabels c.self.inside.name.labels c.other.inside.name.labels (wire_bytes c.truncate.new.self) =
    shared_labels c.self.inside.name.labels c.other.inside.name.labels c.as_slice.result.now c.as_slice-2.result.now (wire_bytes c.truncate.new.self) c.shared_len-shared.result c.self.invariant.0 c.other.invariant.0
    (c.as_slice.ensures ∙ c.self.invariant.1) (c.as_slice-2.ensures ∙ c.other.invariant.1) c.shared_len-shared.ensures (c.truncate.ensures ∙ ap (take c.shared_len-shared.result) (sym c.as_slice.ensures)) in
    subst (λ (d : DomainName). IsSharedEnd d c.args.other.now c.keep_last.new.self) c.self.view_is
    (subst (λ (d : DomainName). IsSharedEnd c.self.inside.name d c.keep_last.new.self) c.other.view_is
    (shared_end c.self.inside.name c.other.inside.name c.keep_last.new.self (wire_bytes c.truncate.new.self) s
    (c.keep_last.ensures s.dropped (c.wire_len.ensures (drop s.dropped c.self.inside.name.labels) (c.as_slice-3.ensures ∙ s.key)))))
