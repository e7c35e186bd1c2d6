-- What stands as a name has labels of 1 to 63 bytes, and at most 255 bytes in all.
use Rattle.std.proofs.Common.{◌≡◌, ℕ, List, Ok, arith}
use Rattle.std.specs.List.{AllByRecursion}
use Rattle.std.proofs.lemmas.List.Elements.{All-from_recursion}
use Rattle.wire_names.specs.rr.domain.DomainName.{IsLabel, AreLabels}
use Rattle.wire_messages.specs.serialize.reading.NameReading.{labels_from}
use Rattle.wire_messages.specs.serialize.layout.NameLayout.{LabelsAt}
use Rattle.wire_messages.specs.serialize.layout.NameLayout.LabelsAt.{at_end, at_label, at_pointer}
use Rattle.wire_messages.proofs.lemmas.serialize.reading.LabelSteps.{labels_from-answers}

pub each_is_label : {floor : ℕ} {bytes : List ℕ} {start place next : ℕ} {labels : List (List ℕ)} → LabelsAt floor bytes start place labels next → AllByRecursion IsLabel labels
each_is_label (at_end a s e) = tt
each_is_label (at_label a l s e more) = (l, each_is_label more)
each_is_label (at_pointer high low goal past a s e lt after more) = each_is_label more

pub are_labels : (bytes : List ℕ) (place next : ℕ) (labels : List (List ℕ)) → labels_from bytes place place 1 ≡ Ok (labels, next) → AreLabels labels
are_labels bytes place next labels e =
    let a = rw e at (labels_from-answers bytes place place 1 (omega arith)) in
    record { each = All-from_recursion IsLabel labels (each_is_label a.0); short = omega (arith, a.1) }
