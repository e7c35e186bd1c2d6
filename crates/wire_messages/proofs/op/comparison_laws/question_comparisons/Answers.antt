use Rattle.std.proofs.Common.{◌≡◌, true, ◌&&◌, nat_eq}
use Rattle.wire_names.specs.representation.NameHash.{same_from_eq}
use Rattle.wire_names.specs.rr.domain.NameOrder.{name_eq}
use Rattle.wire_messages.proofs.lemmas.rr.RecordComparing.{both_hold, hold_both, number_from_eq, number_equal}
use Rattle.wire_names.proofs.lemmas.rr.domain.SameNames.{eq_from_same}
use Rattle.wire_messages.proofs.op.comparison_laws.question_comparisons.Goals as goal

pub returns : goal.returns
returns c = λ a b. (
  λ h.
      let first : (name_eq a.name b.name ≡ true) × ((nat_eq a.query_type b.query_type && nat_eq a.query_class b.query_class) ≡ true) = both_hold _ _ h in
      let second : (nat_eq a.query_type b.query_type ≡ true) × (nat_eq a.query_class b.query_class ≡ true) = both_hold _ _ first.1 in
      record { name = same_from_eq _ _ first.0; query_type = number_from_eq _ _ second.0; query_class = number_from_eq _ _ second.1 },
  λ s. hold_both _ _ (eq_from_same _ _ s.name) (hold_both _ _ (number_equal _ _ s.query_type) (number_equal _ _ s.query_class)),
)
