use Rattle.std.proofs.Common.{◌≡◌, true, ◌&&◌, nat_eq, ap}
use Rattle.wire_names.specs.representation.NameHash.{same_from_eq}
use Rattle.wire_names.specs.rr.domain.NameOrder.{name_eq}
use Rattle.wire_messages.specs.rr.RecordSameness.{lower_tsig}
use Rattle.wire_messages.specs.declared.rr.rdata.RData.TheVariants as rdata
use Rattle.wire_messages.proofs.lemmas.rr.RecordComparing.{both_hold, hold_both, number_from_eq, number_equal, signature_eq, signature_from_eq, signature_equal}
use Rattle.wire_names.proofs.lemmas.rr.domain.SameNames.{eq_from_same}
use Rattle.wire_messages.proofs.op.comparison_laws.signature_comparisons.Goals as goal

pub returns : goal.returns
returns c = λ a b. (
  λ h.
      let first : (name_eq a.name b.name ≡ true) × ((nat_eq a.dns_class b.dns_class && signature_eq a.rdata b.rdata) ≡ true) = both_hold _ _ h in
      let second : (nat_eq a.dns_class b.dns_class ≡ true) × (signature_eq a.rdata b.rdata ≡ true) = both_hold _ _ first.1 in
      record { name = same_from_eq _ _ first.0; class = number_from_eq _ _ second.0; rdata = ap rdata.TSIG (signature_from_eq _ _ second.1) },
  λ s.
      let content : lower_tsig a.rdata ≡ lower_tsig b.rdata = cc (s.rdata) in
      hold_both _ _ (eq_from_same _ _ s.name) (hold_both _ _ (number_equal _ _ s.class) (signature_equal _ _ content)),
)
