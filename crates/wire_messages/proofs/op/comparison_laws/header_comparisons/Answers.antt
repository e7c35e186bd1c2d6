use Rattle.std.proofs.Common.{◌≡◌, true, ap}
use Rattle.wire_messages.specs.declared.op.header.Header.{Header}
use Rattle.wire_messages.proofs.lemmas.op.MetadataComparing.{metadata_eq, counts_eq, metadata_from_eq, metadata_equal, counts_from_eq, counts_equal, header_from_parts}
use Rattle.wire_messages.proofs.lemmas.rr.RecordComparing.{both_hold, hold_both}
use Rattle.wire_messages.proofs.op.comparison_laws.header_comparisons.Goals as goal

pub returns-clause-metadata : goal.returns-clause-metadata
returns-clause-metadata c = λ a b. (metadata_from_eq a b, metadata_equal a b)

pub returns-clause-headers : goal.returns-clause-headers
returns-clause-headers c = λ a b. (
  λ h.
      let both : (metadata_eq a.metadata b.metadata ≡ true) × (counts_eq a.counts b.counts ≡ true) = both_hold _ _ h in
      header_from_parts a b (metadata_from_eq _ _ both.0) (counts_from_eq _ _ both.1),
  λ e. hold_both _ _ (metadata_equal _ _ (ap (λ (f : Header). f.metadata) e)) (counts_equal _ _ (ap (λ (f : Header). f.counts) e)),
)
