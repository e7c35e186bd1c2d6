-- Messages that compare as equal are the same, and the other way round.
use Rattle.std.proofs.Common.{◌≡◌, ◌↔◌, Bool, true, ◌&&◌, List, [], ◌∷◌, Option, Some, None, nat_eq, refl, ap}
use Rattle.std.specs.Bool.{IsTrue}
use Rattle.std.specs.Cmp.Lexicographic.{pointwise}
use Rattle.std.specs.List.{AllZip}
use Rattle.std.specs.Option.{option_eq}
use Rattle.wire_messages.specs.op.EdnsFields.{EdnsFields}
use Rattle.wire_messages.specs.op.QuestionSameness.{SameQuestion}
use Rattle.wire_messages.specs.rr.RecordSameness.{SameRecord}
use Rattle.wire_messages.specs.serialize.layout.MessageLayout.{tsig_record}
use Rattle.wire_messages.specs.declared.op.header.Metadata.{Metadata}
use Rattle.wire_messages.specs.declared.op.query.Query.{Query}
use Rattle.wire_messages.specs.declared.rr.rdata.RData.{RData}
use Rattle.wire_messages.specs.declared.rr.record.Record.{Record}
use Rattle.wire_messages.specs.declared.rr.tsig.TSIG.{TSIG}
use Rattle.wire_messages.proofs.lemmas.rr.RecordComparing.{both_hold, hold_both, octets_from_eq, octets_equal}
use Rattle.hickory_base.specs.requests.MessageSameness.{SameMessage, SameSignature}
use Rattle.hickory_base.specs.declared.requests.message_request.MessageRequest.{MessageRequest}

module _ {A : Type 0} (E : A → A → Bool) (R : A → A → Type 0) (told : (x y : A) → IsTrue (E x y) ↔ R x y) where
  zip_from : (xs ys : List A) → pointwise E xs ys ≡ true → AllZip R xs ys
  zip_from [] [] h = tt
  zip_from [] (y ∷ ys) h = absurd (cc)
  zip_from (x ∷ xs) [] h = absurd (cc)
  zip_from (x ∷ xs) (y ∷ ys) h =
      let both : (E x y ≡ true) × (pointwise E xs ys ≡ true) = both_hold _ _ h in
      let one = told x y in
      (one.0 both.0, zip_from xs ys both.1)

  zip_back : (xs ys : List A) → AllZip R xs ys → pointwise E xs ys ≡ true
  zip_back [] [] h = refl
  zip_back [] (y ∷ ys) h = absurd h
  zip_back (x ∷ xs) [] h = absurd h
  zip_back (x ∷ xs) (y ∷ ys) h = let one = told x y in hold_both _ _ (one.1 h.0) (zip_back xs ys h.1)

module _ (metadata_eq : Metadata → Metadata → Bool) (query_eq : Query → Query → Bool) (record_eq : Record RData → Record RData → Bool) (signature_eq : Record TSIG → Record TSIG → Bool) (edns_eq : EdnsFields → EdnsFields → Bool)
    (metadata : (x y : Metadata) → IsTrue (metadata_eq x y) ↔ (x ≡ y)) (queries : (x y : Query) → IsTrue (query_eq x y) ↔ SameQuestion x y) (records : (x y : Record RData) → IsTrue (record_eq x y) ↔ SameRecord x y)
    (signatures : (x y : Record TSIG) → IsTrue (signature_eq x y) ↔ SameRecord (tsig_record x) (tsig_record y)) (edns : (x y : EdnsFields) → IsTrue (edns_eq x y) ↔ (x ≡ y)) where
  signature_from : (x y : Option (Record TSIG)) → option_eq signature_eq x y ≡ true → SameSignature x y
  signature_from None None h = tt
  signature_from None (Some y) h = absurd (cc)
  signature_from (Some x) None h = absurd (cc)
  signature_from (Some x) (Some y) h = let one = signatures x y in one.0 h

  signature_back : (x y : Option (Record TSIG)) → SameSignature x y → option_eq signature_eq x y ≡ true
  signature_back None None h = refl
  signature_back None (Some y) h = absurd h
  signature_back (Some x) None h = absurd h
  signature_back (Some x) (Some y) h = let one = signatures x y in one.1 h

  edns_from : (x y : Option EdnsFields) → option_eq edns_eq x y ≡ true → x ≡ y
  edns_from None None h = refl
  edns_from None (Some y) h = absurd (cc)
  edns_from (Some x) None h = absurd (cc)
  edns_from (Some x) (Some y) h = let one = edns x y in ap (λ (e : EdnsFields). Some e) (one.0 h)

  edns_self : (x : Option EdnsFields) → option_eq edns_eq x x ≡ true
  edns_self None = refl
  edns_self (Some x) = let one = edns x x in one.1 refl

  -- how the derived comparison goes over the fields
  abbrev eq : MessageRequest → MessageRequest → Bool
  eq a b = metadata_eq a.metadata b.metadata && ((pointwise query_eq a.queries.queries b.queries.queries && pointwise nat_eq a.queries.bytes b.queries.bytes) && (pointwise record_eq a.answers b.answers && (pointwise record_eq a.authorities b.authorities
      && (pointwise record_eq a.additionals b.additionals && (option_eq signature_eq a.signature b.signature && option_eq edns_eq a.edns b.edns)))))

  from_eq : (a b : MessageRequest) → eq a b ≡ true → SameMessage a b
  from_eq a b h =
      let b0 : (metadata_eq a.metadata b.metadata ≡ true) × (((pointwise query_eq a.queries.queries b.queries.queries && pointwise nat_eq a.queries.bytes b.queries.bytes) && (pointwise record_eq a.answers b.answers && (pointwise record_eq a.authorities b.authorities && (pointwise record_eq a.additionals b.additionals && (option_eq signature_eq a.signature b.signature && option_eq edns_eq a.edns b.edns))))) ≡ true) = both_hold _ _ h in
      let b1 : ((pointwise query_eq a.queries.queries b.queries.queries && pointwise nat_eq a.queries.bytes b.queries.bytes) ≡ true) × ((pointwise record_eq a.answers b.answers && (pointwise record_eq a.authorities b.authorities && (pointwise record_eq a.additionals b.additionals && (option_eq signature_eq a.signature b.signature && option_eq edns_eq a.edns b.edns)))) ≡ true) = both_hold _ _ b0.1 in
      let asked : (pointwise query_eq a.queries.queries b.queries.queries ≡ true) × (pointwise nat_eq a.queries.bytes b.queries.bytes ≡ true) = both_hold _ _ b1.0 in
      let b2 : (pointwise record_eq a.answers b.answers ≡ true) × ((pointwise record_eq a.authorities b.authorities && (pointwise record_eq a.additionals b.additionals && (option_eq signature_eq a.signature b.signature && option_eq edns_eq a.edns b.edns))) ≡ true) = both_hold _ _ b1.1 in
      let b3 : (pointwise record_eq a.authorities b.authorities ≡ true) × ((pointwise record_eq a.additionals b.additionals && (option_eq signature_eq a.signature b.signature && option_eq edns_eq a.edns b.edns)) ≡ true) = both_hold _ _ b2.1 in
      let b4 : (pointwise record_eq a.additionals b.additionals ≡ true) × ((option_eq signature_eq a.signature b.signature && option_eq edns_eq a.edns b.edns) ≡ true) = both_hold _ _ b3.1 in
      let b5 : (option_eq signature_eq a.signature b.signature ≡ true) × (option_eq edns_eq a.edns b.edns ≡ true) = both_hold _ _ b4.1 in
      let head = metadata a.metadata b.metadata in
      record {
        metadata = head.0 b0.0;
        queries = record { queries = zip_from query_eq SameQuestion queries a.queries.queries b.queries.queries asked.0; bytes = octets_from_eq _ _ asked.1 };
        answers = zip_from record_eq SameRecord records a.answers b.answers b2.0;
        authorities = zip_from record_eq SameRecord records a.authorities b.authorities b3.0;
        additionals = zip_from record_eq SameRecord records a.additionals b.additionals b4.0;
        signature = signature_from a.signature b.signature b5.0;
        edns = edns_from a.edns b.edns b5.1;
      }

  to_eq : (a b : MessageRequest) → SameMessage a b → eq a b ≡ true
  to_eq a b s =
      let head = metadata a.metadata b.metadata in
      let bytes : pointwise nat_eq a.queries.bytes b.queries.bytes ≡ true = rw (← s.queries.bytes) (octets_equal a.queries.bytes) in
      let said : option_eq edns_eq a.edns b.edns ≡ true = rw (← s.edns) (edns_self a.edns) in
      hold_both _ _ (head.1 s.metadata) (hold_both _ _ (hold_both _ _ (zip_back query_eq SameQuestion queries a.queries.queries b.queries.queries s.queries.queries) bytes)
      (hold_both _ _ (zip_back record_eq SameRecord records a.answers b.answers s.answers) (hold_both _ _ (zip_back record_eq SameRecord records a.authorities b.authorities s.authorities)
      (hold_both _ _ (zip_back record_eq SameRecord records a.additionals b.additionals s.additionals) (hold_both _ _ (signature_back a.signature b.signature s.signature) said)))))

  pub compared : (a b : MessageRequest) → IsTrue (eq a b) ↔ SameMessage a b
  compared a b = (from_eq a b, to_eq a b)
