-- A reply to a request reads back where its questions can be repeated and its records read back.
use Rattle.std.proofs.Common.{◌≡◌, ℕ, ◌≤◌, List, [], ◌∷◌, ◌++◌, length, take, replicate, Option, Some, None, sym, subst, ◌∙◌}
use Rattle.std.specs.Prelude.{◌↔◌, IfSome, option_map, option_to_list, slice_range}
use Rattle.std.specs.List.{AllByRecursion}
use Rattle.wire_messages.specs.op.EdnsFields.{EdnsFields}
use Rattle.wire_messages.specs.serialize.layout.MessageLayout.{IsPlainRecord, ItemsAt, tsig_record}
use Rattle.wire_messages.specs.serialize.layout.FieldRanges.{IsReadAsItsType, IsRecordInRange}
use Rattle.wire_messages.specs.serialize.layout.NameLayout.{IsFullyQualified}
use Rattle.wire_messages.specs.serialize.layout.RecordLayout.{IsFormedRecord}
use Rattle.wire_messages.specs.serialize.writing.FullForm.{HasNames}
use Rattle.wire_messages.specs.serialize.writing.RecordSize.{unwritable_reason}
use Rattle.wire_messages.specs.serialize.layout.QuestionLayout.{QuestionAt}
use Rattle.hickory_wire.specs.serialize.writing.Decoding.{IsReadable, IsReadableSignature, without_proof}
use Rattle.hickory_wire.specs.serialize.writing.ReadingBack.{ReadsBack, ReplyReadsBack}
use Rattle.wire_messages.specs.serialize.writing.Reply.{Reply}
use Rattle.wire_messages.specs.declared.op.query.Query.{Query}
use Rattle.wire_messages.specs.declared.rr.rdata.RData.{RData}
use Rattle.wire_messages.specs.declared.rr.record.Proof.TheVariants.{Indeterminate}
use Rattle.wire_messages.specs.declared.rr.record.Record.{Record}
use Rattle.wire_messages.specs.declared.rr.tsig.TSIG.{TSIG}
use Rattle.wire_names.specs.rr.domain.DomainName.{AreLabels}
use Rattle.hickory_base.specs.requests.RepeatableQuestions.{HasRepeatableQuestions}
use Rattle.hickory_base.specs.requests.Requests.{ReceivedRequest}
use Rattle.hickory_catalog.specs.replies.DecodedReplies.{HasReadableRecords, RepliesTo}

-- which records read back
abbrev pub Backs : Type 0
Backs = (r : Record RData) → ReadsBack r ↔ (IsFormedRecord r × AreLabels r.name.labels × HasNames r.rdata × (unwritable_reason r.rdata ≡ None))

-- which parts such records have
abbrev pub Parts : Type 0
Parts = (r : Record RData) → IsFormedRecord r ↔ (IsRecordInRange r × IsFullyQualified r.name × IsReadAsItsType r.rdata × (r.proof ≡ Indeterminate))

module _ (backs : Backs) (parts : Parts) where
  record_parts : (r : Record RData) → ReadsBack (without_proof r) → IsFullyQualified r.name × IsReadAsItsType r.rdata
  record_parts r back = let of = (parts (without_proof r)).0 ((backs (without_proof r)).0 back).0 in (of.1, of.2)

  all_readable : (rs : List (Record RData)) → AllByRecursion (λ r. ReadsBack (without_proof r)) rs → AllByRecursion IsPlainRecord rs → AllByRecursion IsReadable rs
  all_readable [] back plain = tt
  all_readable (r ∷ rs) back plain = let of = record_parts r back.0 in (record { name = of.0; rdata = of.1; section = plain.0 }, all_readable rs back.1 plain.1)

  signature_readable : (signature : Option (Record TSIG)) → AllByRecursion (λ r. ReadsBack (without_proof r)) (option_to_list (option_map tsig_record signature)) → IfSome signature IsReadableSignature
  signature_readable None back = tt
  signature_readable (Some s) back = let of = record_parts (tsig_record s) back.0 in record { name = of.0; algorithm = of.1 }

front_all : (rs ss : List (Record RData)) → AllByRecursion (λ r. ReadsBack (without_proof r)) (rs ++ ss) → AllByRecursion (λ r. ReadsBack (without_proof r)) rs
front_all [] ss all = tt
front_all (r ∷ rs) ss all = (all.0, front_all rs ss all.1)

-- where questions stand in the bytes that are repeated
abbrev pub Repeated : Type 0
Repeated = (bytes : List ℕ) (queries : List Query) (stop : ℕ) → stop ≤ length bytes → ItemsAt (QuestionAt 12 (take stop bytes)) 12 queries stop
    → ItemsAt (QuestionAt 12 (replicate 12 0 ++ slice_range bytes 12 stop)) 12 queries stop × (length (replicate 12 0 ++ slice_range bytes 12 stop) ≡ stop)

module _ (repeated : Repeated) (request : ReceivedRequest) (edns : Option EdnsFields) (reply : Reply) (to : RepliesTo request.message edns reply) (questions : HasRepeatableQuestions request) where
  asked : (question : List ℕ) → question ≡ slice_range request.bytes 12 questions.stop
      → ItemsAt (QuestionAt 12 (replicate 12 0 ++ question)) 12 request.message.queries.queries (length (replicate 12 0 ++ question))
  asked question is =
      let all = repeated request.bytes request.message.queries.queries questions.stop questions.within questions.stand in
      subst (λ (q : List ℕ). ItemsAt (QuestionAt 12 (replicate 12 0 ++ q)) 12 request.message.queries.queries (length (replicate 12 0 ++ q))) (sym is)
      (subst (λ (n : ℕ). ItemsAt (QuestionAt 12 (replicate 12 0 ++ slice_range request.bytes 12 questions.stop)) 12 request.message.queries.queries n) (sym all.1) all.0)

  pub reads_back : Backs → Parts → HasReadableRecords reply → ReplyReadsBack reply request.message.queries.queries
  reads_back backs parts readable =
      let back = readable.records in
      record {
        decodable = record {
          asked = asked reply.question (to.question ∙ questions.bytes_are);
          questions = questions.formed;
          question_count = to.question_count;
          answers = all_readable backs parts reply.answers back.0 readable.plain_answers;
          authorities = all_readable backs parts reply.authorities (front_all reply.authorities reply.soa back.1.0) readable.plain_authorities;
          soa = subst (λ (rs : List (Record RData)). AllByRecursion IsReadable rs) (sym to.one_list) tt;
          additionals = all_readable backs parts reply.additionals back.1.1.0 readable.plain_additionals;
          signature = signature_readable backs parts reply.signature back.1.1.1.1.0;
        };
        records = back;
      }
