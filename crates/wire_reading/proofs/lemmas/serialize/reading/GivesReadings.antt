-- What a call that gives what reading gives found, where something that is read stands exactly where it is read so.
use Rattle.std.proofs.Common.{◌≡◌, ◌≢◌, ℕ, Result, Ok, Err, ap}
use Rattle.std.specs.Prelude.{IfOk, IfErr}
use Rattle.wire_names.specs.serialize.layout.Bytes.{AreBytes}
use Rattle.wire_messages.specs.serialize.reading.Cursor.{Cursor}
use Rattle.wire_messages.specs.serialize.layout.MessageLayout.{QuestionRead}
use Rattle.wire_messages.specs.serialize.reading.Reading.{Read, Gives}
use Rattle.wire_reading.specs.serialize.reading.RecordFaults.{QuestionFault, RecordFault}
use Rattle.wire_messages.specs.serialize.layout.RecordLayout.{RecordAt}
use Rattle.wire_messages.specs.serialize.reading.RecordReading.{question, resource}
use Rattle.wire_names.specs.declared.error.DecodeError.{DecodeError}
use Rattle.wire_names.specs.declared.error.DecodeError.TheVariants.{Memory}
use Rattle.wire_messages.specs.declared.op.query.Query.{Query}
use Rattle.wire_messages.specs.declared.rr.rdata.RData.{RData}
use Rattle.wire_messages.specs.declared.rr.record.Record.{Record}
use Rattle.wire_messages.proofs.lemmas.serialize.layout.ByteTexts.{here}
use Rattle.wire_reading.proofs.lemmas.serialize.reading.RecordFaultLaws.{question_err, resource_err}
use Rattle.wire_reading.proofs.lemmas.serialize.reading.SectionItems.{questions_find, questions_reach, records_find, records_reach}

abbrev fault : {A : Type 0} → DecodeError → Result A DecodeError
fault e = Err e

module _ {A : Type 0} (read : Cursor → Read A) (At : ℕ → A → ℕ → Type 0) (Fault : DecodeError → Type 0) (old : Cursor) where
  gives_found : ((x : A) (stop : Cursor) → read old ≡ Ok (x, stop) → At old.place x stop.place) → (r : Result A DecodeError) (new : Cursor) → Gives r old new read → IfOk r (λ x. At old.place x new.place)
  gives_found found (Ok x) new h = found x new h.0
  gives_found found (Err e) new h = tt

  gives_fault : ((e : DecodeError) → read old ≡ Err e → Fault e) → (r : Result A DecodeError) (new : Cursor) → Gives r old new read → IfErr r (λ e. e ≢ Memory → Fault e)
  gives_fault faulty (Ok x) new h = tt
  gives_fault faulty (Err e) new h = λ ne. faulty e (h.0 ne)

  gives_only : ((x : A) (next : ℕ) → At old.place x next → read old ≡ Ok (x, here old.bytes next)) → (r : Result A DecodeError) (new : Cursor) → Gives r old new read
      → (x : A) (next : ℕ) → At old.place x next → r ≢ Err Memory → (r ≡ Ok x) × (new.place ≡ next)
  gives_only reach (Ok y) new h x next at ne =
      let u : A × Cursor = (y, new) in
      let v : A × Cursor = (x, here old.bytes next) in
      let e : u ≡ v = cc (h.0, reach x next at) in
      (ap (λ (z : A × Cursor). let w : Result A DecodeError = Ok z.0 in w) e, ap (λ (z : A × Cursor). z.1.place) e)
  gives_only reach (Err f) new h x next at ne = absurd (cc (h.0 (λ k. ne (ap fault k)), reach x next at))

-- questions
pub query_found : (old : Cursor) → AreBytes old.bytes → (r : Result Query DecodeError) (new : Cursor) → Gives r old new question → IfOk r (λ q. QuestionRead old.bytes old.place q new.place)
query_found old a = gives_found question (QuestionRead old.bytes) (QuestionFault old.bytes old.place) old (λ q stop e. (questions_find old.bytes a old.place q stop e).0)

pub query_fault : (old : Cursor) (r : Result Query DecodeError) (new : Cursor) → Gives r old new question → IfErr r (λ e. e ≢ Memory → QuestionFault old.bytes old.place e)
query_fault old = gives_fault question (QuestionRead old.bytes) (QuestionFault old.bytes old.place) old (question_err old.bytes old.place)

pub query_only : (old : Cursor) → AreBytes old.bytes → (r : Result Query DecodeError) (new : Cursor) → Gives r old new question
    → (q : Query) (next : ℕ) → QuestionRead old.bytes old.place q next → r ≢ Err Memory → (r ≡ Ok q) × (new.place ≡ next)
query_only old a = gives_only question (QuestionRead old.bytes) (QuestionFault old.bytes old.place) old (λ q next at. questions_reach old.bytes a old.place q next at)

-- records
pub record_is_found : (old : Cursor) → AreBytes old.bytes → (r : Result (Record RData) DecodeError) (new : Cursor) → Gives r old new resource → IfOk r (λ x. RecordAt old.bytes old.place x new.place)
record_is_found old a = gives_found resource (RecordAt old.bytes) (RecordFault old.bytes old.place) old (λ x stop e. (records_find old.bytes a old.place x stop e).0)

pub record_fault : (old : Cursor) → AreBytes old.bytes → (r : Result (Record RData) DecodeError) (new : Cursor) → Gives r old new resource → IfErr r (λ e. e ≢ Memory → RecordFault old.bytes old.place e)
record_fault old a = gives_fault resource (RecordAt old.bytes) (RecordFault old.bytes old.place) old (resource_err old.bytes a old.place)

pub record_only : (old : Cursor) → AreBytes old.bytes → (r : Result (Record RData) DecodeError) (new : Cursor) → Gives r old new resource
    → (x : Record RData) (next : ℕ) → RecordAt old.bytes old.place x next → r ≢ Err Memory → (r ≡ Ok x) × (new.place ≡ next)
record_only old a = gives_only resource (RecordAt old.bytes) (RecordFault old.bytes old.place) old (λ x next at. records_reach old.bytes a old.place x next at)
