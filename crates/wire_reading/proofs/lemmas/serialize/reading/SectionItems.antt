-- Questions and the records of a section are read exactly where they stand.
use Rattle.std.proofs.Common.{◌≡◌, ℕ, List, [], ◌∷◌, cond, Ok, Err, refl, sym, ap, ◌∙◌}
use Rattle.std.specs.List.{AllByRecursion}
use Rattle.wire_names.specs.serialize.layout.Bytes.{AreBytes}
use Rattle.wire_messages.specs.serialize.reading.Cursor.{Cursor}
use Rattle.wire_messages.specs.serialize.layout.MessageLayout.{ItemsAt, QuestionRead, IsPlainRecord, is_for_additionals_alone}
use Rattle.wire_messages.specs.rr.RecordData.{type_of}
use Rattle.wire_messages.specs.serialize.layout.RecordLayout.{RecordAt}
use Rattle.wire_messages.specs.serialize.reading.RecordReading.{resource, question}
use Rattle.wire_messages.specs.serialize.reading.SectionReading.{section_record}
use Rattle.wire_names.specs.declared.error.DecodeError.TheVariants.{RecordNotInAdditionals}
use Rattle.wire_messages.specs.declared.rr.rdata.RData.{RData}
use Rattle.wire_messages.specs.declared.rr.record.Record.{Record}
use Rattle.wire_messages.proofs.lemmas.serialize.layout.ByteTexts.{here}
use Rattle.wire_reading.proofs.lemmas.serialize.reading.CountedItems.{Finds, Reaches}
use Rattle.wire_reading.proofs.lemmas.serialize.reading.RecordsAgree.{record_found, record_read, question_found, question_read}
use Rattle.wire_messages.proofs.lemmas.serialize.reading.StringSteps.{wrap, guard_ok, bind_ok}

-- a record that may stand in any section
pub record PlainAt (bytes : List ℕ) (place : ℕ) (r : Record RData) (next : ℕ) : Type 0 where
  pub stands : RecordAt bytes place r next
  pub plain : IsPlainRecord r

-- a question that is read stands there
pub questions_find : (bytes : List ℕ) → AreBytes bytes → Finds bytes question (QuestionRead bytes)
questions_find bytes a place q next e =
    let f = question_found (here bytes place) q next a e in
    (record { stands = f.0; formed = f.1 }, f.2)

-- a question that stands there is read
pub questions_reach : (bytes : List ℕ) → AreBytes bytes → Reaches bytes question (QuestionRead bytes)
questions_reach bytes a place q next at = question_read 0 bytes place next q at.formed at.stands

-- a record that is read stands there
pub records_find : (bytes : List ℕ) → AreBytes bytes → Finds bytes resource (RecordAt bytes)
records_find bytes a place r next e = record_found (here bytes place) r next a e

-- a record that stands there is read
pub records_reach : (bytes : List ℕ) → AreBytes bytes → Reaches bytes resource (RecordAt bytes)
records_reach bytes a place r next at = record_read bytes place next r a at

-- a record of an answer or authority section that is read stands there, and is no OPT, TSIG or SIG
pub plain_find : (bytes : List ℕ) → AreBytes bytes → Finds bytes section_record (PlainAt bytes)
unfolding section_record
plain_find bytes a place r next e =
    let b = bind_ok (resource (here bytes place)) (λ r. cond (is_for_additionals_alone (type_of r.0.rdata)) (Err RecordNotInAdditionals) (wrap r)) (r, next) e in
    let g = guard_ok (is_for_additionals_alone (type_of b.0.0.rdata)) RecordNotInAdditionals b.0 (r, next) b.2 in
    let read : resource (here bytes place) ≡ Ok (r, next) = b.1 ∙ ap wrap g.1 in
    let f = records_find bytes a place r next read in
    (record { stands = f.0; plain = ap (λ (z : Record RData × Cursor). is_for_additionals_alone (type_of z.0.rdata)) (sym g.1) ∙ g.0 }, f.1)

-- such a record that stands there is read
pub plain_reach : (bytes : List ℕ) → AreBytes bytes → Reaches bytes section_record (PlainAt bytes)
unfolding section_record
plain_reach bytes a place r next at = rw (records_reach bytes a place r next at.stands, at.plain) refl

-- items that stand and are plain, taken apart
pub plain_parts : (bytes : List ℕ) (place : ℕ) (rs : List (Record RData)) (next : ℕ) → ItemsAt (PlainAt bytes) place rs next → ItemsAt (RecordAt bytes) place rs next × AllByRecursion IsPlainRecord rs
plain_parts bytes place [] next e = (e, tt)
plain_parts bytes place (r ∷ rs) next (middle, at, more) = let p = plain_parts bytes middle rs next more in ((middle, at.stands, p.0), (at.plain, p.1))

-- and put together
pub plain_whole : (bytes : List ℕ) (place : ℕ) (rs : List (Record RData)) (next : ℕ) → ItemsAt (RecordAt bytes) place rs next → AllByRecursion IsPlainRecord rs → ItemsAt (PlainAt bytes) place rs next
plain_whole bytes place [] next e p = e
plain_whole bytes place (r ∷ rs) next (middle, at, more) p = (middle, record { stands = at; plain = p.0 }, plain_whole bytes middle rs next more p.1)
