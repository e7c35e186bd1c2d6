-- Bytes have a first fault exactly where reading a message meets it.
use Rattle.std.proofs.Common.{◌≡◌, ℕ, List, [], Ok, Err, refl, sym, ap, subst, ◌∙◌, arith}
use Rattle.wire_names.specs.serialize.layout.Bytes.{AreBytes}
use Rattle.wire_messages.specs.serialize.reading.Cursor.{Cursor}
use Rattle.wire_reading.specs.serialize.reading.MessageFaults.{MessageFault}
use Rattle.wire_reading.specs.serialize.reading.MessageFaults.MessageFault.{header_missing, in_questions, in_answers, in_authorities, in_additionals}
use Rattle.wire_reading.specs.serialize.reading.MessageReading.{message, front_of}
use Rattle.wire_messages.specs.serialize.reading.Reading.{Read}
use Rattle.wire_messages.specs.serialize.reading.RecordReading.{question}
use Rattle.wire_messages.specs.serialize.reading.SectionReading.{header, items, section_record, additionals_after, no_additionals}
use Rattle.wire_names.specs.declared.error.DecodeError.{DecodeError}
use Rattle.wire_messages.proofs.lemmas.serialize.layout.ByteTexts.{here}
use Rattle.wire_reading.proofs.lemmas.serialize.reading.CountedItems.{is_here}
use Rattle.wire_reading.proofs.lemmas.serialize.reading.FaultSteps.{bind_err, run_err, short_is}
use Rattle.wire_reading.proofs.lemmas.serialize.reading.HeaderLaws.{header_here, header_found}
use Rattle.wire_reading.proofs.lemmas.serialize.reading.HeaderReadings.{header_run}
use Rattle.wire_reading.proofs.lemmas.serialize.reading.SectionFaults.{questions_err, err_questions, questions_stand, stand_questions, records_err, err_records, records_stand, stand_records, additionals_err, err_additionals}

-- items of a section fail at the same place of the bytes
moved_here : {A : Type 0} {bytes : List ℕ} (read : Cursor → Read A) (c : Cursor) (e : DecodeError) → c.bytes ≡ bytes → read c ≡ Err e → read (here bytes c.place) ≡ Err e
moved_here read c e kept h = ap read (sym (is_here c kept)) ∙ h

-- items of a section are read from the same place of the bytes
went_here : {A : Type 0} {bytes : List ℕ} (read : Cursor → Read A) (c : Cursor) (x : A × Cursor) → c.bytes ≡ bytes → read c ≡ Ok x → read (here bytes c.place) ≡ Ok x
went_here read c x kept h = ap read (sym (is_here c kept)) ∙ h

-- a message that fails has this fault
pub message_err : (bytes : List ℕ) → AreBytes bytes → (e : DecodeError) → message (front_of bytes) ≡ Err e → MessageFault bytes e
unfolding message
message_err bytes a e h =
    let F : DecodeError → Type 0 = MessageFault bytes in
    run_err bytes header _ 12 0 e (F e) (header_run bytes 0 (omega arith)) h (λ lt is. subst F (sym is) (header_missing lt)) (λ head le f g.
    let at = (header_found bytes head (here bytes 12) a f).0 in
    let counts = head.counts in
    bind_err (items question counts.queries [] (here bytes 12)) _ e (F e) g (λ k. in_questions at (questions_err bytes a counts.queries 12 e k)) (λ q f1 g1.
    let s1 = questions_stand bytes a counts.queries 12 q.0 q.1 f1 in
    bind_err (items section_record counts.answers [] q.1) _ e (F e) g1
    (λ k. in_answers at s1.0 (records_err bytes a counts.answers q.1.place e (moved_here (items section_record counts.answers []) q.1 e s1.1 k))) (λ r f2 g2.
    let s2 = records_stand bytes a counts.answers q.1.place r.0 r.1 (went_here (items section_record counts.answers []) q.1 r s1.1 f2) in
    bind_err (items section_record counts.authorities [] r.1) _ e (F e) g2
    (λ k. in_authorities at s1.0 s2.0 (records_err bytes a counts.authorities r.1.place e (moved_here (items section_record counts.authorities []) r.1 e s2.1 k))) (λ u f3 g3.
    let s3 = records_stand bytes a counts.authorities r.1.place u.0 u.1 (went_here (items section_record counts.authorities []) r.1 u s2.1 f3) in
    bind_err (additionals_after counts.additionals no_additionals u.1) _ e (F e) g3
    (λ k. in_additionals at s1.0 s2.0 s3.0 (additionals_err bytes a counts.additionals u.1.place e (moved_here (additionals_after counts.additionals no_additionals) u.1 e s3.1 k))) (λ x f4 g4. absurd cc)))))

-- the fault of bytes fails so
pub err_message : {bytes : List ℕ} {e : DecodeError} → AreBytes bytes → MessageFault bytes e → message (front_of bytes) ≡ Err e
unfolding message
err_message {bytes} a (header_missing lt) = rw (short_is bytes header 12 0 (header_run bytes 0 (omega arith)) lt) refl
err_message {bytes} a (in_questions {h = h} at f) = rw (header_here bytes h at, err_questions a f) refl
err_message {bytes} a (in_answers {h = h} at q f) = rw (header_here bytes h at, stand_questions a q, err_records a f) refl
err_message {bytes} a (in_authorities {h = h} at q r f) = rw (header_here bytes h at, stand_questions a q, stand_records a r, err_records a f) refl
err_message {bytes} a (in_additionals {h = h} at q r u f) = rw (header_here bytes h at, stand_questions a q, stand_records a r, stand_records a u, err_additionals a f) refl
