-- A record and a question have a first fault exactly where reading meets it.
use Rattle.std.proofs.Common.{◌≡◌, ℕ, ◌+◌, ◌<◌, ◌≤◌, List, length, Ok, Err, refl, sym, ap, subst, ◌∙◌, arith}
use Rattle.std.specs.Int.{w16, w32, to_be_bytes}
use Rattle.wire_names.specs.serialize.layout.Bytes.{AreBytes, BytesAt}
use Rattle.wire_messages.specs.serialize.reading.Cursor.{Cursor}
use Rattle.wire_names.specs.rr.domain.DomainName.{DomainName}
use Rattle.wire_messages.specs.serialize.layout.NameLayout.{NameAt}
use Rattle.wire_messages.specs.serialize.reading.Reading.{Read, ◌>>=◌, number}
use Rattle.wire_reading.specs.serialize.reading.RecordFaults.{NumberAt, RecordFault, QuestionFault}
use Rattle.wire_reading.specs.serialize.reading.RecordFaults.RecordFault.{owner_faulty, fields_missing, data_missing, data_faulty}
use Rattle.wire_reading.specs.serialize.reading.RecordFaults.QuestionFault.{name_faulty, type_missing}
use Rattle.wire_messages.specs.serialize.reading.RecordReading.{record_data, resource, question}
use Rattle.wire_names.specs.declared.error.DecodeError.{DecodeError}
use Rattle.wire_names.specs.declared.error.DecodeError.TheVariants.{InsufficientBytes}
use Rattle.wire_messages.specs.declared.op.query.Query.{Query}
use Rattle.wire_messages.proofs.lemmas.serialize.layout.ByteTexts.{here, read_here, number16_here}
use Rattle.wire_messages.specs.declared.rr.rdata.RData.{RData}
use Rattle.wire_messages.specs.declared.rr.record.Proof.TheVariants.{Indeterminate}
use Rattle.wire_messages.specs.declared.rr.record.Record.{Record}
use Rattle.wire_reading.proofs.lemmas.serialize.reading.FaultSteps.{Runs, number_run, done_run, then_run, short_then, run_err, run_short, run_ok, short_is, bind_err, name_read, name_err, number_at}
use Rattle.wire_reading.proofs.lemmas.serialize.reading.FormFaults.{data_too_short, data_err, err_data}
use Rattle.wire_reading.proofs.lemmas.serialize.reading.NameLaws.{fault_name}
use Rattle.wire_messages.proofs.lemmas.serialize.reading.StringSteps.{ok_is}

-- ---- questions

-- what stands behind the name of a question
abbrev after_name : DomainName × Cursor → Read Query
after_name n = number w16 n.1 >>= λ k. number w16 k.1 >>= λ s. Ok (record { name = n.0; query_type = k.0; query_class = s.0 }, s.1)

-- they take four octets
type_and_class : (bytes : List ℕ) (n : DomainName) (p : ℕ) → p ≤ length bytes → Runs bytes (λ c. after_name (n, c)) 4 p
type_and_class bytes n p within =
    then_run bytes (number w16) (λ k. number w16 k.1 >>= λ s. Ok (record { name = n; query_type = k.0; query_class = s.0 }, s.1)) 2 2 p (number_run bytes w16 p within) (λ k le.
    then_run bytes (number w16) (λ s. Ok (record { name = n; query_type = k; query_class = s.0 }, s.1)) 2 0 (p + 2) (number_run bytes w16 (p + 2) le) (λ s fits.
    done_run bytes (record { name = n; query_type = k; query_class = s }) (p + 2 + 2) fits))

-- a question that fails has this fault
pub question_err : (bytes : List ℕ) (p : ℕ) (e : DecodeError) → question (here bytes p) ≡ Err e → QuestionFault bytes p e
unfolding question
question_err bytes p e h =
    name_err bytes after_name p e (QuestionFault bytes p e) h name_faulty (λ n next at within g.
    let s = run_short bytes (λ c. after_name (n, c)) 4 next e (type_and_class bytes n next within) g in
    subst (QuestionFault bytes p) (sym s.1) (type_missing at s.0))

-- the fault of a question fails so
pub err_question : {bytes : List ℕ} {p : ℕ} {e : DecodeError} → QuestionFault bytes p e → question (here bytes p) ≡ Err e
unfolding question
err_question {bytes} {p} {e} (name_faulty f) = rw (fault_name (here bytes p) e f) refl
err_question {bytes} {p} (type_missing {name = n} {middle = next} at lt) =
    let r = name_read at in
    rw r.0 (short_is bytes (λ c. after_name (_, c)) 4 next (type_and_class bytes _ next r.1) lt)

-- ---- records

-- what is read behind the fields of a record that were read
abbrev after_len : DomainName → ℕ → ℕ → ℕ → ℕ × Cursor → Read (Record RData)
after_len n kind class ttl len = record_data kind len.0 len.1 >>= λ d. Ok (record { name = n; dns_class = class; ttl = ttl; rdata = d.0; proof = Indeterminate }, d.1)

abbrev after_ttl : DomainName → ℕ → ℕ → ℕ × Cursor → Read (Record RData)
after_ttl n kind class ttl = number w16 ttl.1 >>= after_len n kind class ttl.0

abbrev after_class : DomainName → ℕ → ℕ × Cursor → Read (Record RData)
after_class n kind class = number w32 class.1 >>= after_ttl n kind class.0

abbrev after_kind : DomainName → ℕ × Cursor → Read (Record RData)
after_kind n kind = number w16 kind.1 >>= after_class n kind.0

abbrev after_owner : DomainName × Cursor → Read (Record RData)
after_owner n = number w16 n.1 >>= after_kind n.0

-- a fault of the fields that the message is too short for
cut_off : {bytes : List ℕ} {p middle : ℕ} {owner : DomainName} {e : DecodeError} → NameAt 0 bytes p owner middle → length bytes < middle + 10 → e ≡ InsufficientBytes → RecordFault bytes p e
cut_off {bytes} {p} at lt is = subst (RecordFault bytes p) (sym is) (fields_missing at lt)

-- a fault of the data, behind the fields
data_cut : (bytes : List ℕ) (a : AreBytes bytes) (p m kind len : ℕ) (n : DomainName) (class ttl : ℕ) (e : DecodeError) → NameAt 0 bytes p n m → NumberAt bytes m kind → NumberAt bytes (m + 8) len → m + 10 ≤ length bytes
    → after_len n kind class ttl (len, here bytes (m + 10)) ≡ Err e → RecordFault bytes p e
data_cut bytes a p m kind len n class ttl e at k l within h =
    let G = RecordFault bytes p e in
    bind_err (record_data kind len (here bytes (m + 10))) (λ d. Ok (record { name = n; dns_class = class; ttl = ttl; rdata = d.0; proof = Indeterminate }, d.1)) e G h
    (λ f. data_err bytes a kind len (m + 10) e G within f (λ lt is. subst (RecordFault bytes p) (sym is) (data_missing at l lt)) (λ le d. data_faulty at k l le d))
    (λ d f g. absurd cc)

-- a record that fails has this fault
pub resource_err : (bytes : List ℕ) (a : AreBytes bytes) (p : ℕ) (e : DecodeError) → resource (here bytes p) ≡ Err e → RecordFault bytes p e
unfolding resource
resource_err bytes a p e h =
    let G = RecordFault bytes p e in
    name_err bytes after_owner p e G h owner_faulty (λ n m at within g.
    run_err bytes (number w16) (after_kind n) 2 m e G (number_run bytes w16 m within) g (λ lt is. cut_off at (omega arith) is) (λ kind le f g1.
    run_err bytes (number w16) (after_class n kind) 2 (m + 2) e G (number_run bytes w16 (m + 2) le) g1 (λ lt is. cut_off at (omega arith) is) (λ class le2 f2 g2.
    run_err bytes (number w32) (after_ttl n kind class) 4 (m + 2 + 2) e G (number_run bytes w32 (m + 2 + 2) le2) g2 (λ lt is. cut_off at (omega arith) is) (λ ttl le3 f3 g3.
    run_err bytes (number w16) (after_len n kind class ttl) 2 (m + 2 + 2 + 4) e G (number_run bytes w16 (m + 2 + 2 + 4) le3) g3 (λ lt is. cut_off at (omega arith) is) (λ len le4 f4 g4.
    data_cut bytes a p m kind len n class ttl e at (number_at bytes a m kind within f)
    (subst (λ (q : ℕ). NumberAt bytes q len) (omega arith) (number_at bytes a (m + 2 + 2 + 4) len le3 f4)) (omega arith)
    (ap (λ (q : ℕ). after_len n kind class ttl (len, here bytes q)) (omega arith) ∙ g4))))))

-- behind fields that stand, data that fail
fields_here : {bytes : List ℕ} {m len : ℕ} {e : DecodeError} (n : DomainName) → m ≤ length bytes → NumberAt bytes (m + 8) len
    → ((kind : ℕ) → number w16 (here bytes m) ≡ read_here kind bytes (m + 2) → record_data kind len (here bytes (m + 10)) ≡ Err e) → after_owner (n, here bytes m) ≡ Err e
fields_here {bytes} {m} {len} n within l fails =
    let r1 = run_ok bytes (number w16) 2 m (number_run bytes w16 m within) (omega (arith, l.stands.fits)) in
    let r2 = run_ok bytes (number w16) 2 (m + 2) (number_run bytes w16 (m + 2) (omega (arith, l.stands.fits))) (omega (arith, l.stands.fits)) in
    let r3 = run_ok bytes (number w32) 4 (m + 2 + 2) (number_run bytes w32 (m + 2 + 2) (omega (arith, l.stands.fits))) (omega (arith, l.stands.fits)) in
    let at : BytesAt bytes (m + 2 + 2 + 4) (to_be_bytes w16 len) = subst (λ (q : ℕ). BytesAt bytes q (to_be_bytes w16 len)) (omega arith) l.stands in
    let r4 = number16_here bytes (m + 2 + 2 + 4) (m + 10) len l.small at (omega arith) in
    rw (r1.1, r2.1, r3.1, r4, fails r1.0 r1.1) refl

-- the fault of a record fails so
pub err_resource : {bytes : List ℕ} {p : ℕ} {e : DecodeError} → RecordFault bytes p e → resource (here bytes p) ≡ Err e
unfolding resource
err_resource {bytes} {p} {e} (owner_faulty f) = rw (fault_name (here bytes p) e f) refl
err_resource {bytes} {p} (fields_missing {owner = n} {middle = m} at lt) =
    let r = name_read at in
    rw r.0 (
    short_then bytes (number w16) (after_kind _) 2 m (number_run bytes w16 m r.1) (λ kind le.
    short_then bytes (number w16) (after_class _ kind) 2 (m + 2) (number_run bytes w16 (m + 2) le) (λ class le2.
    short_then bytes (number w32) (after_ttl _ kind class) 4 (m + 2 + 2) (number_run bytes w32 (m + 2 + 2) le2) (λ ttl le3.
    short_then bytes (number w16) (after_len _ kind class ttl) 2 (m + 2 + 2 + 4) (number_run bytes w16 (m + 2 + 2 + 4) le3) (λ len le4. absurd (omega arith))))))
err_resource {bytes} {p} (data_missing {owner = n} {middle = m} {len = len} at l lt) =
    let r = name_read at in
    rw r.0 (fields_here _ r.1 l (λ kind is. data_too_short bytes kind len (m + 10) (omega (arith, l.stands.fits)) lt))
err_resource {bytes} {p} {e} (data_faulty {owner = n} {middle = m} {kind = kind} {len = len} at k l le d) =
    let r = name_read at in
    rw r.0 (fields_here _ r.1 l (λ read is.
    let known = number16_here bytes m (m + 2) kind k.small k.stands refl in
    let x : ℕ × Cursor = (kind, here bytes (m + 2)) in
    let y : ℕ × Cursor = (read, here bytes (m + 2)) in
    let k_is : kind ≡ read = ap (λ (z : ℕ × Cursor). z.0) (ok_is x y (sym known ∙ is)) in
    subst (λ (x : ℕ). record_data x len (here bytes (m + 10)) ≡ Err e) k_is (err_data le d)))
