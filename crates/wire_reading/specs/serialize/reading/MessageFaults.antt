-- The first fault of bytes that begin with no message (RFC 1035 section 4.1).
use Rattle.std.specs.Prelude.{◌≡◌, ◌≢◌, ℕ, ◌<◌, List, [], length, true, Option, None}
use Rattle.std.specs.List.{AllByRecursion}
use Rattle.wire_messages.specs.op.EdnsFields.{EdnsFields}
use Rattle.wire_messages.specs.serialize.layout.HeaderLayout.{HeaderAt}
use Rattle.wire_messages.specs.serialize.layout.MessageLayout.{ItemsAt, QuestionRead, IsPlainRecord, AdditionalSection, is_opt, is_for_additionals_alone}
use Rattle.wire_messages.specs.rr.RecordData.{type_of}
use Rattle.wire_reading.specs.serialize.reading.RecordFaults.{RecordFault, QuestionFault}
use Rattle.wire_messages.specs.serialize.layout.RecordLayout.{RecordAt}
use Rattle.wire_names.specs.declared.error.DecodeError.{DecodeError}
use Rattle.wire_names.specs.declared.error.DecodeError.TheVariants.{InsufficientBytes, RecordNotInAdditionals, RecordAfterSignature, EdnsNameNotRoot, DuplicateEdns}
use Rattle.wire_messages.specs.declared.op.header.Header.{Header}
use Rattle.wire_messages.specs.declared.op.query.Query.{Query}
use Rattle.wire_messages.specs.declared.rr.rdata.RData.{RData}
use Rattle.wire_messages.specs.declared.rr.record.Record.{Record}
use Rattle.wire_messages.specs.declared.rr.tsig.TSIG.{TSIG}

-- ---- sections that stand

-- So many questions stand one behind the other from place on, and next is the place behind them.
pub record QuestionsStand (bytes : List ℕ) (place count next : ℕ) : Type 0 where
  pub queries : List Query
  pub stand : ItemsAt (QuestionRead bytes) place queries next
  pub number : length queries ≡ count

-- So many records of an answer or authority section stand one behind the other.
pub record RecordsStand (bytes : List ℕ) (place count next : ℕ) : Type 0 where
  pub records : List (Record RData)
  pub stand : ItemsAt (RecordAt bytes) place records next
  pub number : length records ≡ count
  pub plain : AllByRecursion IsPlainRecord records

-- So many records of an additional section stand one behind the other, with what their OPT says and with their TSIG, if
-- they have them.
pub record AdditionalsStand (bytes : List ℕ) (place count : ℕ) (edns : Option EdnsFields) (signature : Option (Record TSIG)) (next : ℕ) : Type 0 where
  pub all : List (Record RData)
  pub records : List (Record RData)
  pub stand : ItemsAt (RecordAt bytes) place all next
  pub number : length all ≡ count
  pub section : AdditionalSection all records edns signature

-- ---- their faults

-- The first fault of so many questions: that of the one behind those that stand.
pub record QuestionsFault (bytes : List ℕ) (place count : ℕ) (e : DecodeError) : Type 0 where
  pub before : ℕ
  pub next : ℕ
  pub fewer : before < count
  pub stand : QuestionsStand bytes place before next
  pub faulty : QuestionFault bytes next e

-- What is wrong with a record of an answer or authority section: its own fault, or it is an OPT, TSIG or SIG.
pub data MisplacedOrFaulty (bytes : List ℕ) (place : ℕ) : DecodeError → Type 0 where
  faulty : {e : DecodeError} → RecordFault bytes place e → MisplacedOrFaulty bytes place e
  misplaced : {r : Record RData} {next : ℕ} → RecordAt bytes place r next → is_for_additionals_alone (type_of r.rdata) ≡ true → MisplacedOrFaulty bytes place RecordNotInAdditionals

-- The first fault of so many records of an answer or authority section.
pub record RecordsFault (bytes : List ℕ) (place count : ℕ) (e : DecodeError) : Type 0 where
  pub before : ℕ
  pub next : ℕ
  pub fewer : before < count
  pub stand : RecordsStand bytes place before next
  pub faulty : MisplacedOrFaulty bytes next e

-- What is wrong with a record of an additional section, behind records with this EDNS and this TSIG: its own fault; a
-- TSIG stands before it (RFC 8945 section 5.2); it is an OPT that is not at the root (RFC 6891 section 6.1.2), or a
-- second one (section 6.1.1).
pub data UnfitOrFaulty (bytes : List ℕ) (edns : Option EdnsFields) (signature : Option (Record TSIG)) (place : ℕ) : DecodeError → Type 0 where
  faulty : {e : DecodeError} → RecordFault bytes place e → UnfitOrFaulty bytes edns signature place e
  after_signature : {r : Record RData} {next : ℕ} → RecordAt bytes place r next → signature ≢ None → UnfitOrFaulty bytes edns signature place RecordAfterSignature
  not_at_root : {r : Record RData} {next : ℕ} → RecordAt bytes place r next → signature ≡ None → is_opt r ≡ true → r.name.labels ≢ [] → UnfitOrFaulty bytes edns signature place EdnsNameNotRoot
  second_opt : {r : Record RData} {next : ℕ} → RecordAt bytes place r next → signature ≡ None → is_opt r ≡ true → r.name.labels ≡ [] → edns ≢ None → UnfitOrFaulty bytes edns signature place DuplicateEdns

-- The first fault of so many records of an additional section.
pub record AdditionalsFault (bytes : List ℕ) (place count : ℕ) (e : DecodeError) : Type 0 where
  pub before : ℕ
  pub next : ℕ
  pub edns : Option EdnsFields
  pub signature : Option (Record TSIG)
  pub fewer : before < count
  pub stand : AdditionalsStand bytes place before edns signature next
  pub faulty : UnfitOrFaulty bytes edns signature next e

-- The first fault of bytes that begin with no message: they end before the twelve octets of the header, or the first
-- fault of a section, behind the sections that stand.
pub data MessageFault (bytes : List ℕ) : DecodeError → Type 0 where
  header_missing : length bytes < 12 → MessageFault bytes InsufficientBytes
  in_questions : {e : DecodeError} {h : Header} → HeaderAt bytes h → QuestionsFault bytes 12 h.counts.queries e → MessageFault bytes e
  in_answers : {e : DecodeError} {h : Header} {answers_at : ℕ} → HeaderAt bytes h → QuestionsStand bytes 12 h.counts.queries answers_at → RecordsFault bytes answers_at h.counts.answers e → MessageFault bytes e
  in_authorities : {e : DecodeError} {h : Header} {answers_at authorities_at : ℕ} → HeaderAt bytes h → QuestionsStand bytes 12 h.counts.queries answers_at
      → RecordsStand bytes answers_at h.counts.answers authorities_at → RecordsFault bytes authorities_at h.counts.authorities e → MessageFault bytes e
  in_additionals : {e : DecodeError} {h : Header} {answers_at authorities_at additionals_at : ℕ} → HeaderAt bytes h → QuestionsStand bytes 12 h.counts.queries answers_at
      → RecordsStand bytes answers_at h.counts.answers authorities_at → RecordsStand bytes authorities_at h.counts.authorities additionals_at
      → AdditionalsFault bytes additionals_at h.counts.additionals e → MessageFault bytes e
