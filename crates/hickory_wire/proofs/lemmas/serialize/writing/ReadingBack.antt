-- Which records read back as themselves, and that a reply of such records is written.
use Rattle.std.proofs.Common.{◌≡◌, ℕ, ◌+◌, ◌^◌, ◌<◌, ◌≤◌, List, [], ◌∷◌, length, false, Option, Some, None, nat_lt, refl, ap, arith}
use Rattle.std.proofs.lemmas.Bool.{le-ltb, lt-leb}
use Rattle.std.proofs.lemmas.List.Elements.{All-from_recursion}
use Rattle.std.specs.Prelude.{slice_index}
use Rattle.std.specs.List.{AllByRecursion, list_any}
use Rattle.wire_names.specs.serialize.layout.Bytes.{BytesAt}
use Rattle.hickory_wire.specs.serialize.writing.Decoding.{without_proof, decoded_message}
use Rattle.wire_names.specs.rr.domain.DomainName.{DomainName, IsLabel, AreLabels, name_len}
use Rattle.wire_messages.specs.serialize.writing.FullForm.{record_octets, HasNames}
use Rattle.wire_reading.specs.serialize.layout.WholeMessage.{MessageAt}
use Rattle.wire_messages.specs.serialize.layout.NameLayout.{LabelsAt, NameAt}
use Rattle.wire_messages.specs.serialize.layout.NameLayout.LabelsAt.{at_end, at_label, at_pointer}
use Rattle.hickory_wire.specs.serialize.writing.ReadingBack.{ReadsBack, ReplyReadsBack}
use Rattle.wire_messages.specs.rr.RecordData.{IsOption, OptionsOf}
use Rattle.wire_messages.specs.rr.RecordData.OptionsOf.{well_formed, malformed}
use Rattle.wire_messages.specs.serialize.layout.RecordLayout.{DataRead, IsFormed, IsFormedRecord}
use Rattle.wire_messages.specs.serialize.writing.RecordSize.{data_len, unwritable_reason}
use Rattle.wire_messages.specs.serialize.writing.Reply.{Reply, reply_lists}
use Rattle.wire_writing.specs.serialize.writing.WholeReply.{HasForm}
use Rattle.wire_writing.specs.serialize.writing.Writing.{Encoded, Fronts, GetsStuck, ListFront, ListsWritten, Written, written_header}
use Rattle.wire_writing.specs.serialize.writing.Writing.Encoded.{written, too_large, formless}
use Rattle.wire_writing.specs.serialize.writing.Writing.ListsWritten.{none_left, next_list, stuck_list}
use Rattle.wire_messages.specs.declared.op.edns.EdnsOption.{EdnsOption}
use Rattle.wire_names.specs.declared.error.ProtoError.{ProtoError}
use Rattle.wire_messages.specs.declared.op.header.Header.{Header}
use Rattle.wire_messages.specs.declared.op.query.Query.{Query}
use Rattle.wire_messages.specs.declared.rr.rdata.RData.{RData}
use Rattle.wire_messages.specs.declared.rr.rdata.RData.TheVariants as rdata
use Rattle.wire_messages.specs.declared.rr.record.Record.{Record}
use Rattle.wire_writing.proofs.lemmas.serialize.writing.FormLengths.{small_form}
use Rattle.wire_writing.proofs.lemmas.serialize.writing.FullForms.{record_octets-len, record_stands}
use Rattle.wire_messages.proofs.lemmas.serialize.writing.OctetLengths.{fits}
use Rattle.wire_reading.proofs.lemmas.serialize.reading.RecordsAgree.{formed_record}
use Rattle.wire_writing.proofs.lemmas.serialize.writing.WholeLists.{formless_none}
use Rattle.hickory_wire.proofs.lemmas.serialize.writing.WrittenMessage.{message_stands}

-- ---- names

each_label : {floor : ℕ} {bytes : List ℕ} {start place next : ℕ} {labels : List (List ℕ)} → LabelsAt floor bytes start place labels next → AllByRecursion IsLabel labels
each_label (at_end a s e) = tt
each_label (at_label a l s e more) = (l, each_label more)
each_label (at_pointer high low goal past a s e lt after more) = each_label more

-- the labels of a name that stands are those of a name
pub name_labels : {floor : ℕ} {bytes : List ℕ} {place next : ℕ} {name : DomainName} → NameAt floor bytes place name next → AreLabels name.labels
name_labels {name = name} at = record { each = All-from_recursion IsLabel name.labels (each_label at.labels); short = at.short }

-- labels of a run that begins at the front have no pointer, and take their length in full
run_len : {floor : ℕ} {bytes : List ℕ} {start place next : ℕ} {labels : List (List ℕ)} → start ≡ 0 → LabelsAt floor bytes start place labels next → next ≡ place + name_len labels
run_len z (at_end a s e) = e
run_len z (at_label a l s e more) = omega (arith, e, run_len z more)
run_len z (at_pointer high low goal past a s e lt after more) = absurd (omega arith)

-- ---- data

options_formed : {octets : List ℕ} {options : List EdnsOption} → OptionsOf octets options → AllByRecursion IsOption options
options_formed (well_formed each is) = each
options_formed (malformed none) = tt

data_formed : (bytes : List ℕ) (place next : ℕ) (d : RData) → DataRead bytes place d next → IsFormed d
data_formed bytes place next (rdata.A x) at = at.1
data_formed bytes place next (rdata.AAAA x) at = at.1
data_formed bytes place next (rdata.NS x) at = at.1
data_formed bytes place next (rdata.CNAME x) at = at.1
data_formed bytes place next (rdata.PTR x) at = at.1
data_formed bytes place next (rdata.MX x) at = at.1
data_formed bytes place next (rdata.SOA x) at = at.1
data_formed bytes place next (rdata.TXT x) at = at.1
data_formed bytes place next (rdata.OPT x) at = (options_formed at.2, tt)
data_formed bytes place next (rdata.TSIG x) at = at.1
data_formed bytes place next (rdata.NULL x) at = at.1
data_formed bytes place next (rdata.Update0 x) at = at.1
data_formed bytes place next (rdata.Unknown x o) at = at.1

data_names : (bytes : List ℕ) (place next : ℕ) (d : RData) → DataRead bytes place d next → HasNames d
data_names bytes place next (rdata.A x) at = tt
data_names bytes place next (rdata.AAAA x) at = tt
data_names bytes place next (rdata.NS x) at = name_labels at.0
data_names bytes place next (rdata.CNAME x) at = name_labels at.0
data_names bytes place next (rdata.PTR x) at = name_labels at.0
data_names bytes place next (rdata.MX x) at = let m = at.0 in name_labels m.exchange
data_names bytes place next (rdata.SOA x) at = let s = at.0 in (name_labels s.mname, name_labels s.rname)
data_names bytes place next (rdata.TXT x) at = tt
data_names bytes place next (rdata.OPT x) at = tt
data_names bytes place next (rdata.TSIG x) at = let t = at.0 in name_labels t.algorithm
data_names bytes place next (rdata.NULL x) at = tt
data_names bytes place next (rdata.Update0 x) at = tt
data_names bytes place next (rdata.Unknown x o) at = tt

no_long : (texts : List (List ℕ)) → AllByRecursion (λ text. length text < 256) texts → list_any (λ text. nat_lt 255 (length text)) texts ≡ false
no_long [] h = refl
no_long (t ∷ ts) h = let short : nat_lt 255 (length t) ≡ false = le-ltb _ _ (omega (arith, h.0)) in rw (short, no_long ts h.1) refl

-- data that are read, and whose length has 16 bits, have a form
has_form : (d : RData) → IsFormed d → data_len d < 2 ^ 16 → unwritable_reason d ≡ None
has_form (rdata.A x) f small = fits _ (omega arith)
has_form (rdata.AAAA x) f small = fits _ (omega arith)
has_form (rdata.NS x) f small = fits _ (omega arith)
has_form (rdata.CNAME x) f small = fits _ (omega arith)
has_form (rdata.PTR x) f small = fits _ (omega arith)
has_form (rdata.MX x) f small = fits _ (omega arith)
has_form (rdata.SOA x) f small = fits _ (omega arith)
has_form (rdata.TXT x) f small = rw (no_long x f.0) (fits _ (omega arith))
has_form (rdata.OPT x) f small = fits _ (omega arith)
has_form (rdata.TSIG x) f small = let time = lt-leb (2 ^ 48) x.time f.0.0 in rw time (fits _ (omega arith))
has_form (rdata.NULL x) f small = fits _ (omega arith)
has_form (rdata.Update0 x) f small = refl
has_form (rdata.Unknown x o) f small = fits _ (omega arith)

-- ---- records

whole_text : (bytes : List ℕ) → BytesAt bytes 0 bytes
whole_text bytes = record { fits = omega arith; same = λ k lt. ap (λ i. slice_index bytes i) (omega arith) }

pub reads_back : (r : Record RData) → IsFormedRecord r → AreLabels r.name.labels → HasNames r.rdata → unwritable_reason r.rdata ≡ None → ReadsBack r
reads_back r f owner names formed =
    let octets = record_octets r in
    formed_record 0 octets 0 (length octets) r f
    (record_stands octets 0 0 (length octets) r owner names (small_form r.rdata formed) (omega arith) (whole_text octets) (omega (arith, record_octets-len r)))

pub back_is_formed : (r : Record RData) → ReadsBack r → IsFormedRecord r × AreLabels r.name.labels × HasNames r.rdata × (unwritable_reason r.rdata ≡ None)
back_is_formed r at =
    let octets = record_octets r in
    let f = data_formed octets (at.middle + 10) (length octets) r.rdata at.rdata in
    let small : data_len r.rdata < 2 ^ 16 = omega (arith, record_octets-len r, run_len refl at.owner.labels, at.counted, at.small) in
    (record { name = at.name; class = at.class; ttl = at.ttl; rdata = f; proof = at.proof }, name_labels at.owner, data_names octets (at.middle + 10) (length octets) r.rdata at.rdata, has_form r.rdata f small)

-- ---- replies

never_stuck : {limit : ℕ} {lists : List (List (Record RData))} {old new : List ℕ} {fronts : List ListFront} {fault : Option ProtoError} → ListsWritten limit lists old new fronts fault → AllByRecursion (AllByRecursion HasForm) lists → fault ≡ None
never_stuck none_left formed = refl
never_stuck (next_list one more) formed = never_stuck more formed.1
never_stuck (stuck_list one uncut behind) formed = absurd (formless_none formed.0 one)

all_formed : (rs : List (Record RData)) → AllByRecursion (λ r. ReadsBack (without_proof r)) rs → AllByRecursion HasForm rs
all_formed [] h = tt
all_formed (r ∷ rs) h = ((back_is_formed (without_proof r) h.0).3, all_formed rs h.1)

lists_formed : (lists : List (List (Record RData))) → AllByRecursion (AllByRecursion (λ r. ReadsBack (without_proof r))) lists → AllByRecursion (AllByRecursion HasForm) lists
lists_formed [] h = tt
lists_formed (rs ∷ lists) h = (all_formed rs h.0, lists_formed lists h.1)

never_formless : (limit : ℕ) (reply : Reply) (queries : List Query) (e : ProtoError) → ReplyReadsBack reply queries → GetsStuck limit reply e → ⊥
never_formless limit reply queries e back s = let none : Some e ≡ None = never_stuck s.lists (lists_formed (reply_lists reply) back.records) in cc

-- the fallback is excluded
pub written_back : {limit : ℕ} {reply : Reply} {bytes : List ℕ} {header : Header} {queries : List Query} → ReplyReadsBack reply queries → 12 + length reply.question ≤ limit → Encoded limit reply bytes header
    → (fronts : Fronts) × Written limit reply bytes fronts × (header ≡ written_header reply fronts) × MessageAt bytes (decoded_message reply queries fronts)
written_back {limit} {reply} {bytes} {queries = queries} back fit (written {fronts = fronts} w) = (fronts, w, refl, message_stands limit reply bytes fronts queries w back.decodable)
written_back back fit (too_large large is) = absurd (omega arith)
written_back {limit} {reply} {queries = queries} back fit (formless {e = e} stuck is) = absurd (never_formless limit reply queries e back stuck)
