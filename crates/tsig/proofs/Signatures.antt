-- The TSIG record that is found is the one that stands last, and none is found exactly where none stands.
use Rattle.std.proofs.Common.{◌≡◌, ◌≢◌, ◌⊎◌, inl, inr, ℕ, zero, suc, ◌+◌, ◌-◌, ◌<◌, List, [], ◌∷◌, ◌++◌, length, length-append, true, false, cond, Option, Some, None, Result, Ok, Err, eqb, refl, sym, ap, subst, ◌∙◌, arith}
use Rattle.std.proofs.lemmas.Bool.{ne_eqb}
use Rattle.std.proofs.lemmas.Bool.Decides.{eqb_tells}
use Rattle.wire_names.specs.serialize.layout.Bytes.{AreBytes}
use Rattle.wire_names.specs.declared.error.DecodeError.{DecodeError}
use Rattle.wire_names.specs.declared.error.DecodeError.TheVariants.{RecordAfterSignature}
use Rattle.wire_messages.specs.serialize.reading.Cursor.{Cursor}
use Rattle.wire_messages.specs.serialize.layout.MessageLayout.{ItemsAt, QuestionRead, is_tsig, tsig_record}
use Rattle.wire_messages.specs.serialize.layout.RecordLayout.{DataRead, RecordAt}
use Rattle.wire_messages.specs.serialize.reading.Reading.{Read, ◌>>=◌}
use Rattle.wire_messages.specs.serialize.reading.RecordReading.{question, resource}
use Rattle.wire_messages.specs.serialize.reading.SectionReading.{header, with_data}
use Rattle.wire_messages.specs.declared.op.header.HeaderCounts.{HeaderCounts}
use Rattle.wire_messages.specs.declared.rr.rdata.RData.{RData}
use Rattle.wire_messages.specs.declared.rr.rdata.RData.TheVariants as rdata
use Rattle.wire_messages.specs.declared.rr.record.Record.{Record}
use Rattle.wire_messages.specs.declared.rr.tsig.TSIG.{TSIG}
use Rattle.wire_messages.proofs.lemmas.serialize.layout.ByteTexts.{here}
use Rattle.wire_messages.proofs.lemmas.serialize.reading.StringSteps.{wrap, ok_is, guard_ok, bind_ok}
use Rattle.wire_reading.specs.serialize.reading.MessageReading.{front_of}
use Rattle.wire_reading.proofs.lemmas.serialize.reading.CountedItems.{Finds, Reaches, is_here}
use Rattle.wire_reading.proofs.lemmas.serialize.reading.HeaderLaws.{header_found, header_here}
use Rattle.wire_reading.proofs.lemmas.serialize.reading.SectionItems.{questions_find, questions_reach, records_find, records_reach}
use Rattle.tsig.specs.Reading.{other, skip, placed, last_of, none_of, signature_behind, signature_of}
use Rattle.tsig.specs.Standing.{OtherAt, RecordsBegin, SignedAt, UnsignedAt}
use Rattle.tsig.specs.declared.reading.PlacedSignature.{PlacedSignature}
use Rattle.tsig.proofs.Walks.{items_end, skip_found, skip_here}

abbrev wrap_some : PlacedSignature → Option PlacedSignature
wrap_some p = Some p

-- ---- other records

-- another record that is read stands there
pub others_find : (bytes : List ℕ) → AreBytes bytes → Finds bytes other (OtherAt bytes)
unfolding other
others_find bytes a place r next e =
    let b = bind_ok (resource (here bytes place)) (λ r. cond (is_tsig r.0) (Err RecordAfterSignature) (wrap r)) (r, next) e in
    let g = guard_ok (is_tsig b.0.0) RecordAfterSignature b.0 (r, next) b.2 in
    let read : resource (here bytes place) ≡ Ok (r, next) = b.1 ∙ ap wrap g.1 in
    let f = records_find bytes a place r next read in
    (record { stands = f.0; other = ap (λ (z : Record RData × Cursor). is_tsig z.0) (sym g.1) ∙ g.0 }, f.1)

-- another record that stands there is read
pub others_reach : (bytes : List ℕ) → AreBytes bytes → Reaches bytes other (OtherAt bytes)
unfolding other
others_reach bytes a place r next at = rw (records_reach bytes a place r next at.stands, at.other) refl

-- ---- the last record

-- a TSIG is found where it is the last record
placed_tsig : (n place : ℕ) (s : Record TSIG) → placed n place (tsig_record s) (tsig_record s).rdata ≡ Some (record { additionals = n; place = place; signature = s })
placed_tsig n place s = refl

-- what is found is the last record
pub record IsPlaced (n place : ℕ) (r : Record RData) (p : PlacedSignature) : Type 0 where
  pub additionals : p.additionals ≡ n
  pub at : p.place ≡ place
  pub last : r ≡ tsig_record p.signature

abbrev with_rdata : Record RData → RData → Record RData
with_rdata r d = record r { rdata = d }

found_placed : (n place : ℕ) (r : Record RData) (d : RData) (p : PlacedSignature) → placed n place r d ≡ Some p → IsPlaced n place (with_rdata r d) p
found_placed n place r (rdata.TSIG t) p e =
    let q : PlacedSignature = record { additionals = n; place = place; signature = with_data r t } in
    let same : q ≡ p = cc in
    subst (λ (z : PlacedSignature). IsPlaced n place (with_rdata r (rdata.TSIG t)) z) same (record { additionals = refl; at = refl; last = refl })
found_placed n place r (rdata.A x) p e = absurd cc
found_placed n place r (rdata.AAAA x) p e = absurd cc
found_placed n place r (rdata.NS x) p e = absurd cc
found_placed n place r (rdata.CNAME x) p e = absurd cc
found_placed n place r (rdata.PTR x) p e = absurd cc
found_placed n place r (rdata.MX x) p e = absurd cc
found_placed n place r (rdata.SOA x) p e = absurd cc
found_placed n place r (rdata.TXT x) p e = absurd cc
found_placed n place r (rdata.OPT x) p e = absurd cc
found_placed n place r (rdata.NULL x) p e = absurd cc
found_placed n place r (rdata.Update0 x) p e = absurd cc
found_placed n place r (rdata.Unknown x y) p e = absurd cc

-- where none is found, the last record is no TSIG
none_placed : (n place : ℕ) (bytes : List ℕ) (at next : ℕ) (r : Record RData) (d : RData) → DataRead bytes at d next → placed n place r d ≡ None → is_tsig (with_rdata r d) ≡ false
none_placed n place bytes at next r (rdata.TSIG t) read e = absurd cc
none_placed n place bytes at next r (rdata.A x) read e = refl
none_placed n place bytes at next r (rdata.AAAA x) read e = refl
none_placed n place bytes at next r (rdata.NS x) read e = refl
none_placed n place bytes at next r (rdata.CNAME x) read e = refl
none_placed n place bytes at next r (rdata.PTR x) read e = refl
none_placed n place bytes at next r (rdata.MX x) read e = refl
none_placed n place bytes at next r (rdata.SOA x) read e = refl
none_placed n place bytes at next r (rdata.TXT x) read e = refl
none_placed n place bytes at next r (rdata.OPT x) read e = refl
none_placed n place bytes at next r (rdata.NULL x) read e = refl
none_placed n place bytes at next r (rdata.Update0 code) (stands, (small, (other, unsigned))) e = ne_eqb code 250 unsigned
none_placed n place bytes at next r (rdata.Unknown code x) (stands, (small, (some, a, b, d, f, g, h, i, j, k, l, unsigned))) e = ne_eqb code 250 unsigned

-- and the other way round
no_tsig_placed : (n place : ℕ) (r : Record RData) (d : RData) → is_tsig (with_rdata r d) ≡ false → placed n place r d ≡ None
no_tsig_placed n place r (rdata.TSIG t) e = absurd cc
no_tsig_placed n place r (rdata.A x) e = refl
no_tsig_placed n place r (rdata.AAAA x) e = refl
no_tsig_placed n place r (rdata.NS x) e = refl
no_tsig_placed n place r (rdata.CNAME x) e = refl
no_tsig_placed n place r (rdata.PTR x) e = refl
no_tsig_placed n place r (rdata.MX x) e = refl
no_tsig_placed n place r (rdata.SOA x) e = refl
no_tsig_placed n place r (rdata.TXT x) e = refl
no_tsig_placed n place r (rdata.OPT x) e = refl
no_tsig_placed n place r (rdata.NULL x) e = refl
no_tsig_placed n place r (rdata.Update0 x) e = refl
no_tsig_placed n place r (rdata.Unknown x y) e = refl

-- ---- what is found stands there

-- a message with this TSIG record, or with none
abbrev pub Stands : List ℕ → Option PlacedSignature → Type 0
Stands bytes None = (stop : ℕ) × UnsignedAt bytes stop
Stands bytes (Some p) = (stop : ℕ) × SignedAt bytes p.additionals p.place p.signature stop

none_found : (bytes : List ℕ) (counts : HeaderCounts) (place : ℕ) (r : Option PlacedSignature) → AreBytes bytes → RecordsBegin bytes counts place → counts.additionals ≡ 0
    → none_of counts (here bytes place) ≡ Ok r → Stands bytes r
unfolding none_of
none_found bytes counts place r a begin none e =
    let nothing : Option PlacedSignature = None in
    let b = bind_ok (skip other (counts.answers + counts.authorities) (here bytes place)) (λ _. wrap nothing) r e in
    let f = skip_found bytes other (OtherAt bytes) (others_find bytes a) (counts.answers + counts.authorities) place b.0 b.1 in
    let u : UnsignedAt bytes b.0.place = record { counts = counts; records_at = place; records = f.xs; begin = begin; stand = f.stand; number = omega (arith, f.count) } in
    subst (Stands bytes) (ok_is nothing r b.2) (b.0.place, u)

-- the last record, behind all others
last_stands : (bytes : List ℕ) (counts : HeaderCounts) (place behind stop : ℕ) (others : List (Record RData)) (last : Record RData) → RecordsBegin bytes counts place → 0 < counts.additionals
    → ItemsAt (OtherAt bytes) place others behind → length others ≡ counts.answers + counts.authorities + (counts.additionals - 1) → RecordAt bytes behind last stop
    → (r : Option PlacedSignature) → placed counts.additionals behind last last.rdata ≡ r → Stands bytes r
last_stands bytes counts place behind stop others last begin some stand count at None e =
    let one : OtherAt bytes behind last stop = record { stands = at; other = none_placed counts.additionals behind bytes (at.middle + 10) stop last last.rdata at.rdata e } in (
      stop,
      record {
        counts = counts;
        records_at = place;
        records = others ++ last ∷ [];
        begin = begin;
        stand = items_end (OtherAt bytes) others last place behind stop stand one;
        number = omega (arith, length-append others (last ∷ []));
      },
    )
last_stands bytes counts place behind stop others last begin some stand count at (Some p) e =
    let is = found_placed counts.additionals behind last last.rdata p e in (
      stop,
      record {
        counts = counts;
        records_at = place;
        records = others;
        begin = begin;
        last = sym is.additionals;
        some = subst (λ (n : ℕ). 0 < n) (sym is.additionals) some;
        stand = subst (λ (n : ℕ). ItemsAt (OtherAt bytes) place others n) (sym is.at) stand;
        number = omega (arith, is.additionals);
        stands = subst (λ (n : ℕ). RecordAt bytes n (tsig_record p.signature) stop) (sym is.at) (subst (λ (x : Record RData). RecordAt bytes behind x stop) is.last at);
      },
    )

last_found : (bytes : List ℕ) (counts : HeaderCounts) (place : ℕ) (r : Option PlacedSignature) → AreBytes bytes → RecordsBegin bytes counts place → 0 < counts.additionals
    → last_of counts (here bytes place) ≡ Ok r → Stands bytes r
unfolding last_of
last_found bytes counts place r a begin some e =
    let number : ℕ = counts.answers + counts.authorities + (counts.additionals - 1) in
    let b = bind_ok (skip other number (here bytes place)) (λ others. resource others >>= λ last. wrap (placed counts.additionals others.place last.0 last.0.rdata)) r e in
    let f = skip_found bytes other (OtherAt bytes) (others_find bytes a) number place b.0 b.1 in
    let l = bind_ok (resource b.0) (λ last. wrap (placed counts.additionals b.0.place last.0 last.0.rdata)) r b.2 in
    let at = records_find bytes a b.0.place l.0.0 l.0.1 (ap resource (sym (is_here b.0 f.kept)) ∙ l.1) in
    last_stands bytes counts place b.0.place l.0.1.place f.xs l.0.0 begin some f.stand f.count at.0 r (ok_is (placed counts.additionals b.0.place l.0.0 l.0.0.rdata) r l.2)

abbrev Case : ℕ → Type 0
Case n = ((eqb n 0 ≡ true) × (n ≡ 0)) ⊎ ((eqb n 0 ≡ false) × (n ≢ 0))

either_found : (bytes : List ℕ) (counts : HeaderCounts) (place : ℕ) (r : Option PlacedSignature) → AreBytes bytes → RecordsBegin bytes counts place → Case counts.additionals
    → cond (eqb counts.additionals 0) (none_of counts (here bytes place)) (last_of counts (here bytes place)) ≡ Ok r → Stands bytes r
either_found bytes counts place r a begin (inl (t, none)) e = none_found bytes counts place r a begin none (sym (ap (λ b. cond b (none_of counts (here bytes place)) (last_of counts (here bytes place))) t) ∙ e)
either_found bytes counts place r a begin (inr (t, some)) e = last_found bytes counts place r a begin (omega arith) (sym (ap (λ b. cond b (none_of counts (here bytes place)) (last_of counts (here bytes place))) t) ∙ e)

-- What is found of a message stands in it.
pub signature_found : (bytes : List ℕ) (r : Option PlacedSignature) → AreBytes bytes → signature_of (front_of bytes) ≡ Ok r → Stands bytes r
unfolding signature_of signature_behind
signature_found bytes r a e =
    let h = bind_ok (header (front_of bytes)) (λ h. signature_behind h.0.counts h.1) r e in
    let counts = h.0.0.counts in
    let hf = header_found bytes h.0.0 h.0.1 a h.1 in
    let is : h.0.1 ≡ here bytes 12 = is_here h.0.1 hf.2 ∙ ap (here bytes) hf.1 in
    let at : signature_behind counts (here bytes 12) ≡ Ok r = ap (signature_behind counts) (sym is) ∙ h.2 in
    let q = bind_ok (skip question counts.queries (here bytes 12)) (λ records. cond (eqb counts.additionals 0) (none_of counts records) (last_of counts records)) r at in
    let f = skip_found bytes question (QuestionRead bytes) (questions_find bytes a) counts.queries 12 q.0 q.1 in
    let begin : RecordsBegin bytes counts q.0.place = record { header = h.0.0; stands = hf.0; counted = refl; queries = f.xs; questions = f.stand; query_count = f.count } in
    either_found bytes counts q.0.place r a begin (eqb_tells counts.additionals 0)
    (ap (λ (c : Cursor). cond (eqb counts.additionals 0) (none_of counts c) (last_of counts c)) (sym (is_here q.0 f.kept)) ∙ q.2)

-- ---- what stands there is found

begin_found : (bytes : List ℕ) (counts : HeaderCounts) (place : ℕ) → AreBytes bytes → RecordsBegin bytes counts place
    → signature_of (front_of bytes) ≡ cond (eqb counts.additionals 0) (none_of counts (here bytes place)) (last_of counts (here bytes place))
unfolding signature_of signature_behind
begin_found bytes counts place a begin =
    let number : length begin.queries ≡ begin.header.counts.queries = begin.query_count ∙ ap (λ (c : HeaderCounts). c.queries) (sym begin.counted) in
    let q : skip question begin.header.counts.queries (here bytes 12) ≡ Ok (here bytes place) =
    subst (λ (k : ℕ). skip question k (here bytes 12) ≡ Ok (here bytes place)) number (skip_here bytes question (QuestionRead bytes) (questions_reach bytes a) begin.queries 12 place begin.questions) in
    rw (header_here bytes begin.header begin.stands, q) (ap (λ (c : HeaderCounts). cond (eqb c.additionals 0) (none_of c (here bytes place)) (last_of c (here bytes place))) begin.counted)

-- A TSIG that stands last is found.
pub signed_found : (bytes : List ℕ) (n place : ℕ) (s : Record TSIG) (stop : ℕ) → AreBytes bytes → SignedAt bytes n place s stop
    → signature_of (front_of bytes) ≡ Ok (Some (record { additionals = n; place = place; signature = s }))
unfolding last_of
signed_found bytes n place s stop a at =
    let number : length at.records ≡ at.counts.answers + at.counts.authorities + (at.counts.additionals - 1) = omega (arith, at.number, at.last, at.some) in
    let others : skip other (at.counts.answers + at.counts.authorities + (at.counts.additionals - 1)) (here bytes at.records_at) ≡ Ok (here bytes place) =
    subst (λ (k : ℕ). skip other k (here bytes at.records_at) ≡ Ok (here bytes place)) number (skip_here bytes other (OtherAt bytes) (others_reach bytes a) at.records at.records_at place at.stand) in
    let some : eqb at.counts.additionals 0 ≡ false = ne_eqb at.counts.additionals 0 (λ z. let l = at.last in let p = at.some in omega arith) in
    begin_found bytes at.counts at.records_at a at.begin
    ∙ rw (some, others, records_reach bytes a place (tsig_record s) stop at.stands) (ap (λ (k : ℕ). wrap (wrap_some (record { additionals = k; place = place; signature = s }))) at.last)

regroup : {A B D : Type 0} (r : Result A DecodeError) (f : A → Result B DecodeError) (g : B → Result D DecodeError) → (r >>= λ x. f x >>= g) ≡ ((r >>= f) >>= g)
regroup (Ok x) f g = refl
regroup (Err e) f g = refl

then_same : {A B : Type 0} (r : Result A DecodeError) (f g : A → Result B DecodeError) → ((x : A) → f x ≡ g x) → (r >>= f) ≡ (r >>= g)
then_same (Ok x) f g h = h x
then_same (Err e) f g h = refl

-- the place behind an item
abbrev behind : {A : Type 0} → (Cursor → Read A) → Cursor → Result Cursor DecodeError
behind read d = read d >>= λ x. wrap x.1

-- the last of some items that are skipped
skip_last : {A : Type 0} (read : Cursor → Read A) (n : ℕ) (c : Cursor) → skip read (suc n) c ≡ (skip read n c >>= behind read)
unfolding skip
skip_last read zero c = refl
skip_last {A} read (suc n) c =
    then_same (read c) (λ (x : A × Cursor). skip read (suc n) x.1) (λ (x : A × Cursor). skip read n x.1 >>= behind read) (λ x. skip_last read n x.1)
    ∙ regroup (read c) (λ (x : A × Cursor). skip read n x.1) (behind read)

other_is : (c : Cursor) (x : Record RData × Cursor) → other c ≡ Ok x → (resource c ≡ Ok x) × (is_tsig x.0 ≡ false)
unfolding other
other_is c x e =
    let b = bind_ok (resource c) (λ r. cond (is_tsig r.0) (Err RecordAfterSignature) (wrap r)) x e in
    let g = guard_ok (is_tsig b.0.0) RecordAfterSignature b.0 x b.2 in
    (b.1 ∙ ap wrap g.1, ap (λ (z : Record RData × Cursor). is_tsig z.0) (sym g.1) ∙ g.0)

last_unsigned : (counts : HeaderCounts) (c stop : Cursor) → 0 < counts.additionals → skip other (counts.answers + counts.authorities + counts.additionals) c ≡ Ok stop → last_of counts c ≡ Ok None
unfolding last_of
last_unsigned counts c stop some e =
    let number : ℕ = counts.answers + counts.authorities + (counts.additionals - 1) in
    let is : counts.answers + counts.authorities + counts.additionals ≡ suc number = omega arith in
    let all : (skip other number c >>= behind other) ≡ Ok stop = sym (skip_last other number c) ∙ ap (λ (k : ℕ). skip other k c) (sym is) ∙ e in
    let b = bind_ok (skip other number c) (behind other) stop all in
    let l = bind_ok (other b.0) (λ x. wrap x.1) stop b.2 in
    let o = other_is b.0 l.0 l.1 in
    rw (b.1, o.0) (ap wrap (no_tsig_placed counts.additionals b.0.place l.0.0 l.0.0.rdata o.1))

either_unsigned : (bytes : List ℕ) (counts : HeaderCounts) (place : ℕ) (stop : ℕ) → skip other (counts.answers + counts.authorities + counts.additionals) (here bytes place) ≡ Ok (here bytes stop) → Case counts.additionals
    → cond (eqb counts.additionals 0) (none_of counts (here bytes place)) (last_of counts (here bytes place)) ≡ Ok None
unfolding none_of
either_unsigned bytes counts place stop e (inl (t, none)) =
    let same : counts.answers + counts.authorities + counts.additionals ≡ counts.answers + counts.authorities = omega arith in
    let all : skip other (counts.answers + counts.authorities) (here bytes place) ≡ Ok (here bytes stop) = ap (λ (k : ℕ). skip other k (here bytes place)) (sym same) ∙ e in
    rw (t, all) refl
either_unsigned bytes counts place stop e (inr (t, some)) = rw t (last_unsigned counts (here bytes place) (here bytes stop) (omega arith) e)

-- Where no record is a TSIG, none is found.
pub unsigned_found : (bytes : List ℕ) (stop : ℕ) → AreBytes bytes → UnsignedAt bytes stop → signature_of (front_of bytes) ≡ Ok None
unsigned_found bytes stop a at =
    let all : skip other (at.counts.answers + at.counts.authorities + at.counts.additionals) (here bytes at.records_at) ≡ Ok (here bytes stop) =
    subst (λ (k : ℕ). skip other k (here bytes at.records_at) ≡ Ok (here bytes stop)) at.number (skip_here bytes other (OtherAt bytes) (others_reach bytes a) at.records at.records_at stop at.stand) in
    begin_found bytes at.counts at.records_at a at.begin ∙ either_unsigned bytes at.counts at.records_at stop all (eqb_tells at.counts.additionals 0)
