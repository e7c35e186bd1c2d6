-- The sections of a message have a first fault exactly where reading meets it.
use Rattle.std.proofs.Common.{◌≡◌, ◌≢◌, ◌⊎◌, inl, inr, ℕ, zero, suc, ◌<◌, List, [], ◌∷◌, ◌++◌, length, true, false, not, cond, eqb, Option, Some, None, Result, Ok, Err, refl, sym, ap, subst, ◌∙◌, arith}
use Rattle.std.specs.Prelude.{is_some}
use Rattle.std.proofs.lemmas.Bool.{eq-eqb, ne_eqb}
use Rattle.wire_names.specs.serialize.layout.Bytes.{AreBytes}
use Rattle.wire_messages.specs.serialize.reading.Cursor.{Cursor}
use Rattle.wire_reading.specs.serialize.reading.MessageFaults.{QuestionsStand, RecordsStand, QuestionsFault, MisplacedOrFaulty, RecordsFault, UnfitOrFaulty, AdditionalsFault}
use Rattle.wire_reading.specs.serialize.reading.MessageFaults.MisplacedOrFaulty.{faulty as faulty_itself, misplaced}
use Rattle.wire_reading.specs.serialize.reading.MessageFaults.UnfitOrFaulty.{faulty, after_signature, not_at_root, second_opt}
use Rattle.wire_messages.specs.serialize.layout.MessageLayout.{QuestionRead, is_opt, is_for_additionals_alone, edns_of}
use Rattle.wire_messages.specs.serialize.reading.Reading.{Read, ◌>>=◌}
use Rattle.wire_messages.specs.rr.RecordData.{type_of}
use Rattle.wire_messages.specs.serialize.layout.RecordLayout.{RecordAt}
use Rattle.wire_messages.specs.serialize.reading.RecordReading.{resource, question}
use Rattle.wire_messages.specs.serialize.reading.SectionReading.{Additionals, items, section_record, placed, with_data, add_record, additionals_after, no_additionals}
use Rattle.wire_messages.specs.declared.op.edns.EdnsOption.{EdnsOption}
use Rattle.wire_names.specs.declared.error.DecodeError.{DecodeError}
use Rattle.wire_names.specs.declared.error.DecodeError.TheVariants.{RecordNotInAdditionals, RecordAfterSignature, EdnsNameNotRoot, DuplicateEdns}
use Rattle.wire_messages.specs.declared.op.query.Query.{Query}
use Rattle.wire_messages.specs.declared.rr.rdata.RData.{RData}
use Rattle.wire_messages.specs.declared.rr.rdata.RData.TheVariants as rdata
use Rattle.wire_messages.specs.declared.rr.record.Record.{Record}
use Rattle.wire_reading.proofs.lemmas.serialize.reading.AdditionalItems.{section_read, section_here}
use Rattle.wire_messages.proofs.lemmas.serialize.layout.ByteTexts.{here, read_here}
use Rattle.wire_reading.proofs.lemmas.serialize.reading.CountedItems.{is_here, items_found, items_both}
use Rattle.wire_reading.proofs.lemmas.serialize.reading.FaultSteps.{fail, fail_is, bind_err, branch_err}
use Rattle.wire_reading.proofs.lemmas.serialize.reading.ReadFields.{eq_of}
use Rattle.wire_reading.proofs.lemmas.serialize.reading.RecordFaultLaws.{question_err, err_question, resource_err, err_resource}
use Rattle.wire_messages.proofs.lemmas.serialize.reading.RecordSorts.{Sort, sorts_of}
use Rattle.wire_messages.proofs.lemmas.serialize.reading.RecordSorts.Sort.{an_opt, a_tsig, other}
use Rattle.wire_reading.proofs.lemmas.serialize.reading.SectionItems.{PlainAt, questions_find, questions_reach, records_find, records_reach, plain_find, plain_reach, plain_parts, plain_whole}
use Rattle.wire_messages.proofs.lemmas.serialize.reading.StringSteps.{wrap, ok_is, bind_ok}

-- ---- items, one after another

-- where items that are read one after another fail
pub record StopsAt {A : Type 0} (read : Cursor → Read A) (n : ℕ) (before : List A) (c : Cursor) (e : DecodeError) : Type 0 where
  pub number : ℕ
  pub all : List A
  pub stop : Cursor
  pub fewer : number < n
  pub went : items read number before c ≡ Ok (all, stop)
  pub fails : read stop ≡ Err e

-- items that fail, fail at one of them
pub items_err : {A : Type 0} (read : Cursor → Read A) (n : ℕ) (before : List A) (c : Cursor) (e : DecodeError) → items read n before c ≡ Err e → StopsAt read n before c e
unfolding items
items_err {A} read zero before c e h = let y : List A × Cursor = (before, c) in let g : wrap y ≡ Err e = h in absurd cc
items_err read (suc n) before c e h =
    bind_err (read c) (λ x. items read n (before ++ x.0 ∷ []) x.1) e _ h
    (λ f. record { number = 0; all = before; stop = c; fewer = omega arith; went = refl; fails = f })
    (λ x f g. let s = items_err read n (before ++ x.0 ∷ []) x.1 e g in
    record { number = suc s.number; all = s.all; stop = s.stop; fewer = omega (arith, s.fewer); went = rw f s.went; fails = s.fails })

-- items fail where one of them does
pub err_items : {A : Type 0} (read : Cursor → Read A) (k n : ℕ) (before all : List A) (c stop : Cursor) (e : DecodeError) → k < n → items read k before c ≡ Ok (all, stop) → read stop ≡ Err e → items read n before c ≡ Err e
unfolding items
err_items read k zero before all c stop e lt went fails = absurd (omega arith)
err_items {A} read zero (suc n) before all c stop e lt went fails =
    let y : List A × Cursor = (before, c) in
    let same : c ≡ stop = ap (λ (z : List A × Cursor). z.1) (ok_is y (all, stop) went) in
    rw (same, fails) refl
err_items read (suc k) (suc n) before all c stop e lt went fails =
    let b = bind_ok (read c) (λ x. items read k (before ++ x.0 ∷ []) x.1) (all, stop) went in
    rw b.1 (err_items read k n (before ++ b.0.0 ∷ []) all b.0.1 stop e (omega arith) b.2 fails)

-- ---- questions

-- questions that are read stand there
pub questions_stand : (bytes : List ℕ) → AreBytes bytes → (n p : ℕ) (all : List Query) (stop : Cursor) → items question n [] (here bytes p) ≡ Ok (all, stop) → QuestionsStand bytes p n stop.place × (stop.bytes ≡ bytes)
questions_stand bytes a n p all stop h =
    let f = items_found bytes question (QuestionRead bytes) (questions_find bytes a) n [] p all stop h in
    (record { queries = f.more; stand = f.stand; number = f.count }, f.kept)

-- questions that stand there are read
pub stand_questions : {bytes : List ℕ} {n p next : ℕ} → AreBytes bytes → (s : QuestionsStand bytes p n next) → items question n [] (here bytes p) ≡ read_here s.queries bytes next
stand_questions {bytes} {n} {p} {next} a s = (items_both bytes question (QuestionRead bytes) (questions_find bytes a) (questions_reach bytes a) n p s.queries next).0 (s.stand, s.number)

-- questions that fail have this fault
pub questions_err : (bytes : List ℕ) → AreBytes bytes → (n p : ℕ) (e : DecodeError) → items question n [] (here bytes p) ≡ Err e → QuestionsFault bytes p n e
questions_err bytes a n p e h =
    let s = items_err question n [] (here bytes p) e h in
    let q = questions_stand bytes a s.number p s.all s.stop s.went in
    record { before = s.number; next = s.stop.place; fewer = s.fewer; stand = q.0; faulty = question_err bytes s.stop.place e (ap question (sym (is_here s.stop q.1)) ∙ s.fails) }

-- the fault of questions fails so
pub err_questions : {bytes : List ℕ} {n p : ℕ} {e : DecodeError} → AreBytes bytes → QuestionsFault bytes p n e → items question n [] (here bytes p) ≡ Err e
err_questions {bytes} {n} {p} {e} a q = err_items question q.before n [] q.stand.queries (here bytes p) (here bytes q.next) e q.fewer (stand_questions a q.stand) (err_question q.faulty)

-- ---- records of an answer or authority section

-- a record of a section that fails has this fault
pub section_record_err : (bytes : List ℕ) → AreBytes bytes → (p : ℕ) (e : DecodeError) → section_record (here bytes p) ≡ Err e → MisplacedOrFaulty bytes p e
unfolding section_record
section_record_err bytes a p e h =
    bind_err (resource (here bytes p)) (λ r. cond (is_for_additionals_alone (type_of r.0.rdata)) (Err RecordNotInAdditionals) (Ok r)) e (MisplacedOrFaulty bytes p e) h
    (λ f. faulty_itself (resource_err bytes a p e f))
    (λ r f g. branch_err (is_for_additionals_alone (type_of r.0.rdata)) (Err RecordNotInAdditionals) (wrap r) e (MisplacedOrFaulty bytes p e) g
    (λ test is. subst (MisplacedOrFaulty bytes p) (fail_is RecordNotInAdditionals e is) (misplaced (records_find bytes a p r.0 r.1 f).0 test)) (λ _ bad. absurd cc))

-- the fault of such a record fails so
pub err_section_record : {bytes : List ℕ} {p : ℕ} {e : DecodeError} → AreBytes bytes → MisplacedOrFaulty bytes p e → section_record (here bytes p) ≡ Err e
unfolding section_record
err_section_record a (faulty_itself f) = rw (err_resource f) refl
err_section_record {bytes} {p} a (misplaced {r = r} {next = next} at test) = rw (records_reach bytes a p r next at, test) refl

-- records that are read stand there
pub records_stand : (bytes : List ℕ) → AreBytes bytes → (n p : ℕ) (all : List (Record RData)) (stop : Cursor) → items section_record n [] (here bytes p) ≡ Ok (all, stop) → RecordsStand bytes p n stop.place × (stop.bytes ≡ bytes)
records_stand bytes a n p all stop h =
    let f = items_found bytes section_record (PlainAt bytes) (plain_find bytes a) n [] p all stop h in
    let parts = plain_parts bytes p f.more stop.place f.stand in
    (record { records = f.more; stand = parts.0; number = f.count; plain = parts.1 }, f.kept)

-- records that stand there are read
pub stand_records : {bytes : List ℕ} {n p next : ℕ} → AreBytes bytes → (s : RecordsStand bytes p n next) → items section_record n [] (here bytes p) ≡ read_here s.records bytes next
stand_records {bytes} {n} {p} {next} a s =
    (items_both bytes section_record (PlainAt bytes) (plain_find bytes a) (plain_reach bytes a) n p s.records next).0 (plain_whole bytes p s.records next s.stand s.plain, s.number)

-- records that fail have this fault
pub records_err : (bytes : List ℕ) → AreBytes bytes → (n p : ℕ) (e : DecodeError) → items section_record n [] (here bytes p) ≡ Err e → RecordsFault bytes p n e
records_err bytes a n p e h =
    let s = items_err section_record n [] (here bytes p) e h in
    let q = records_stand bytes a s.number p s.all s.stop s.went in
    record { before = s.number; next = s.stop.place; fewer = s.fewer; stand = q.0; faulty = section_record_err bytes a s.stop.place e (ap section_record (sym (is_here s.stop q.1)) ∙ s.fails) }

-- the fault of records fails so
pub err_records : {bytes : List ℕ} {n p : ℕ} {e : DecodeError} → AreBytes bytes → RecordsFault bytes p n e → items section_record n [] (here bytes p) ≡ Err e
err_records {bytes} {n} {p} {e} a q = err_items section_record q.before n [] q.stand.records (here bytes p) (here bytes q.next) e q.fewer (stand_records a q.stand) (err_section_record a q.faulty)

-- ---- records of an additional section

-- a record goes to those before it
abbrev pub next_record : Additionals → Cursor → Result Additionals DecodeError
next_record x c = resource c >>= λ r. add_record x r.0

-- where the records of an additional section fail
record FailsAt (n : ℕ) (x : Additionals) (c : Cursor) (e : DecodeError) : Type 0 where
  pub number : ℕ
  pub all : Additionals
  pub stop : Cursor
  pub fewer : number < n
  pub went : additionals_after number x c ≡ Ok (all, stop)
  pub fails : next_record all stop ≡ Err e

-- they fail at one of them
additionals_fail : (n : ℕ) (x : Additionals) (c : Cursor) (e : DecodeError) → additionals_after n x c ≡ Err e → FailsAt n x c e
unfolding additionals_after
additionals_fail zero x c e h = let y : Additionals × Cursor = (x, c) in let g : wrap y ≡ Err e = h in absurd cc
additionals_fail (suc n) x c e h =
    bind_err (resource c) (λ r. add_record x r.0 >>= λ y. additionals_after n y r.1) e _ h
    (λ f. record { number = 0; all = x; stop = c; fewer = omega arith; went = refl; fails = rw f refl })
    (λ r f g. bind_err (add_record x r.0) (λ y. additionals_after n y r.1) e _ g
    (λ k. record { number = 0; all = x; stop = c; fewer = omega arith; went = refl; fails = rw f k })
    (λ y k l. let s = additionals_fail n y r.1 e l in
    record { number = suc s.number; all = s.all; stop = s.stop; fewer = omega (arith, s.fewer); went = rw (f, k) s.went; fails = s.fails }))

-- they fail where one of them does
fail_additionals : (k n : ℕ) (x all : Additionals) (c stop : Cursor) (e : DecodeError) → k < n → additionals_after k x c ≡ Ok (all, stop) → next_record all stop ≡ Err e → additionals_after n x c ≡ Err e
unfolding additionals_after
fail_additionals k zero x all c stop e lt went fails = absurd (omega arith)
fail_additionals zero (suc n) x all c stop e lt went fails =
    let y : Additionals × Cursor = (x, c) in
    let same : y ≡ (all, stop) = ok_is y (all, stop) went in
    let h : next_record x c ≡ Err e = ap (λ (z : Additionals × Cursor). next_record z.0 z.1) same ∙ fails in
    bind_err (resource c) (λ r. add_record x r.0) e _ h (λ f. rw f refl) (λ r f g. rw (f, g) refl)
fail_additionals (suc k) (suc n) x all c stop e lt went fails =
    let b = bind_ok (resource c) (λ r. add_record x r.0 >>= λ y. additionals_after k y r.1) (all, stop) went in
    let d = bind_ok (add_record x b.0.0) (λ y. additionals_after k y b.0.1) (all, stop) b.2 in
    rw (b.1, d.1) (fail_additionals k n d.0 all b.0.1 stop e (omega arith) d.2 fails)

-- whether an option holds something
holds : {A : Type 0} (o : Option A) → ((is_some o ≡ false) × (o ≡ None)) ⊎ ((is_some o ≡ true) × (o ≢ None))
holds None = inl (refl, refl)
holds (Some x) = inr (refl, λ e. cc)

-- whether labels are those of the root
at_root : (labels : List (List ℕ)) → ((not (eqb (length labels) 0) ≡ false) × (labels ≡ [])) ⊎ ((not (eqb (length labels) 0) ≡ true) × (labels ≢ []))
at_root [] = inl (refl, refl)
at_root (l ∷ ls) = inr (rw (ne_eqb (length (l ∷ ls)) 0 (λ h. omega arith)) refl, λ e. cc)

-- the sort of the data of a record
data_sort : {bytes : List ℕ} {p next : ℕ} {r : Record RData} → RecordAt bytes p r next → Sort r.rdata
data_sort {bytes} {p} {next} {r} at = (sorts_of bytes p (r ∷ []) next (next, at, refl)).0

-- an OPT that does not fit
opt_err : {bytes : List ℕ} {p next : ℕ} (x : Additionals) (r : Record RData) (options : List EdnsOption) (e : DecodeError) → RecordAt bytes p r next → r.rdata ≡ rdata.OPT options → x.signature ≡ None → placed x r (rdata.OPT options) ≡ Err e
    → UnfitOrFaulty bytes x.edns x.signature p e
opt_err {bytes} {p} x r options e at is unsigned h =
    let F : DecodeError → Type 0 = UnfitOrFaulty bytes x.edns x.signature p in
    let opt : is_opt r ≡ true = eq-eqb (type_of r.rdata) 41 (ap type_of is) in
    elim (at_root r.name.labels) [
      | inr away ↦
          let g : fail EdnsNameNotRoot ≡ Err e = sym (rw away.0 refl) ∙ h in
          subst F (fail_is EdnsNameNotRoot e g) (not_at_root at unsigned opt away.1)
      | inl root ↦ elim (holds x.edns) [
        | inr had ↦
            let g : fail DuplicateEdns ≡ Err e = sym (rw (root.0, had.0) refl) ∙ h in
            subst F (fail_is DuplicateEdns e g) (second_opt at unsigned opt root.1 had.1)
        | inl free ↦
            let y : Additionals = record x { edns = Some (edns_of r options) } in
            let g : wrap y ≡ Err e = sym (rw (root.0, free.0) refl) ∙ h in
            absurd cc
      ]
    ]

-- a record that does not fit behind no TSIG
unsigned_err : {bytes : List ℕ} {p next : ℕ} (x : Additionals) (r : Record RData) (e : DecodeError) → RecordAt bytes p r next → Sort r.rdata → x.signature ≡ None → placed x r r.rdata ≡ Err e → UnfitOrFaulty bytes x.edns x.signature p e
unsigned_err x r e at (an_opt options is) unsigned h = opt_err x r options e at is unsigned (ap (placed x r) (sym is) ∙ h)
unsigned_err x r e at (a_tsig signature is) unsigned h =
    let y : Additionals = record x { signature = Some (with_data r signature) } in
    let g : wrap y ≡ Err e = ap (placed x r) (sym is) ∙ h in
    absurd cc
unsigned_err x r e at (other no_opt no_tsig place) unsigned h =
    let y : Additionals = record x { records = x.records ++ r ∷ [] } in
    let g : wrap y ≡ Err e = sym (place x r) ∙ h in
    absurd cc

-- a record that does not fit where it stands
unfit_err : {bytes : List ℕ} {p next : ℕ} (x : Additionals) (r : Record RData) (e : DecodeError) → RecordAt bytes p r next → add_record x r ≡ Err e → UnfitOrFaulty bytes x.edns x.signature p e
unfolding add_record
unfit_err {bytes} {p} x r e at h = elim (holds x.signature) [
  | inr signed ↦
      let g : fail RecordAfterSignature ≡ Err e = sym (rw signed.0 refl) ∙ h in
      subst (UnfitOrFaulty bytes x.edns x.signature p) (fail_is RecordAfterSignature e g) (after_signature at signed.1)
  | inl unsigned ↦
      let is : add_record x r ≡ placed x r r.rdata = rw unsigned.0 refl in
      unsigned_err x r e at (data_sort at) unsigned.1 (sym is ∙ h)
]

-- an additional section that fails has this fault
pub additionals_err : (bytes : List ℕ) → AreBytes bytes → (n p : ℕ) (e : DecodeError) → additionals_after n no_additionals (here bytes p) ≡ Err e → AdditionalsFault bytes p n e
additionals_err bytes a n p e h =
    let s = additionals_fail n no_additionals (here bytes p) e h in
    let f = section_read bytes a s.number p s.all s.stop s.went in
    let q = s.stop.place in
    let fails : next_record s.all (here bytes q) ≡ Err e = ap (next_record s.all) (sym (is_here s.stop f.kept)) ∙ s.fails in
    record {
      before = s.number;
      next = q;
      edns = s.all.edns;
      signature = s.all.signature;
      fewer = s.fewer;
      stand = record { all = f.all; records = s.all.records; stand = f.stand; number = f.count; section = f.section };
      faulty = bind_err (resource (here bytes q)) (λ r. add_record s.all r.0) e _ fails (λ g. faulty (resource_err bytes a q e g))
          (λ r g k. let at = (records_find bytes a q r.0 r.1 g).0 in unfit_err s.all r.0 e at k);
    }

-- what is something is not nothing
some_holds : {A : Type 0} (o : Option A) → o ≢ None → is_some o ≡ true
some_holds None ne = absurd (ne refl)
some_holds (Some x) ne = refl

-- labels that are not those of the root
not_root : (labels : List (List ℕ)) → labels ≢ [] → not (eqb (length labels) 0) ≡ true
not_root labels ne = elim (at_root labels) [ inl root ↦ absurd (ne root.1) | inr away ↦ away.0 ]

-- the options of an OPT
options_held : (r : Record RData) → Sort r.rdata → is_opt r ≡ true → (options : List EdnsOption) × (r.rdata ≡ rdata.OPT options)
options_held r (an_opt options is) opt = (options, is)
options_held r (a_tsig signature is) opt = let k : type_of r.rdata ≡ 41 = eq_of (type_of r.rdata) 41 opt in let t : type_of r.rdata ≡ 250 = ap type_of is in absurd (omega arith)
options_held r (other no_opt no_tsig place) opt = let t : false ≡ true = sym no_opt ∙ opt in absurd cc

-- what does not fit fails
err_unfit : {bytes : List ℕ} {p : ℕ} {e : DecodeError} → AreBytes bytes → (x : Additionals) → UnfitOrFaulty bytes x.edns x.signature p e → next_record x (here bytes p) ≡ Err e
unfolding add_record
err_unfit a x (faulty f) = rw (err_resource f) refl
err_unfit {bytes} {p} a x (after_signature {r = r} {next = next} at signed) = rw (records_reach bytes a p r next at, some_holds x.signature signed) refl
err_unfit {bytes} {p} a x (not_at_root {r = r} {next = next} at unsigned opt away) =
    let o = options_held r (data_sort at) opt in
    rw (records_reach bytes a p r next at, unsigned, o.1, not_root r.name.labels away) refl
err_unfit {bytes} {p} a x (second_opt {r = r} {next = next} at unsigned opt root had) =
    let o = options_held r (data_sort at) opt in
    let here_root : not (eqb (length r.name.labels) 0) ≡ false = ap (λ (labels : List (List ℕ)). not (eqb (length labels) 0)) root in
    rw (records_reach bytes a p r next at, unsigned, o.1, here_root, some_holds x.edns had) refl

-- the fault of an additional section fails so
pub err_additionals : {bytes : List ℕ} {n p : ℕ} {e : DecodeError} → AreBytes bytes → AdditionalsFault bytes p n e → additionals_after n no_additionals (here bytes p) ≡ Err e
err_additionals {bytes} {n} {p} {e} a f =
    let s = f.stand in
    let x : Additionals = record { records = s.records; edns = f.edns; signature = f.signature } in
    let went = section_here bytes a s.all f.before p x f.next s.number s.stand s.section in
    fail_additionals f.before n no_additionals x (here bytes p) (here bytes f.next) e f.fewer went (err_unfit a x f.faulty)
