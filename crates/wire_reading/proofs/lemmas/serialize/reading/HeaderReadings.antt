-- What a call found that gives what reading a header gives.
use Rattle.std.proofs.Common.{◌≡◌, ◌≢◌, inl, inr, ℕ, ◌+◌, ◌<◌, ◌≤◌, List, length, Result, Ok, Err, refl, sym, ap, ◌∙◌, arith}
use Rattle.std.proofs.lemmas.Bool.{cases_lt}
use Rattle.std.specs.Int.{w16}
use Rattle.std.specs.Prelude.{IfOk, IfErr}
use Rattle.wire_names.specs.serialize.layout.Bytes.{AreBytes}
use Rattle.wire_messages.specs.serialize.layout.HeaderLayout.{HeaderAt}
use Rattle.wire_messages.specs.serialize.reading.Cursor.{Cursor}
use Rattle.wire_reading.specs.serialize.reading.MessageReading.{front_of}
use Rattle.wire_messages.specs.serialize.reading.Reading.{Gives, number}
use Rattle.wire_messages.specs.serialize.reading.RecordReading.{byte}
use Rattle.wire_messages.specs.serialize.reading.SectionReading.{header}
use Rattle.wire_names.specs.declared.error.DecodeError.{DecodeError}
use Rattle.wire_names.specs.declared.error.DecodeError.TheVariants.{InsufficientBytes, Memory}
use Rattle.wire_messages.specs.declared.op.header.Header.{Header}
use Rattle.wire_messages.proofs.lemmas.serialize.layout.ByteTexts.{here}
use Rattle.wire_reading.proofs.lemmas.serialize.reading.CountedItems.{is_here}
use Rattle.wire_reading.proofs.lemmas.serialize.reading.FaultSteps.{Runs, byte_run, number_run, done_run, then_run, run_short, not_both}
use Rattle.wire_reading.proofs.lemmas.serialize.reading.HeaderLaws.{header_here, header_found}
use Rattle.wire_messages.proofs.lemmas.serialize.reading.StringSteps.{ok_is}

-- a header takes twelve octets
pub header_run : (bytes : List ℕ) (p : ℕ) → p ≤ length bytes → Runs bytes header 12 p
unfolding header
header_run bytes p within =
    then_run bytes (number w16) _ 2 10 p (number_run bytes w16 p within) (λ id le1.
    then_run bytes byte _ 1 9 (p + 2) (byte_run bytes (p + 2) le1) (λ one le2.
    then_run bytes byte _ 1 8 (p + 2 + 1) (byte_run bytes (p + 2 + 1) le2) (λ two le3.
    then_run bytes (number w16) _ 2 6 (p + 2 + 1 + 1) (number_run bytes w16 (p + 2 + 1 + 1) le3) (λ q le4.
    then_run bytes (number w16) _ 2 4 (p + 2 + 1 + 1 + 2) (number_run bytes w16 (p + 2 + 1 + 1 + 2) le4) (λ a le5.
    then_run bytes (number w16) _ 2 2 (p + 2 + 1 + 1 + 2 + 2) (number_run bytes w16 (p + 2 + 1 + 1 + 2 + 2) le5) (λ u le6.
    then_run bytes (number w16) _ 2 0 (p + 2 + 1 + 1 + 2 + 2 + 2) (number_run bytes w16 (p + 2 + 1 + 1 + 2 + 2 + 2) le6) (λ d le7. done_run bytes _ (p + 2 + 1 + 1 + 2 + 2 + 2 + 2) le7)))))))

-- a place at the front
at_front : (old : Cursor) → old.place ≡ 0 → old ≡ front_of old.bytes
at_front old front = is_here old refl ∙ ap (here old.bytes) front

abbrev okay : Header → Result Header DecodeError
okay h = Ok h

-- want of memory is not the error
not_memory : (e : DecodeError) → e ≡ InsufficientBytes → e ≢ Memory
not_memory e short = λ k. let z : InsufficientBytes ≡ Memory = sym short ∙ k in cc

pub header_is_found : (old : Cursor) → AreBytes old.bytes → (r : Result Header DecodeError) (new : Cursor) → Gives r old new header → old.place ≡ 0 → IfOk r (λ h. HeaderAt old.bytes h × (new.place ≡ 12))
header_is_found old a (Ok h) new given front =
    let found = header_found old.bytes h new a (ap header (sym (at_front old front)) ∙ given.0) in
    (found.0, found.1)
header_is_found old a (Err e) new given front = tt

pub header_fault : (old : Cursor) (r : Result Header DecodeError) (new : Cursor) → IfErr r (λ e. e ≡ InsufficientBytes) → Gives r old new header
    → IfErr r (λ e. (e ≡ InsufficientBytes) × (length old.bytes < old.place + 12))
header_fault old (Ok h) new short given = tt
header_fault old (Err e) new short given = (
  short,
  elim (cases_lt (length old.bytes) old.place) [
    | inl lt ↦ omega arith
    | inr within ↦ (run_short old.bytes header 12 old.place e (header_run old.bytes old.place within) (ap header (sym (is_here old refl)) ∙ given.0 (not_memory e short))).0
  ],
)

pub header_only : (old : Cursor) (r : Result Header DecodeError) (new : Cursor) → IfErr r (λ e. e ≡ InsufficientBytes) → Gives r old new header
    → (h : Header) → old.place ≡ 0 → HeaderAt old.bytes h → (r ≡ Ok h) × (new.place ≡ 12)
header_only old (Ok y) new short given h front at =
    let u : Header × Cursor = (y, new) in
    let v : Header × Cursor = (h, here old.bytes 12) in
    let there : header old ≡ Ok v = ap header (at_front old front) ∙ header_here old.bytes h at in
    let same : u ≡ v = ok_is u v (sym given.0 ∙ there) in
    (ap (λ (z : Header × Cursor). okay z.0) same, ap (λ (z : Header × Cursor). z.1.place) same)
header_only old (Err e) new short given h front at =
    let v : Header × Cursor = (h, here old.bytes 12) in
    let there : header old ≡ Ok v = ap header (at_front old front) ∙ header_here old.bytes h at in
    absurd (not_both (header old) v e there (given.0 (not_memory e short)))
