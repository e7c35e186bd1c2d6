-- Reading at a place: it goes well, and how far, or meets its first fault.
use Rattle.std.proofs.Common.{◌≡◌, ◌⊎◌, inl, inr, ℕ, ◌+◌, ◌<◌, ◌≤◌, List, length, take, drop, Bool, true, false, cond, Result, Ok, Err, refl, sym, ap, ◌∙◌, arith, add-zero}
use Rattle.std.specs.Int.{Width, w16, byte_len, from_be_bytes}
use Rattle.std.proofs.lemmas.Bool.{cases_lt, lt-ltb, le-ltb}
use Rattle.std.proofs.lemmas.List.{length-drop}
use Rattle.wire_names.specs.serialize.layout.Bytes.{AreBytes}
use Rattle.wire_messages.specs.serialize.reading.Cursor.{Cursor}
use Rattle.wire_names.specs.rr.domain.DomainName.{DomainName}
use Rattle.wire_messages.specs.serialize.layout.NameLayout.{NameAt, NameFault}
use Rattle.wire_messages.specs.serialize.reading.NameReading.{name, qualified}
use Rattle.wire_messages.specs.serialize.reading.Reading.{Read, ◌>>=◌, number, octets}
use Rattle.wire_reading.specs.serialize.reading.RecordFaults.{NumberAt}
use Rattle.wire_messages.specs.serialize.reading.RecordReading.{byte, first_byte}
use Rattle.wire_names.specs.declared.error.DecodeError.{DecodeError}
use Rattle.wire_names.specs.declared.error.DecodeError.TheVariants.{InsufficientBytes}
use Rattle.wire_messages.proofs.lemmas.serialize.layout.ByteTexts.{here, read_here}
use Rattle.wire_messages.proofs.lemmas.serialize.layout.FormKeeps.{LabelsAt-longer}
use Rattle.wire_reading.proofs.lemmas.serialize.reading.NameLaws.{found_name, name_found, name_fault}
use Rattle.wire_reading.proofs.lemmas.serialize.reading.CountedItems.{is_here}
use Rattle.wire_reading.proofs.lemmas.serialize.reading.ReadFields.{name_keeps, number16_in}

-- an error
abbrev pub fail : {A : Type 0} → DecodeError → Result A DecodeError
fail e = Err e

-- readings that failed and are the same failed alike
pub fail_is : {A : Type 0} (d e : DecodeError) → fail {A = A} d ≡ fail e → d ≡ e
fail_is d e h = cc

-- a reading fails in one way
pub one_way : {A : Type 0} (r : Result A DecodeError) (d e : DecodeError) → r ≡ Err d → r ≡ Err e → d ≡ e
one_way r d e f g = fail_is d e (sym f ∙ g)

-- a reading does not go well and fail
pub not_both : {A : Type 0} (r : Result A DecodeError) (x : A) (e : DecodeError) → r ≡ Ok x → r ≡ Err e → ⊥
not_both (Ok y) x e f g = cc
not_both (Err d) x e f g = cc

-- a reading goes well or fails
pub goes_or_fails : {A : Type 0} (r : Result A DecodeError) → ((x : A) × (r ≡ Ok x)) ⊎ ((e : DecodeError) × (r ≡ Err e))
goes_or_fails (Ok x) = inl (x, refl)
goes_or_fails (Err e) = inr (e, refl)

-- two readings, one after the other, failed at the first or at the second
pub bind_err : {A B : Type 0} (r : Result A DecodeError) (f : A → Result B DecodeError) (e : DecodeError) (G : Type 0) → (r >>= f) ≡ Err e → (r ≡ Err e → G) → ((x : A) → r ≡ Ok x → f x ≡ Err e → G) → G
bind_err (Ok x) f e G h first second = second x refl h
bind_err (Err d) f e G h first second = let same : d ≡ e = cc in first (ap fail same)

-- a choice that failed, failed on one side
pub branch_err : {A : Type 0} (b : Bool) (p q : Result A DecodeError) (e : DecodeError) (G : Type 0) → cond b p q ≡ Err e → (b ≡ true → p ≡ Err e → G) → (b ≡ false → q ≡ Err e → G) → G
branch_err true p q e G h this other = this refl h
branch_err false p q e G h this other = other refl h

-- ---- fields of so many octets

-- What reading does at p: the message ends before j octets from there, or the reading goes well and ends behind them.
pub data Runs {X : Type 0} (bytes : List ℕ) (read : Cursor → Read X) (j p : ℕ) : Type 0 where
  too_short : length bytes < p + j → read (here bytes p) ≡ Err InsufficientBytes → Runs bytes read j p
  reads : (x : X) → p + j ≤ length bytes → read (here bytes p) ≡ read_here x bytes (p + j) → Runs bytes read j p

-- octets
pub octets_run : (bytes : List ℕ) (j p : ℕ) → p ≤ length bytes → Runs bytes (octets j) j p
octets_run bytes j p within = elim (cases_lt (length bytes) (p + j)) [
  | inl lt ↦ too_short lt (rw (lt-ltb (length (drop p bytes)) j (omega (arith, length-drop p bytes))) refl)
  | inr le ↦ reads (take j (drop p bytes)) le (rw (le-ltb (length (drop p bytes)) j (omega (arith, length-drop p bytes))) refl)
]

-- a number
pub number_run : (bytes : List ℕ) (w : Width) (p : ℕ) → p ≤ length bytes → Runs bytes (number w) (byte_len w) p
number_run bytes w p within = elim (cases_lt (length bytes) (p + byte_len w)) [
  | inl lt ↦ too_short lt (rw (lt-ltb (length (drop p bytes)) (byte_len w) (omega (arith, length-drop p bytes))) refl)
  | inr le ↦ reads (from_be_bytes w (take (byte_len w) (drop p bytes))) le (rw (le-ltb (length (drop p bytes)) (byte_len w) (omega (arith, length-drop p bytes))) refl)
]

-- a byte
pub byte_run : (bytes : List ℕ) (p : ℕ) → p ≤ length bytes → Runs bytes byte 1 p
byte_run bytes p within = elim (cases_lt (length bytes) (p + 1)) [
  | inl lt ↦ too_short lt (rw (lt-ltb (length (drop p bytes)) 1 (omega (arith, length-drop p bytes))) refl)
  | inr le ↦ reads (first_byte (drop p bytes)) le (rw (le-ltb (length (drop p bytes)) 1 (omega (arith, length-drop p bytes))) refl)
]

-- what reads nothing more
pub done_run : {X : Type 0} (bytes : List ℕ) (x : X) (p : ℕ) → p ≤ length bytes → Runs bytes (λ c. Ok (x, c)) 0 p
done_run bytes x p within = reads x (omega arith) (ap (read_here x bytes) (sym (add-zero p)))

-- one field, and what is read behind it
pub then_run : {X Y : Type 0} (bytes : List ℕ) (first : Cursor → Read X) (rest : X × Cursor → Read Y) (j k p : ℕ) → Runs bytes first j p
    → ((x : X) → p + j ≤ length bytes → Runs bytes (λ c. rest (x, c)) k (p + j)) → Runs bytes (λ c. first c >>= rest) (j + k) p
then_run bytes first rest j k p (too_short lt e) more = too_short (omega arith) (rw e refl)
then_run {X} {Y} bytes first rest j k p (reads x le e) more = behind (more x le)
  where
    behind : Runs bytes (λ c. rest (x, c)) k (p + j) → Runs bytes (λ c. first c >>= rest) (j + k) p
    behind (too_short lt f) = too_short (omega arith) (rw e f)
    behind (reads y l f) = reads y (omega arith) (rw e (f ∙ ap (read_here y bytes) (omega arith)))

-- a field, and what fails behind it, where the message is too short for the field too
pub short_then : {X Y : Type 0} (bytes : List ℕ) (first : Cursor → Read X) (rest : X × Cursor → Read Y) (j p : ℕ) → Runs bytes first j p
    → ((x : X) → p + j ≤ length bytes → rest (x, here bytes (p + j)) ≡ Err InsufficientBytes) → (first (here bytes p) >>= rest) ≡ Err InsufficientBytes
short_then bytes first rest j p (too_short lt e) more = rw e refl
short_then bytes first rest j p (reads x le e) more = rw e (more x le)

-- a field and what is read behind it failed: at the field, or behind it
pub run_err : {X Y : Type 0} (bytes : List ℕ) (first : Cursor → Read X) (rest : X × Cursor → Read Y) (j p : ℕ) (e : DecodeError) (G : Type 0) → Runs bytes first j p → (first (here bytes p) >>= rest) ≡ Err e
    → (length bytes < p + j → e ≡ InsufficientBytes → G) → ((x : X) → p + j ≤ length bytes → first (here bytes p) ≡ read_here x bytes (p + j) → rest (x, here bytes (p + j)) ≡ Err e → G) → G
run_err bytes first rest j p e G (too_short lt f) h short more = let g : fail InsufficientBytes ≡ Err e = sym (ap (λ r. r >>= rest) f) ∙ h in short lt (sym (fail_is InsufficientBytes e g))
run_err bytes first rest j p e G (reads x le f) h short more = more x le f (sym (ap (λ r. r >>= rest) f) ∙ h)

-- a reading of so many octets failed: the message is too short for them
pub run_short : {X : Type 0} (bytes : List ℕ) (read : Cursor → Read X) (j p : ℕ) (e : DecodeError) → Runs bytes read j p → read (here bytes p) ≡ Err e → (length bytes < p + j) × (e ≡ InsufficientBytes)
run_short bytes read j p e (too_short lt f) h = let g : fail InsufficientBytes ≡ Err e = sym f ∙ h in (lt, sym (fail_is InsufficientBytes e g))
run_short bytes read j p e (reads x le f) h = let g : read_here x bytes (p + j) ≡ fail e = sym f ∙ h in absurd cc

-- a message with so many octets
pub run_ok : {X : Type 0} (bytes : List ℕ) (read : Cursor → Read X) (j p : ℕ) → Runs bytes read j p → p + j ≤ length bytes → (x : X) × (read (here bytes p) ≡ read_here x bytes (p + j))
run_ok bytes read j p (too_short lt e) h = absurd (omega arith)
run_ok bytes read j p (reads x le e) h = (x, e)

-- a message that is too short for so many octets
pub short_is : {X : Type 0} (bytes : List ℕ) (read : Cursor → Read X) (j p : ℕ) → Runs bytes read j p → length bytes < p + j → read (here bytes p) ≡ Err InsufficientBytes
short_is bytes read j p (too_short lt e) h = e
short_is bytes read j p (reads x le e) h = absurd (omega arith)

-- ---- names

-- the name that stands at a place, as it is read
pub name_read : {bytes : List ℕ} {p next : ℕ} {n : DomainName} → NameAt 0 bytes p n next → (name (here bytes p) ≡ read_here (qualified n.labels) bytes next) × (next ≤ length bytes)
name_read {bytes} {p} {next} {n} at =
    let same : NameAt 0 bytes p (qualified n.labels) next = record { labels = at.labels; short = at.short } in
    (found_name 0 (here bytes p) (qualified n.labels) next refl same, (LabelsAt-longer at.labels).1)

-- a name and what is read behind it failed: at the name, or behind it
pub name_err : {Y : Type 0} (bytes : List ℕ) (rest : DomainName × Cursor → Read Y) (p : ℕ) (e : DecodeError) (G : Type 0) → (name (here bytes p) >>= rest) ≡ Err e
    → (NameFault bytes p e → G) → ((n : DomainName) (next : ℕ) → NameAt 0 bytes p n next → next ≤ length bytes → rest (n, here bytes next) ≡ Err e → G) → G
name_err bytes rest p e G h faulty more =
    bind_err (name (here bytes p)) rest e G h (λ f. faulty (name_fault (here bytes p) e f))
    (λ x f g.
    let at = name_found (here bytes p) x.0 x.1 f in
    let same : x.1 ≡ here bytes x.1.place = is_here x.1 (name_keeps (here bytes p) x f) in
    more x.0 x.1.place at.0 (LabelsAt-longer at.0.labels).1 (ap (λ (c : Cursor). rest (x.0, c)) (sym same) ∙ g))

-- a number of two octets that was read stands there
pub number_at : (bytes : List ℕ) → AreBytes bytes → (p n : ℕ) → p ≤ length bytes → {q : ℕ} → number w16 (here bytes p) ≡ read_here n bytes q → NumberAt bytes p n
number_at bytes a p n within {q} e =
    let f = number16_in bytes a (here bytes p) (n, here bytes q) (refl, within) e in
    record { stands = f.0.stands; small = f.2 }
