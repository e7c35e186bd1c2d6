-- A header that is read of twelve octets at once.
use Rattle.std.proofs.Common.{◌≡◌, ℕ, ◌+◌, ◌<◌, ◌≤◌, List, length, take, drop, get_or, Ok, Err, refl, sym, ap, ◌∙◌, arith}
use Rattle.std.proofs.lemmas.Bool.{le-ltb}
use Rattle.std.proofs.lemmas.List.{length-drop}
use Rattle.std.specs.Int.{w16, from_be_bytes}
use Rattle.wire_messages.specs.serialize.layout.HeaderLayout.{metadata_of}
use Rattle.wire_messages.specs.serialize.reading.Cursor.{Cursor}
use Rattle.wire_messages.specs.serialize.reading.Reading.{Read, number, octets}
use Rattle.wire_messages.specs.serialize.reading.RecordReading.{byte}
use Rattle.wire_messages.specs.serialize.reading.SectionReading.{header}
use Rattle.wire_names.specs.declared.error.DecodeError.{DecodeError}
use Rattle.wire_names.specs.declared.error.DecodeError.TheVariants.{InsufficientBytes}
use Rattle.wire_messages.specs.declared.op.header.Header.{Header}
use Rattle.wire_messages.proofs.lemmas.serialize.layout.ByteTexts.{here, read_here, byte_is}
use Rattle.wire_reading.proofs.lemmas.serialize.reading.CountedItems.{is_here}
use Rattle.wire_reading.proofs.lemmas.serialize.reading.FaultSteps.{Runs, octets_run, run_short, not_both}
use Rattle.wire_reading.proofs.lemmas.serialize.reading.FaultSteps.Runs.{too_short, reads}
use Rattle.wire_reading.proofs.lemmas.serialize.reading.HeaderReadings.{header_run}
use Rattle.wire_messages.proofs.lemmas.serialize.reading.StringSteps.{ok_is}

-- the number whose two octets stand at a place
abbrev pub word : List ℕ → ℕ → ℕ
word bytes p = from_be_bytes w16 (take 2 (drop p bytes))

number_there : (bytes : List ℕ) (p q : ℕ) → p + 2 ≤ length bytes → p + 2 ≡ q → number w16 (here bytes p) ≡ read_here (word bytes p) bytes q
number_there bytes p q within e = rw (le-ltb (length (drop p bytes)) 2 (omega (arith, length-drop p bytes))) (ap (read_here (word bytes p) bytes) e)

byte_there : (bytes : List ℕ) (p q : ℕ) → p + 1 ≤ length bytes → p + 1 ≡ q → byte (here bytes p) ≡ read_here (get_or bytes p 0) bytes q
byte_there bytes p q within e =
    rw (le-ltb (length (drop p bytes)) 1 (omega (arith, length-drop p bytes))) (ap (λ (b : ℕ). read_here b bytes (p + 1)) (byte_is bytes p) ∙ ap (read_here (get_or bytes p 0) bytes) e)

-- the header of the twelve octets from a place on
abbrev pub header_at : List ℕ → ℕ → Header
header_at bytes p = record {
  metadata = metadata_of (word bytes p) (get_or bytes (p + 2) 0) (get_or bytes (p + 3) 0);
  counts = record { queries = word bytes (p + 4); answers = word bytes (p + 6); authorities = word bytes (p + 8); additionals = word bytes (p + 10) };
}

-- it is the one that is read there
pub header_there : (bytes : List ℕ) (p : ℕ) → p + 12 ≤ length bytes → header (here bytes p) ≡ read_here (header_at bytes p) bytes (p + 12)
unfolding header
header_there bytes p within =
    let n0 = number_there bytes p (p + 2) (omega arith) refl in
    let n1 = byte_there bytes (p + 2) (p + 3) (omega arith) (omega arith) in
    let n2 = byte_there bytes (p + 3) (p + 4) (omega arith) (omega arith) in
    let n3 = number_there bytes (p + 4) (p + 6) (omega arith) (omega arith) in
    let n4 = number_there bytes (p + 6) (p + 8) (omega arith) (omega arith) in
    let n5 = number_there bytes (p + 8) (p + 10) (omega arith) (omega arith) in
    let n6 = number_there bytes (p + 10) (p + 12) (omega arith) (omega arith) in
    rw (n0, n1, n2, n3, n4, n5, n6) refl

run_fails : {X : Type 0} (bytes : List ℕ) (read : Cursor → Read X) (j p : ℕ) → length bytes < p + j → Runs bytes read j p → read (here bytes p) ≡ Err InsufficientBytes
run_fails bytes read j p lt (too_short l f) = f
run_fails bytes read j p lt (reads x le f) = absurd (omega (arith, lt, le))

-- where they are not there, no header is read
pub header_fails : (old : Cursor) → old.place ≤ length old.bytes → (e : DecodeError) → octets 12 old ≡ Err e → header old ≡ Err e
header_fails old within e failed =
    let t = run_short old.bytes (octets 12) 12 old.place e (octets_run old.bytes 12 old.place within) (ap (octets 12) (sym (is_here old refl)) ∙ failed) in
    ap header (is_here old refl) ∙ run_fails old.bytes header 12 old.place t.0 (header_run old.bytes old.place within) ∙ ap (λ (d : DecodeError). Err d) (sym t.1)

given_run : (bytes : List ℕ) (p : ℕ) (s : List ℕ) (new : Cursor) → octets 12 (here bytes p) ≡ Ok (s, new) → Runs bytes (octets 12) 12 p → (p + 12 ≤ length bytes) × (here bytes (p + 12) ≡ new)
given_run bytes p s new e (too_short l f) = absurd (not_both (octets 12 (here bytes p)) (s, new) InsufficientBytes e f)
given_run bytes p s new e (reads x le f) =
    let y : List ℕ × Cursor = (x, here bytes (p + 12)) in
    let z : List ℕ × Cursor = (s, new) in
    let same : y ≡ z = ok_is y z (sym f ∙ e) in
    (le, ap (λ (k : List ℕ × Cursor). k.1) same)

abbrev pub okay : Header → Cursor → Read Header
okay h c = Ok (h, c)

-- where they are there, the header of them is read
pub header_given : (old new : Cursor) (s : List ℕ) → old.place ≤ length old.bytes → octets 12 old ≡ Ok (s, new) → header old ≡ Ok (header_at old.bytes old.place, new)
header_given old new s within e =
    let g = given_run old.bytes old.place s new (ap (octets 12) (sym (is_here old refl)) ∙ e) (octets_run old.bytes 12 old.place within) in
    ap header (is_here old refl) ∙ header_there old.bytes old.place g.0 ∙ ap (okay (header_at old.bytes old.place)) g.1
