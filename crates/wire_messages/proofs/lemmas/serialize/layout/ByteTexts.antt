-- Octets that stand in bytes are what is read there.
use Rattle.std.proofs.Common.{◌≡◌, inl, inr, ℕ, ◌+◌, ◌-◌, ◌^◌, ◌<◌, ◌≤◌, List, [], ◌∷◌, ◌++◌, length, get_or, take, drop, false, ltb, Ok, refl, sym, ap, ◌∙◌, arith, add-zero, length-append}
use Rattle.std.specs.List.{flat_map}
use Rattle.std.specs.Int.{Width, w16, w32, byte_len, to_be_bytes, from_be_bytes}
use Rattle.std.proofs.lemmas.Bool.{le-ltb, cases_lt}
use Rattle.std.proofs.lemmas.List.{get_or-drop, get_or-take, get_or_append_left, get_or-append-add, ext_get_or, length-take, length-drop}
use Rattle.std.proofs.lemmas.Nat.{from_be_bytes-to_be_bytes_2, from_be_bytes-to_be_bytes_4}
use Rattle.wire_messages.specs.serialize.reading.Cursor.{Cursor}
use Rattle.wire_messages.specs.serialize.reading.Reading.{Read, number, octets}
use Rattle.wire_names.specs.serialize.layout.Bytes.{BytesAt}
use Rattle.wire_messages.specs.rr.RecordData.{character_string}
use Rattle.wire_messages.specs.serialize.reading.RecordReading.{byte, first_byte, string, strings_within, strings_until, counted_octets}
use Rattle.wire_messages.proofs.lemmas.serialize.reading.StringSteps.{strings_until-step}

-- the cursor at a place
abbrev pub here : List ℕ → ℕ → Cursor
here bytes place = record { bytes = bytes; place = place }

-- what was read, up to a place
abbrev pub read_here : {A : Type 0} → A → List ℕ → ℕ → Read A
read_here x bytes place = Ok (x, here bytes place)

-- what stands at a place is what is taken there
pub stands_take : (bytes : List ℕ) (place : ℕ) (text : List ℕ) → BytesAt bytes place text → take (length text) (drop place bytes) ≡ text
stands_take bytes place text s =
    let len : length (take (length text) (drop place bytes)) ≡ length text = omega (arith, length-take (length text) (drop place bytes), length-drop place bytes, s.fits) in
    ext_get_or 0 (take (length text) (drop place bytes)) text len
    (λ i lt. get_or-take (length text) (drop place bytes) i 0 (omega arith) ∙ get_or-drop place bytes i 0 ∙ s.same i (omega arith))

-- what is taken at a place stands there
pub take_stands : (bytes : List ℕ) (place n : ℕ) → place + n ≤ length bytes → BytesAt bytes place (take n (drop place bytes))
take_stands bytes place n there =
    let len : length (take n (drop place bytes)) ≡ n = omega (arith, length-take n (drop place bytes), length-drop place bytes) in
    record { fits = omega arith; same = λ k lt. sym (get_or-take n (drop place bytes) k 0 (omega arith) ∙ get_or-drop place bytes k 0) }

-- the first of two texts stands where both do
pub BytesAt-left : (bytes : List ℕ) (place : ℕ) (a b : List ℕ) → BytesAt bytes place (a ++ b) → BytesAt bytes place a
BytesAt-left bytes place a b s = record {
  fits = omega (arith, s.fits, length-append a b);
  same = λ k lt. s.same k (omega (arith, length-append a b)) ∙ get_or_append_left a b 0 k lt;
}

-- the second stands behind it
pub BytesAt-right : (bytes : List ℕ) (place : ℕ) (a b : List ℕ) → BytesAt bytes place (a ++ b) → BytesAt bytes (place + length a) b
BytesAt-right bytes place a b s = record {
  fits = omega (arith, s.fits, length-append a b);
  same = λ k lt. ap (λ i. get_or bytes i 0) (omega arith) ∙ s.same (length a + k) (omega (arith, length-append a b)) ∙ get_or-append-add a b k 0;
}

-- two texts, one behind the other, stand as one
pub BytesAt-both : (bytes : List ℕ) (place : ℕ) (a b : List ℕ) → BytesAt bytes place a → BytesAt bytes (place + length a) b → BytesAt bytes place (a ++ b)
BytesAt-both bytes place a b s t = record {
  fits = omega (arith, t.fits, length-append a b);
  same = λ k lt. elim (cases_lt k (length a)) [
    | inl low ↦ s.same k low ∙ sym (get_or_append_left a b 0 k low)
    | inr high ↦
        let e : length a + (k - length a) ≡ k = omega arith in
        ap (λ i. get_or bytes i 0) (omega arith) ∙ t.same (k - length a) (omega (arith, length-append a b)) ∙ sym (get_or-append-add a b (k - length a) 0) ∙ ap (λ i. get_or (a ++ b) i 0) e
  ];
}

-- a number that stands is read; with the width a variable nothing computes too far
number_here : (w : Width) (bytes : List ℕ) (place next : ℕ) (text : List ℕ) (n : ℕ) → BytesAt bytes place text → length text ≡ byte_len w → from_be_bytes w text ≡ n → next ≡ place + byte_len w
    → number w (here bytes place) ≡ read_here n bytes next
number_here w bytes place next text n s len back after =
    let long : ltb (length (drop place bytes)) (byte_len w) ≡ false = le-ltb _ _ (omega (arith, length-drop place bytes, s.fits)) in
    let there : take (byte_len w) (drop place bytes) ≡ text = ap (λ k. take k (drop place bytes)) (sym len) ∙ stands_take bytes place text s in
    rw (long, there, back, after) refl

-- a number of two bytes that stands is read
pub number16_here : (bytes : List ℕ) (place next n : ℕ) → n < 2 ^ 16 → BytesAt bytes place (to_be_bytes w16 n) → next ≡ place + 2 → number w16 (here bytes place) ≡ read_here n bytes next
number16_here bytes place next n lt s after = number_here w16 bytes place next (to_be_bytes w16 n) n s refl (from_be_bytes-to_be_bytes_2 n lt) after

-- a number of four bytes that stands is read
pub number32_here : (bytes : List ℕ) (place next n : ℕ) → n < 2 ^ 32 → BytesAt bytes place (to_be_bytes w32 n) → next ≡ place + 4 → number w32 (here bytes place) ≡ read_here n bytes next
number32_here bytes place next n lt s after = number_here w32 bytes place next (to_be_bytes w32 n) n s refl (from_be_bytes-to_be_bytes_4 n lt) after

-- octets that stand are read
pub octets_here : (bytes : List ℕ) (place next n : ℕ) (text : List ℕ) → BytesAt bytes place text → n ≡ length text → next ≡ place + n → octets n (here bytes place) ≡ read_here text bytes next
octets_here bytes place next n text s e after =
    let long : ltb (length (drop place bytes)) n ≡ false = le-ltb _ _ (omega (arith, length-drop place bytes, s.fits)) in
    let there : take n (drop place bytes) ≡ text = ap (λ k. take k (drop place bytes)) e ∙ stands_take bytes place text s in
    rw (long, there, after) refl

-- the first byte is the one at 0
first_byte-get : (bs : List ℕ) → first_byte bs ≡ get_or bs 0 0
first_byte-get [] = refl
first_byte-get (b ∷ bs) = refl

-- the first byte from a place on is the one at that place
pub byte_is : (bytes : List ℕ) (place : ℕ) → first_byte (drop place bytes) ≡ get_or bytes place 0
byte_is bytes place = first_byte-get (drop place bytes) ∙ get_or-drop place bytes 0 0 ∙ ap (λ i. get_or bytes i 0) (add-zero place)

-- a byte that stands is read
pub byte_here : (bytes : List ℕ) (place n : ℕ) (ns : List ℕ) → BytesAt bytes place (n ∷ ns) → byte (here bytes place) ≡ read_here n bytes (place + 1)
byte_here bytes place n ns s =
    let long : ltb (length (drop place bytes)) 1 ≡ false = le-ltb _ _ (omega (arith, length-drop place bytes, s.fits)) in
    let there : first_byte (drop place bytes) ≡ n = byte_is bytes place ∙ ap (λ i. get_or bytes i 0) (sym (add-zero place)) ∙ s.same 0 (omega arith) in
    rw (long, there) refl

-- a string that stands is read
pub string_here : (bytes : List ℕ) (place next : ℕ) (s : List ℕ) → BytesAt bytes place (character_string s) → next ≡ place + 1 + length s → string (here bytes place) ≡ read_here s bytes next
unfolding string
string_here bytes place next s at after =
    rw (byte_here bytes place (length s) s at) (octets_here bytes (place + 1) next (length s) s (BytesAt-right bytes place (length s ∷ []) s at) refl after)

-- strings that stand one behind the other are read
pub strings_here : (bytes : List ℕ) (place stop : ℕ) (t : List (List ℕ)) → BytesAt bytes place (flat_map character_string t) → stop ≡ place + length (flat_map character_string t) → strings_until stop (here bytes place) ≡ read_here t bytes stop
unfolding strings_until strings_within
strings_here bytes place stop [] s after = let k : stop - place ≡ 0 = omega arith in let e : place ≡ stop = omega arith in rw (k, e) refl
strings_here bytes place stop (t ∷ ts) s after =
    let size = length-append (character_string t) (flat_map character_string ts) in
    let one = BytesAt-left bytes place (character_string t) (flat_map character_string ts) s in
    let more = BytesAt-right bytes place (character_string t) (flat_map character_string ts) s in
    let at : place + length (character_string t) ≡ place + 1 + length t = omega arith in
    strings_until-step stop (here bytes place) (omega arith)
    ∙ rw (string_here bytes place (place + length (character_string t)) t one at, strings_here bytes (place + length (character_string t)) stop ts more (omega arith)) refl

-- octets behind their length
pub counted_here : (bytes : List ℕ) (place next : ℕ) (text : List ℕ) → length text < 2 ^ 16 → BytesAt bytes place (to_be_bytes w16 (length text)) → BytesAt bytes (place + 2) text → next ≡ place + 2 + length text → counted_octets (here bytes place) ≡ read_here text bytes next
unfolding counted_octets
counted_here bytes place next text lt at more after =
    rw (number16_here bytes place (place + 2) (length text) lt at refl) (octets_here bytes (place + 2) next (length text) text more refl after)
