-- The strings of a TXT record have a first fault exactly where reading meets it.
use Rattle.std.proofs.Common.{◌≡◌, ◌≢◌, inl, inr, ℕ, zero, suc, ◌+◌, ◌-◌, ◌<◌, ◌≤◌, List, [], ◌∷◌, ◌++◌, length, get_or, take, drop, Ok, Err, refl, sym, ap, subst, ◌∙◌, arith, length-append}
use Rattle.std.specs.List.{flat_map}
use Rattle.std.proofs.lemmas.Bool.{cases_lt, lt-ltb, le-ltb}
use Rattle.std.proofs.lemmas.List.{length-drop, length-take}
use Rattle.wire_names.specs.serialize.layout.Bytes.{BytesAt}
use Rattle.wire_messages.specs.serialize.reading.Cursor.{Cursor}
use Rattle.wire_messages.specs.serialize.reading.Reading.{Read, ◌>>=◌, octets}
use Rattle.wire_messages.specs.rr.RecordData.{character_string}
use Rattle.wire_reading.specs.serialize.reading.RecordFaults.{StringBegins}
use Rattle.wire_messages.specs.serialize.layout.RecordLayout.{OctetsAt}
use Rattle.wire_messages.specs.serialize.reading.RecordReading.{string, strings_within, strings_until}
use Rattle.wire_names.specs.declared.error.DecodeError.{DecodeError}
use Rattle.wire_names.specs.declared.error.DecodeError.TheVariants.{InsufficientBytes}
use Rattle.wire_messages.proofs.lemmas.serialize.layout.ByteTexts.{here, read_here, take_stands, BytesAt-both, BytesAt-left, BytesAt-right, byte_here, string_here}
use Rattle.wire_reading.proofs.lemmas.serialize.reading.FaultSteps.{fail, fail_is, bind_err, octets_run, short_is}
use Rattle.wire_reading.proofs.lemmas.serialize.reading.ReadFields.{bind_then, join_octets}
use Rattle.wire_messages.proofs.lemmas.serialize.reading.StringSteps.{with_front, ok_is, strings_until-step}

-- ---- a string

-- What reading a string does at p, where the bytes have its length byte.
data StringRuns (bytes : List ℕ) (p : ℕ) : Type 0 where
  cut_off : (n : ℕ) → BytesAt bytes p (n ∷ []) → length bytes < p + 1 + n → string (here bytes p) ≡ Err InsufficientBytes → StringRuns bytes p
  whole : (s : List ℕ) (next : ℕ) → next ≡ p + 1 + length s → next ≤ length bytes → BytesAt bytes p (length s ∷ []) → OctetsAt 0 bytes p (character_string s) next → string (here bytes p) ≡ read_here s bytes next → StringRuns bytes p

-- the byte at a place
byte_stands : (bytes : List ℕ) (p : ℕ) → p < length bytes → BytesAt bytes p (get_or bytes p 0 ∷ [])
byte_stands bytes p lt = record { fits = omega arith; same = λ k l. let z : k ≡ 0 = omega arith in rw z (ap (λ j. get_or bytes j 0) (omega arith)) }

-- a string whose bytes are too few
string_short : (bytes : List ℕ) (p n : ℕ) → BytesAt bytes p (n ∷ []) → length bytes < p + 1 + n → string (here bytes p) ≡ Err InsufficientBytes
unfolding string
string_short bytes p n at lt = rw (byte_here bytes p n [] at) (short_is bytes (octets n) n (p + 1) (octets_run bytes n (p + 1) (omega (arith, at.fits))) lt)

-- a string whose bytes are there
string_whole : (bytes : List ℕ) (p n : ℕ) → BytesAt bytes p (n ∷ []) → p + 1 + n ≤ length bytes → (s : List ℕ) × (length s ≡ n) × BytesAt bytes p (character_string s)
string_whole bytes p n at fits =
    let s = take n (drop (p + 1) bytes) in
    let len : length s ≡ n = omega (arith, length-take n (drop (p + 1) bytes), length-drop (p + 1) bytes) in
    let size : BytesAt bytes p (length s ∷ []) = subst (λ (k : ℕ). BytesAt bytes p (k ∷ [])) (sym len) at in
    (s, len, BytesAt-both bytes p (length s ∷ []) s size (take_stands bytes (p + 1) n fits))

-- a string runs so
string_runs : (bytes : List ℕ) (p : ℕ) → p < length bytes → StringRuns bytes p
string_runs bytes p lt =
    let n = get_or bytes p 0 in
    let at = byte_stands bytes p lt in
    elim (cases_lt (length bytes) (p + 1 + n)) [
      | inl short ↦ cut_off n at short (string_short bytes p n at short)
      | inr fits ↦
          let w = string_whole bytes p n at fits in
          whole w.0 (p + 1 + length w.0) refl (omega (arith, w.1)) (BytesAt-left bytes p (length w.0 ∷ []) w.0 w.2)
          (record { above = omega arith; stands = w.2; after = omega arith }) (string_here bytes p (p + 1 + length w.0) w.0 w.2 refl)
    ]

-- ---- strings that fail, or end elsewhere

-- the string at which strings that began at p end
pub record NextString (bytes : List ℕ) (p stop : ℕ) : Type 0 where
  pub middle : ℕ
  pub n : ℕ
  pub begins : StringBegins bytes p stop middle n

-- a string before the others
abbrev string_before : (bytes : List ℕ) (p stop q : ℕ) (s : List ℕ) → OctetsAt 0 bytes p (character_string s) q → NextString bytes q stop → NextString bytes p stop
string_before bytes p stop q s at t = record {
  middle = t.middle;
  n = t.n;
  begins = record {
    strings = s ∷ t.begins.strings;
    stand = join_octets bytes p q t.middle (character_string s) (flat_map character_string t.begins.strings) at t.begins.stand;
    inside = t.begins.inside;
    size = t.begins.size;
  };
}

-- the first string
abbrev first_string : (bytes : List ℕ) (p stop n : ℕ) → p < stop → BytesAt bytes p (n ∷ []) → NextString bytes p stop
first_string bytes p stop n lt at = record {
  middle = p;
  n = n;
  begins = record {
    strings = [];
    stand = record { above = omega arith; stands = record { fits = omega (arith, at.fits); same = λ k l. absurd (omega arith) }; after = omega arith };
    inside = lt;
    size = at;
  };
}

-- strings that are read behind one
abbrev behind : ℕ → ℕ → List ℕ × Cursor → Read (List (List ℕ))
behind fuel stop s = strings_within fuel stop s.1 >>= λ others. Ok (s.0 ∷ others.0, others.1)

-- reading strings is reading one, and those behind it
within_step : (bytes : List ℕ) (fuel stop p : ℕ) → p < stop → strings_within (suc fuel) stop (here bytes p) ≡ (string (here bytes p) >>= behind fuel stop)
unfolding strings_within
within_step bytes fuel stop p lt = rw (lt-ltb p stop lt) refl

-- at the end there is none
within_none : (bytes : List ℕ) (fuel stop p : ℕ) → stop ≤ p → strings_within fuel stop (here bytes p) ≡ read_here [] bytes p
unfolding strings_within
within_none bytes zero stop p le = refl
within_none bytes (suc fuel) stop p le = rw (le-ltb p stop le) refl

-- strings that fail, fail at one of them
pub texts_err : (bytes : List ℕ) (fuel stop p : ℕ) (e : DecodeError) → stop ≤ length bytes → strings_within fuel stop (here bytes p) ≡ Err e
    → (t : NextString bytes p stop) × (length bytes < t.middle + 1 + t.n) × (e ≡ InsufficientBytes)
unfolding strings_within
texts_err bytes zero stop p e within h = let g : read_here [] bytes p ≡ fail e = h in absurd cc
texts_err bytes (suc fuel) stop p e within h = elim (cases_lt p stop) [
  | inr le ↦ let g : read_here [] bytes p ≡ fail e = sym (within_none bytes (suc fuel) stop p le) ∙ h in absurd cc
  | inl lt ↦ step (string_runs bytes p (omega arith)) lt (sym (within_step bytes fuel stop p lt) ∙ h) (λ q g. texts_err bytes fuel stop q e within g)
]
  where
    step : StringRuns bytes p → p < stop → (string (here bytes p) >>= behind fuel stop) ≡ Err e
        → ((q : ℕ) → strings_within fuel stop (here bytes q) ≡ Err e → (t : NextString bytes q stop) × (length bytes < t.middle + 1 + t.n) × (e ≡ InsufficientBytes))
        → (t : NextString bytes p stop) × (length bytes < t.middle + 1 + t.n) × (e ≡ InsufficientBytes)
    step (cut_off n at short f) lt g more = let k : fail InsufficientBytes ≡ Err e = sym (ap (λ r. r >>= behind fuel stop) f) ∙ g in (first_string bytes p stop n lt at, short, sym (fail_is InsufficientBytes e k))
    step (whole s q after fits size at f) lt g more =
        bind_err (strings_within fuel stop (here bytes q)) (λ others. Ok (s ∷ others.0, others.1)) e _ (sym (ap (λ r. r >>= behind fuel stop) f) ∙ g)
        (λ k. let r = more q k in (string_before bytes p stop q s at r.0, r.1, r.2)) (λ x k l. absurd cc)

-- at the end no string is read
stops_here : (bytes : List ℕ) (fuel stop p : ℕ) (x : List (List ℕ) × Cursor) → stop ≤ p → strings_within fuel stop (here bytes p) ≡ Ok x → p ≡ x.1.place
stops_here bytes fuel stop p x past h =
    let y : List (List ℕ) × Cursor = ([], here bytes p) in
    ap (λ (z : List (List ℕ) × Cursor). z.1.place) (ok_is y x (sym (within_none bytes fuel stop p past) ∙ h))

-- the string that reaches past the end
abbrev TooLong : List ℕ → ℕ → ℕ → Type 0
TooLong bytes p stop = (t : NextString bytes p stop) × (t.middle + 1 + t.n ≤ length bytes) × (stop < t.middle + 1 + t.n)

-- a string that was read, and those behind it
past_step : (bytes : List ℕ) (fuel stop p : ℕ) (x : List (List ℕ) × Cursor) → StringRuns bytes p → p < stop → (string (here bytes p) >>= behind fuel stop) ≡ Ok x → x.1.place ≢ stop
    → ((q : ℕ) (y : List (List ℕ) × Cursor) → p < q → q ≤ stop → strings_within fuel stop (here bytes q) ≡ Ok y → y.1.place ≢ stop → TooLong bytes q stop) → TooLong bytes p stop
past_step bytes fuel stop p x (cut_off n at short f) lt g ne more = let k : fail InsufficientBytes ≡ Ok x = sym (ap (λ r. r >>= behind fuel stop) f) ∙ g in absurd cc
past_step bytes fuel stop p x (whole s q after fits size at f) lt g ne more =
    elim (cases_lt stop q) [
      | inl past ↦ (first_string bytes p stop (length s) lt size, omega arith, omega arith)
      | inr inside ↦
          bind_then (strings_within fuel stop (here bytes q)) (λ others. Ok (s ∷ others.0, others.1)) x _ (sym (ap (λ r. r >>= behind fuel stop) f) ∙ g) (λ y k l.
          let z : List (List ℕ) × Cursor = (s ∷ y.0, y.1) in
          let same : y.1.place ≡ x.1.place = ap (λ (z : List (List ℕ) × Cursor). z.1.place) (ok_is z x l) in
          let r = more q y (omega arith) inside k (λ stops. ne (sym same ∙ stops)) in
          (string_before bytes p stop q s at r.0, r.1, r.2))
    ]

-- strings that end elsewhere, end behind the end
pub texts_past : (bytes : List ℕ) (fuel stop p : ℕ) (x : List (List ℕ) × Cursor) → stop ≤ length bytes → stop ≤ p + fuel → p ≤ stop → strings_within fuel stop (here bytes p) ≡ Ok x → x.1.place ≢ stop → TooLong bytes p stop
texts_past bytes zero stop p x within enough le h ne = absurd (ne (sym (stops_here bytes zero stop p x (omega arith) h) ∙ omega arith))
texts_past bytes (suc fuel) stop p x within enough le h ne = elim (cases_lt p stop) [
  | inr past ↦ absurd (ne (sym (stops_here bytes (suc fuel) stop p x past h) ∙ omega arith))
  | inl lt ↦ past_step bytes fuel stop p x (string_runs bytes p (omega arith)) lt (sym (within_step bytes fuel stop p lt) ∙ h) ne
      (λ q y moved inside g other. texts_past bytes fuel stop q y within (omega arith) inside g other)
]

-- ---- strings that stand

-- nothing before what is read
front_nil : (r : Read (List (List ℕ))) → r ≡ with_front [] r
front_nil (Ok x) = refl
front_nil (Err e) = refl

-- a string before those before what is read
front_more : (s : List ℕ) (ss : List (List ℕ)) (r : Read (List (List ℕ))) → (with_front ss r >>= λ others. Ok (s ∷ others.0, others.1)) ≡ with_front (s ∷ ss) r
front_more s ss (Ok x) = refl
front_more s ss (Err e) = refl

-- strings are read behind those that stand
pub texts_to : (bytes : List ℕ) (stop middle : ℕ) (strings : List (List ℕ)) (p : ℕ) → OctetsAt 0 bytes p (flat_map character_string strings) middle → middle < stop
    → strings_until stop (here bytes p) ≡ with_front strings (strings_until stop (here bytes middle))
texts_to bytes stop middle [] p at lt =
    let same : p ≡ middle = omega (arith, at.after) in
    ap (λ (q : ℕ). strings_until stop (here bytes q)) same ∙ front_nil (strings_until stop (here bytes middle))
texts_to bytes stop middle (s ∷ ss) p at lt =
    let size = length-append (character_string s) (flat_map character_string ss) in
    let q = p + 1 + length s in
    let one = BytesAt-left bytes p (character_string s) (flat_map character_string ss) at.stands in
    let more = BytesAt-right bytes p (character_string s) (flat_map character_string ss) at.stands in
    let rest : OctetsAt 0 bytes q (flat_map character_string ss) middle = record { above = omega arith; stands = subst (λ (k : ℕ). BytesAt bytes k (flat_map character_string ss)) (omega arith) more; after = omega (arith, at.after) } in
    strings_until-step stop (here bytes p) (omega (arith, at.after))
    ∙ rw (string_here bytes p q s one refl, texts_to bytes stop middle ss q rest lt) (front_more s ss (strings_until stop (here bytes middle)))

-- the next string is cut off
pub next_cut : (bytes : List ℕ) (p stop middle n : ℕ) → StringBegins bytes p stop middle n → length bytes < middle + 1 + n → strings_until stop (here bytes p) ≡ Err InsufficientBytes
next_cut bytes p stop middle n s lt =
    texts_to bytes stop middle s.strings p s.stand s.inside
    ∙ rw (strings_until-step stop (here bytes middle) s.inside, string_short bytes middle n s.size lt) refl

-- the next string reaches past the end
pub next_past : (bytes : List ℕ) (p stop middle n : ℕ) → StringBegins bytes p stop middle n → middle + 1 + n ≤ length bytes → stop < middle + 1 + n
    → (all : List (List ℕ)) × (strings_until stop (here bytes p) ≡ read_here all bytes (middle + 1 + n))
unfolding strings_until
next_past bytes p stop middle n s fits past =
    let w = string_whole bytes middle n s.size fits in
    let one = string_here bytes middle (middle + 1 + n) w.0 w.2 (omega (arith, w.1)) in (
      s.strings ++ w.0 ∷ [],
      texts_to bytes stop middle s.strings p s.stand s.inside
          ∙ rw (strings_until-step stop (here bytes middle) s.inside, one, within_none bytes (stop - (middle + 1 + n)) stop (middle + 1 + n) (omega arith)) refl,
    )
