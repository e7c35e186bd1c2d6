-- The same words are the same location, and all locations take as many octets.
use Rattle.std.proofs.Common.{◌≡◌, ◌∙◌, ◌+◌, ◌-◌, ℕ, Bool, true, false, List, [], ◌∷◌, ◌++◌, cond, length, sym, ap, subst, refl, arith, length-append}
use Rattle.std.specs.Prelude.{◌==◌, bytes_eq, if◌then◌else◌}
use Rattle.std.specs.Int.{w32, to_be_bytes}
use Rattle.text_words.specs.declared.words.Word.{Word}
use Rattle.text_words.specs.Spelling.{IsNumber}
use Rattle.text_words.specs.Words.{AreSameWords, SameWord}
use Rattle.text_data.specs.LocationText.{AreSizes, IsAltitude, IsAngle, IsCoordinate, IsDecimal, IsDegrees, IsLocation, IsMinutes, IsSeconds, IsSize, before_letter, behind_letter, letter_in, letter_of}
use Rattle.text_data.specs.LocationText.AreSizes.{none, one, two, three}
use Rattle.text_data.specs.LocationText.IsAngle.{degrees, minutes, seconds}

abbrev letter : ℕ → ℕ → List ℕ → ℕ
letter p m text = if bytes_eq text (p ∷ []) then p else if bytes_eq text (m ∷ []) then m else 0

same_letter : (p m : ℕ) (a b : Word) → SameWord a b → letter_in p m a ≡ letter_in p m b
same_letter p m a b s = ap (λ (q : Bool). cond q 0 (letter p m a.bytes.now)) s.quoted ∙ ap (λ (t : List ℕ). cond b.quoted 0 (letter p m t)) s.bytes

pick : (a b : Bool) (x y u v : List Word) → a ≡ b → AreSameWords x u → AreSameWords y v → AreSameWords (cond a x y) (cond b u v)
pick true true x y u v e first second = first
pick true false x y u v e first second = absurd (cc)
pick false true x y u v e first second = absurd (cc)
pick false false x y u v e first second = second

is_none : (p m : ℕ) (a b : Word) → SameWord a b → (letter_in p m a == 0) ≡ (letter_in p m b == 0)
is_none p m a b s = ap (λ (n : ℕ). n == 0) (same_letter p m a b s)

same_before : (p m : ℕ) (words others : List Word) → AreSameWords words others → AreSameWords (before_letter p m words) (before_letter p m others)
same_before p m [] [] h = tt
same_before p m [] (o ∷ others) h = absurd h
same_before p m (w ∷ words) [] h = absurd h
same_before p m (w ∷ words) (o ∷ others) h =
    pick (letter_in p m w == 0) (letter_in p m o == 0) (w ∷ before_letter p m words) [] (o ∷ before_letter p m others) [] (is_none p m w o h.0) (h.0, same_before p m words others h.1) tt

same_behind : (p m : ℕ) (words others : List Word) → AreSameWords words others → AreSameWords (behind_letter p m words) (behind_letter p m others)
same_behind p m [] [] h = tt
same_behind p m [] (o ∷ others) h = absurd h
same_behind p m (w ∷ words) [] h = absurd h
same_behind p m (w ∷ words) (o ∷ others) h = pick (letter_in p m w == 0) (letter_in p m o == 0) (behind_letter p m words) words (behind_letter p m others) others (is_none p m w o h.0) (same_behind p m words others h.1) h.1

same_letters : (p m : ℕ) (words others : List Word) → AreSameWords words others → letter_of p m words ≡ letter_of p m others
same_letters p m [] [] h = refl
same_letters p m [] (o ∷ others) h = absurd h
same_letters p m (w ∷ words) [] h = absurd h
same_letters p m (w ∷ words) (o ∷ others) h =
    let first : letter_in p m w ≡ letter_in p m o = same_letter p m w o h.0 in
    let rest : letter_of p m words ≡ letter_of p m others = same_letters p m words others h.1 in
    ap (λ (n : ℕ). cond (n == 0) (letter_of p m words) n) first ∙ ap (λ (n : ℕ). cond (letter_in p m o == 0) n (letter_in p m o)) rest

same_degrees : (a b : Word) (n : ℕ) → SameWord a b → IsDegrees a n → IsDegrees b n
same_degrees a b n s is = (sym s.quoted ∙ is.0, subst (λ (t : List ℕ). IsNumber t n) s.bytes is.1)

same_minutes : (a b : Word) (n : ℕ) → SameWord a b → IsMinutes a n → IsMinutes b n
same_minutes a b n s is = (sym s.quoted ∙ is.0, subst (λ (t : List ℕ). IsNumber t n) s.bytes is.1, is.2)

same_seconds : (a b : Word) (n : ℕ) → SameWord a b → IsSeconds a n → IsSeconds b n
same_seconds a b n s is = (sym s.quoted ∙ is.0, subst (λ (t : List ℕ). IsDecimal 3 t n) s.bytes is.1, is.2)

same_angle : {words : List Word} {n : ℕ} → IsAngle words n → (others : List Word) → AreSameWords words others → IsAngle others n
same_angle (degrees {d = a} {n = n} is) [] h = absurd h
same_angle (degrees {d = a} {n = n} is) (x ∷ []) h = degrees (same_degrees a x n h.0 is)
same_angle (degrees {d = a} {n = n} is) (x ∷ y ∷ others) h = absurd h.1
same_angle (minutes {d = a} {m = b} {n = n} {k = k} is other) [] h = absurd h
same_angle (minutes {d = a} {m = b} {n = n} {k = k} is other) (x ∷ []) h = absurd h.1
same_angle (minutes {d = a} {m = b} {n = n} {k = k} is other) (x ∷ y ∷ []) h = minutes (same_degrees a x n h.0 is) (same_minutes b y k h.1.0 other)
same_angle (minutes {d = a} {m = b} {n = n} {k = k} is other) (x ∷ y ∷ z ∷ others) h = absurd h.1.1
same_angle (seconds {d = a} {m = b} {s = c} {n = n} {k = k} {t = t} is other last) [] h = absurd h
same_angle (seconds {d = a} {m = b} {s = c} {n = n} {k = k} {t = t} is other last) (x ∷ []) h = absurd h.1
same_angle (seconds {d = a} {m = b} {s = c} {n = n} {k = k} {t = t} is other last) (x ∷ y ∷ []) h = absurd h.1.1
same_angle (seconds {d = a} {m = b} {s = c} {n = n} {k = k} {t = t} is other last) (x ∷ y ∷ z ∷ []) h = seconds (same_degrees a x n h.0 is) (same_minutes b y k h.1.0 other) (same_seconds c z t h.1.1.0 last)
same_angle (seconds {d = a} {m = b} {s = c} {n = n} {k = k} {t = t} is other last) (x ∷ y ∷ z ∷ v ∷ others) h = absurd h.1.1.1

same_coordinate : (p m most : ℕ) (words others : List Word) (value : ℕ) → AreSameWords words others → IsCoordinate p m most words value → IsCoordinate p m most others value
same_coordinate p m most words others value h is =
    let same : letter_of p m words ≡ letter_of p m others = same_letters p m words others h in
    record {
      angle = is.angle;
      measured = same_angle is.measured (before_letter p m others) (same_before p m words others h);
      within = is.within;
      lettered = λ e. is.lettered (same ∙ e);
      from_middle = is.from_middle ∙ ap (λ (n : ℕ). cond (n == p) (2147483648 + is.angle) (2147483648 - is.angle)) same;
    }

same_size : (a b : Word) (n : ℕ) → SameWord a b → IsSize a.bytes.now n → IsSize b.bytes.now n
same_size a b n s is = subst (λ (t : List ℕ). IsSize t n) s.bytes is

same_sizes : {words : List Word} {octets : List ℕ} → AreSizes words octets → (others : List Word) → AreSameWords words others → AreSizes others octets
same_sizes none [] h = none
same_sizes none (x ∷ others) h = absurd h
same_sizes (one {s = a} {a = n} plain is) [] h = absurd h
same_sizes (one {s = a} {a = n} plain is) (x ∷ []) h = one (sym h.0.quoted ∙ plain) (same_size a x n h.0 is)
same_sizes (one {s = a} {a = n} plain is) (x ∷ y ∷ others) h = absurd h.1
same_sizes (two {s = a} {h = b} {a = n} {b = k} plain is bare other) [] h = absurd h
same_sizes (two {s = a} {h = b} {a = n} {b = k} plain is bare other) (x ∷ []) h = absurd h.1
same_sizes (two {s = a} {h = b} {a = n} {b = k} plain is bare other) (x ∷ y ∷ []) h = two (sym h.0.quoted ∙ plain) (same_size a x n h.0 is) (sym h.1.0.quoted ∙ bare) (same_size b y k h.1.0 other)
same_sizes (two {s = a} {h = b} {a = n} {b = k} plain is bare other) (x ∷ y ∷ z ∷ others) h = absurd h.1.1
same_sizes (three {s = a} {h = b} {v = c} {a = n} {b = k} {c = j} plain is bare other third last) [] h = absurd h
same_sizes (three {s = a} {h = b} {v = c} {a = n} {b = k} {c = j} plain is bare other third last) (x ∷ []) h = absurd h.1
same_sizes (three {s = a} {h = b} {v = c} {a = n} {b = k} {c = j} plain is bare other third last) (x ∷ y ∷ []) h = absurd h.1.1
same_sizes (three {s = a} {h = b} {v = c} {a = n} {b = k} {c = j} plain is bare other third last) (x ∷ y ∷ z ∷ []) h =
    three (sym h.0.quoted ∙ plain) (same_size a x n h.0 is) (sym h.1.0.quoted ∙ bare) (same_size b y k h.1.0 other) (sym h.1.1.0.quoted ∙ third) (same_size c z j h.1.1.0 last)
same_sizes (three {s = a} {h = b} {v = c} {a = n} {b = k} {c = j} plain is bare other third last) (x ∷ y ∷ z ∷ v ∷ others) h = absurd h.1.1.1

-- the first of the same words, and those behind it
pub record FirstOf (w : Word) (words others : List Word) : Type 0 where
  pub first : Word
  pub behind : List Word
  pub whole : others ≡ first ∷ behind
  pub same : SameWord w first
  pub rest : AreSameWords words behind

first_of : (w : Word) (words others : List Word) → AreSameWords (w ∷ words) others → FirstOf w words others
first_of w words [] h = absurd h
first_of w words (o ∷ others) h = record { first = o; behind = others; whole = refl; same = h.0; rest = h.1 }

pub same_location : (words others : List Word) (octets : List ℕ) → IsLocation words octets → AreSameWords words others → IsLocation others octets
same_location words others octets is h =
    let north : AreSameWords (behind_letter 78 83 words) (behind_letter 78 83 others) = same_behind 78 83 words others h in
    let east : AreSameWords (behind_letter 69 87 (behind_letter 78 83 words)) (behind_letter 69 87 (behind_letter 78 83 others)) = same_behind 69 87 (behind_letter 78 83 words) (behind_letter 78 83 others) north in
    let last : FirstOf is.altitude is.others (behind_letter 69 87 (behind_letter 78 83 others)) =
    first_of is.altitude is.others (behind_letter 69 87 (behind_letter 78 83 others)) (subst (λ (ws : List Word). AreSameWords ws (behind_letter 69 87 (behind_letter 78 83 others))) is.behind east) in
    record {
      latitude = is.latitude;
      longitude = is.longitude;
      height = is.height;
      altitude = last.first;
      others = last.behind;
      sizes = is.sizes;
      north = same_coordinate 78 83 90 words others is.latitude h is.north;
      east = same_coordinate 69 87 180 (behind_letter 78 83 words) (behind_letter 78 83 others) is.longitude north is.east;
      behind = last.whole;
      high = (sym last.same.quoted ∙ is.high.0, subst (λ (t : List ℕ). IsAltitude t is.height) last.same.bytes is.high.1);
      sized = same_sizes is.sized last.behind last.rest;
      together = is.together;
    }

sizes_len : {words : List Word} {octets : List ℕ} → AreSizes words octets → length octets ≡ 3
sizes_len none = refl
sizes_len (one plain is) = refl
sizes_len (two plain is bare other) = refl
sizes_len (three plain is bare other third last) = refl

pub location_len : (words : List Word) (octets : List ℕ) → IsLocation words octets → length octets ≡ 16
location_len words octets is =
    let a : length (to_be_bytes w32 is.latitude) ≡ 4 = refl in
    let b : length (to_be_bytes w32 is.longitude) ≡ 4 = refl in
    let c : length (to_be_bytes w32 is.height) ≡ 4 = refl in
    omega (
      arith,
      ap length is.together,
      length-append (is.sizes ++ to_be_bytes w32 is.latitude ++ to_be_bytes w32 is.longitude) (to_be_bytes w32 is.height),
      length-append (is.sizes ++ to_be_bytes w32 is.latitude) (to_be_bytes w32 is.longitude),
      length-append is.sizes (to_be_bytes w32 is.latitude),
      sizes_len is.sized,
      a,
      b,
      c,
    )
