-- Locations as words of a zone's text, and the octets that they stand for (RFC 1876 sections 2 and 3).
use Rattle.std.specs.Prelude.{◌≡◌, ◌≢◌, ℕ, ◌+◌, ◌-◌, ◌*◌, ◌/◌, ◌^◌, ◌<◌, ◌≤◌, ◌==◌, ◌⊎◌, if◌then◌else◌, false, List, [], ◌∷◌, ◌++◌, length, get_or, take, drop, bytes_eq}
use Rattle.std.specs.Int.{w32, to_be_bytes}
use Rattle.text_words.specs.declared.words.Word.{Word}
use Rattle.text_words.specs.Cuts.{before_byte, behind_byte}
use Rattle.text_words.specs.Spelling.{IsNumber}

-- Nothing is such as a fact says.
abbrev pub HasNone : {A : Type 0} → (A → Type 0) → Type 0
HasNone {A} Is = (it : A) → Is it → ⊥

-- the digits behind a dot, in units of the last of so many places; where there are none, 0
pub data IsFraction (places : ℕ) : List ℕ → ℕ → Type 0 where
  none : IsFraction places [] 0
  some : {text : List ℕ} {n : ℕ} → IsNumber text n → length text ≤ places → IsFraction places text (n * 10 ^ (places - length text))

-- a number with at most so many digits behind its dot, in units of the last of these places
pub record IsDecimal (places : ℕ) (text : List ℕ) (n : ℕ) : Type 0 where
  pub whole : ℕ
  pub part : ℕ
  pub wholes : IsNumber (before_byte 46 text) whole
  pub parts : IsFraction places (behind_byte 46 text) part
  pub together : n ≡ whole * 10 ^ places + part

-- a text without the letter of metres, which may stand last
abbrev pub without_metres : List ℕ → List ℕ
without_metres text = if get_or text (length text - 1) 0 == 109 then take (length text - 1) text else text

-- metres in hundredths, with or without `m` behind them
abbrev pub IsMetres : List ℕ → ℕ → Type 0
IsMetres text cents = IsDecimal 2 (without_metres text) cents

-- metres above the spheroid, and below it, in hundredths of a metre from 100,000 metres below it on
pub record IsAbove (text : List ℕ) (height : ℕ) : Type 0 where
  pub cents : ℕ
  pub spelled : IsMetres text cents
  pub high : height ≡ cents + 10000000
  pub small : height < 2 ^ 32

pub record IsBelow (text : List ℕ) (height : ℕ) : Type 0 where
  pub cents : ℕ
  pub spelled : IsMetres text cents
  pub low : height + cents ≡ 10000000

-- an altitude, in hundredths of a metre from 100,000 metres below the spheroid on; a minus sign stands before one below
-- it (section 2, ALTITUDE)
pub data IsAltitude : List ℕ → ℕ → Type 0 where
  above : {text : List ℕ} {height : ℕ} → get_or text 0 0 ≢ 45 → IsAbove text height → IsAltitude text height
  below : {text : List ℕ} {height : ℕ} → get_or text 0 0 ≡ 45 → IsBelow (drop 1 text) height → IsAltitude text height

-- The octet of a size in hundredths of a metre: their first digit, and how many digits stand behind it (section 2,
-- SIZE).
pub record IsSizeOctet (cents octet : ℕ) : Type 0 where
  pub base : ℕ
  pub exponent : ℕ
  pub first : base ≡ cents / 10 ^ exponent
  pub digit : base < 10
  pub power : exponent < 10
  pub some : (exponent ≡ 0) ⊎ (0 < base)
  pub together : octet ≡ 16 * base + exponent

-- a size or a precision, of at most 90,000 kilometres
pub record IsSize (text : List ℕ) (octet : ℕ) : Type 0 where
  pub cents : ℕ
  pub spelled : IsMetres text cents
  pub most : cents ≤ 9000000000
  pub written : IsSizeOctet cents octet

-- degrees; minutes; and seconds in thousandths
abbrev pub IsDegrees : Word → ℕ → Type 0
IsDegrees word n = (word.quoted ≡ false) × IsNumber word.bytes.now n

abbrev pub IsMinutes : Word → ℕ → Type 0
IsMinutes word n = (word.quoted ≡ false) × IsNumber word.bytes.now n × (n < 60)

abbrev pub IsSeconds : Word → ℕ → Type 0
IsSeconds word n = (word.quoted ≡ false) × IsDecimal 3 word.bytes.now n × (n < 60000)

-- an angle in thousandths of a second: degrees, minutes and seconds, of which the last two may be left out (section 3)
pub data IsAngle : List Word → ℕ → Type 0 where
  degrees : {d : Word} {n : ℕ} → IsDegrees d n → IsAngle (d ∷ []) (n * 3600000)
  minutes : {d m : Word} {n k : ℕ} → IsDegrees d n → IsMinutes m k → IsAngle (d ∷ m ∷ []) (n * 3600000 + k * 60000)
  seconds : {d m s : Word} {n k t : ℕ} → IsDegrees d n → IsMinutes m k → IsSeconds s t → IsAngle (d ∷ m ∷ s ∷ []) (n * 3600000 + k * 60000 + t)

-- which of two letters a word is, or 0
abbrev pub letter_in : ℕ → ℕ → Word → ℕ
letter_in plus minus word = if word.quoted then 0 else if bytes_eq word.bytes.now (plus ∷ []) then plus else if bytes_eq word.bytes.now (minus ∷ []) then minus else 0

-- the words before the first that is one of two letters, that letter (0, where none is one), and the words behind it
abbrev pub before_letter : ℕ → ℕ → List Word → List Word
before_letter plus minus [] = []
before_letter plus minus (word ∷ words) = if letter_in plus minus word == 0 then word ∷ before_letter plus minus words else []

abbrev pub letter_of : ℕ → ℕ → List Word → ℕ
letter_of plus minus [] = 0
letter_of plus minus (word ∷ words) = if letter_in plus minus word == 0 then letter_of plus minus words else letter_in plus minus word

abbrev pub behind_letter : ℕ → ℕ → List Word → List Word
behind_letter plus minus [] = []
behind_letter plus minus (word ∷ words) = if letter_in plus minus word == 0 then behind_letter plus minus words else words

-- A latitude or longitude (section 2): an angle of at most so many degrees, and one of two letters, the first of which
-- adds it to 2^31 and the second takes it away.
pub record IsCoordinate (plus minus most : ℕ) (words : List Word) (value : ℕ) : Type 0 where
  pub angle : ℕ
  pub measured : IsAngle (before_letter plus minus words) angle
  pub within : angle ≤ most * 3600000
  pub lettered : letter_of plus minus words ≢ 0
  pub from_middle : value ≡ (if letter_of plus minus words == plus then 2 ^ 31 + angle else 2 ^ 31 - angle)

-- size, horizontal and vertical precision, of which those at the end may be left out: 1 m, 10,000 m and 10 m (section
-- 3)
pub data AreSizes : List Word → List ℕ → Type 0 where
  none : AreSizes [] (18 ∷ 22 ∷ 19 ∷ [])
  one : {s : Word} {a : ℕ} → s.quoted ≡ false → IsSize s.bytes.now a → AreSizes (s ∷ []) (a ∷ 22 ∷ 19 ∷ [])
  two : {s h : Word} {a b : ℕ} → s.quoted ≡ false → IsSize s.bytes.now a → h.quoted ≡ false → IsSize h.bytes.now b → AreSizes (s ∷ h ∷ []) (a ∷ b ∷ 19 ∷ [])
  three : {s h v : Word} {a b c : ℕ} → s.quoted ≡ false → IsSize s.bytes.now a → h.quoted ≡ false → IsSize h.bytes.now b → v.quoted ≡ false → IsSize v.bytes.now c → AreSizes (s ∷ h ∷ v ∷ []) (a ∷ b ∷ c ∷ [])

-- a location in wire form: the version 0, size and precisions, latitude, longitude and altitude (section 2)
abbrev pub location_octets : List ℕ → ℕ → ℕ → ℕ → List ℕ
location_octets sizes latitude longitude height = 0 ∷ (sizes ++ to_be_bytes w32 latitude ++ to_be_bytes w32 longitude ++ to_be_bytes w32 height)

-- Words as they stand for a location (section 3): a latitude, to its letter N or S, a longitude, to its letter E or W,
-- an altitude, and size and precisions.
pub record IsLocation (words : List Word) (octets : List ℕ) : Type 0 where
  pub latitude : ℕ
  pub longitude : ℕ
  pub height : ℕ
  pub altitude : Word
  pub others : List Word
  pub sizes : List ℕ
  pub north : IsCoordinate 78 83 90 words latitude
  pub east : IsCoordinate 69 87 180 (behind_letter 78 83 words) longitude
  pub behind : behind_letter 69 87 (behind_letter 78 83 words) ≡ altitude ∷ others
  pub high : (altitude.quoted ≡ false) × IsAltitude altitude.bytes.now height
  pub sized : AreSizes others sizes
  pub together : octets ≡ location_octets sizes latitude longitude height
