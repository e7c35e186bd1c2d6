-- Messages after their lengths (RFC 1035 section 4.2.2).
use Rattle.std.specs.Prelude.{◌≡◌, ◌<◌, ◌≤◌, ◌⊎◌, ◌+◌, ◌-◌, ◌*◌, ◌++◌, ◌∷◌, [], ℕ, IfSome, List, get_or, length, slice_get, take}

-- The bytes are a message after its length in two bytes, of which the first counts 256 each.
pub record IsFrame (bytes message : List ℕ) : Type 0 where
  pub high : ℕ
  pub low : ℕ
  pub low_in : low < 256
  pub length_is : length message ≡ 256 * high + low
  pub bytes_are : bytes ≡ high ∷ low ∷ message

-- The bytes are messages, each after its length, one after the other.
abbrev pub AreFrames : List ℕ → List (List ℕ) → Type 0
AreFrames bytes [] = bytes ≡ []
AreFrames bytes (message ∷ messages) = (frame : List ℕ) × (frames : List ℕ) × IsFrame frame message × AreFrames frames messages × (bytes ≡ frame ++ frames)

-- A message is whole at the front of the bytes.
abbrev pub BeginsWith : List ℕ → List ℕ → Type 0
BeginsWith bytes message = (frame : List ℕ) × (rest : List ℕ) × IsFrame frame message × (bytes ≡ frame ++ rest)

-- No message is whole at the front of the bytes: of its length, or of itself, a byte is missing.
abbrev pub IsCutShort : List ℕ → Type 0
IsCutShort bytes = (length bytes < 2) ⊎ (length bytes < 2 + (256 * get_or bytes 0 0 + get_or bytes 1 0))

-- There is no room for a message after its length in so many bytes.
abbrev pub HasNoRoom : ℕ → List ℕ → Type 0
HasNoRoom room message = (room < 2 + length message) ⊎ (65535 < length message)

-- As many of these replies as there is room for are written at this place, each after its length, up to the end; the
-- others wait. Of the bytes, no others matter.
pub record ArePut (replies : List (List ℕ)) (old : List ℕ) (at : ℕ) (new : List ℕ) (end : ℕ) (waiting : List (List ℕ)) : Type 0 where
  pub written : List (List ℕ)
  pub frames : List ℕ
  pub are_frames : AreFrames frames written
  pub front : take end new ≡ take at old ++ frames
  pub all : replies ≡ written ++ waiting
  pub same_length : length new ≡ length old
  pub within : end ≤ length new
  pub full : IfSome (slice_get waiting 0) (HasNoRoom (length new - end))
