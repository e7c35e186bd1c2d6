-- Text that stands in bytes, and bytes that keep it.
use Rattle.std.specs.Prelude.{◌≡◌, ℕ, ◌+◌, ◌<◌, ◌≤◌, List, length, slice_index}

-- The text stands in the bytes from place on.
pub record BytesAt (bytes : List ℕ) (place : ℕ) (text : List ℕ) : Type 0 where
  pub fits : place + length text ≤ length bytes
  pub same : (k : ℕ) → k < length text → slice_index bytes (place + k) ≡ slice_index text k

-- Each byte of old from floor on is in new, at its place.
pub record KeepsFrom (floor : ℕ) (old new : List ℕ) : Type 0 where
  pub longer : length old ≤ length new
  pub same : (k : ℕ) → floor ≤ k → k < length old → slice_index new k ≡ slice_index old k

-- each number is that of a byte
abbrev pub AreBytes : List ℕ → Type 0
AreBytes bytes = (k : ℕ) → slice_index bytes k < 256
