-- What notes of names say of the bytes while a message is written, and what writing by them leaves (RFC 1035 section
-- 4.1.4).
use Rattle.std.specs.Prelude.{◌≡◌, ◌≢◌, ℕ, ◌+◌, ◌^◌, ◌<◌, ◌≤◌, List, [], ◌++◌, length, slice_index, Option, Some}
use Rattle.std.specs.List.{All, Contains}
use Rattle.std.specs.Map.{lookup}
use Rattle.std.specs.Str.{bytes_eq}
use Rattle.wire_names.specs.rr.domain.DomainName.{cut}
use Rattle.wire_messages.specs.serialize.layout.NameLayout.{LabelsAt}

-- the last labels of names in wire form without the end byte, each with a place
abbrev pub Notes : Type 0
Notes = List (List ℕ × ℕ)

-- where a pointer may lead: behind the header, and no further than its 14 bits reach
abbrev pub IsPlace : ℕ → Type 0
IsPlace place = (12 ≤ place) × (place < 2 ^ 14)

-- the place of the first note of these bytes, letter case kept
abbrev pub first_place : List ℕ → Notes → Option ℕ
first_place suffix notes = lookup (bytes_eq suffix) notes

-- These bytes, one at least, were noted, and first at this place.
abbrev pub IsNotedAt : Notes → List ℕ → ℕ → Type 0
IsNotedAt notes wire place = (wire ≢ []) × (first_place wire notes ≡ Some place)

-- The noted labels stand at the noted place, which lies before start. No byte that is read for them belongs to the
-- header.
pub record IsNote (bytes : List ℕ) (start : ℕ) (note : List ℕ × ℕ) : Type 0 where
  pub before : note.1 < start
  pub past : ℕ
  pub stand : LabelsAt 12 bytes note.1 note.1 (cut note.0) past

abbrev pub AreNotes : List ℕ → ℕ → Notes → Type 0
AreNotes bytes start notes = All (IsNote bytes start) notes

-- Labels in this wire form were noted.
abbrev pub HasNote : Notes → List ℕ → Type 0
HasNote notes wire = (place : ℕ) × Contains notes (wire, place)

-- new is old with notes behind it that are no longer than so.
pub record AddsNotes (longest : ℕ) (old new : Notes) : Type 0 where
  pub more : Notes
  pub is : new ≡ old ++ more
  pub short : All (λ note. length note.0 ≤ longest) more

-- new is old with more notes behind it.
pub record KeepsNotes (old new : Notes) : Type 0 where
  pub more : Notes
  pub is : new ≡ old ++ more

-- Labels are put behind old, in at most the length of their wire form and its end byte. They stand behind any bytes of
-- the length of old in which the notes hold, in a run of labels that began at start or later; and then the later notes
-- hold.
pub record WritesLabels (old new : List ℕ) (notes notes' : Notes) (wire : List ℕ) : Type 0 where
  pub more : List ℕ
  pub is : new ≡ old ++ more
  pub short : length more ≤ length wire + 1
  pub adds : AddsNotes (length wire) notes notes'
  pub stand : (base : List ℕ) (start : ℕ) → length base ≡ length old → start ≤ length old → AreNotes base start notes →
      LabelsAt 12 (base ++ more) start (length old) (cut wire) (length new) × AreNotes (base ++ more) (length new) notes'

-- Labels that were noted are written as a pointer, and labels that are written where a pointer reaches are noted. The
-- root is neither.
pub record Compresses (old new : List ℕ) (notes notes' : Notes) (wire : List ℕ) : Type 0 where
  pub repeats : wire ≢ [] → HasNote notes wire → 192 ≤ slice_index new (length old)
  pub remembers : wire ≢ [] → length old < 2 ^ 14 → HasNote notes' wire
