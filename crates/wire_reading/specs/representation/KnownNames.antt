-- What a decoder keeps of the names that it has read: rests of names, by the places where they stand.
use Rattle.std.specs.Prelude.{◌≡◌, ℕ, ◌-◌, ◌≤◌, List, length, take, drop, Option, Some, slice_get}
use Rattle.wire_names.specs.rr.domain.DomainName.{IsWire, cut}
use Rattle.wire_messages.specs.serialize.layout.NameLayout.{LabelsAt}
use Rattle.wire_reading.specs.declared.serialize.reading.known_names.Rest.{Rest}

-- These are the labels in wire form, without the end byte, that stand at place in a run of labels that began at start
-- (RFC 1035, section 4.1.4).
pub record IsRest (bytes : List ℕ) (start place : ℕ) (wire : List ℕ) : Type 0 where
  pub next : ℕ
  pub is_wire : IsWire wire
  pub labels : LabelsAt 0 bytes start place (cut wire) next

-- the labels of a rest, among all that are kept
abbrev pub labels_of : List ℕ → Rest → List ℕ
labels_of labels rest = take (rest.until - rest.from) (drop rest.from labels)

-- The rest stands at place.
pub record Holds (bytes labels : List ℕ) (place : ℕ) (rest : Rest) : Type 0 where
  pub order : rest.from ≤ rest.until
  pub within : rest.until ≤ length labels
  pub stands : IsRest bytes rest.least place (labels_of labels rest)

-- What is noted at a place is the rest that stands there.
abbrev pub AreRests : List ℕ → List ℕ → List (Option Rest) → Type 0
AreRests bytes labels rests = (place : ℕ) (rest : Rest) → slice_get rests place ≡ Some (Some rest) → Holds bytes labels place rest
