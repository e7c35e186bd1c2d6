-- Owner names that repeat earlier ones as pointers (RFC 1035 section 4.1.4).
use Rattle.std.specs.Prelude.{◌≢◌, ℕ, ◌<◌, ◌≤◌, ◌^◌, List, [], slice_index}
use Rattle.std.specs.List.{Contains}

-- a place at which a record was put, and the labels of its owner name
pub record OwnerPlace : Type 0 where
  pub place : ℕ
  pub labels : List (List ℕ)

-- The bytes of a record that was put at place begin with a pointer, where a pointer reaches a place at which a record
-- was put whose owner name has these labels, letter case included. The root takes one byte, and has no pointer.
abbrev pub RepeatsOwner : List OwnerPlace → List ℕ → ℕ → List (List ℕ) → Type 0
RepeatsOwner before bytes place labels = (earlier : ℕ) → Contains before (record { place = earlier; labels = labels }) → earlier < 2 ^ 14 → labels ≢ [] → 192 ≤ slice_index bytes place
