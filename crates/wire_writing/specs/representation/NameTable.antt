-- How the fields of a compression table have its notes.
use Rattle.std.specs.Prelude.{◌≡◌, ◌≢◌, ℕ, suc, ◌%◌, ◌<◌, ◌≤◌, List, [], ◌++◌, length, map, take, drop, slice_index, slice_index_or, Option, None, IfSome}
use Rattle.std.specs.Hash.FoldHasher.{initial, write, finish}
use Rattle.std.specs.List.{All}
use Rattle.wire_writing.specs.representation.Noted.{Notes, IsPlace, first_place, IsNotedAt}
use Rattle.wire_writing.specs.declared.serialize.writing.compression_table.Note.{Note}
use Rattle.wire_writing.specs.declared.serialize.writing.compression_table.KeptName.{KeptName}

abbrev pub pairs : List Note → Notes
pairs notes = map (λ note. (note.suffix.now, note.place)) notes

-- No note's suffix was noted before it.
abbrev pub AreApart : Notes → Type 0
AreApart notes = (k : ℕ) (d : List ℕ × ℕ) → k < length notes → first_place (slice_index_or notes k d).0 (take k notes) ≡ None

-- the bucket of a suffix, of 1024
unfoldable pub bucket : List ℕ → ℕ
bucket suffix = finish (write initial suffix) % 1024

abbrev pub buckets : List Note → List ℕ
buckets notes = map (λ note. bucket note.suffix.now) notes

abbrev pub befores : List Note → List ℕ
befores notes = map (λ note. note.before) notes

-- With this many elements the list ends in its last one of the bucket; it has none where that is 0.
pub record IsLast (bucket : ℕ) (buckets : List ℕ) (last : ℕ) : Type 0 where
  pub within : last ≤ length buckets
  pub is : (i : ℕ) → last ≡ suc i → slice_index buckets i ≡ bucket
  pub others : All (λ other. other ≢ bucket) (drop last buckets)

-- From each bucket's last note, each one leads to the one before it in the bucket.
pub record AreLinked (notes : List Note) (lasts : List ℕ) : Type 0 where
  pub each : length lasts ≡ 1024
  pub last : (b : ℕ) → b < 1024 → IsLast b (buckets notes) (slice_index lasts b)
  pub before : (i : ℕ) → i < length notes → IsLast (slice_index (buckets notes) i) (take i (buckets notes)) (slice_index (befores notes) i)

-- The notes lie in the table itself until they are linked, and in memory from then on.
pub record IsStored (first linked : List Note) (lasts : List ℕ) : Type 0 where
  pub short : length first ≤ 16
  pub here : lasts ≡ [] → linked ≡ []
  pub behind : lasts ≢ [] → first ≡ []

-- A name that is kept was noted at its place.
abbrev pub IsKept : Notes → Option KeptName → Type 0
IsKept all kept = IfSome kept (λ name. IsNotedAt all name.wire.now name.place)

-- the notes behind those of the question, the two names that are asked for first, and the last notes of the buckets,
-- where they are linked
pub record IsTable (asked : Notes) (notes : List Note) (last_owner last_target : Option KeptName) (lasts : List ℕ) : Type 0 where
  pub apart : AreApart (pairs notes)
  pub in_range : All (λ note. IsPlace note.1) (asked ++ pairs notes)
  pub linked : lasts ≢ [] → AreLinked notes lasts
  pub owner_kept : IsKept (asked ++ pairs notes) last_owner
  pub target_kept : IsKept (asked ++ pairs notes) last_target
