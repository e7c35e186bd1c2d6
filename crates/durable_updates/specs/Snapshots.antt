-- A zone as entries of a journal, and the zone that the entries of a file make which may begin with one.
use Rattle.std.specs.Prelude.{◌≡◌, ◌⊎◌, ◌<◌, ℕ, true, List, [], ◌∷◌, ◌++◌, length}
use Rattle.wire_messages.specs.declared.rr.rdata.RData.{RData}
use Rattle.wire_messages.specs.declared.rr.record.Record.{Record}
use Rattle.wire_reading.specs.declared.op.message.Message.{Message}
use Rattle.wire_reading.specs.serialize.reading.MessageReading.{Reads}
use Rattle.hickory_base.specs.zone_store.ZoneAnswers.{MemoryZone}
use Rattle.hickory_base.specs.zone_store.ZoneSets.{zone_records}
use Rattle.hickory_store.specs.updates.Identity.{SameZone, same_record}
use Rattle.hickory_store.specs.updates.UpdateLaws.{HasOneSoa, HoldsIn}
use Rattle.durable_updates.specs.Redone.{Redone}

-- The entry begins with a message of this one answer (RFC 1035 section 4.1).
pub record IsAnswer (entry : List ℕ) (r : Record RData) : Type 0 where
  pub filled : 0 < length entry
  pub message : Message
  pub reads : Reads entry message
  pub answer : message.answers ≡ r ∷ []

-- The entry says this record: its answer has the same identity and TTL.
pub record Says (entry : List ℕ) (r : Record RData) : Type 0 where
  pub said : Record RData
  pub is_answer : IsAnswer entry said
  pub same : same_record said r ≡ true
  pub ttl : said.ttl ≡ r.ttl

-- each says the record at its place
abbrev pub Say : List (List ℕ) → List (Record RData) → Type 0
Say [] [] = Unit {0}
Say [] (r ∷ records) = ⊥
Say (entry ∷ entries) [] = ⊥
Say (entry ∷ entries) (r ∷ records) = Says entry r × Say entries records

-- The entries say the records of the zone, which has one SOA at its apex.
abbrev pub IsSnapshot : List (List ℕ) → MemoryZone → Type 0
IsSnapshot entries zone = (records : List (Record RData)) × Say entries records × SameZone (zone_records zone.sets) records × HoldsIn HasOneSoa zone

-- The entries of a file that was compacted: its generation, which has eight bytes, a snapshot, an empty entry behind
-- that, and the requests since.
abbrev pub compacted : List ℕ → List (List ℕ) → List (List ℕ) → List (List ℕ)
compacted head snapshot requests = head ∷ (snapshot ++ [] ∷ requests)

-- The records of the first zone give way to those of the snapshot that the file begins with; behind it are these
-- requests.
pub record IsPut (entries : List (List ℕ)) (first base : MemoryZone) (requests : List (List ℕ)) : Type 0 where
  pub head : List ℕ
  pub snapshot : List (List ℕ)
  pub split : entries ≡ compacted head snapshot requests
  pub is_head : length head ≡ 8
  pub is_snapshot : IsSnapshot snapshot base
  pub others : base ≡ record first { sets = base.sets }

-- The zone that the requests of a file are done to, and these: of a file that was compacted those behind the snapshot,
-- to its records; of every other one all entries, to the first zone.
abbrev pub IsBase : List (List ℕ) → MemoryZone → MemoryZone → List (List ℕ) → Type 0
IsBase entries first base requests = ((requests ≡ entries) × (base ≡ first)) ⊎ IsPut entries first base requests

-- What the entries of a file make of the first zone, be it compacted or not.
pub record Recalls (entries : List (List ℕ)) (first new : MemoryZone) : Type 0 where
  pub base : MemoryZone
  pub requests : List (List ℕ)
  pub is_base : IsBase entries first base requests
  pub redone : Redone requests base new
