-- The zone that a journal's entries make of the one before. Each entry is the bytes of a request.
use Rattle.std.specs.Prelude.{◌≡◌, ℕ, true, List, [], ◌∷◌, Ok, Err, None}
use Rattle.wire_messages.specs.declared.rr.rdata.RData.{RData}
use Rattle.wire_messages.specs.declared.rr.record.Record.{Record}
use Rattle.wire_reading.specs.declared.op.message.Message.{Message}
use Rattle.wire_reading.specs.serialize.reading.MessageReading.{Reads}
use Rattle.hickory_base.specs.zone_store.ZoneAnswers.{MemoryZone}
use Rattle.hickory_base.specs.zone_store.ZoneSets.{zone_records}
use Rattle.hickory_store.specs.updates.Identity.{SameZone}
use Rattle.hickory_store.specs.updates.Prescan.{prescan_refusal}
use Rattle.hickory_store.specs.updates.UpdateAnswers.{Outcome, applied}

-- the zone is left with the records of the outcome; or, where that is a refusal, as it was
abbrev pub Leaves : Outcome → MemoryZone → MemoryZone → Type 0
Leaves (Ok outcome) old new = SameZone (zone_records new.sets) outcome.0 × (new ≡ record old { sets = new.sets })
Leaves (Err code) old new = new ≡ old

-- The records of an update section pass the prescan (RFC 2136 section 3.4.1), and are done to the zone by the RFCs
-- (section 3.4.2). The serial of the zone is incremented if one of them changed it (section 3.6).
pub record Makes (updates : List (Record RData)) (old new : MemoryZone) : Type 0 where
  pub accepted : prescan_refusal old.origin updates ≡ None
  pub done : Leaves (applied true old.origin (zone_records old.sets) updates true) old new

-- One entry: it begins with a message, and the update section of that, which are its authorities (section 2.2), is
-- done.
pub record RedoesOne (entry : List ℕ) (old new : MemoryZone) : Type 0 where
  pub message : Message
  pub reads : Reads entry message
  pub made : Makes message.authorities old new

-- All entries, one after another.
abbrev pub Redone : List (List ℕ) → MemoryZone → MemoryZone → Type 0
Redone [] old new = new ≡ old
Redone (entry ∷ entries) old new = (between : MemoryZone) × RedoesOne entry old between × Redone entries between new
