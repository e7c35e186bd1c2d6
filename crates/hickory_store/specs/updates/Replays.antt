-- Updates that were answered, and the records by which they are done again to the zone that was there before.
use Rattle.std.specs.Prelude.{◌≡◌, true, false, List, [], ◌∷◌, ◌++◌, Some, Ok, Err}
use Rattle.wire_messages.specs.Numbers.{class_in}
use Rattle.wire_messages.specs.declared.rr.rdata.RData.{RData}
use Rattle.wire_messages.specs.declared.rr.record.Record.{Record}
use Rattle.hickory_base.specs.requests.Updates.{update_of}
use Rattle.hickory_base.specs.zone_store.ZoneAnswers.{MemoryZone}
use Rattle.hickory_base.specs.zone_store.ZoneSets.{IsSoaData, zone_records}
use Rattle.hickory_base.specs.requests.Requests.{TimedRequest}
use Rattle.hickory_base.specs.zone_store.Lookups.{SignerContext, UpdateResult}
use Rattle.hickory_store.specs.updates.Changes.{after_updates}
use Rattle.hickory_store.specs.updates.Identity.{SameZone, ttl_at}
use Rattle.hickory_store.specs.updates.UpdatableZone.{UpdatableZone}
use Rattle.hickory_store.specs.updates.UpdateAnswers.{AnswersUpdate, is_apex_soa}
use Rattle.hickory_store.specs.updates.UpdateLaws.{IsOneSoa, has_cname}
use Rattle.hickory_store.specs.declared.updates.verifier.Verifier.{Ghosts}

-- the zone has this SOA at its apex, with this TTL
abbrev pub HasSoa : MemoryZone → Record RData → Type 0
HasSoa zone soa = (is_apex_soa zone.origin soa ≡ true) × (ttl_at (zone_records zone.sets) soa ≡ Some soa.ttl)

-- What is to be done again of updates that were answered: nothing where they were refused; else the updates, and behind
-- them, where the answer was true, the SOA that they left.
abbrev pub IsEntry : List (Record RData) → UpdateResult → MemoryZone → List (Record RData) → Type 0
IsEntry updates (Ok true) new entry = (soa : Record RData) × HasSoa new soa × (entry ≡ updates ++ soa ∷ [])
IsEntry updates (Ok false) new entry = entry ≡ updates
IsEntry updates (Err fault) new entry = entry ≡ []

-- Requests, each at its moment, are answered one after another, with whatever answers; the journal has what is to be
-- done again of each, in their order.
abbrev pub Journalled : {V : Type 0} → Ghosts V → List TimedRequest → UpdatableZone V → UpdatableZone V → List (Record RData) → Type 0
Journalled by [] old new journal = (new ≡ old) × (journal ≡ [])
Journalled {V} by (request ∷ requests) old new journal =
    (answer : UpdateResult) × (context : SignerContext) × (between : UpdatableZone V) × (entry : List (Record RData)) × (rest : List (Record RData))
    × AnswersUpdate false by old request answer context between
    × IsEntry (update_of request.0.message).updates answer between.zone entry
    × Journalled by requests between new rest
    × (journal ≡ entry ++ rest)

-- the apex has one SOA, of class IN, and no CNAME
abbrev pub IsReplayable : MemoryZone → Type 0
IsReplayable zone =
    (soa : Record RData) × IsOneSoa zone.origin (zone_records zone.sets) soa × (soa.dns_class ≡ class_in) × IsSoaData soa.rdata
    × (has_cname (zone_records zone.sets) zone.origin ≡ false)

-- The journal, done to the records of the zone before, gives the zone that the requests left.
abbrev pub Replays : {V : Type 0} → Ghosts V → Type 0
Replays {V} by =
    (requests : List TimedRequest) (old new : UpdatableZone V) (journal : List (Record RData)) → Journalled by requests old new journal → IsReplayable old.zone
    → SameZone (zone_records new.zone.sets) (after_updates false old.zone.origin (zone_records old.zone.sets) journal)
