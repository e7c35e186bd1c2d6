-- What updates leave of a zone's owner names: each is fully qualified, and the zone's apex or below it (RFC 1034
-- section 4.2, RFC 2136 section 3.4.1.3).
use Rattle.std.specs.Prelude.{◌≡◌, ◌↔◌, true, List}
use Rattle.std.specs.List.{AllByRecursion}
use Rattle.wire_names.specs.rr.domain.DomainName.{AreLabels, DomainName}
use Rattle.wire_messages.specs.rr.RecordData.{type_of}
use Rattle.wire_messages.specs.declared.rr.rdata.RData.{RData}
use Rattle.wire_messages.specs.declared.rr.record.Record.{Record}
use Rattle.wire_reading.specs.serialize.layout.WholeMessage.{MessageAt}
use Rattle.hickory_base.specs.requests.RequestReading.{message_of}
use Rattle.hickory_base.specs.requests.Requests.{ReceivedRequest, TimedRequest}
use Rattle.hickory_base.specs.zone_store.Lookups.{SignerContext, UpdateResult}
use Rattle.hickory_base.specs.zone_store.ZoneSets.{IsZone, zone_records}
use Rattle.hickory_store.specs.updates.UpdatableZone.{UpdatableZone}
use Rattle.hickory_store.specs.updates.UpdateAnswers.{AnswersUpdate, UpdatesAll}
use Rattle.hickory_store.specs.updates.UpdateLaws.{HoldsIn}
use Rattle.hickory_store.specs.declared.updates.verifier.Verifier.{Ghosts}
use Rattle.zone_answers.specs.Zones.{AreOwners, IsOwner, Sets}
use Rattle.zones.specs.Laws.{OfUpdates}

-- the owner name of the record may own records of the zone
abbrev pub IsOwned : DomainName → Record RData → Type 0
IsOwned origin r = IsOwner origin (record { name = r.name; record_type = type_of r.rdata })

-- the owner names of all these records may
abbrev pub AreOwned : DomainName → List (Record RData) → Type 0
AreOwned origin records = AllByRecursion (IsOwned origin) records

-- The owner name is fully qualified, and has the labels of a name (RFC 1035 sections 2.3.4 and 3.1). Each owner name
-- that is read of a message is so.
pub record IsNamed (r : Record RData) : Type 0 where
  pub qualified : r.name.is_fqdn ≡ true
  pub labels : AreLabels r.name.labels

-- The names of a zone's sets may own records of it exactly if those of its records may.
abbrev pub OwnersOfRecords : Type 0
OwnersOfRecords = (origin : DomainName) (sets : Sets) → IsZone sets → AreOwners origin sets ↔ AreOwned origin (zone_records sets)

-- The message of the request is what is in its bytes.
abbrev pub IsOfItsBytes : ReceivedRequest → Type 0
IsOfItsBytes request = MessageAt request.bytes (message_of request.message)

module _ {V : Type 0} (by : Ghosts V) where
  -- Owner names that may own records of the zone stay so when a request is answered, with whatever answer, and when
  -- several are.
  abbrev pub OwnersStay : Type 0
  OwnersStay =
      ((request : TimedRequest) (answer : UpdateResult) (context : SignerContext) (old new : UpdatableZone V)
      → IsOfItsBytes request.0 → AnswersUpdate true by old request answer context new → HoldsIn AreOwned old.zone → HoldsIn AreOwned new.zone)
      × ((requests : List TimedRequest) (old new : UpdatableZone V)
      → AllByRecursion (λ r. IsOfItsBytes r.0) requests → UpdatesAll true by requests old new → HoldsIn AreOwned old.zone → HoldsIn AreOwned new.zone)

  -- They stay so in a zone with rules and a journal.
  abbrev pub OwnersStayByRules : Type 0
  OwnersStayByRules = OfUpdates by (λ request answer context old new.
      IsOfItsBytes request.0 → HoldsIn AreOwned old.updatable.zone → HoldsIn AreOwned new.updatable.zone)
