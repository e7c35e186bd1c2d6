-- What the zones of a server keep, whatever the updates (RFC 2136 section 3.4.2).
use Rattle.std.specs.Prelude.{ℕ, Bool, List, Option, Result}
use Rattle.std.specs.List.{All}
use Rattle.wire_names.specs.rr.domain.DomainName.{DomainName}
use Rattle.wire_messages.specs.op.EdnsFields.{EdnsFields}
use Rattle.wire_messages.specs.serialize.writing.Reply.{Reply}
use Rattle.wire_messages.specs.declared.rr.rdata.RData.{RData}
use Rattle.wire_messages.specs.declared.rr.record.Record.{Record}
use Rattle.server_limits.specs.Access.{AccessSets}
use Rattle.hickory_base.specs.requests.Requests.{ReceivedRequest}
use Rattle.hickory_base.specs.zone_store.ZoneAnswers.{MemoryZone}
use Rattle.hickory_base.specs.zone_store.ZoneSets.{zone_records}
use Rattle.hickory_base.specs.declared.errors.CatalogError.{CatalogError}
use Rattle.hickory_base.specs.declared.errors.UpdateFault.{UpdateFault}
use Rattle.hickory_base.specs.declared.zone_store.handler.ZoneHandler.{Ghosts}
use Rattle.hickory_catalog.specs.requests.Server.{server_of}
use Rattle.hickory_catalog.specs.replies.Signing.{Signer}
use Rattle.hickory_catalog.specs.updates.Updates.{UpdateAnswered, UpdateLeaves}
use Rattle.hickory_catalog.specs.declared.catalog.Catalog.{Catalog}
use Rattle.hickory_store.specs.updates.UpdatableZone.{UpdatableZone}
use Rattle.hickory_store.specs.updates.UpdateAnswers.{Updates, applied}
use Rattle.hickory_store.specs.updates.UpdateLaws.{HoldsIn}
use Rattle.hickory_server.specs.server.Serving.{Run}
use Rattle.hickory_server.specs.declared.server.serve.Incoming.{Incoming}
use Rattle.hickory_server.specs.declared.server.serve.Outcome.{Outcome}

-- what is said of the records of a zone of this origin
abbrev pub OfZone : Type 1
OfZone = DomainName → List (Record RData) → Type 0

-- It is so of each zone of a server, whichever handler of its chain holds it.
abbrev pub HoldsInAll : {V : Type 0} → OfZone → List (DomainName × List (UpdatableZone V)) → Type 0
HoldsInAll Holds zones = All (λ zone. All (λ handler. HoldsIn Holds handler.zone) zone.1) zones

-- What is so of a zone is so of it once the records of an update section were done to it, as `update_records` and
-- `update_records_by` do them, with the increment of the serial or without.
abbrev pub RecordsKeep : OfZone → Type 0
RecordsKeep Holds = (by_rfc : Bool) (updates : List (Record RData)) (increments : Bool) (answer : Result Bool UpdateFault) (old new : MemoryZone)
    → Updates (applied by_rfc old.origin (zone_records old.sets) updates increments) answer old new → HoldsIn Holds old → HoldsIn Holds new

-- What is so of all zones of a catalog is so of them once it answered an update, whatever the answer,
abbrev pub UpdatesKeep : {S V : Type 0} → Ghosts (UpdatableZone V) → (S → Signer) → OfZone → Type 0
UpdatesKeep {S} {V} handler signature_for Holds = (catalog : Catalog S (UpdatableZone V)) (request : ReceivedRequest) (edns : Option EdnsFields) (now : ℕ) (replies : List Reply) (zones : List (DomainName × List (UpdatableZone V)))
    → UpdateAnswered (server_of handler signature_for catalog) request edns now replies zones → HoldsInAll Holds catalog.zones → HoldsInAll Holds zones

-- also where memory was refused before the update or for its reply,
abbrev pub UnansweredUpdatesKeep : {S V : Type 0} → Ghosts (UpdatableZone V) → (S → Signer) → OfZone → Type 0
UnansweredUpdatesKeep {S} {V} handler signature_for Holds = (catalog : Catalog S (UpdatableZone V)) (request : ReceivedRequest) (now : ℕ) (e : CatalogError) (zones : List (DomainName × List (UpdatableZone V)))
    → UpdateLeaves (server_of handler signature_for catalog) request now e zones → HoldsInAll Holds catalog.zones → HoldsInAll Holds zones

-- and once messages were served, whatever they say.
abbrev pub RunsKeep : {S V : Type 0} → Ghosts (UpdatableZone V) → (S → Signer) → OfZone → Type 0
RunsKeep {S} {V} handler signature_for Holds = (access : AccessSets) (catalog : Catalog S (UpdatableZone V)) (messages : List Incoming) (outcomes : List Outcome) (after : List (DomainName × List (UpdatableZone V)))
    → Run access (server_of handler signature_for catalog) catalog.zones messages outcomes after → HoldsInAll Holds catalog.zones → HoldsInAll Holds after

-- Zones keep this.
pub record AreKept {S V : Type 0} (handler : Ghosts (UpdatableZone V)) (signature_for : S → Signer) (Holds : OfZone) : Type 0 where
  pub records : RecordsKeep Holds
  pub updates : UpdatesKeep handler signature_for Holds
  pub unanswered : UnansweredUpdatesKeep handler signature_for Holds
  pub runs : RunsKeep handler signature_for Holds
