-- Each zone of a server is served as if it were the only one.
use Rattle.std.specs.Prelude.{◌≡◌, [], ◌∷◌, List, Contains}
use Rattle.std.specs.Net.Socket.{socket_ip}
use Rattle.wire_names.specs.rr.domain.DomainName.{DomainName}
use Rattle.server_limits.specs.Access.{AccessSets, IsAllowed}
use Rattle.hickory_base.specs.requests.Requests.{ReceivedRequest}
use Rattle.hickory_base.specs.declared.zone_store.handler.ZoneHandler.{Ghosts}
use Rattle.hickory_catalog.specs.requests.Alone.{IsOfZone, alone}
use Rattle.hickory_catalog.specs.requests.Server.{Server, server_of}
use Rattle.hickory_catalog.specs.replies.Signing.{Signer}
use Rattle.hickory_catalog.specs.zones.Zones.{AreInOrder}
use Rattle.hickory_catalog.specs.declared.catalog.Catalog.{Catalog}
use Rattle.hickory_server.specs.server.Serving.{IsRequestOf, Run, Step}
use Rattle.hickory_server.specs.declared.server.serve.Incoming.{Incoming}
use Rattle.hickory_server.specs.declared.server.serve.Outcome.{Outcome}

-- The message is one to this zone: its address may use the server, and it is a request of one question, for whose name
-- the zone answers.
pub record IsToZone {V : Type 0} (access : AccessSets) (zones : List (DomainName × V)) (zone : DomainName × V) (message : Incoming) : Type 0 where
  pub allowed : IsAllowed access.deny access.allow (socket_ip message.src)
  pub request : ReceivedRequest
  pub is_request : IsRequestOf message request
  pub of_zone : IsOfZone zones request zone

-- What becomes of a message to a zone, and the zone after it, is what becomes of it at a server of that zone alone.
abbrev pub StepIsAlone : {S H : Type 0} → Ghosts H → (S → Signer) → Type 0
StepIsAlone {S} {H} handler signature_for = (access : AccessSets) (catalog : Catalog S H) (zone : DomainName × List H) (message : Incoming) (outcome : Outcome) (after : List (DomainName × List H))
    → AreInOrder catalog.zones → IsToZone access catalog.zones zone message
    → Step access (server_of handler signature_for catalog) message outcome after
    → (chain : List H) × Step access (alone (server_of handler signature_for catalog) zone) message outcome ((zone.0, chain) ∷ []) × Contains after (zone.0, chain)

-- A message that is not to a zone leaves it as it was.
abbrev pub StepLeavesOthers : {S H : Type 0} → Ghosts H → (S → Signer) → Type 0
StepLeavesOthers {S} {H} handler signature_for = (access : AccessSets) (catalog : Catalog S H) (zone : DomainName × List H) (message : Incoming) (outcome : Outcome) (after : List (DomainName × List H))
    → Contains catalog.zones zone → ¬ (IsToZone access catalog.zones zone message)
    → Step access (server_of handler signature_for catalog) message outcome after → Contains after zone

-- What becomes of messages, one after the other, and which of them are to the zone of this apex, with what becomes of
-- those.
pub data RunBeside {H : Type 0} (access : AccessSets) (server : Server H) (apex : DomainName)
    : List (DomainName × List H) → List Incoming → List Outcome → List (DomainName × List H) → List Incoming → List Outcome → Type 0 where
  none : {zones : List (DomainName × List H)} → RunBeside access server apex zones [] [] zones [] []
  to_zone : {zones between after : List (DomainName × List H)} {message : Incoming} {outcome : Outcome} {messages : List Incoming} {outcomes : List Outcome} {to : List Incoming} {of : List Outcome} {chain : List H}
      → IsToZone access zones (apex, chain) message → Step access (record server { zones = zones }) message outcome between
      → RunBeside access server apex between messages outcomes after to of
      → RunBeside access server apex zones (message ∷ messages) (outcome ∷ outcomes) after (message ∷ to) (outcome ∷ of)
  elsewhere : {zones between after : List (DomainName × List H)} {message : Incoming} {outcome : Outcome} {messages : List Incoming} {outcomes : List Outcome} {to : List Incoming} {of : List Outcome}
      → ((chain : List H) → ¬ (IsToZone access zones (apex, chain) message)) → Step access (record server { zones = zones }) message outcome between
      → RunBeside access server apex between messages outcomes after to of
      → RunBeside access server apex zones (message ∷ messages) (outcome ∷ outcomes) after to of

-- What becomes of the messages to a zone, and the zone after them, is what becomes of them where they come alone to a
-- server of that zone alone.
abbrev pub ZonesAreIsolated : {S H : Type 0} → Ghosts H → (S → Signer) → Type 0
ZonesAreIsolated {S} {H} handler signature_for = (access : AccessSets) (catalog : Catalog S H) (apex : DomainName) (chain : List H) (messages : List Incoming) (outcomes : List Outcome)
    (after : List (DomainName × List H)) (to : List Incoming) (of : List Outcome)
    → AreInOrder catalog.zones → Contains catalog.zones (apex, chain)
    → RunBeside access (server_of handler signature_for catalog) apex catalog.zones messages outcomes after to of
    → (chain' : List H) × Run access (server_of handler signature_for catalog) ((apex, chain) ∷ []) to of ((apex, chain') ∷ []) × Contains after (apex, chain')

-- Such a run is a run.
abbrev pub BesideIsARun : {S H : Type 0} → Ghosts H → (S → Signer) → Type 0
BesideIsARun {S} {H} handler signature_for = (access : AccessSets) (catalog : Catalog S H) (apex : DomainName) (messages : List Incoming) (outcomes : List Outcome) (after : List (DomainName × List H)) (to : List Incoming) (of : List Outcome)
    → RunBeside access (server_of handler signature_for catalog) apex catalog.zones messages outcomes after to of → Run access (server_of handler signature_for catalog) catalog.zones messages outcomes after

-- Of the messages of each run it is decided which are to the zone of an apex.
abbrev pub EachRunIsBeside : {S H : Type 0} → Ghosts H → (S → Signer) → Type 0
EachRunIsBeside {S} {H} handler signature_for = (access : AccessSets) (catalog : Catalog S H) (apex : DomainName) (messages : List Incoming) (outcomes : List Outcome) (after : List (DomainName × List H))
    → Run access (server_of handler signature_for catalog) catalog.zones messages outcomes after
    → (to : List Incoming) × (of : List Outcome) × RunBeside access (server_of handler signature_for catalog) apex catalog.zones messages outcomes after to of

-- In one way: two runs of the same messages with the same outcomes have the same messages to the zone, with the same
-- outcomes.
abbrev pub OneWayBeside : {S H : Type 0} → Ghosts H → (S → Signer) → Type 0
OneWayBeside {S} {H} handler signature_for = (access : AccessSets) (catalog : Catalog S H) (apex : DomainName) (messages : List Incoming) (outcomes : List Outcome)
    (after after' : List (DomainName × List H)) (to to' : List Incoming) (of of' : List Outcome)
    → RunBeside access (server_of handler signature_for catalog) apex catalog.zones messages outcomes after to of
    → RunBeside access (server_of handler signature_for catalog) apex catalog.zones messages outcomes after' to' of' → (to ≡ to') × (of ≡ of')

-- Of the messages of each run it is decided which are to the zone; and what becomes of those, and the zone after them,
-- is what becomes of them where they come alone to a server of that zone alone.
abbrev pub EachRunIsIsolated : {S H : Type 0} → Ghosts H → (S → Signer) → Type 0
EachRunIsIsolated {S} {H} handler signature_for = (access : AccessSets) (catalog : Catalog S H) (apex : DomainName) (chain : List H) (messages : List Incoming) (outcomes : List Outcome) (after : List (DomainName × List H))
    → AreInOrder catalog.zones → Contains catalog.zones (apex, chain)
    → Run access (server_of handler signature_for catalog) catalog.zones messages outcomes after
    → (to : List Incoming) × (of : List Outcome) × (chain' : List H) × RunBeside access (server_of handler signature_for catalog) apex catalog.zones messages outcomes after to of
    × Run access (server_of handler signature_for catalog) ((apex, chain) ∷ []) to of ((apex, chain') ∷ []) × Contains after (apex, chain')
