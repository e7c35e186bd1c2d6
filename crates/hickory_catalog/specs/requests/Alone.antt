-- Each zone is served as if it were the only one.
use Rattle.std.specs.Prelude.{◌≡◌, ◌⊎◌, [], ◌∷◌, ℕ, List, Ok, Option, Contains}
use Rattle.std.specs.Map.{keys_of}
use Rattle.wire_names.specs.rr.domain.DomainName.{DomainName}
use Rattle.wire_names.specs.rr.domain.NameOrder.{lower_name}
use Rattle.wire_messages.specs.op.EdnsFields.{EdnsFields}
use Rattle.wire_messages.specs.serialize.writing.Reply.{Reply}
use Rattle.wire_messages.specs.declared.op.query.Query.{Query}
use Rattle.hickory_base.specs.requests.Questions.{one_query}
use Rattle.hickory_base.specs.requests.Requests.{ReceivedRequest}
use Rattle.hickory_base.specs.declared.zone_store.handler.ZoneHandler.{Ghosts}
use Rattle.hickory_catalog.specs.zones.Find.{IsNearest, MayAnswer}
use Rattle.hickory_catalog.specs.queries.Queries.{ChainReplies, QueryReplies}
use Rattle.hickory_catalog.specs.requests.Requests.{RequestAnswered}
use Rattle.hickory_catalog.specs.requests.Server.{Server, server_of}
use Rattle.hickory_catalog.specs.replies.Signing.{Signer}
use Rattle.hickory_catalog.specs.zones.Zones.{AreInOrder, ZoneChains}
use Rattle.hickory_catalog.specs.declared.catalog.Catalog.{Catalog}

-- The request has just one question, and this zone answers for its name (RFC 1034 section 4.3.2, step 2).
pub record IsOfZone {V : Type 0} (zones : List (DomainName × V)) (request : ReceivedRequest) (zone : DomainName × V) : Type 0 where
  pub query : Query
  pub asks : one_query request.message.queries.queries ≡ Ok query
  pub nearest : IsNearest zones (lower_name query.name) zone

-- the same server with this zone alone
abbrev pub alone : {H : Type 0} → Server H → DomainName × List H → Server H
alone server zone = record server { zones = zone ∷ [] }

-- A request to a zone has the replies that it would have where the zone is the only one, and leaves the zone as it
-- would leave it there.
abbrev pub ServedAlone : {S H : Type 0} → Ghosts H → (S → Signer) → Type 0
ServedAlone {S} {H} handler signature_for = (catalog : Catalog S H) (request : ReceivedRequest) (now : ℕ) (replies : List Reply) (after : ZoneChains H) (zone : DomainName × List H)
    → AreInOrder catalog.zones → IsOfZone catalog.zones request zone
    → RequestAnswered (server_of handler signature_for catalog) request now replies after
    → (chain : List H) × RequestAnswered (alone (server_of handler signature_for catalog) zone) request now replies ((zone.0, chain) ∷ []) × Contains after (zone.0, chain)

-- A query for a name that a zone may answer for has of the zone's chain the replies that it would have where that zone
-- is the only one.
abbrev pub ChainServedAlone : {S H : Type 0} → Ghosts H → (S → Signer) → Type 0
ChainServedAlone {S} {H} handler signature_for = (catalog : Catalog S H) (request : ReceivedRequest) (query : Query) (edns : Option EdnsFields) (now : ℕ) (replies : List Reply) (zone : DomainName × List H)
    → one_query request.message.queries.queries ≡ Ok query → MayAnswer zone.0 (lower_name query.name)
    → ChainReplies (server_of handler signature_for catalog) zone.1 request edns now replies
    → QueryReplies (alone (server_of handler signature_for catalog) zone) request edns now replies

-- A request that is not to a zone leaves it as it was.
abbrev pub OthersStay : {S H : Type 0} → Ghosts H → (S → Signer) → Type 0
OthersStay {S} {H} handler signature_for = (catalog : Catalog S H) (request : ReceivedRequest) (now : ℕ) (replies : List Reply) (after : ZoneChains H) (zone : DomainName × List H)
    → Contains catalog.zones zone → ¬ (IsOfZone catalog.zones request zone)
    → RequestAnswered (server_of handler signature_for catalog) request now replies after → Contains after zone

-- No request makes or removes a zone.
abbrev pub ApexesStay : {S H : Type 0} → Ghosts H → (S → Signer) → Type 0
ApexesStay {S} {H} handler signature_for = (catalog : Catalog S H) (request : ReceivedRequest) (now : ℕ) (replies : List Reply) (after : ZoneChains H)
    → RequestAnswered (server_of handler signature_for catalog) request now replies after → keys_of after ≡ keys_of catalog.zones

-- Zones in order have one chain at an apex.
abbrev pub OneChain : Type 0 → Type 0
OneChain H = (zones : ZoneChains H) (apex : DomainName) (one other : List H) → AreInOrder zones → Contains zones (apex, one) → Contains zones (apex, other) → one ≡ other

-- Of each request it is decided whether it is to the zone of an apex: it is, with what is kept there, or it is not,
-- whatever is kept there.
abbrev pub OfZoneIsDecided : Type 0 → Type 0
OfZoneIsDecided H = (zones : ZoneChains H) (request : ReceivedRequest) (apex : DomainName)
    → ((chain : List H) × IsOfZone zones request (apex, chain)) ⊎ ((chain : List H) → ¬ (IsOfZone zones request (apex, chain)))
