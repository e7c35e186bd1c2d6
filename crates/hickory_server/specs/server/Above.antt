-- Who answers for the DS records of an apex: they stand in the zone above it (RFC 4034 section 5), and a server that has
-- both zones answers from that one (RFC 4035 section 3.1.4.1).
use Rattle.std.specs.Prelude.{◌≡◌, ◌≢◌, [], List, Option, None, Some, drop, true}
use Rattle.wire_names.specs.rr.domain.DomainName.{DomainName}
use Rattle.wire_names.specs.rr.domain.NameOrder.{lower_name}
use Rattle.wire_messages.specs.Numbers.{type_ds}
use Rattle.wire_messages.specs.declared.op.query.Query.{Query}
use Rattle.hickory_base.specs.declared.requests.message_request.MessageRequest.{MessageRequest}
use Rattle.hickory_catalog.specs.zones.Find.{IsNearest}
use Rattle.hickory_catalog.specs.zones.Zones.{HasZone}
use Rattle.hickory_server.specs.server.Ruling.{IsQuery}

-- the name above: without its first label
abbrev pub above : DomainName → DomainName
above name = record name { labels = drop 1 name.labels }

-- The message is a query for the DS records of this name. It is not the root, above which there is no zone.
pub record AsksForDs (message : MessageRequest) (name : DomainName) : Type 0 where
  pub query : Query
  pub is_query : IsQuery message query
  pub is_ds : query.query_type ≡ type_ds
  pub name_is : name ≡ lower_name query.name
  pub qualified : name.is_fqdn ≡ true
  pub below_root : name.labels ≢ []

-- This zone is asked: the message is a query for the DS records of the apex of a zone, and this one is the nearest to
-- the name above the apex.
pub record IsAskedAbove {V : Type 0} (zones : List (DomainName × V)) (message : MessageRequest) (zone : DomainName × V) : Type 0 where
  pub name : DomainName
  pub asks : AsksForDs message name
  pub is_apex : HasZone zones name
  pub nearest : IsNearest zones (above name) zone

-- What is kept for the zone above that is asked, or nothing where none is.
abbrev pub FindsAbove : {V : Type 0} → List (DomainName × V) → MessageRequest → Option V → Type 0
FindsAbove {V} zones message None = (zone : DomainName × V) → ¬ (IsAskedAbove zones message zone)
FindsAbove zones message (Some value) = (apex : DomainName) × IsAskedAbove zones message (apex, value)
