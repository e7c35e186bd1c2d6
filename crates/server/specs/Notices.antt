-- Who is told that zones have changed, by settings, and of which zones.
use Rattle.std.specs.Prelude.{◌≡◌, ℕ, List, Option, Some, None, true}
use Rattle.std.specs.Net.Addr.{ipv4_octets, ipv6_octets}
use Rattle.std.specs.declared.net.ip_addr.IpAddr.{IpAddr}
use Rattle.std.specs.declared.net.ip_addr.IpAddr.TheVariants.{V4, V6}
use Rattle.wire_names.specs.rr.domain.DomainName.{DomainName}
use Rattle.hickory_catalog.specs.zones.Zones.{ZoneChains}
use Rattle.served_notices.specs.Notifying.{LooksAt}
use Rattle.served_notices.specs.TargetTexts.{IsTargetText}
use Rattle.served_notices.specs.declared.notifying.Notifying.{Notifying}
use Rattle.served_notices.specs.declared.notifying.Secondary.{Secondary}
use Rattle.served_zones.specs.ServedZones.{IsApexText, ServedHandler}
use Rattle.notices.specs.declared.notice.Notice.{Notice}
use Rattle.server.specs.Updates.{is_added}
use Rattle.server.specs.declared.service.Service.{Service}

-- The name of a zone is spelled by the text, if there is one; without one there is no name.
abbrev pub IsZoneText : Option (List ℕ) → Option DomainName → Type 0
IsZoneText None apex = apex ≡ None
IsZoneText (Some text) apex = (name : DomainName) × IsApexText text name × (apex ≡ Some name)

-- A zone of this name was added, if there is a name.
abbrev pub IsOfZones : List DomainName → Option DomainName → Type 0
IsOfZones apexes None = Unit {0}
IsOfZones apexes (Some apex) = is_added apexes apex ≡ true

-- A server that is told, by the text of a zone's name, if there is one, and that of its address and port.
abbrev pub IsSecondaryText : Option (List ℕ) → List ℕ → Secondary → Type 0
IsSecondaryText zone text told = IsZoneText zone told.apex × IsTargetText text told.target

-- the octets of an address, the first one highest
abbrev pub address_octets : IpAddr → List ℕ
address_octets (V4 address) = ipv4_octets address
address_octets (V6 address) = ipv6_octets address

-- the server with these notices; all else of it is as it was
abbrev pub with_notices : Service → List Notice → Service
with_notices service notices = record service { notifying = record service.notifying { notices = notices } }

-- What a look at the zone of this name leaves, if there is a name; else nothing changes.
abbrev pub LooksAtNumber : ZoneChains ServedHandler → Option DomainName → ℕ → ℕ → Notifying → ℕ → Notifying → Type 0
LooksAtNumber zones None now serial old after new = (after ≡ serial) × (new ≡ old)
LooksAtNumber zones (Some apex) now serial old after new = LooksAt zones apex now serial old after new
