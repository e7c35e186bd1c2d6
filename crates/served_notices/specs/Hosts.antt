-- The zones of a server as they are served, and the addresses that these have for hosts.
use Rattle.std.specs.Prelude.{◌≡◌, ◌++◌, ◌∷◌, [], ℕ, List, Option, Some, None, option_and_then, unwrap_or}
use Rattle.std.specs.Bool.{MatchBool}
use Rattle.std.specs.List.{filter_map}
use Rattle.std.specs.declared.net.ip_addr.IpAddr.TheVariants.{V4, V6}
use Rattle.either.specs.declared.Either.TheVariants.{Left, Right}
use Rattle.wire_names.specs.rr.domain.DomainName.{DomainName}
use Rattle.wire_names.specs.rr.domain.NameOrder.{lower_name, name_eq}
use Rattle.wire_messages.specs.Numbers.{type_a, type_aaaa}
use Rattle.wire_messages.specs.declared.rr.rdata.RData.{RData}
use Rattle.wire_messages.specs.declared.rr.rdata.RData.TheVariants as rdata
use Rattle.wire_messages.specs.declared.rr.record.Record.{Record}
use Rattle.hickory_base.specs.zone_store.ZoneAnswers.{MemoryZone}
use Rattle.hickory_catalog.specs.zones.Find.{Finds}
use Rattle.hickory_catalog.specs.zones.Zones.{ZoneChains}
use Rattle.zone_answers.specs.Zones.{rrset}
use Rattle.served_zones.specs.ServedZones.{Chain, ServedHandler}
use Rattle.notices.specs.declared.notice.Target.{Target}

-- the zone that a chain serves: that of its first handler; none if no file of the zone was taken
abbrev pub zone_in : Chain → Option MemoryZone
zone_in [] = None
zone_in (Right list ∷ rest) = None
zone_in (Left zone ∷ rest) = Some zone.updatable.zone

abbrev pub served_zone : Option Chain → Option MemoryZone
served_zone found = option_and_then zone_in found

-- the records of a name and a type
abbrev pub records_of : MemoryZone → DomainName → ℕ → List (Record RData)
records_of zone name record_type = unwrap_or (rrset zone.sets name record_type) []

-- the address of a record, at the port of DNS (RFC 1035 section 4.2)
abbrev pub address_in : RData → Option Target
address_in (rdata.A address) = Some (record { address = V4 address; port = 53 })
address_in (rdata.AAAA address) = Some (record { address = V6 address; port = 53 })
address_in other = None

abbrev pub addresses_in : List (Record RData) → List Target
addresses_in records = filter_map (λ (r : Record RData). address_in r.rdata) records

-- the addresses that a zone has for a host
abbrev pub addresses_at : Option MemoryZone → DomainName → List Target
addresses_at None host = []
addresses_at (Some zone) host = addresses_in (records_of zone host type_a) ++ addresses_in (records_of zone host type_aaaa)

-- Targets, and after them the addresses that a host has in the zone that answers for its name.
abbrev pub AddsHost : ZoneChains ServedHandler → DomainName → List Target → List Target → Type 0
AddsHost zones host old new =
    (found : Option Chain) × Finds zones (lower_name host) found × (new ≡ old ++ addresses_at (served_zone found) (lower_name host))

-- Targets, and after them the addresses of the host of an NS record, unless it is the primary (RFC 1996 section 2.1).
abbrev pub AddsServer : ZoneChains ServedHandler → DomainName → RData → List Target → List Target → Type 0
AddsServer zones primary (rdata.NS host) old new = MatchBool (name_eq host primary) (new ≡ old) (AddsHost zones host old new)
AddsServer zones primary other old new = new ≡ old

-- Those of each of the records, in their order.
pub data AddsServers (zones : ZoneChains ServedHandler) (primary : DomainName) : List (Record RData) → List Target → List Target → Type 0 where
  none : {targets : List Target} → AddsServers zones primary [] targets targets
  more : {those : List (Record RData)} {old between new : List Target} (r : Record RData) → AddsServers zones primary those old between
      → AddsServer zones primary r.rdata between new → AddsServers zones primary (those ++ r ∷ []) old new
