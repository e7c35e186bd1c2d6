-- Who is told of which zone, and when a zone has changed (RFC 1996).
use Rattle.std.specs.Prelude.{◌≡◌, ◌≢◌, ◌==◌, [], ℕ, Bool, true, List, Option, Some, None, codes, filter, map, option_and_then, IfSome}
use Rattle.wire_names.specs.rr.domain.DomainName.{DomainName}
use Rattle.wire_names.specs.rr.domain.NameOrder.{lower_name, name_eq}
use Rattle.wire_messages.specs.Numbers.{type_ns}
use Rattle.wire_messages.specs.declared.rr.rdata.RData.{RData}
use Rattle.wire_messages.specs.declared.rr.rdata.RData.TheVariants as rdata
use Rattle.wire_messages.specs.declared.rr.rdata.SOA.{SOA}
use Rattle.wire_messages.specs.declared.rr.record.Record.{Record}
use Rattle.hickory_base.specs.zone_store.ZoneAnswers.{MemoryZone, zone_soa}
use Rattle.hickory_catalog.specs.zones.Find.{Finds}
use Rattle.hickory_catalog.specs.zones.Zones.{ZoneChains}
use Rattle.served_zones.specs.ServedZones.{Chain, ServedHandler}
use Rattle.notices.specs.Schedule.{announced}
use Rattle.notices.specs.declared.notice.Target.{Target}
use Rattle.served_notices.specs.Hosts.{AddsServers, records_of, served_zone}
use Rattle.served_notices.specs.declared.notifying.Mode.{Mode}
use Rattle.served_notices.specs.declared.notifying.Mode.TheVariants.{Explicit, No, Yes}
use Rattle.served_notices.specs.declared.notifying.Notifying.{Notifying}
use Rattle.served_notices.specs.declared.notifying.Secondary.{Secondary}

-- the word of a mode
abbrev pub mode_word : Mode → List ℕ
mode_word No = codes "no"
mode_word Explicit = codes "explicit"
mode_word Yes = codes "yes"

-- The text is the word of the mode, or of none.
abbrev pub IsModeText : List ℕ → Option Mode → Type 0
IsModeText text (Some mode) = text ≡ mode_word mode
IsModeText text None = (mode : Mode) → text ≢ mode_word mode

-- whether a server is told of the zone of this name: it is configured for it, or for all zones
abbrev pub is_of_apex : DomainName → Option DomainName → Bool
is_of_apex apex None = true
is_of_apex apex (Some own) = name_eq own apex

abbrev pub is_of : DomainName → Secondary → Bool
is_of apex secondary = is_of_apex apex secondary.apex

-- the configured servers that are told of the zone of this name
abbrev pub configured : DomainName → List Secondary → List Target
configured apex secondaries = map (λ (s : Secondary). s.target) (filter (is_of apex) secondaries)

-- These are told of a zone: nobody; the configured servers; or these, and the hosts of its NS records but the primary
-- (RFC 1996 section 2.1).
abbrev pub AreTold : Mode → List Secondary → ZoneChains ServedHandler → DomainName → MemoryZone → DomainName → List Target → Type 0
AreTold No secondaries zones apex zone primary targets = targets ≡ []
AreTold Explicit secondaries zones apex zone primary targets = targets ≡ configured apex secondaries
AreTold Yes secondaries zones apex zone primary targets =
    AddsServers zones primary (records_of zone zone.origin type_ns) (configured apex secondaries) targets

-- the TTL and the data of a zone's SOA record
abbrev pub soa_data : Record RData → Option (ℕ × SOA)
soa_data r = data_in r.rdata where
  data_in : RData → Option (ℕ × SOA)
  data_in (rdata.SOA soa) = Some (r.ttl, soa)
  data_in other = None

abbrev pub soa_in : MemoryZone → Option (ℕ × SOA)
soa_in zone = option_and_then soa_data (zone_soa zone)

-- The zone as it is served has an SOA record, with another serial than the one that was announced last. It is announced
-- to all that are told of it (RFC 1996 section 3.1).
pub record Announces (zones : ZoneChains ServedHandler) (apex : DomainName) (now : ℕ) (zone : MemoryZone) (old : Notifying) (ttl : ℕ) (soa : SOA) (new : Notifying) : Type 0 where
  pub targets : List Target
  pub told : AreTold old.mode old.secondaries.items zones apex zone soa.mname targets
  pub announced : new ≡ record old { notices = announced old.notices apex ttl soa targets now }

-- What a look at a zone leaves, if `serial` was announced last: nothing changes if the zone has no SOA record, or has
-- that serial; else it is announced, and its serial is the last one.
abbrev pub LooksAtSoa : ZoneChains ServedHandler → DomainName → ℕ → MemoryZone → Option (ℕ × SOA) → ℕ → Notifying → ℕ → Notifying → Type 0
LooksAtSoa zones apex now zone None serial old after new = (after ≡ serial) × (new ≡ old)
LooksAtSoa zones apex now zone (Some both) serial old after new =
    (after ≡ both.1.serial) × ((serial ≡ both.1.serial → new ≡ old) × (serial ≢ both.1.serial → Announces zones apex now zone old both.0 both.1 new))

abbrev pub LooksAtZone : ZoneChains ServedHandler → DomainName → ℕ → Option MemoryZone → ℕ → Notifying → ℕ → Notifying → Type 0
LooksAtZone zones apex now None serial old after new = (after ≡ serial) × (new ≡ old)
LooksAtZone zones apex now (Some zone) serial old after new = LooksAtSoa zones apex now zone (soa_in zone) serial old after new

-- So it is with the zone that answers for the name.
abbrev pub LooksAt : ZoneChains ServedHandler → DomainName → ℕ → ℕ → Notifying → ℕ → Notifying → Type 0
LooksAt zones apex now serial old after new =
    (found : Option Chain) × Finds zones (lower_name apex) found × LooksAtZone zones apex now (served_zone found) serial old after new

-- Only configured servers are told, and there is none; no notice waits.
pub record IsNew (notifying : Notifying) : Type 0 where
  pub mode : notifying.mode ≡ Explicit
  pub no_secondaries : notifying.secondaries.items ≡ []
  pub no_notices : notifying.notices ≡ []
