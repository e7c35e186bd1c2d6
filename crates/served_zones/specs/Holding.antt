-- Zones that hold updates, which wait to be written to their journals.
use Rattle.std.specs.Prelude.{◌≡◌, Bool, false, List}
use Rattle.either.specs.declared.Either.TheVariants.{Left, Right}
use Rattle.wire_names.specs.rr.domain.DomainName.{DomainName}
use Rattle.hickory_catalog.specs.zones.Zones.{ZoneChains}
use Rattle.served_zones.specs.ServedZones.{ServedHandler}
use Rattle.served_zones.specs.ZoneChanges.{ChangeInTurn, ZoneChanges}

-- A handler that is a zone holds updates or not from then on, and all else of it is as it was; a list of blocked names
-- remains.
abbrev pub HandlerHolds : Bool → ServedHandler → ServedHandler → Type 0
HandlerHolds holds (Left zone) new = new ≡ Left (record zone { holds = holds })
HandlerHolds holds (Right list) new = new ≡ Right list

-- The zone of this apex holds updates or not from then on.
abbrev pub Holds : Bool → DomainName → ZoneChains ServedHandler → ZoneChains ServedHandler → Type 0
Holds holds apex old new = ZoneChanges (HandlerHolds holds) apex old new

-- The zone of this apex may hold its updates from then on, or not, as if its journal takes no entries.
abbrev pub Begins : DomainName → ZoneChains ServedHandler → ZoneChains ServedHandler → Type 0
Begins apex old new = (holds : Bool) × Holds holds apex old new

-- The zones of all these apexes may, one after the other in this order.
abbrev pub AllBegin : List DomainName → ZoneChains ServedHandler → ZoneChains ServedHandler → Type 0
AllBegin = ChangeInTurn Begins

-- The zones of all these apexes hold nothing any more, one after the other in this order. (A zone that holds nothing is
-- kept by its journal: the invariant of `HoldingZone`.)
abbrev pub AllSettle : List DomainName → ZoneChains ServedHandler → ZoneChains ServedHandler → Type 0
AllSettle = ChangeInTurn (Holds false)
