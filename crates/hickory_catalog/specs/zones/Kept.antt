-- What is kept for the zone of one apex.
use Rattle.std.specs.Prelude.{List, Option, Some, None}
use Rattle.std.specs.List.{Contains}
use Rattle.wire_names.specs.rr.domain.DomainName.{DomainName}
use Rattle.wire_names.specs.rr.domain.NameOrder.{SameName}
use Rattle.hickory_catalog.specs.zones.Zones.{HasZone}

-- What is kept for the zone of just this apex, or `None` if no zone has it.
abbrev pub KeptAt : {V : Type 0} → List (DomainName × V) → DomainName → Option V → Type 0
KeptAt zones name None = ¬ (HasZone zones name)
KeptAt zones name (Some value) = (apex : DomainName) × SameName apex name × Contains zones (apex, value)
