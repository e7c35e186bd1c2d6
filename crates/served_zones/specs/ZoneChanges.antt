-- Zones that change in place in the catalog of a server.
use Rattle.std.specs.Prelude.{◌≡◌, ◌⊎◌, ◌∷◌, ◌++◌, Some, List, []}
use Rattle.wire_names.specs.rr.domain.DomainName.{DomainName}
use Rattle.hickory_catalog.specs.zones.Zones.{ChangesAt, HasZone, ZoneChains}
use Rattle.served_zones.specs.ServedZones.{Chain, ServedHandler}

-- The chain of this apex changes so, and all other zones remain as they were.
pub record ChainChanges (Change : Chain → Chain → Type 0) (apex : DomainName) (old new : ZoneChains ServedHandler) : Type 0 where
  pub before : Chain
  pub after : Chain
  pub changes : Change before after
  pub changed : ChangesAt old apex (Some before) (Some after) new

module _ (Change : ServedHandler → ServedHandler → Type 0) where
  -- The first handler of a chain changes so, and the others remain.
  pub record IsFirst (old new : Chain) : Type 0 where
    pub before : ServedHandler
    pub after : ServedHandler
    pub rest : Chain
    pub was : old ≡ before ∷ rest
    pub is : new ≡ after ∷ rest
    pub changes : Change before after

  -- The first handler changes so, or the chain has no handler.
  abbrev pub FirstChanges : Chain → Chain → Type 0
  FirstChanges old new = ((old ≡ []) × (new ≡ [])) ⊎ IsFirst old new

  -- The first handler of the zone of this apex changes so. If there is no such zone, nothing changes.
  abbrev pub ZoneChanges : DomainName → ZoneChains ServedHandler → ZoneChains ServedHandler → Type 0
  ZoneChanges apex old new = ChainChanges FirstChanges apex old new ⊎ ((¬ (HasZone old apex)) × (new ≡ old))

-- The zones of these apexes change so, one after the other in this order.
pub data ChangeInTurn (Step : DomainName → ZoneChains ServedHandler → ZoneChains ServedHandler → Type 0) : List DomainName → ZoneChains ServedHandler → ZoneChains ServedHandler → Type 0 where
  none : {zones : ZoneChains ServedHandler} → ChangeInTurn Step [] zones zones
  more : {those : List DomainName} {old between new : ZoneChains ServedHandler} (apex : DomainName)
      → ChangeInTurn Step those old between → Step apex between new → ChangeInTurn Step (those ++ apex ∷ []) old new
