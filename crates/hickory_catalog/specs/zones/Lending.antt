-- What zones and catalogs end as, after the chain of one zone was lent to be changed.
use Rattle.std.specs.Prelude.{◌≡◌, Option, Some, IfSome}
use Rattle.std.specs.Borrow.{LendsSo, Fml, RattleType, MutBor}
use Rattle.std.specs.Global.{Vec}
use Rattle.std.specs.contracts.alloc.Global as global
use Rattle.std.specs.contracts.vec.Vec as vec
use Rattle.std.specs.contracts.impls.GlobalAllocator.TheImpl.{ghosts}
use Rattle.wire_names.specs.rr.domain.DomainName.{DomainName}
use Rattle.hickory_catalog.specs.zones.Zones.{ChangesAt, ZoneChains}
use Rattle.hickory_catalog.specs.declared.catalog.Catalog.{Catalog}
use Rattle.hickory_catalog.specs.contracts.catalog.Catalog as catalog
use Rattle.hickory_catalog.specs.contracts.zones.Zones as zones

-- a chain of handlers, as the logic holds it
abbrev pub chain_row : RattleType → RattleType
chain_row H = vec.the_row H global.the_row ghosts

-- At this name the zones end with the chain that the borrower left. They differ from before only there. If nothing was
-- lent, they end as they were.
abbrev pub LendsFromZones : (H : RattleType) → MutBor (ZoneChains H.Denot) → DomainName → Option (MutBor (Vec H.Denot)) → Fml
LendsFromZones H held name lent =
    LendsSo (zones.the_row H) (chain_row H) held lent
    (λ new left. IfSome lent (λ was. ChangesAt held.now name (Some was.now.items) (Some left.items) new))
    (λ new. new ≡ held.now)

-- So do the zones of a catalog. The rest of the catalog ends as it was.
abbrev pub LendsFromCatalog : (S H : RattleType) → MutBor (Catalog S.Denot H.Denot) → DomainName → Option (MutBor (Vec H.Denot)) → Fml
LendsFromCatalog S H held name lent =
    LendsSo (catalog.the_row S H) (chain_row H) held lent
    (λ new left. IfSome lent (λ was. ChangesAt held.now.zones name (Some was.now.items) (Some left.items) new.zones) × (new ≡ record held.now { zones = new.zones }))
    (λ new. new ≡ held.now)
