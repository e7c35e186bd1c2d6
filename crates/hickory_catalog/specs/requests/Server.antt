-- What serves, as contracts see it.
use Rattle.std.specs.Prelude.{ℕ, List, Option}
use Rattle.hickory_base.specs.declared.zone_store.handler.ZoneHandler.{Ghosts}
use Rattle.hickory_catalog.specs.replies.Signing.{Signer}
use Rattle.hickory_catalog.specs.zones.Zones.{ZoneChains}
use Rattle.hickory_catalog.specs.declared.catalog.Catalog.{Catalog}

-- A server: what its handlers may answer, its zones with the chains of their handlers, in the order of names, what
-- identifies it, if anything does, and who signs its replies.
pub record Server (H : Type 0) : Type 1 where
  pub handler : Ghosts H
  pub zones : ZoneChains H
  pub identifier : Option (List ℕ)
  pub signer : Signer

-- the server that a catalog is, where its handlers answer so and its signer signs so
abbrev pub server_of : {S H : Type 0} → Ghosts H → (S → Signer) → Catalog S H → Server H
server_of handler signature_for catalog = record { handler = handler; zones = catalog.zones; identifier = catalog.nsid; signer = signature_for catalog.signer }
