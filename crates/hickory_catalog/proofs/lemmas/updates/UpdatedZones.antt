-- From what the map of zones says of an update to what it does to the zones.
use Rattle.std.proofs.Common.{◌≡◌, List, Some, None}
use Rattle.std.specs.Map.{lookup, set_value}
use Rattle.std.specs.BTreeMap.{is_at}
use Rattle.wire_names.specs.rr.domain.DomainName.{DomainName}
use Rattle.wire_names.specs.rr.domain.NameOrder.{name_cmp}
use Rattle.hickory_base.specs.declared.zone_store.handler.ZoneHandler.{Ghosts}
use Rattle.hickory_base.specs.requests.Requests.{TimedRequest}
use Rattle.hickory_base.specs.zone_store.Lookups.{SignerContext, UpdateResult}
use Rattle.hickory_catalog.specs.updates.Updates.{ChainUpdated, ZoneUpdated}
use Rattle.hickory_catalog.specs.zones.Zones.{AreInOrder, HasZone}
use Rattle.hickory_catalog.specs.declared.updates.ZoneUpdate.TheVariants.{NoHandler, Answered}
use Rattle.hickory_catalog.proofs.lemmas.zones.Lookups.{Found, found_in, lookup_seen, none_has, none_in}
use Rattle.hickory_catalog.proofs.lemmas.zones.PlacesInOrder.{same_after, shown, written_at}

module _ {H X : Type 0} (f : X → List H) (name : DomainName) (zones : List (DomainName × X)) (old : List (DomainName × List H)) (view_is : shown f zones ≡ old) where
  pub no_zone : None ≡ lookup (is_at (name_cmp name)) zones → HasZone old name → ⊥
  no_zone none = none_has name old (none_in name old (lookup_seen f name zones old None view_is none))

  module _ (handler : Ghosts H) (request : TimedRequest) (was x : X) (new : List (DomainName × X)) (found_is : Some was ≡ lookup (is_at (name_cmp name)) zones) (sorted : AreInOrder zones)
      (is : new ≡ set_value (is_at (name_cmp name)) zones x) where
    pub no_handler : ChainUpdated handler request (f was) None (f x) → ZoneUpdated handler request name old NoHandler (shown f new)
    no_handler updated =
        let found : Found old name (f was) = found_in name old (f was) (lookup_seen f name zones old (Some was) view_is found_is) in
        ((found.among.0, (found.apex, f was), found.among.1, found.among.2, (found.same, updated.0)), same_after (written_at f was x name zones new old view_is found_is sorted is) updated.1)

    pub handler_answered : (answer : UpdateResult) (context : SignerContext) → ChainUpdated handler request (f was) (Some (answer, context)) (f x)
        → ZoneUpdated handler request name old (Answered answer context) (shown f new)
    handler_answered answer context updated = record { chain = f was; chain' = f x; first = updated; changed = written_at f was x name zones new old view_is found_is sorted is }
