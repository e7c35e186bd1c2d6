-- From what the map of zones says of a chain that it lends to what the zones were, and what they are afterwards.
use Rattle.std.proofs.Common.{◌≡◌, MutBor, List, Option, Some, None, option_map, refl, ◌∙◌}
use Rattle.std.specs.Prelude.{IfSome}
use Rattle.std.specs.Option.{option_copied_mut}
use Rattle.std.specs.Map.{lookup, set_value}
use Rattle.std.specs.BTreeMap.{is_at}
use Rattle.wire_names.specs.rr.domain.DomainName.{DomainName}
use Rattle.wire_names.specs.rr.domain.NameOrder.{name_cmp}
use Rattle.hickory_catalog.specs.zones.Kept.{KeptAt}
use Rattle.hickory_catalog.specs.zones.Zones.{AreInOrder, ChangesAt}
use Rattle.hickory_catalog.proofs.lemmas.zones.Lookups.{found_in, lookup_seen, none_has, none_in}
use Rattle.hickory_catalog.proofs.lemmas.zones.PlacesInOrder.{shown, written_at}

kept_of : {V : Type 0} (name : DomainName) (zones : List (DomainName × V)) (kept : Option V) → lookup (is_at (name_cmp name)) zones ≡ kept → KeptAt zones name kept
kept_of name zones None e = none_has name zones (none_in name zones e)
kept_of name zones (Some v) e = let found = found_in name zones v e in (found.apex, found.same, found.among)

module _ {X V : Type 0} (f : X → V) (lent : Option (MutBor X)) (name : DomainName) (zones : List (DomainName × X)) (old : List (DomainName × V)) (view_is : shown f zones ≡ old)
    (found_is : option_copied_mut lent ≡ lookup (is_at (name_cmp name)) zones) where
  shown_lent : (lent : Option (MutBor X)) → option_map f (option_copied_mut lent) ≡ option_map (λ x. f x.now) lent
  shown_lent None = refl
  shown_lent (Some x) = refl

  -- What is lent is what is kept for the name.
  pub lent_kept : KeptAt old name (option_map (λ x. f x.now) lent)
  lent_kept = kept_of name old _ (lookup_seen f name zones old (option_copied_mut lent) view_is found_is ∙ shown_lent lent)

  written_by : (lent : Option (MutBor X)) → option_copied_mut lent ≡ lookup (is_at (name_cmp name)) zones → AreInOrder zones → (x : X) (new : List (DomainName × X)) → new ≡ set_value (is_at (name_cmp name)) zones x
      → IfSome lent (λ was. ChangesAt old name (Some (f was.now)) (Some (f x)) (shown f new))
  written_by None e sorted x new is = tt
  written_by (Some was) e sorted x new is = written_at f was.now x name zones new old view_is e sorted is

  -- The zones differ from before only at the name.
  pub lent_written : AreInOrder zones → (x : X) (new : List (DomainName × X)) → new ≡ set_value (is_at (name_cmp name)) zones x → IfSome lent (λ was. ChangesAt old name (Some (f was.now)) (Some (f x)) (shown f new))
  lent_written = written_by lent found_is
