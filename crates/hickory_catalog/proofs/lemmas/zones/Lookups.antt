-- What looking a name up among zones says of them.
use Rattle.std.proofs.Common.{◌≡◌, Bor, Bool, true, false, cond, List, [], ◌∷◌, Option, Some, None, option_map, refl, sym, ap, subst, ◌∙◌, arith}
use Rattle.std.specs.Prelude.{◌↔◌, IsTrue, is_some}
use Rattle.std.specs.Option.{option_copied}
use Rattle.std.specs.List.{All, AllByRecursion, Contains}
use Rattle.std.specs.List.Sorted.{IsStrictlySortedBy}
use Rattle.std.specs.Map.{keys_of, lookup}
use Rattle.std.specs.BTreeMap.{is_at}
use Rattle.std.specs.Ordering.{is_eq}
use Rattle.std.proofs.lemmas.Bool.{false≢true}
use Rattle.std.proofs.lemmas.List.Elements.{All-from_recursion, Contains-append_right}
use Rattle.std.proofs.lemmas.Map.Made.{lookup-map_values, keys_of-map_values}
use Rattle.wire_names.specs.rr.domain.DomainName.{DomainName}
use Rattle.wire_names.specs.rr.domain.NameOrder.{SameName, name_cmp}
use Rattle.wire_names.specs.representation.NameHash.{equal_is}
use Rattle.hickory_catalog.specs.zones.Zones.{AreInOrder, HasZone}
use Rattle.hickory_catalog.proofs.lemmas.zones.PlacesInOrder.{same_of, same_back, equal_of, shown}

-- a zone of this name with this value
pub record Found {V : Type 0} (zones : List (DomainName × V)) (name : DomainName) (value : V) : Type 0 where
  pub apex : DomainName
  pub among : Contains zones (apex, value)
  pub same : SameName apex name

abbrev pub HasNone : {V : Type 0} → List (DomainName × V) → DomainName → Type 0
HasNone {V} zones name = All (λ (zone : DomainName × V). ¬ (SameName zone.0 name)) zones

module _ {V : Type 0} (name : DomainName) where
  abbrev Other : DomainName × V → Type 0
  Other zone = ¬ (SameName zone.0 name)

  found_step : (b : Bool) (zone : DomainName × V) (zones : List (DomainName × V)) (v : V) → is_at (name_cmp name) zone.0 ≡ b → cond b (Some zone.1) (lookup (is_at (name_cmp name)) zones) ≡ Some v
      → (lookup (is_at (name_cmp name)) zones ≡ Some v → Found zones name v) → Found (zone ∷ zones) name v
  found_step true zone zones v t e go =
      let s : zone.1 ≡ v = cc in
      record { apex = zone.0; among = (0, omega arith, ap (λ (w : V). let z : DomainName × V = (zone.0, w) in z) s); same = same_back _ _ (same_of name zone.0 (equal_is _ t)) }
  found_step false zone zones v t e go =
      let r : Found zones name v = go e in
      record { apex = r.apex; among = Contains-append_right (zone ∷ []) zones (r.apex, v) r.among; same = r.same }

  pub found_in : (zones : List (DomainName × V)) (v : V) → lookup (is_at (name_cmp name)) zones ≡ Some v → Found zones name v
  found_in [] v e = absurd cc
  found_in (zone ∷ zones) v e = found_step (is_at (name_cmp name) zone.0) zone zones v refl e (found_in zones v)

  none_step : (b : Bool) (zone : DomainName × V) (zones : List (DomainName × V)) → is_at (name_cmp name) zone.0 ≡ b → cond b (Some zone.1) (lookup (is_at (name_cmp name)) zones) ≡ None
      → (lookup (is_at (name_cmp name)) zones ≡ None → AllByRecursion Other zones) → AllByRecursion Other (zone ∷ zones)
  none_step true zone zones t e go = absurd cc
  none_step false zone zones t e go = (λ s. false≢true (sym t ∙ ap is_eq (equal_of name zone.0 (same_back _ _ s))), go e)

  none_by : (zones : List (DomainName × V)) → lookup (is_at (name_cmp name)) zones ≡ None → AllByRecursion Other zones
  none_by [] e = tt
  none_by (zone ∷ zones) e = none_step (is_at (name_cmp name) zone.0) zone zones refl e (none_by zones)

  pub none_in : (zones : List (DomainName × V)) → lookup (is_at (name_cmp name)) zones ≡ None → HasNone zones name
  none_in zones e = All-from_recursion Other zones (none_by zones e)

  has_found : (zones : List (DomainName × V)) (v : V) → Found zones name v → HasZone zones name
  has_found zones v f = (f.among.0, (f.apex, v), f.among.1, f.among.2, f.same)

  pub none_has : (zones : List (DomainName × V)) → HasNone zones name → HasZone zones name → ⊥
  none_has zones none has = none has.0 has.1 has.2 (subst (λ (z : DomainName × V). SameName z.0 name) (sym has.3) has.4)

  has_by : (o : Option V) (zones : List (DomainName × V)) → lookup (is_at (name_cmp name)) zones ≡ o → IsTrue (is_some o) ↔ HasZone zones name
  has_by None zones e = (λ h. absurd (false≢true h), λ h. absurd (none_has zones (none_in zones e) h))
  has_by (Some v) zones e = (λ h. has_found zones v (found_in zones v e), λ h. refl)

module _ {X V : Type 0} (f : X → V) where
  some_mapped : (o : Option X) → is_some o ≡ is_some (option_map f o)
  some_mapped None = refl
  some_mapped (Some x) = refl

  -- a look-up in a list that is seen as `old`
  pub lookup_seen : (name : DomainName) (zones : List (DomainName × X)) (old : List (DomainName × V)) (o : Option X) → shown f zones ≡ old → o ≡ lookup (is_at (name_cmp name)) zones → lookup (is_at (name_cmp name)) old ≡ option_map f o
  lookup_seen name zones old o view_is e = ap (lookup (is_at (name_cmp name))) (sym view_is) ∙ lookup-map_values f (is_at (name_cmp name)) zones ∙ ap (option_map f) (sym e)

  lent : (o : Option (Bor X)) → option_map f (option_copied o) ≡ option_map (λ x. f x.now) o
  lent None = refl
  lent (Some x) = refl

  -- the same of what a look-up lends
  pub lookup_lent : (name : DomainName) (zones : List (DomainName × X)) (old : List (DomainName × V)) (o : Option (Bor X)) → shown f zones ≡ old → option_copied o ≡ lookup (is_at (name_cmp name)) zones
      → lookup (is_at (name_cmp name)) old ≡ option_map (λ x. f x.now) o
  lookup_lent name zones old o view_is e = lookup_seen name zones old (option_copied o) view_is e ∙ lent o

  pub has_zone : (name : DomainName) (zones : List (DomainName × X)) (old : List (DomainName × V)) (b : Bool) → shown f zones ≡ old → b ≡ is_some (lookup (is_at (name_cmp name)) zones) → IsTrue b ↔ HasZone old name
  has_zone name zones old b view_is e =
      let o : Option X = lookup (is_at (name_cmp name)) zones in
      let same : b ≡ is_some (option_map f o) = e ∙ some_mapped o in
      subst (λ (b : Bool). IsTrue b ↔ HasZone old name) (sym same) (has_by name (option_map f o) old (lookup_seen name zones old o view_is refl))

  pub in_order : (zones : List (DomainName × X)) (old : List (DomainName × V)) → shown f zones ≡ old → AreInOrder zones → AreInOrder old
  in_order zones old view_is sorted = subst (λ (names : List DomainName). IsStrictlySortedBy name_cmp names) (sym (keys_of-map_values f zones) ∙ ap keys_of view_is) sorted
