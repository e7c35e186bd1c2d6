-- A name's place in the order of zones, and what looking up, putting in and taking away do there.
use Rattle.std.proofs.Common.{◌≡◌, false, List, [], ◌∷◌, ◌++◌, map, Option, Some, None, option_map, Result, Ok, IfOk, refl, sym, ap, subst, ◌∙◌}
use Rattle.std.specs.Option.{option_to_list}
use Rattle.std.specs.List.{All, AllByRecursion}
use Rattle.std.specs.List.Sorted.{IsStrictlySortedBy}
use Rattle.std.specs.Map.{keys_of, lookup, remove_entry, set_value}
use Rattle.std.specs.BTreeMap.{insert_entry, is_at}
use Rattle.std.specs.Ordering.{is_eq, ordering_reverse}
use Rattle.std.specs.declared.cmp.Ordering.{Ordering}
use Rattle.std.specs.declared.cmp.Ordering.TheVariants.{Less, Equal, Greater}
use Rattle.std.proofs.lemmas.List.{map-append}
use Rattle.std.proofs.lemmas.List.Elements.{All-cons, All-nil, All-map, All-from_recursion}
use Rattle.wire_names.specs.rr.domain.DomainName.{DomainName}
use Rattle.wire_names.specs.rr.domain.NameOrder.{SameName, name_cmp, name_cmp_total}
use Rattle.wire_names.specs.representation.NameHash.{same_from_eq}
use Rattle.wire_names.proofs.lemmas.rr.domain.SameNames.{eq_from_order, eq_from_same, order_from_eq}
use Rattle.hickory_catalog.specs.zones.Zones.{AreInOrder, ChangesAt, zones_around}

pub same_of : (a b : DomainName) → name_cmp a b ≡ Equal → SameName a b
same_of a b e = same_from_eq a b (eq_from_order a b e)

pub same_back : (a b : DomainName) → SameName a b → SameName b a
same_back a b s = record { labels = sym s.labels; marks = sym s.marks }

pub equal_of : (a b : DomainName) → SameName a b → name_cmp a b ≡ Equal
equal_of a b s = order_from_eq a b (eq_from_same a b s)

-- the list split at the name's place
record Place {X : Type 0} (zones : List (DomainName × X)) (name : DomainName) : Type 0 where
  pub lesser : List (DomainName × X)
  pub greater : List (DomainName × X)
  pub apex : DomainName
  pub found : Option X
  pub same : SameName apex name
  pub below : All (λ zone. name_cmp zone.0 name ≡ Less) lesser
  pub above : All (λ zone. name_cmp name zone.0 ≡ Less) greater
  pub whole : zones ≡ zones_around lesser apex found greater
  pub looked_up : lookup (is_at (name_cmp name)) zones ≡ found
  pub put : (x : X) → insert_entry name_cmp zones name x ≡ zones_around lesser apex (Some x) greater
  pub taken : remove_entry (is_at (name_cmp name)) zones ≡ zones_around lesser apex None greater
  pub written : (x was : X) → found ≡ Some was → set_value (is_at (name_cmp name)) zones x ≡ zones_around lesser apex (Some x) greater

module _ {X : Type 0} (name : DomainName) where
  abbrev Above : DomainName × X → Type 0
  Above zone = name_cmp name zone.0 ≡ Less

  not_at : (zone : DomainName × X) → Above zone → is_at (name_cmp name) zone.0 ≡ false
  not_at zone e = ap is_eq e

  none_found : (zones : List (DomainName × X)) → AllByRecursion Above zones → lookup (is_at (name_cmp name)) zones ≡ None
  none_found [] h = refl
  none_found (zone ∷ zones) h = rw (not_at zone h.0) (none_found zones h.1)

  none_taken : (zones : List (DomainName × X)) → AllByRecursion Above zones → remove_entry (is_at (name_cmp name)) zones ≡ zones
  none_taken [] h = refl
  none_taken (zone ∷ zones) h = rw (not_at zone h.0) (ap (λ rest. zone ∷ rest) (none_taken zones h.1))

  -- what is behind a zone at the name or above it is above the name
  above_less : (k : DomainName) (zones : List (DomainName × X)) → name_cmp name k ≡ Less → AllByRecursion (λ q. name_cmp k q ≡ Less) (keys_of zones) → AllByRecursion Above zones
  above_less k [] e h = tt
  above_less k (zone ∷ zones) e h = (name_cmp_total.trans name k zone.0 e h.0, above_less k zones e h.1)

  above_equal : (k : DomainName) (zones : List (DomainName × X)) → name_cmp name k ≡ Equal → AllByRecursion (λ q. name_cmp k q ≡ Less) (keys_of zones) → AllByRecursion Above zones
  above_equal k [] e h = tt
  above_equal k (zone ∷ zones) e h = (name_cmp_total.congr name k zone.0 e ∙ h.0, above_equal k zones e h.1)

  nowhere : Place {X = X} [] name
  nowhere = record {
    lesser = [];
    greater = [];
    apex = name;
    found = None;
    same = record { labels = refl; marks = refl };
    below = All-nil (λ (z : DomainName × X). name_cmp z.0 name ≡ Less);
    above = All-nil Above;
    whole = refl;
    looked_up = refl;
    put = λ x. refl;
    taken = refl;
    written = λ x was is. absurd cc;
  }

  before_less : (zone : DomainName × X) (zones : List (DomainName × X)) → name_cmp name zone.0 ≡ Less → AllByRecursion Above zones → Place (zone ∷ zones) name
  before_less zone zones e h =
      let all : AllByRecursion Above (zone ∷ zones) = (e, h) in
      record {
        lesser = [];
        greater = zone ∷ zones;
        apex = name;
        found = None;
        same = record { labels = refl; marks = refl };
        below = All-nil (λ (z : DomainName × X). name_cmp z.0 name ≡ Less);
        above = All-from_recursion Above (zone ∷ zones) all;
        whole = refl;
        looked_up = none_found (zone ∷ zones) all;
        put = λ x. rw e refl;
        taken = none_taken (zone ∷ zones) all;
        written = λ x was is. absurd cc;
      }

  at_equal : (zone : DomainName × X) (zones : List (DomainName × X)) → name_cmp name zone.0 ≡ Equal → AllByRecursion Above zones → Place (zone ∷ zones) name
  at_equal zone zones e h =
      record {
        lesser = [];
        greater = zones;
        apex = zone.0;
        found = Some zone.1;
        same = same_back _ _ (same_of name zone.0 e);
        below = All-nil (λ (z : DomainName × X). name_cmp z.0 name ≡ Less);
        above = All-from_recursion Above zones h;
        whole = refl;
        looked_up = rw e refl;
        put = λ x. rw e refl;
        taken = rw e refl;
        written = λ x was is. rw e refl;
      }

  behind_greater : (zone : DomainName × X) (zones : List (DomainName × X)) → name_cmp name zone.0 ≡ Greater → Place zones name → Place (zone ∷ zones) name
  behind_greater zone zones e p =
      record {
        lesser = zone ∷ p.lesser;
        greater = p.greater;
        apex = p.apex;
        found = p.found;
        same = p.same;
        below = All-cons (λ (z : DomainName × X). name_cmp z.0 name ≡ Less) zone p.lesser (name_cmp_total.antisymm zone.0 name ∙ ap ordering_reverse e) p.below;
        above = p.above;
        whole = ap (λ rest. zone ∷ rest) p.whole;
        looked_up = rw e p.looked_up;
        put = λ x. rw e (ap (λ rest. zone ∷ rest) (p.put x));
        taken = rw e (ap (λ rest. zone ∷ rest) p.taken);
        written = λ x was is. rw e (ap (λ rest. zone ∷ rest) (p.written x was is));
      }

  place_by : (o : Ordering) (zone : DomainName × X) (zones : List (DomainName × X)) → name_cmp name zone.0 ≡ o → AllByRecursion (λ q. name_cmp zone.0 q ≡ Less) (keys_of zones) → Place zones name → Place (zone ∷ zones) name
  place_by Less zone zones e sorted p = before_less zone zones e (above_less zone.0 zones e sorted)
  place_by Equal zone zones e sorted p = at_equal zone zones e (above_equal zone.0 zones e sorted)
  place_by Greater zone zones e sorted p = behind_greater zone zones e p

  place : (zones : List (DomainName × X)) → AreInOrder zones → Place zones name
  unfolding IsStrictlySortedBy
  place [] sorted = nowhere
  place (zone ∷ zones) sorted = place_by (name_cmp name zone.0) zone zones refl sorted.0 (place zones sorted.1)

module _ {X V : Type 0} (f : X → V) where
  abbrev pub shown : List (DomainName × X) → List (DomainName × V)
  shown zones = map {B = DomainName × V} (λ zone. (zone.0, f zone.1)) zones

  shown_middle : (apex : DomainName) (value : Option X) (greater : List (DomainName × X)) → shown (option_to_list (option_map (λ (x : X). (apex, x)) value) ++ greater) ≡ option_to_list (option_map (λ (v : V). (apex, v)) (option_map f value)) ++ shown greater
  shown_middle apex None greater = refl
  shown_middle apex (Some x) greater = refl

  shown-around : (lesser : List (DomainName × X)) (apex : DomainName) (value : Option X) (greater : List (DomainName × X)) → shown (zones_around lesser apex value greater) ≡ zones_around (shown lesser) apex (option_map f value) (shown greater)
  shown-around lesser apex value greater = map-append _ lesser _ ∙ ap (λ rest. shown lesser ++ rest) (shown_middle apex value greater)

  changed : (name : DomainName) (zones new : List (DomainName × X)) (p : Place zones name) (is : Option X) → new ≡ zones_around p.lesser p.apex is p.greater
      → ChangesAt (shown zones) name (option_map f (lookup (is_at (name_cmp name)) zones)) (option_map f is) (shown new)
  changed name zones new p is e =
      record {
        lesser = shown p.lesser;
        greater = shown p.greater;
        apex = p.apex;
        same = p.same;
        before = ap shown p.whole ∙ shown-around p.lesser p.apex p.found p.greater ∙ ap (λ o. zones_around (shown p.lesser) p.apex (option_map f o) (shown p.greater)) (sym p.looked_up);
        after = ap shown e ∙ shown-around p.lesser p.apex is p.greater;
        below = All-map (λ (z : DomainName × V). name_cmp z.0 name ≡ Less) (λ (z : DomainName × X). (z.0, f z.1)) p.lesser p.below;
        above = All-map (λ (z : DomainName × V). name_cmp name z.0 ≡ Less) (λ (z : DomainName × X). (z.0, f z.1)) p.greater p.above;
      }

  pub put_changes : (name : DomainName) (zones new : List (DomainName × X)) (x : X) → AreInOrder zones → new ≡ insert_entry name_cmp zones name x
      → ChangesAt (shown zones) name (option_map f (lookup (is_at (name_cmp name)) zones)) (Some (f x)) (shown new)
  put_changes name zones new x sorted e = let p : Place zones name = place name zones sorted in changed name zones new p (Some x) (e ∙ p.put x)

  pub taken_changes : (name : DomainName) (zones new : List (DomainName × X)) → AreInOrder zones → new ≡ remove_entry (is_at (name_cmp name)) zones
      → ChangesAt (shown zones) name (option_map f (lookup (is_at (name_cmp name)) zones)) None (shown new)
  taken_changes name zones new sorted e = let p : Place zones name = place name zones sorted in changed name zones new p None (e ∙ p.taken)

  -- the same of a list that is seen as `old`
  pub put_at : {E : Type 0} (r : Result (Option X) E) (found : Option X) (name : DomainName) (zones new : List (DomainName × X)) (old : List (DomainName × V)) (x : X) → r ≡ Ok found → shown zones ≡ old
      → found ≡ lookup (is_at (name_cmp name)) zones → AreInOrder zones → new ≡ insert_entry name_cmp zones name x
      → IfOk r (λ found. ChangesAt old name (option_map f found) (Some (f x)) (shown new))
  put_at r found name zones new old x e view_is found_is sorted is = rw (e, ← view_is, found_is) (put_changes name zones new x sorted is)

  pub taken_at : (found : Option X) (name : DomainName) (zones new : List (DomainName × X)) (old : List (DomainName × V)) → shown zones ≡ old
      → found ≡ lookup (is_at (name_cmp name)) zones → AreInOrder zones → new ≡ remove_entry (is_at (name_cmp name)) zones
      → ChangesAt old name (option_map f found) None (shown new)
  taken_at found name zones new old view_is found_is sorted is = rw (← view_is, found_is) (taken_changes name zones new sorted is)

  pub written_at : (was x : X) (name : DomainName) (zones new : List (DomainName × X)) (old : List (DomainName × V)) → shown zones ≡ old
      → Some was ≡ lookup (is_at (name_cmp name)) zones → AreInOrder zones → new ≡ set_value (is_at (name_cmp name)) zones x
      → ChangesAt old name (Some (f was)) (Some (f x)) (shown new)
  written_at was x name zones new old view_is found_is sorted is =
      let p : Place zones name = place name zones sorted in
      rw (← view_is) (subst (λ (o : Option X). ChangesAt (shown zones) name (option_map f o) (Some (f x)) (shown new)) (sym found_is)
      (changed name zones new p (Some x) (is ∙ p.written x was (sym p.looked_up ∙ sym found_is))))

-- where the same is kept for the name, nothing differs
pub same_after : {V : Type 0} {old new : List (DomainName × V)} {name : DomainName} {was is : V} → ChangesAt old name (Some was) (Some is) new → is ≡ was → new ≡ old
same_after c e = c.after ∙ ap (λ v. zones_around c.lesser c.apex (Some v) c.greater) e ∙ sym c.before
