-- The last zone up to a name is the last entry of a map in the range up to it, or the last of all where that one is up
-- to the name.
use Rattle.std.proofs.Common.{◌≡◌, ℕ, zero, suc, ◌-◌, ◌<◌, Bool, true, false, cond, List, [], ◌∷◌, ◌++◌, length, Option, Some, None, option_map, refl, sym, ap, subst, ◌∙◌, arith}
use Rattle.std.specs.Prelude.{is_some, slice_get, slice_index_or, MatchOption}
use Rattle.std.specs.List.{All, Contains}
use Rattle.std.specs.Map.{lookup}
use Rattle.std.specs.BTreeMap.{BTreeMap, IsUpperBound, is_at}
use Rattle.std.specs.BTreeMap.Range.{IsLeBy, IsRangeOf, entries_between, range_contains}
use Rattle.std.specs.declared.ops.Bound.TheVariants.{Included, Unbounded}
use Rattle.std.specs.declared.cmp.Ordering.{Ordering}
use Rattle.std.specs.declared.cmp.Ordering.TheVariants.{Less, Equal, Greater}
use Rattle.std.specs.Ordering.{is_eq, is_lt, is_gt, ordering_reverse}
use Rattle.std.specs.Cmp.{tied_itself}
use Rattle.std.proofs.lemmas.List.Elements.{All-nil, All-cons, All-map, All-filter, All-contains, All-contains_itself, Contains-push, Contains-append_right}
use Rattle.std.proofs.lemmas.Option.{slice_get_within, get_or_from_slice_get}
use Rattle.wire_names.specs.rr.domain.DomainName.{DomainName}
use Rattle.wire_names.specs.rr.domain.NameOrder.{name_cmp, name_cmp_total}
use Rattle.hickory_catalog.specs.representation.Search.{IsLastUpTo, LastUpTo}
use Rattle.hickory_catalog.proofs.lemmas.zones.PlacesInOrder.{shown}

not_below : (o : Ordering) → is_lt o ≡ false → is_gt (ordering_reverse o) ≡ false
not_below Less h = absurd (cc)
not_below Equal h = refl
not_below Greater h = refl

module _ {X : Type 0} where
  abbrev IsHeld : List (DomainName × X) → DomainName × X → Type 0
  IsHeld zones zone = is_some (lookup (is_at (name_cmp zone.0)) zones) ≡ true

  held_behind : (b : Bool) (x : X) (o : Option X) → is_some o ≡ true → is_some (cond b (Some x) o) ≡ true
  held_behind true x o h = refl
  held_behind false x o h = h

  -- each zone is found by its name
  all_held : (zones : List (DomainName × X)) → All (IsHeld zones) zones
  all_held [] = All-nil (IsHeld [])
  all_held (zone ∷ zones) =
      All-cons (IsHeld (zone ∷ zones)) zone zones (ap (λ o. is_some (cond (is_eq o) (Some zone.1) (lookup (is_at (name_cmp zone.0)) zones))) (tied_itself name_cmp_total zone.0))
      (λ k d h. held_behind (is_at (name_cmp (slice_index_or zones k d).0) zone.0) zone.1 _ (all_held zones k d h))

  none_held : (o : Option X) → is_some o ≡ true → o ≡ None → ⊥
  none_held o h e = cc

  -- what the range up to a name says of its last entry
  last_is : (name : DomainName) (zones : BTreeMap DomainName X) (range front : List (DomainName × X)) (zone : DomainName × X) → range ≡ entries_between name_cmp Unbounded (Included name) zones.entries
      → IsRangeOf name_cmp Unbounded (Included name) zones range → range ≡ front ++ zone ∷ [] → IsLastUpTo zones.entries name zone
  last_is name zones range front zone is of ends =
      let inside : Contains range zone = subst (λ r. Contains r zone) (sym ends) (Contains-push front zone) in
      let all : All (Contains zones.entries) range =
      subst (All (Contains zones.entries)) (sym is) (All-filter (λ (e : DomainName × X). range_contains name_cmp Unbounded (Included name) e.0) (Contains zones.entries) zones.entries (All-contains_itself zones.entries)) in
      record {
        among = All-contains (Contains zones.entries) range zone all inside;
        up_to = (of.3 zone front ends).0.1;
        last = λ k d h up.
            ap is_gt (name_cmp_total.antisymm (slice_index_or zones.entries k d).0 zone.0)
            ∙ not_below (name_cmp zone.0 (slice_index_or zones.entries k d).0) (of.4 zone front ends (slice_index_or zones.entries k d).0 (tt, up) (all_held zones.entries k d h));
      }

  -- the last entry of all
  last_of : (name : DomainName) (zones : BTreeMap DomainName X) (zone : DomainName × X) → slice_get zones.entries (length zones.entries - 1) ≡ Some zone → IsUpperBound name_cmp zones zone.0
      → IsLeBy name_cmp zone.0 name → IsLastUpTo zones.entries name zone
  last_of name zones zone at highest up =
      record {
        among = (length zones.entries - 1, slice_get_within zones.entries _ zone at, get_or_from_slice_get zones.entries _ zone zone at);
        up_to = up;
        last = λ k d h _.
            ap is_gt (name_cmp_total.antisymm (slice_index_or zones.entries k d).0 zone.0)
            ∙ not_below (name_cmp zone.0 (slice_index_or zones.entries k d).0) (highest (slice_index_or zones.entries k d).0 (all_held zones.entries k d h));
      }

  none_is : (name : DomainName) (zones : BTreeMap DomainName X) (range : List (DomainName × X)) → IsRangeOf name_cmp Unbounded (Included name) zones range → range ≡ [] → LastUpTo zones.entries name None
  none_is name zones range of e = λ k d h up. none_held _ (all_held zones.entries k d h) (of.5 e (slice_index_or zones.entries k d).0 (tt, up))

module _ {X V : Type 0} (f : X → V) where
  abbrev shows : DomainName × X → DomainName × V
  shows zone = (zone.0, f zone.1)

  contains_shown : (zones : List (DomainName × X)) (k : ℕ) (zone : DomainName × X) → k < length zones → slice_index_or zones k zone ≡ zone → Contains (shown f zones) (shows zone)
  contains_shown [] k zone h e = absurd (omega arith)
  contains_shown (first ∷ zones) zero zone h e = (0, omega arith, ap shows e)
  contains_shown (first ∷ zones) (suc k) zone h e = Contains-append_right (shows first ∷ []) (shown f zones) (shows zone) (contains_shown zones k zone (omega arith) e)

  -- the last of the zones is the last of what they are seen as
  last_shown : (name : DomainName) (zones : List (DomainName × X)) (old : List (DomainName × V)) (last : Option (DomainName × X)) → shown f zones ≡ old → LastUpTo zones name last → LastUpTo old name (option_map shows last)
  last_shown name zones old None view_is h =
      subst (λ (all : List (DomainName × V)). LastUpTo all name None) view_is (All-map (λ (zone : DomainName × V). ¬ (IsLeBy name_cmp zone.0 name)) shows zones h)
  last_shown name zones old (Some zone) view_is h =
      subst (λ (all : List (DomainName × V)). IsLastUpTo all name (shows zone)) view_is
      (record {
        among = contains_shown zones h.among.0 zone h.among.1 h.among.2;
        up_to = h.up_to;
        last = All-map (λ (other : DomainName × V). IsLeBy name_cmp other.0 name → IsLeBy name_cmp other.0 zone.0) shows zones h.last;
      })

  -- what the last item of a range up to a name lends is the last zone up to it
  pub last_lent : {A : Type 0} (pair : A → DomainName × X) (name : DomainName) (zones : BTreeMap DomainName X) (old : List (DomainName × V)) (range rest : List (DomainName × X)) (last : Option A) → shown f zones.entries ≡ old
      → range ≡ entries_between name_cmp Unbounded (Included name) zones.entries → IsRangeOf name_cmp Unbounded (Included name) zones range → MatchOption last ((range ≡ []) × (rest ≡ [])) (λ item. range ≡ rest ++ pair item ∷ [])
      → LastUpTo old name (option_map (λ item. shows (pair item)) last)
  last_lent pair name zones old range rest None view_is is of steps = last_shown name zones.entries old None view_is (none_is name zones range of steps.0)
  last_lent pair name zones old range rest (Some item) view_is is of steps = last_shown name zones.entries old (Some (pair item)) view_is (last_is name zones range rest (pair item) is of steps)

  -- the last zone of all is the last up to each name that does not stand before it
  pub last_of_all : (name : DomainName) (zones : BTreeMap DomainName X) (old : List (DomainName × V)) (zone : DomainName × X) → shown f zones.entries ≡ old
      → slice_get zones.entries (length zones.entries - 1) ≡ Some zone → IsUpperBound name_cmp zones zone.0 → IsLeBy name_cmp zone.0 name → IsLastUpTo old name (shows zone)
  last_of_all name zones old zone view_is at highest up = last_shown name zones.entries old (Some zone) view_is (last_of name zones zone at highest up)
