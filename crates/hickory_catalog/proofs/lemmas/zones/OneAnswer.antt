-- Zones in order give a name one answer.
use Rattle.std.proofs.Common.{◌≡◌, ℕ, zero, suc, ◌<◌, ◌≤◌, Bool, true, false, List, [], ◌∷◌, length, Option, Some, None, refl, sym, ap, subst, ◌∙◌, arith}
use Rattle.std.specs.Prelude.{slice_index_or}
use Rattle.std.specs.List.{AllByRecursion, Contains}
use Rattle.std.specs.List.Sorted.{IsStrictlySortedBy}
use Rattle.std.specs.Map.{keys_of}
use Rattle.std.specs.declared.cmp.Ordering.TheVariants.{Less, Equal}
use Rattle.std.proofs.lemmas.List.Elements.{All-from_recursion, All-contains}
use Rattle.wire_names.specs.rr.domain.DomainName.{DomainName}
use Rattle.wire_names.specs.rr.domain.NameOrder.{SameName, name_cmp, lower_labels}
use Rattle.hickory_catalog.specs.zones.Zones.{AreInOrder}
use Rattle.hickory_catalog.specs.zones.Find.{MayAnswer, IsNearest, Finds}
use Rattle.hickory_catalog.proofs.lemmas.zones.PlacesInOrder.{same_back, equal_of}
use Rattle.hickory_catalog.proofs.lemmas.zones.Nearest.{MayBy, ends_same, lower_length}

same_both : (b : Bool) (one other name : DomainName) → MayBy b one name → MayBy b other name → length one.labels ≡ length other.labels → SameName one other
same_both true one other name h k n =
    let size : length (lower_labels one.labels) ≡ length (lower_labels other.labels) = omega (arith, lower_length one.labels, lower_length other.labels) in
    record { labels = ends_same h.1.front k.1.front (lower_labels one.labels) (lower_labels other.labels) (sym h.1.ends ∙ k.1.ends) size; marks = h.0 ∙ sym k.0 }
same_both false one other name h k n = record { labels = h.labels ∙ sym k.labels; marks = h.marks ∙ sym k.marks }

module _ {V : Type 0} where
  by_zones : (P : DomainName → Type 0) (zones : List (DomainName × V)) → AllByRecursion P (keys_of zones) → AllByRecursion (λ (zone : DomainName × V). P zone.0) zones
  by_zones P [] h = tt
  by_zones P (zone ∷ zones) h = (h.0, by_zones P zones h.1)

  -- a zone in front is none of those behind it
  apart : (first zone : DomainName × V) (zones : List (DomainName × V)) → AllByRecursion (λ q. name_cmp first.0 q ≡ Less) (keys_of zones) → Contains zones zone → SameName first.0 zone.0 → ⊥
  apart first zone zones less among s =
      let P : DomainName × V → Type 0 = λ z. name_cmp first.0 z.0 ≡ Less in
      let l : name_cmp first.0 zone.0 ≡ Less = All-contains P zones zone (All-from_recursion P zones (by_zones (λ q. name_cmp first.0 q ≡ Less) zones less)) among in
      let e : name_cmp first.0 zone.0 ≡ Equal = equal_of first.0 zone.0 s in
      cc

  one_zone : (zones : List (DomainName × V)) → AreInOrder zones → (j k : ℕ) (a b : DomainName × V) → j < length zones → k < length zones → slice_index_or zones j a ≡ a → slice_index_or zones k b ≡ b → SameName a.0 b.0 → a ≡ b
  unfolding IsStrictlySortedBy
  one_zone [] sorted j k a b h i d e s = absurd (omega arith)
  one_zone (zone ∷ zones) sorted zero zero a b h i d e s = sym d ∙ e
  one_zone (zone ∷ zones) sorted zero (suc k) a b h i d e s =
      absurd (apart zone b zones sorted.0 (k, omega arith, e) (subst (λ (z : DomainName × V). SameName z.0 b.0) (sym d) s))
  one_zone (zone ∷ zones) sorted (suc j) zero a b h i d e s =
      absurd (apart zone a zones sorted.0 (j, omega arith, d) (subst (λ (z : DomainName × V). SameName z.0 a.0) (sym e) (same_back a.0 b.0 s)))
  one_zone (zone ∷ zones) sorted (suc j) (suc k) a b h i d e s = one_zone zones sorted.1 j k a b (omega arith) (omega arith) d e s

  found_beside_none : (zones : List (DomainName × V)) (name : DomainName) (v : V) → Finds zones name None → Finds zones name (Some v) → ⊥
  found_beside_none zones name v none found =
      All-contains (λ (zone : DomainName × V). ¬ (MayAnswer zone.0 name)) zones (found.0, v) none found.1.among found.1.may_answer

  longer : (zones : List (DomainName × V)) (name : DomainName) (one other : DomainName × V) → IsNearest zones name one → IsNearest zones name other → length other.0.labels ≤ length one.0.labels
  longer zones name one other near far =
      All-contains (λ (z : DomainName × V). MayAnswer z.0 name → length z.0.labels ≤ length one.0.labels) zones other near.longest far.among far.may_answer

  pub one_nearest : (zones : List (DomainName × V)) (name : DomainName) (one other : DomainName × V) → AreInOrder zones → IsNearest zones name one → IsNearest zones name other → one ≡ other
  one_nearest zones name one other sorted near far =
      let n : length one.0.labels ≡ length other.0.labels = omega (arith, longer zones name one other near far, longer zones name other one far near) in
      let s : SameName one.0 other.0 = same_both name.is_fqdn one.0 other.0 name near.may_answer far.may_answer n in
      one_zone zones sorted near.among.0 far.among.0 one other near.among.1 far.among.1 near.among.2 far.among.2 s

  pub one_answer : (zones : List (DomainName × V)) (name : DomainName) (one other : Option V) → AreInOrder zones → Finds zones name one → Finds zones name other → one ≡ other
  one_answer zones name None None sorted f g = refl
  one_answer zones name None (Some v) sorted f g = absurd (found_beside_none zones name v f g)
  one_answer zones name (Some v) None sorted f g = absurd (found_beside_none zones name v g f)
  one_answer zones name (Some v) (Some w) sorted f g =
      let p = one_nearest zones name (f.0, v) (g.0, w) sorted f.1 g.1 in
      ap (λ (z : DomainName × V). let o : Option V = Some z.1 in o) p

  pub one_at : (zones : List (DomainName × V)) (apex : DomainName) (one other : V) → AreInOrder zones → Contains zones (apex, one) → Contains zones (apex, other) → one ≡ other
  one_at zones apex one other sorted here there =
      ap (λ (z : DomainName × V). z.1) (one_zone zones sorted here.0 there.0 (apex, one) (apex, other) here.1 there.1 here.2 there.2 (record { labels = refl; marks = refl }))
