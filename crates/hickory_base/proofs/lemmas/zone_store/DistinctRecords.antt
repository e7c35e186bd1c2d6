-- Sets under ascending keys, each without a record twice, have none twice between them.
use Rattle.std.proofs.Common.{◌≡◌, ◌∙◌, true, false, List, [], ◌∷◌, ◌++◌, refl, sym, ap}
use Rattle.std.specs.List.{AllByRecursion}
use Rattle.std.specs.List.Sorted.{IsStrictlySortedBy}
use Rattle.std.specs.Map.{keys_of}
use Rattle.std.specs.Ordering.{is_eq}
use Rattle.std.specs.declared.cmp.Ordering.TheVariants.{Less}
use Rattle.std.proofs.lemmas.Bool.{eq-eqb}
use Rattle.wire_messages.specs.rr.RecordData.{type_of}
use Rattle.wire_messages.specs.rr.RecordSameness.{SameRecord, lower_data}
use Rattle.wire_messages.specs.declared.rr.rdata.RData.{RData}
use Rattle.wire_messages.specs.declared.rr.rdata.RData.TheVariants as rdata
use Rattle.wire_messages.specs.declared.rr.record.Record.{Record}
use Rattle.wire_messages.proofs.lemmas.rr.RecordComparing.{hold_both}
use Rattle.wire_names.proofs.lemmas.rr.domain.SameNames.{eq_from_same}
use Rattle.hickory_base.specs.zone_store.ZoneRecords.{is_of}
use Rattle.hickory_base.specs.zone_store.ZoneSets.{AreDistinct, AreSetsInOrder, IsUnder, IsZone, zone_records}
use Rattle.wire_messages.specs.rr.RrKeys.{key_cmp}
use Rattle.wire_messages.specs.declared.rr.rr_key.RrKey.{RrKey}
use Rattle.hickory_base.proofs.lemmas.zone_store.ZoneByName.{of_under}

abbrev Records : Type 0
Records = List (Record RData)

abbrev Sets : Type 0
Sets = List (RrKey × Records)

pub type-lower : (d : RData) → type_of (lower_data d) ≡ type_of d
type-lower (rdata.A x) = refl
type-lower (rdata.AAAA x) = refl
type-lower (rdata.NS x) = refl
type-lower (rdata.CNAME x) = refl
type-lower (rdata.PTR x) = refl
type-lower (rdata.MX x) = refl
type-lower (rdata.SOA x) = refl
type-lower (rdata.TXT x) = refl
type-lower (rdata.OPT x) = refl
type-lower (rdata.TSIG x) = refl
type-lower (rdata.NULL x) = refl
type-lower (rdata.Update0 x) = refl
type-lower (rdata.Unknown x y) = refl

-- records that are the same are of one type
pub same_type : (a b : Record RData) → SameRecord a b → type_of a.rdata ≡ type_of b.rdata
same_type a b s = sym (type-lower a.rdata) ∙ ap type_of s.rdata ∙ type-lower b.rdata

-- what P holds of, Q does
pub all_from : {X : Type 0} (P Q : X → Type 0) → ((x : X) → P x → Q x) → (xs : List X) → AllByRecursion P xs → AllByRecursion Q xs
all_from P Q f [] h = tt
all_from P Q f (x ∷ xs) h = (f x h.0, all_from P Q f xs h.1)

both_distinct : (xs ys : Records) → AreDistinct xs → AreDistinct ys → AllByRecursion (λ x. AllByRecursion (λ y. ¬ (SameRecord x y)) ys) xs → AreDistinct (xs ++ ys)
both_distinct [] ys h k n = k
both_distinct (x ∷ xs) ys h k n = (all_of xs h.0, both_distinct xs ys h.1 k n.1)
  where
    all_of : (zs : Records) → AllByRecursion (λ q. ¬ (SameRecord x q)) zs → AllByRecursion (λ q. ¬ (SameRecord x q)) (zs ++ ys)
    all_of [] a = n.0
    all_of (z ∷ zs) a = (a.0, all_of zs a.1)

-- records under keys of which one is less are not the same
under_apart : (k f : RrKey) (x y : Record RData) → key_cmp k f ≡ Less → IsUnder k x → IsUnder f y → ¬ (SameRecord x y)
under_apart k f x y less u v s =
    let here : is_of k.name k.record_type y ≡ true = hold_both _ _
    (eq_from_same k.name y.name (record { labels = sym u.name.labels ∙ s.name.labels; marks = sym u.name.marks ∙ s.name.marks }))
    (eq-eqb k.record_type (type_of y.rdata) (sym u.record_type ∙ same_type x y s)) in
    let there : is_of k.name k.record_type y ≡ false = of_under k.name k.record_type f y v ∙ ap is_eq less in
    let both : true ≡ false = sym here ∙ there in cc

apart_one : (k f : RrKey) (x : Record RData) (ys more : Records) → key_cmp k f ≡ Less → IsUnder k x → AllByRecursion (IsUnder f) ys → AllByRecursion (λ y. ¬ (SameRecord x y)) more
    → AllByRecursion (λ y. ¬ (SameRecord x y)) (ys ++ more)
apart_one k f x [] more less u v m = m
apart_one k f x (y ∷ ys) more less u v m = (under_apart k f x y less u v.0, apart_one k f x ys more less u v.1 m)

apart_sets : (k : RrKey) (x : Record RData) (es : Sets) → AllByRecursion (λ f. key_cmp k f ≡ Less) (keys_of es) → IsUnder k x → IsZone es → AllByRecursion (λ y. ¬ (SameRecord x y)) (zone_records es)
apart_sets k x [] above u zone = tt
apart_sets k x (e ∷ es) above u zone = apart_one k e.0 x e.1 (zone_records es) above.0 u zone.0.under (apart_sets k x es above.1 u zone.1)

-- no record stands in a zone twice, under whatever keys
pub zone_distinct : (S : Sets) → AreSetsInOrder S → IsZone S → AreDistinct (zone_records S)
unfolding IsStrictlySortedBy
zone_distinct [] sorted zone = tt
zone_distinct (e ∷ es) sorted zone =
    both_distinct e.1 (zone_records es) zone.0.distinct (zone_distinct es sorted.1 zone.1)
    (all_from (IsUnder e.0) (λ x. AllByRecursion (λ y. ¬ (SameRecord x y)) (zone_records es)) (λ x u. apart_sets e.0 x es sorted.0 u zone.1) e.1 zone.0.under)
