-- Required RRsets are those of a zone where each required record is matched.
use Rattle.std.proofs.Common.{◌≡◌, Bool, true, false, cond, ◌&&◌, ◌||◌, List, [], ◌∷◌, filter, refl, sym, ap, ◌∙◌, ◌⊎◌, inl, inr, subst}
use Rattle.std.specs.Prelude.{◌==◌}
use Rattle.std.specs.Bool.{IsTrue}
use Rattle.std.specs.List.{list_all, list_any}
use Rattle.std.specs.Ordering.{is_eq}
use Rattle.std.proofs.lemmas.Bool.{eq-eqb, eqb-true}
use Rattle.std.proofs.lemmas.List.Elements.{filter_agree}
use Rattle.wire_names.specs.rr.domain.DomainName.{DomainName}
use Rattle.wire_names.specs.representation.NameHash.{same_from_eq}
use Rattle.wire_names.specs.rr.domain.NameOrder.{name_eq, SameName}
use Rattle.wire_messages.specs.rr.RecordData.{type_of}
use Rattle.wire_messages.specs.rr.RecordSameness.{lower_data, SameRecord}
use Rattle.wire_messages.specs.declared.rr.rdata.RData.{RData}
use Rattle.wire_messages.specs.declared.rr.rdata.RData.TheVariants as rdata
use Rattle.wire_messages.specs.declared.rr.record.Record.{Record}
use Rattle.wire_messages.proofs.lemmas.rr.RecordComparing.{both_hold, hold_both}
use Rattle.wire_names.proofs.lemmas.rr.domain.SameNames.{both_ways, eq_from_same, same_order}
use Rattle.hickory_base.specs.zone_store.ZoneRecords.{is_of, rrset}
use Rattle.hickory_store.specs.updates.Identity.{same_record}
use Rattle.hickory_store.specs.updates.Prerequisites.{same_rrset, sets_match}
use Rattle.hickory_store.specs.representation.SetsByRecord.{are_matched, are_required, is_matched}

-- ---- lists by their members
abbrev pub In : {X : Type 0} → X → List X → Type 0
In x [] = ⊥
In x (y ∷ ys) = (x ≡ y) ⊎ In x ys

pub first_or : (a b : Bool) → a ≡ true → (a || b) ≡ true
first_or true b h = refl
first_or false b h = absurd (cc)

pub or_second : (a b : Bool) → b ≡ true → (a || b) ≡ true
or_second true b h = refl
or_second false b h = h

pub one_of : (a b : Bool) → (a || b) ≡ true → (a ≡ true) ⊎ (b ≡ true)
one_of true b h = inl refl
one_of false b h = inr h

pub any_in : {X : Type 0} (p : X → Bool) (x : X) (xs : List X) → In x xs → p x ≡ true → list_any p xs ≡ true
any_in p x [] is h = absurd is
any_in p x (y ∷ ys) (inl e) h = first_or _ _ (ap p (sym e) ∙ h)
any_in p x (y ∷ ys) (inr is) h = or_second (p y) _ (any_in p x ys is h)

pub record Found {X : Type 0} (p : X → Bool) (xs : List X) : Type 0 where
  pub element : X
  pub is_in : In element xs
  pub passes : p element ≡ true

found_step : {X : Type 0} (p : X → Bool) (y : X) (ys : List X) → (p y ≡ true) ⊎ Found p ys → Found p (y ∷ ys)
found_step p y ys (inl h) = record { element = y; is_in = inl refl; passes = h }
found_step p y ys (inr f) = record { element = f.element; is_in = inr f.is_in; passes = f.passes }

pub in_any : {X : Type 0} (p : X → Bool) (xs : List X) → list_any p xs ≡ true → Found p xs
in_any p [] h = absurd (cc)
in_any p (y ∷ ys) h = found_step p y ys (elim (one_of (p y) _ h) as (λ _. (p y ≡ true) ⊎ Found p ys) [ inl a ↦ inl a | inr b ↦ inr (in_any p ys b) ])

all_in : {X : Type 0} (p : X → Bool) (x : X) (xs : List X) → list_all p xs ≡ true → In x xs → p x ≡ true
all_in p x [] h is = absurd is
all_in p x (y ∷ ys) h (inl e) = ap p e ∙ (both_hold _ _ h).0
all_in p x (y ∷ ys) h (inr is) = all_in p x ys (both_hold _ _ h).1 is

in_all : {X : Type 0} (p : X → Bool) (xs : List X) → ((x : X) → In x xs → p x ≡ true) → list_all p xs ≡ true
in_all p [] each = refl
in_all p (y ∷ ys) each = hold_both _ _ (each y (inl refl)) (in_all p ys (λ x is. each x (inr is)))

kept_step : {X : Type 0} (p : X → Bool) (b : Bool) (x y : X) (ys : List X) → p y ≡ b → In x (cond b (y ∷ ys) ys) → ((x ≡ y) × (p x ≡ true)) ⊎ In x ys
kept_step p true x y ys e (inl s) = inl (s, ap p s ∙ e)
kept_step p true x y ys e (inr is) = inr is
kept_step p false x y ys e is = inr is

pub in_filter : {X : Type 0} (p : X → Bool) (x : X) (xs : List X) → In x (filter p xs) → In x xs × (p x ≡ true)
in_filter p x [] is = absurd is
in_filter p x (y ∷ ys) is =
    elim (kept_step p (p y) x y (filter p ys) refl is) as (λ _. In x (y ∷ ys) × (p x ≡ true))
    [ inl s ↦ (inl s.0, s.1) | inr rest ↦ (inr (in_filter p x ys rest).0, (in_filter p x ys rest).1) ]

keep_first : {X : Type 0} (b : Bool) (x y : X) (ys : List X) → b ≡ true → x ≡ y → In x (cond b (y ∷ ys) ys)
keep_first true x y ys h e = inl e
keep_first false x y ys h e = absurd (cc)

keep_rest : {X : Type 0} (b : Bool) (x y : X) (ys : List X) → In x ys → In x (cond b (y ∷ ys) ys)
keep_rest true x y ys is = inr is
keep_rest false x y ys is = is

pub filter_in : {X : Type 0} (p : X → Bool) (x : X) (xs : List X) → In x xs → p x ≡ true → In x (filter p xs)
filter_in p x [] is h = absurd is
filter_in p x (y ∷ ys) (inl e) h = keep_first (p y) x y _ (ap p (sym e) ∙ h) e
filter_in p x (y ∷ ys) (inr is) h = keep_rest (p y) x y _ (filter_in p x ys is h)

-- ---- RRsets
pub itself : (name : DomainName) → SameName name name
itself name = record { labels = refl; marks = refl }

abbrev of : Record RData → Record RData → Bool
of r q = is_of r.name (type_of r.rdata) q

-- a record is of its own RRset
pub of_itself : (r : Record RData) → of r r ≡ true
of_itself r = hold_both _ _ (eq_from_same r.name r.name (itself r.name)) (eq-eqb (type_of r.rdata) (type_of r.rdata) refl)

-- records of one RRset have the same RRset
pub same_of : (r p q : Record RData) → of r p ≡ true → of p q ≡ of r q
same_of r p q h =
    let both = both_hold _ _ h in
    let name : name_eq p.name q.name ≡ name_eq r.name q.name = sym (ap is_eq (same_order r.name q.name p.name q.name (same_from_eq r.name p.name both.0) (itself q.name))) in
    ap (λ b. b && (type_of p.rdata == type_of q.rdata)) name
    ∙ ap (λ t. name_eq r.name q.name && (t == type_of q.rdata)) (sym (eqb-true (type_of r.rdata) (type_of p.rdata) both.1))

pub same_set : (r p : Record RData) (zone : List (Record RData)) → of r p ≡ true → rrset zone p.name (type_of p.rdata) ≡ rrset zone r.name (type_of r.rdata)
same_set r p zone h = filter_agree (of p) (of r) (λ q. same_of r p q h) zone

-- lower case leaves the type
pub type-lower : (d : RData) → type_of (lower_data d) ≡ type_of d
type-lower (rdata.A x) = refl
type-lower (rdata.AAAA x) = refl
type-lower (rdata.NS x) = refl
type-lower (rdata.CNAME x) = refl
type-lower (rdata.PTR x) = refl
type-lower (rdata.MX x) = refl
type-lower (rdata.SOA x) = refl
type-lower (rdata.TXT x) = refl
type-lower (rdata.OPT x) = refl
type-lower (rdata.TSIG x) = refl
type-lower (rdata.NULL x) = refl
type-lower (rdata.Update0 x) = refl
type-lower (rdata.Unknown x y) = refl

module _ (identity : (a b : Record RData) → IsTrue (same_record a b) → SameRecord a b) (zone required : List (Record RData)) where
  -- a record of one identity with another is of the same RRset
  of_same : (r q p : Record RData) → same_record q p ≡ true → of r q ≡ true → of r p ≡ true
  of_same r q p h is =
      let s : SameRecord q p = identity q p h in
      let both = both_hold _ _ is in
      let name : name_eq r.name p.name ≡ true = ap is_eq (sym (same_order r.name q.name r.name p.name (itself r.name) s.name)) ∙ both.0 in
      let kind : type_of q.rdata ≡ type_of p.rdata = sym (type-lower q.rdata) ∙ ap type_of s.rdata ∙ type-lower p.rdata in
      hold_both _ _ name (eq-eqb _ _ (eqb-true (type_of r.rdata) (type_of q.rdata) both.1 ∙ kind))

  abbrev set : Record RData → List (Record RData)
  set r = rrset zone r.name (type_of r.rdata)

  abbrev Holds : Record RData → Type 0
  Holds r = (list_any (same_record r) (set r) ≡ true) × (are_required required (set r) ≡ true)

  -- what a matched record says of its set, where the later ones say it too
  whole_step : (r : Record RData) (rs : List (Record RData)) → (list_any (of r) rs ≡ true) ⊎ (are_required required (set r) ≡ true)
      → ((p : Record RData) → In p rs → Holds p) → are_required required (set r) ≡ true
  whole_step r rs (inr h) rest = h
  whole_step r rs (inl named) rest =
      let later : Found (of r) rs = in_any (of r) rs named in
      ap (are_required required) (sym (same_set r later.element zone later.passes)) ∙ (rest later.element later.is_in).1

  first_holds : (r : Record RData) (rs : List (Record RData)) → is_matched zone required rs r ≡ true → ((p : Record RData) → In p rs → Holds p) → Holds r
  first_holds r rs h rest = let both = both_hold _ _ h in (both.0, whole_step r rs (one_of _ _ both.1) rest)

  each_holds : (rs : List (Record RData)) → are_matched zone required rs ≡ true → (r : Record RData) → In r rs → Holds r
  each_holds [] h r is = absurd is
  each_holds (q ∷ rs) h r (inl e) = subst Holds (sym e) (first_holds q rs (both_hold _ _ h).0 (each_holds rs (both_hold _ _ h).1))
  each_holds (q ∷ rs) h r (inr is) = each_holds rs (both_hold _ _ h).1 r is

  all_match : (rs : List (Record RData)) → ((r : Record RData) → In r rs → Holds r) → are_matched zone required rs ≡ true
  all_match [] each = refl
  all_match (r ∷ rs) each =
      let here = each r (inl refl) in
      hold_both _ _ (hold_both _ _ here.0 (or_second _ _ here.1)) (all_match rs (λ p is. each p (inr is)))

  -- set by set from record by record
  to_sets : are_matched zone required required ≡ true → sets_match zone required ≡ true
  to_sets h =
      let each : (r : Record RData) → In r required → Holds r = each_holds required h in
      in_all _ required (λ r is. hold_both _ _
      (in_all _ (filter (of r) required) (λ p among.
      let kept = in_filter (of r) p required among in
      ap (list_any (same_record p)) (sym (same_set r p zone kept.1)) ∙ (each p kept.0).0))
      (in_all _ (set r) (λ q in_zone.
      let p : Found (same_record q) required = in_any (same_record q) required (all_in (λ x. list_any (same_record x) required) q (set r) (each r is).1 in_zone) in
      any_in (same_record q) p.element (filter (of r) required) (filter_in (of r) p.element required p.is_in (of_same r q p.element p.passes (in_filter (of r) q zone in_zone).1)) p.passes)))

  -- and back
  from_sets : sets_match zone required ≡ true → are_matched zone required required ≡ true
  from_sets h = all_match required (λ r is.
      let same = both_hold _ _ (all_in (λ x. same_rrset (rrset required x.name (type_of x.rdata)) (set x)) r required h is) in (
        all_in (λ p. list_any (same_record p) (set r)) r (filter (of r) required) same.0 (filter_in (of r) r required is (of_itself r)),
        in_all _ (set r) (λ q in_zone.
            let p : Found (same_record q) (filter (of r) required) = in_any (same_record q) (filter (of r) required) (all_in (λ x. list_any (same_record x) (filter (of r) required)) q (set r) same.1 in_zone) in
            any_in (same_record q) p.element required (in_filter (of r) p.element required p.is_in).0 p.passes),
      ))

  pub matched_by_record : are_matched zone required required ≡ sets_match zone required
  matched_by_record = both_ways _ _ to_sets from_sets
