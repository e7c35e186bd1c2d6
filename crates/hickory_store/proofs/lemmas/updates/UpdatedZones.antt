-- Updates leave no record twice, and each record of type SOA with the data of one.
use Rattle.std.proofs.Common.{◌≡◌, ◌∙◌, ℕ, Bool, true, false, cond, not, ◌&&◌, List, [], ◌∷◌, ◌++◌, map, filter, Option, Some, None, Result, Ok, Err, refl, sym, ap, subst, ◌<◌, ◌^◌, arith}
use Rattle.std.specs.Prelude.{◌↔◌, IsTrue, ◌==◌}
use Rattle.std.specs.List.{AllByRecursion, list_any}
use Rattle.std.specs.Option.{MatchOption, option_or}
use Rattle.std.specs.Ordering.{is_eq}
use Rattle.std.proofs.lemmas.Bool.{eq-eqb, eqb-true}
use Rattle.wire_names.specs.rr.domain.DomainName.{DomainName}
use Rattle.wire_names.specs.rr.domain.NameOrder.{SameName}
use Rattle.wire_messages.specs.rr.RecordData.{type_of}
use Rattle.wire_messages.specs.rr.RecordSameness.{SameData, SameRecord, lower_soa}
use Rattle.wire_messages.specs.declared.rr.rdata.SOA.{SOA}
use Rattle.wire_messages.specs.declared.rr.rdata.RData.{RData}
use Rattle.wire_messages.specs.declared.rr.rdata.RData.TheVariants as rdata
use Rattle.wire_messages.specs.declared.rr.record.Proof.{Proof}
use Rattle.wire_messages.specs.declared.rr.record.Record.{Record}
use Rattle.wire_messages.proofs.lemmas.rr.RecordComparing.{both_hold, hold_both}
use Rattle.wire_names.proofs.lemmas.rr.domain.SameNames.{eq_from_same, same_order}
use Rattle.hickory_base.specs.zone_store.ZoneRecords.{is_at}
use Rattle.hickory_base.specs.zone_store.ZoneSets.{AreDistinct, IsSoaData, IsWellTyped, IsZone, zone_records}
use Rattle.wire_messages.specs.declared.rr.rr_key.RrKey.{RrKey}
use Rattle.hickory_store.specs.updates.Changes.{after_counted, after_record, after_updates, counted, in_rrset, is_added, is_deleted_when, is_spared, one_ttl, replaces_rrset}
use Rattle.hickory_store.specs.updates.Identity.{is_in_zone, same_record}
use Rattle.hickory_store.specs.updates.Prescan.{has_zone_data, is_addition, is_query_type, is_well_formed, prescan_refusal, update_refusal}
use Rattle.hickory_store.specs.updates.Refusals.{unless}
use Rattle.hickory_store.specs.updates.Serials.{next_serial}
use Rattle.hickory_store.specs.updates.UpdateAnswers.{Outcome, applied, incremented, is_apex_soa, next_data, with_next_serial}
use Rattle.hickory_store.specs.representation.ZoneSets.{HasSerial}
use Rattle.hickory_store.proofs.lemmas.updates.OneTtl.{counted_so, given}
use Rattle.hickory_store.proofs.lemmas.updates.RecordByRecord.{itself, type-lower}
use Rattle.hickory_store.proofs.lemmas.file.SetsOfRecords.{all_kept, append_none, distinct_kept, passing}

abbrev Records : Type 0
Records = List (Record RData)

-- ---- one record last

distinct_last : (xs : Records) (r : Record RData) → AreDistinct xs → AllByRecursion (λ q. ¬ (SameRecord q r)) xs → AreDistinct (xs ++ r ∷ [])
distinct_last [] r h k = (tt, tt)
distinct_last (x ∷ xs) r h k = (all_last xs h.0 k.0, distinct_last xs r h.1 k.1)
  where
    all_last : (ys : Records) → AllByRecursion (λ q. ¬ (SameRecord x q)) ys → ¬ (SameRecord x r) → AllByRecursion (λ q. ¬ (SameRecord x q)) (ys ++ r ∷ [])
    all_last [] a n = (n, tt)
    all_last (y ∷ ys) a n = (a.0, all_last ys a.1 n)

all_behind : {X : Type 0} (P : X → Type 0) (xs : List X) (x : X) → AllByRecursion P xs → P x → AllByRecursion P (xs ++ x ∷ [])
all_behind P [] x h k = (k, tt)
all_behind P (y ∷ xs) x h k = (h.0, all_behind P xs x h.1 k)

all_from : {X : Type 0} (P Q : X → Type 0) → ((x : X) → P x → Q x) → (xs : List X) → AllByRecursion P xs → AllByRecursion Q xs
all_from P Q f [] h = tt
all_from P Q f (x ∷ xs) h = (f x h.0, all_from P Q f xs h.1)

pub same_back : (a b : Record RData) → SameRecord a b → SameRecord b a
same_back a b s = record { name = record { labels = sym s.name.labels; marks = sym s.name.marks }; class = sym s.class; rdata = sym s.rdata }

pub same_type : (a b : Record RData) → SameRecord a b → type_of a.rdata ≡ type_of b.rdata
same_type a b s = sym (type-lower a.rdata) ∙ ap type_of s.rdata ∙ type-lower b.rdata

first_true : (a b : Bool) → (a && b) ≡ true → a ≡ true
first_true true b h = refl
first_true false b h = h

-- ---- one TTL

given_apart : (t u : ℕ) (a b : Record RData) (x y : Bool) → SameRecord (given x t a) (given y u b) → SameRecord a b
given_apart t u a b true true s = record { name = s.name; class = s.class; rdata = s.rdata }
given_apart t u a b true false s = record { name = s.name; class = s.class; rdata = s.rdata }
given_apart t u a b false true s = record { name = s.name; class = s.class; rdata = s.rdata }
given_apart t u a b false false s = s

given_typed : (t : ℕ) (a : Record RData) (x : Bool) → IsWellTyped a → IsWellTyped (given x t a)
given_typed t a true h = h
given_typed t a false h = h

module _ (r : Record RData) where
  one_apart : (a : Record RData) (zs : Records) → AllByRecursion (λ q. ¬ (SameRecord a q)) zs → AllByRecursion (λ q. ¬ (SameRecord (given (in_rrset r a) r.ttl a) q)) (one_ttl r zs)
  one_apart a [] n = tt
  one_apart a (q ∷ zs) n = (λ s. n.0 (given_apart r.ttl r.ttl a q (in_rrset r a) (in_rrset r q) s), one_apart a zs n.1)

  one_distinct : (zs : Records) → AreDistinct zs → AreDistinct (one_ttl r zs)
  one_distinct [] h = tt
  one_distinct (a ∷ zs) h = (one_apart a zs h.0, one_distinct zs h.1)

  one_typed : (zs : Records) → AllByRecursion IsWellTyped zs → AllByRecursion IsWellTyped (one_ttl r zs)
  one_typed [] h = tt
  one_typed (q ∷ zs) h = (given_typed r.ttl q (in_rrset r q) h.0, one_typed zs h.1)

settled_distinct : (c : Bool) (r : Record RData) (zs : Records) → AreDistinct zs → AreDistinct (cond c (one_ttl r zs) zs)
settled_distinct true r zs h = one_distinct r zs h
settled_distinct false r zs h = h

settled_typed : (c : Bool) (r : Record RData) (zs : Records) → AllByRecursion IsWellTyped zs → AllByRecursion IsWellTyped (cond c (one_ttl r zs) zs)
settled_typed true r zs h = one_typed r zs h
settled_typed false r zs h = h

-- ---- one turn

goes_as_same : (k s i m k2 cl b d : Bool) → k ≡ true → i ≡ true → m ≡ true → not (cond k (true && cond s i m) (cond k2 cl (not b && d))) ≡ true → ⊥
goes_as_same true true i m k2 cl b d e f g h = cc
goes_as_same true false i m k2 cl b d e f g h = cc
goes_as_same false s i m k2 cl b d e f g h = cc

module _ (identity : (a b : Record RData) → IsTrue (same_record a b) ↔ SameRecord a b) (o : DomainName) where
  of_rrset : (r q : Record RData) → SameRecord r q → in_rrset r q ≡ true
  of_rrset r q s = hold_both _ _ (eq_from_same r.name q.name s.name) (eq-eqb (type_of q.rdata) (type_of r.rdata) (sym (same_type r q s)))

  module _ (z : Records) (r : Record RData) where
    -- what stays where r comes is not the same as r
    other : (b : Bool) → (r.dns_class == 1) ≡ true → (q : Record RData) → not (is_deleted_when o r true b q) ≡ true → ¬ (SameRecord q r)
    other b k q h s =
        goes_as_same (r.dns_class == 1) (replaces_rrset r) (in_rrset r q) (same_record r q) (r.dns_class == 255) _ b _ k
        (of_rrset r q (same_back q r s)) ((identity r q).1 (same_back q r s)) h

    distinct_when : (a b : Bool) → (a ≡ true → (r.dns_class == 1) ≡ true) → AreDistinct z → AreDistinct (filter (λ q. not (is_deleted_when o r a b q)) z ++ cond a (r ∷ []) [])
    distinct_when true b k h =
        distinct_last (filter (λ q. not (is_deleted_when o r true b q)) z) r (distinct_kept (λ q. not (is_deleted_when o r true b q)) z h)
        (all_from _ (λ q. ¬ (SameRecord q r)) (other b (k refl)) (filter (λ q. not (is_deleted_when o r true b q)) z) (passing (λ q. not (is_deleted_when o r true b q)) z))
    distinct_when false b k h = subst AreDistinct (sym (append_none _)) (distinct_kept (λ q. not (is_deleted_when o r false b q)) z h)

    typed_when : (a b : Bool) → (a ≡ true → IsWellTyped r) → AllByRecursion IsWellTyped z → AllByRecursion IsWellTyped (filter (λ q. not (is_deleted_when o r a b q)) z ++ cond a (r ∷ []) [])
    typed_when true b k h = all_behind IsWellTyped _ r (all_kept IsWellTyped (λ q. not (is_deleted_when o r true b q)) z h) (k refl)
    typed_when false b k h = subst (AllByRecursion IsWellTyped) (sym (append_none _)) (all_kept IsWellTyped (λ q. not (is_deleted_when o r false b q)) z h)

  module _ (f : Bool) where
    distinct_counted : (z : Records) (r : Record RData) → AreDistinct z → AreDistinct (after_counted f o z r)
    distinct_counted z r h = settled_distinct (f && is_added f z r) r _ (distinct_when z r (is_added f z r) (is_spared f o z r) (first_true (r.dns_class == 1) _) h)

    typed_counted : (z : Records) (r : Record RData) → ((r.dns_class == 1) ≡ true → IsWellTyped r) → AllByRecursion IsWellTyped z → AllByRecursion IsWellTyped (after_counted f o z r)
    typed_counted z r k h =
        settled_typed (f && is_added f z r) r _ (typed_when z r (is_added f z r) (is_spared f o z r) (λ e. k (first_true (r.dns_class == 1) _ e)) h)

    distinct_turn : (z : Records) (r : Record RData) → AreDistinct z → AreDistinct (after_record f o z r)
    unfolding after_record
    distinct_turn z r h = distinct_counted z (counted f r) h

    typed_turn : (z : Records) (r : Record RData) → ((r.dns_class == 1) ≡ true → IsWellTyped r) → AllByRecursion IsWellTyped z → AllByRecursion IsWellTyped (after_record f o z r)
    unfolding after_record
    typed_turn z r k h = typed_counted z (counted f r) (counted_so (λ q. (q.dns_class == 1) ≡ true → IsWellTyped q) f r k k) h

    pub distinct_fold : (rs z : Records) → AreDistinct z → AreDistinct (after_updates f o z rs)
    distinct_fold [] z h = h
    distinct_fold (r ∷ rs) z h = distinct_fold rs (after_record f o z r) (distinct_turn z r h)

    pub typed_fold : (rs z : Records) → AllByRecursion (λ r. (r.dns_class == 1) ≡ true → IsWellTyped r) rs → AllByRecursion IsWellTyped z → AllByRecursion IsWellTyped (after_updates f o z rs)
    typed_fold [] z k h = h
    typed_fold (r ∷ rs) z k h = typed_fold rs (after_record f o z r) k.1 (typed_turn z r k.0 h)

-- ---- the next serial

next_below : (n : ℕ) → next_serial n < 2 ^ 32
next_below n = omega arith

next_apart : (m n : ℕ) → m < 2 ^ 32 → n < 2 ^ 32 → next_serial m ≡ next_serial n → m ≡ n
next_apart m n h k e = omega (arith, h, k, e)

typed_data : (d : RData) → (type_of d ≡ 6 → IsSoaData d) → type_of (next_data d) ≡ 6 → IsSoaData (next_data d)
typed_data (rdata.SOA s) h e = next_below s.serial
typed_data (rdata.A x) h e = h e
typed_data (rdata.AAAA x) h e = h e
typed_data (rdata.NS x) h e = h e
typed_data (rdata.CNAME x) h e = h e
typed_data (rdata.PTR x) h e = h e
typed_data (rdata.MX x) h e = h e
typed_data (rdata.TXT x) h e = h e
typed_data (rdata.OPT x) h e = h e
typed_data (rdata.TSIG x) h e = h e
typed_data (rdata.NULL x) h e = h e
typed_data (rdata.Update0 x) h e = h e
typed_data (rdata.Unknown x y) h e = h e

pub next_type : (d : RData) → type_of (next_data d) ≡ type_of d
next_type (rdata.SOA s) = refl
next_type (rdata.A x) = refl
next_type (rdata.AAAA x) = refl
next_type (rdata.NS x) = refl
next_type (rdata.CNAME x) = refl
next_type (rdata.PTR x) = refl
next_type (rdata.MX x) = refl
next_type (rdata.TXT x) = refl
next_type (rdata.OPT x) = refl
next_type (rdata.TSIG x) = refl
next_type (rdata.NULL x) = refl
next_type (rdata.Update0 x) = refl
next_type (rdata.Unknown x y) = refl

with_serial : ℕ → SOA → SOA
with_serial n s = record s { serial = n }

soa_of : RData → SOA → SOA
soa_of (rdata.SOA s) t = s
soa_of other t = t

same_soas : (s t : SOA) → s.serial < 2 ^ 32 → t.serial < 2 ^ 32 → SameData (next_data (rdata.SOA s)) (next_data (rdata.SOA t)) → SameData (rdata.SOA s) (rdata.SOA t)
unfolding with_serial soa_of
same_soas s t h k e =
    let f : lower_soa (record s { serial = next_serial s.serial }) ≡ lower_soa (record t { serial = next_serial t.serial }) = ap (λ d. soa_of d (lower_soa s)) e in
    let n : s.serial ≡ t.serial = next_apart s.serial t.serial h k (ap (λ (u : SOA). u.serial) f) in
    ap (λ (u : SOA). rdata.SOA (with_serial s.serial u)) f ∙ ap (λ (m : ℕ). rdata.SOA (with_serial m (lower_soa t))) n

same_next : (d e : RData) → IsSoaData d → IsSoaData e → SameData (next_data d) (next_data e) → SameData d e
same_next (rdata.SOA s) (rdata.SOA t) h k f = same_soas s t h k f
same_next (rdata.SOA s) _ h k f = absurd k
same_next _ e h k f = absurd h

module _ (o : DomainName) where
  typed_next : (b : Bool) (q : Record RData) → IsWellTyped q → IsWellTyped (cond b (record q { rdata = next_data q.rdata }) q)
  typed_next true q h = typed_data q.rdata h
  typed_next false q h = h

  pub typed_all : (zs : Records) → AllByRecursion IsWellTyped zs → AllByRecursion IsWellTyped (map (incremented o) zs)
  typed_all [] h = tt
  typed_all (q ∷ zs) h = (typed_next (is_apex_soa o q) q h.0, typed_all zs h.1)

  -- an SOA of the apex is the same as such alone
  apex_alike : (q r : Record RData) → SameName q.name r.name → type_of q.rdata ≡ type_of r.rdata → is_apex_soa o q ≡ is_apex_soa o r
  apex_alike q r n t = ap (λ b. is_eq b && (type_of q.rdata == 6)) (same_order o q.name o r.name (itself o) n) ∙ ap (λ u. is_at o r && (u == 6)) t

  is_six : (q : Record RData) → is_apex_soa o q ≡ true → type_of q.rdata ≡ 6
  is_six q h = eqb-true (type_of q.rdata) 6 (both_hold _ _ h).1

  apart : (a b : Record RData) (x y : Bool) → is_apex_soa o a ≡ x → is_apex_soa o b ≡ y → IsWellTyped a → IsWellTyped b
      → SameRecord (cond x (record a { rdata = next_data a.rdata }) a) (cond y (record b { rdata = next_data b.rdata }) b) → SameRecord a b
  apart a b true true e f h k s = record { name = s.name; class = s.class; rdata = same_next a.rdata b.rdata (h (is_six a e)) (k (is_six b f)) s.rdata }
  apart a b true false e f h k s =
      let t : type_of a.rdata ≡ type_of b.rdata = sym (next_type a.rdata) ∙ sym (type-lower (next_data a.rdata)) ∙ ap type_of s.rdata ∙ type-lower b.rdata in
      let g : true ≡ false = sym e ∙ apex_alike a b s.name t ∙ f in absurd (cc)
  apart a b false true e f h k s =
      let t : type_of a.rdata ≡ type_of b.rdata = sym (type-lower a.rdata) ∙ ap type_of s.rdata ∙ type-lower (next_data b.rdata) ∙ next_type b.rdata in
      let g : false ≡ true = sym e ∙ apex_alike a b s.name t ∙ f in absurd (cc)
  apart a b false false e f h k s = s

  apart_all : (a : Record RData) (zs : Records) → IsWellTyped a → AllByRecursion IsWellTyped zs → AllByRecursion (λ q. ¬ (SameRecord a q)) zs
      → AllByRecursion (λ q. ¬ (SameRecord (incremented o a) q)) (map (incremented o) zs)
  apart_all a [] h k n = tt
  apart_all a (q ∷ zs) h k n = (λ s. n.0 (apart a q (is_apex_soa o a) (is_apex_soa o q) refl refl h k.0 s), apart_all a zs h k.1 n.1)

  pub distinct_all : (zs : Records) → AllByRecursion IsWellTyped zs → AreDistinct zs → AreDistinct (map (incremented o) zs)
  distinct_all [] k h = tt
  distinct_all (a ∷ zs) k h = (apart_all a zs k.0 k.1 h.0, distinct_all zs k.1 h.1)

-- ---- an update

ok_is : {X E : Type 0} (x y : X) → ◌≡◌ {A = Result X E} (Ok x) (Ok y) → x ≡ y
ok_is x y e = cc

module _ (identity : (a b : Record RData) → IsTrue (same_record a b) ↔ SameRecord a b) (f : Bool) (o : DomainName) (rs z v : Records)
    (updates : AllByRecursion (λ r. (r.dns_class == 1) ≡ true → IsWellTyped r) rs) (distinct : AreDistinct z) (typed : AllByRecursion IsWellTyped z) where
  folded_distinct : AreDistinct (after_updates f o z rs)
  folded_distinct = distinct_fold identity o f rs z distinct

  folded_typed : AllByRecursion IsWellTyped (after_updates f o z rs)
  folded_typed = typed_fold identity o f rs z updates typed

  soa_case : (b changed : Bool) → ◌≡◌ {A = Outcome} (cond b (Ok (map (incremented o) (after_updates f o z rs), true)) (Err 2)) (Ok (v, changed)) → AreDistinct v × AllByRecursion IsWellTyped v
  soa_case true changed e =
      let g : map (incremented o) (after_updates f o z rs) ≡ v = ap (λ (p : Records × Bool). p.0) (ok_is _ _ e) in
      (subst AreDistinct g (distinct_all o (after_updates f o z rs) folded_typed folded_distinct), subst (AllByRecursion IsWellTyped) g (typed_all o (after_updates f o z rs) folded_typed))
  soa_case false changed e = absurd (cc)

  change_case : (b changed : Bool) → ◌≡◌ {A = Outcome} (cond b (with_next_serial o (after_updates f o z rs)) (Ok (z, false))) (Ok (v, changed)) → AreDistinct v × AllByRecursion IsWellTyped v
  change_case true changed e = soa_case (list_any (is_apex_soa o) (after_updates f o z rs)) changed e
  change_case false changed e =
      let g : z ≡ v = ap (λ (p : Records × Bool). p.0) (ok_is _ _ e) in (subst AreDistinct g distinct, subst (AllByRecursion IsWellTyped) g typed)

  pub applied_good : (increments changed : Bool) → applied f o z rs increments ≡ Ok (v, changed) → AreDistinct v × AllByRecursion IsWellTyped v
  applied_good true changed e = change_case _ changed e
  applied_good false changed e =
      let g : after_updates f o z rs ≡ v = ap (λ (p : Records × Bool). p.0) (ok_is _ _ e) in (subst AreDistinct g folded_distinct, subst (AllByRecursion IsWellTyped) g folded_typed)

-- ---- records that are accepted

numbers_apart : {P : Type 0} (b : Bool) → b ≡ true → not b ≡ true → P
numbers_apart true e f = absurd (cc)
numbers_apart false e f = absurd (cc)

typed_by : (n : DomainName) (class ttl : ℕ) (p : Proof) (d : RData) → has_zone_data (record { name = n; dns_class = class; ttl = ttl; rdata = d; proof = p }) ≡ true
    → HasSerial (record { name = n; dns_class = class; ttl = ttl; rdata = d; proof = p }) → IsWellTyped (record { name = n; dns_class = class; ttl = ttl; rdata = d; proof = p })
typed_by n class ttl p (rdata.SOA s) h k e = k
typed_by n class ttl p (rdata.A x) h k e = absurd (omega (arith, e))
typed_by n class ttl p (rdata.AAAA x) h k e = absurd (omega (arith, e))
typed_by n class ttl p (rdata.NS x) h k e = absurd (omega (arith, e))
typed_by n class ttl p (rdata.CNAME x) h k e = absurd (omega (arith, e))
typed_by n class ttl p (rdata.PTR x) h k e = absurd (omega (arith, e))
typed_by n class ttl p (rdata.MX x) h k e = absurd (omega (arith, e))
typed_by n class ttl p (rdata.TXT x) h k e = absurd (omega (arith, e))
typed_by n class ttl p (rdata.OPT x) h k e = absurd (omega (arith, e))
typed_by n class ttl p (rdata.TSIG x) h k e = absurd (omega (arith, e))
typed_by n class ttl p (rdata.NULL x) h k e = absurd (omega (arith, e))
typed_by n class ttl p (rdata.Update0 x) h k e = absurd (cc)
typed_by n class ttl p (rdata.Unknown x y) h k e = numbers_apart (x == 6) (eq-eqb x 6 e) h

is_held : (b : Bool) (n : ℕ) → unless b n ≡ None → b ≡ true
is_held true n e = refl
is_held false n e = absurd (cc)

in_zone_case : (b : Bool) (w : Bool) → cond b (unless w 1) (Some 10) ≡ None → w ≡ true
in_zone_case true w e = is_held w 1 e
in_zone_case false w e = absurd (cc)

class_case : (b x y : Bool) → b ≡ true → cond b x y ≡ true → x ≡ true
class_case true x y e h = h
class_case false x y e h = absurd (cc)

second_true : (a b : Bool) → (a && b) ≡ true → b ≡ true
second_true a b h = (both_hold a b h).1

accepted : (o : DomainName) (r : Record RData) → update_refusal o r ≡ None → HasSerial r → (r.dns_class == 1) ≡ true → IsWellTyped r
accepted o r e k h =
    let a : is_addition r ≡ true = class_case (r.dns_class == 1) (is_addition r) _ h (in_zone_case (is_in_zone o r.name) (is_well_formed r) e) in
    typed_by r.name r.dns_class r.ttl r.proof r.rdata (second_true (not (is_query_type (type_of r.rdata))) _ (second_true (not (type_of r.rdata == 255)) _ a)) k

first_none : (a b : Option ℕ) → option_or a b ≡ None → a ≡ None
first_none None b e = refl
first_none (Some x) b e = absurd (cc)

rest_none : (a b : Option ℕ) → option_or a b ≡ None → b ≡ None
rest_none None b e = e
rest_none (Some x) b e = absurd (cc)

pub all_accepted : (o : DomainName) (rs : Records) → prescan_refusal o rs ≡ None → AllByRecursion HasSerial rs → AllByRecursion (λ r. (r.dns_class == 1) ≡ true → IsWellTyped r) rs
all_accepted o [] e k = tt
all_accepted o (r ∷ rs) e k =
    (accepted o r (first_none (update_refusal o r) (prescan_refusal o rs) e) k.0, all_accepted o rs (rest_none (update_refusal o r) (prescan_refusal o rs) e) k.1)

-- ---- the records of a zone

abbrev Sets : Type 0
Sets = List (RrKey × Records)

pub zone_typed : (S : Sets) → IsZone S → AllByRecursion IsWellTyped (zone_records S)
zone_typed [] zone = tt
zone_typed (e ∷ es) zone = both_all e.1 zone.0.typed (zone_typed es zone.1)
  where
    both_all : (xs : Records) → AllByRecursion IsWellTyped xs → AllByRecursion IsWellTyped (zone_records es) → AllByRecursion IsWellTyped (xs ++ zone_records es)
    both_all [] h k = k
    both_all (x ∷ xs) h k = (h.0, both_all xs h.1 k)

pub some_part : {X : Type 0} (o : Option X) (v : X) (P : Type 0) (Q : X → Type 0) → o ≡ Some v → MatchOption o P Q → Q v
some_part o v P Q e h = subst (λ w. MatchOption w P Q) e h
