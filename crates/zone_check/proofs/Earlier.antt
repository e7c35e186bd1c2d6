-- For each record the last one before it of its name and type, and walks along these.
use Rattle.std.proofs.Common.{◌≡◌, ◌==◌, ◌&&◌, ◌<◌, ◌≤◌, ◌+◌, ◌++◌, ◌⊎◌, inl, inr, ℕ, Bool, true, false, cond, List, [], ◌∷◌, length, length-append, suc, zero, get_or, refl, sym, ap, ◌∙◌, subst, arith, add-one, Option, Some, None}
use Rattle.std.proofs.lemmas.Bool.{and_from, eq-eqb, eqb-true, false≢true}
use Rattle.std.proofs.lemmas.Bool.Decides.{nat_tests}
use Rattle.std.proofs.lemmas.Option.{slice_get-get_or, slice_get_cases}
use Rattle.std.specs.List.{slice_get}
use Rattle.std.specs.Option.{option_map_or}
use Rattle.std.specs.BTreeMap.{BTreeMap, Updates, get}
use Rattle.wire_messages.specs.rr.RecordData.{type_of}
use Rattle.wire_messages.specs.rr.RecordSameness.{SameData, SameRecord, lower_data}
use Rattle.wire_messages.specs.rr.RrKeys.{key_cmp}
use Rattle.wire_messages.specs.declared.rr.rdata.RData.{RData}
use Rattle.wire_messages.specs.declared.rr.rdata.RData.TheVariants as rdata
use Rattle.wire_messages.specs.declared.rr.record.Record.{Record}
use Rattle.wire_messages.specs.declared.rr.rr_key.RrKey.{RrKey}
use Rattle.wire_names.proofs.lemmas.rr.domain.SameNames.{eq_from_same, lower_same}
use Rattle.wire_names.specs.rr.domain.DomainName.{DomainName}
use Rattle.wire_names.specs.representation.NameHash.{same_from_eq}
use Rattle.wire_names.specs.rr.domain.NameOrder.{SameName, lower_name, name_eq}
use Rattle.zone_check.specs.CheckedZones.{Records, is_of}
use Rattle.zone_check.specs.Findings.{IsRepeated}
use Rattle.zone_check.specs.Indexes.{HasEarlier, HasEarlierTo, HasLasts, earlier_of, last_before, passes_at}
use Rattle.zone_check.proofs.Lookups.{key_is}

-- what is found in a list is found where more stands behind
got_front : {A : Type 0} (xs ys : List A) (k : ℕ) (x : A) → slice_get xs k ≡ Some x → slice_get (xs ++ ys) k ≡ Some x
got_front [] ys k x e = absurd (cc)
got_front (y ∷ xs) ys zero x e = e
got_front (y ∷ xs) ys (suc k) x e = got_front xs ys k x e

got_last : {A : Type 0} (xs : List A) (x : A) → slice_get (xs ++ x ∷ []) (length xs) ≡ Some x
got_last [] x = refl
got_last (y ∷ xs) x = got_last xs x

below_or_same : (a b : ℕ) → a < suc b → (a < b) ⊎ (a ≡ b)
below_or_same a b within = grind (arith, nat_tests)

-- the key of a record
abbrev pub key : Record RData → RrKey
key r = record { name = lower_name r.name; record_type = type_of r.rdata }

-- the test of what is of a record's name and type
abbrev pub like : Record RData → Record RData → Bool
like r = is_of (lower_name r.name) (type_of r.rdata)

module _ (records : Records) (place : ℕ) (r : Record RData) (there : slice_get records place ≡ Some r) where
  one_more : (test : Record RData → Bool) → last_before records test (place + 1) ≡ cond (test r) (Some place) (last_before records test place)
  one_more test = ap (last_before records test) (add-one place) ∙ ap (λ o. cond (option_map_or test o false) (Some place) (last_before records test place)) there

  pub one_more_last : (old new : BTreeMap RrKey ℕ) → Updates key_cmp old new (key r) (Some place) → HasLasts records place old → HasLasts records (place + 1) new
  one_more_last old new updates kept q =
      updates.0 q ∙ ap (λ b. cond b (Some place) (get key_cmp old q)) (key_is r q) ∙ ap (λ o. cond (is_of q.name q.record_type r) (Some place) o) (kept q) ∙ sym (one_more (is_of q.name q.record_type))

  pub one_more_earlier : (earlier : List (Option ℕ)) (last : Option ℕ) → last ≡ earlier_of records place r → HasEarlierTo records place earlier → HasEarlierTo records (place + 1) (earlier ++ last ∷ [])
  one_more_earlier earlier last is kept = record {
    size = length-append earlier (last ∷ []) ∙ ap (λ n. n + 1) kept.size;
    each = λ p q within at. by_place p q at (below_or_same p place (subst (λ (n : ℕ). p < n) (add-one place) within));
  } where
    by_place : (p : ℕ) (q : Record RData) → slice_get records p ≡ Some q → (p < place) ⊎ (p ≡ place) → slice_get (earlier ++ last ∷ []) p ≡ Some (earlier_of records p q)
    by_place p q at (inl below) = got_front earlier (last ∷ []) p (earlier_of records p q) (kept.each p q below at)
    by_place p q at (inr same) =
        let one : r ≡ q = cc in
        subst (λ (k : ℕ). slice_get (earlier ++ last ∷ []) k ≡ Some (earlier_of records k q)) (sym same)
        (ap (slice_get (earlier ++ last ∷ [])) (sym kept.size) ∙ got_last earlier last ∙ ap Some (is ∙ ap (earlier_of records place) one))

-- what the last place before another is
pub record IsLast (records : Records) (test : Record RData → Bool) (end place : ℕ) : Type 0 where
  pub below : place < end
  pub passes : passes_at records test place ≡ true
  pub none : (k : ℕ) → place < k → k < end → passes_at records test k ≡ false

module _ (records : Records) (test : Record RData → Bool) where
  last_by : (end place : ℕ) → ((before : ℕ) → last_before records test end ≡ Some before → IsLast records test end before) → (b : Bool) → passes_at records test end ≡ b
      → cond b (Some end) (last_before records test end) ≡ Some place → IsLast records test (suc end) place
  last_by end place so_far true passes is =
      let same : end ≡ place = cc in
      record { below = omega arith; passes = subst (λ (k : ℕ). passes_at records test k ≡ true) same passes; none = λ k above within. absurd (omega arith) }
  last_by end place so_far false fails is =
      let before : IsLast records test end place = so_far place is in
      let below : place < end = before.below in
      record {
        below = omega arith;
        passes = before.passes;
        none = λ k above within. elim (below_or_same k end within) [ inl low ↦ before.none k above low | inr same ↦ subst (λ (n : ℕ). passes_at records test n ≡ false) (sym same) fails ];
      }

  pub last_is : (end place : ℕ) → last_before records test end ≡ Some place → IsLast records test end place
  last_is zero place e = absurd (cc)
  last_is (suc end) place e = last_by end place (λ before is. last_is end before is) (passes_at records test end) refl e

  none_by : (end k : ℕ) → (last_before records test end ≡ None → k < end → passes_at records test k ≡ false) → (b : Bool) → passes_at records test end ≡ b
      → cond b (Some end) (last_before records test end) ≡ None → k < suc end → passes_at records test k ≡ false
  none_by end k so_far true passes is within = absurd (cc)
  none_by end k so_far false fails is within = elim (below_or_same k end within) [ inl low ↦ so_far is low | inr same ↦ subst (λ (n : ℕ). passes_at records test n ≡ false) (sym same) fails ]

  pub none_last : (end k : ℕ) → last_before records test end ≡ None → k < end → passes_at records test k ≡ false
  none_last zero k e within = absurd (omega arith)
  none_last (suc end) k e within = none_by end k (λ is low. none_last end k is low) (passes_at records test end) refl e within

-- data that are the same are of one type
type_lowered : (d : RData) → type_of (lower_data d) ≡ type_of d
type_lowered (rdata.A a) = refl
type_lowered (rdata.AAAA a) = refl
type_lowered (rdata.NS name) = refl
type_lowered (rdata.CNAME name) = refl
type_lowered (rdata.PTR name) = refl
type_lowered (rdata.MX mx) = refl
type_lowered (rdata.SOA soa) = refl
type_lowered (rdata.TXT strings) = refl
type_lowered (rdata.OPT options) = refl
type_lowered (rdata.TSIG signature) = refl
type_lowered (rdata.NULL octets) = refl
type_lowered (rdata.Update0 code) = refl
type_lowered (rdata.Unknown code octets) = refl

one_type : (a b : RData) → SameData a b → type_of a ≡ type_of b
one_type a b same = sym (type_lowered a) ∙ ap type_of same ∙ type_lowered b

turned : (a b : DomainName) → SameName a b → SameName b a
turned a b s = record { labels = sym s.labels; marks = sym s.marks }

joined : (a b c : DomainName) → SameName a b → SameName b c → SameName a c
joined a b c s t = record { labels = s.labels ∙ t.labels; marks = s.marks ∙ t.marks }

-- The records are of one name and type.
pub record IsAlike (q r : Record RData) : Type 0 where
  pub name : SameName q.name r.name
  pub type : type_of q.rdata ≡ type_of r.rdata

alike_of : (q r : Record RData) → like r q ≡ true → IsAlike q r
alike_of q r passes =
    let both = and_true_parts (name_eq q.name (lower_name r.name)) (type_of q.rdata == type_of r.rdata) passes in
    record { name = joined q.name (lower_name r.name) r.name (same_from_eq q.name (lower_name r.name) both.0) (lower_same r.name); type = eqb-true (type_of q.rdata) (type_of r.rdata) both.1 } where
      and_true_parts : (x y : Bool) → (x && y) ≡ true → (x ≡ true) × (y ≡ true)
      and_true_parts true y e = (refl, e)
      and_true_parts false y e = absurd (false≢true e)

passes_of : (q r : Record RData) → IsAlike q r → like r q ≡ true
passes_of q r alike =
    and_from (name_eq q.name (lower_name r.name)) (type_of q.rdata == type_of r.rdata)
    (eq_from_same q.name (lower_name r.name) (joined q.name r.name (lower_name r.name) alike.name (turned (lower_name r.name) r.name (lower_same r.name))))
    (eq-eqb (type_of q.rdata) (type_of r.rdata) alike.type)

-- From a place on, which has a record of the same name and type, no record before is the same.
pub record Walked (records : Records) (place : ℕ) (r : Record RData) (at : ℕ) : Type 0 where
  pub on : at ≤ place
  pub alike : (q : Record RData) → slice_get records at ≡ Some q → IsAlike q r
  pub none : (k : ℕ) (q : Record RData) → at ≤ k → k < place → slice_get records k ≡ Some q → ¬ (SameRecord q r)

pub begun : (records : Records) (place : ℕ) (r : Record RData) → slice_get records place ≡ Some r → Walked records place r place
begun records place r there = record {
  on = omega arith;
  alike = λ q at. let one : q ≡ r = cc in subst (λ (x : Record RData). IsAlike x r) (sym one) (record { name = record { labels = refl; marks = refl }; type = refl });
  none = λ k q from within. absurd (omega arith);
}

module _ (records : Records) (earlier : List (Option ℕ)) (has : HasEarlier records earlier) (place : ℕ) (r : Record RData) (at : ℕ) (walked : Walked records place r at) (q : Record RData) (is : slice_get records at ≡ Some q) where
  before_of : (before : ℕ) → slice_get earlier at ≡ Some (Some before) → at < length records → IsLast records (like q) at before
  before_of before e within =
      let known : slice_get earlier at ≡ Some (earlier_of records at q) = has.each at q within is in
      let last : last_before records (like q) at ≡ Some before = cc in
      last_is records (like q) at before last

  -- what is the same as the record is of its name and type, and so of those of the one here
  passes : (k : ℕ) (other : Record RData) → slice_get records k ≡ Some other → SameRecord other r → passes_at records (like q) k ≡ true
  passes k other there_is same =
      let here : IsAlike q r = walked.alike q is in
      let alike : IsAlike other q = record {
        name = joined other.name r.name q.name same.name (turned q.name r.name here.name);
        type = one_type other.rdata r.rdata same.rdata ∙ sym here.type;
      } in
      ap (λ o. option_map_or (like q) o false) there_is ∙ passes_of other q alike

  pub next : (before : ℕ) (other : Record RData) → at < length records → slice_get earlier at ≡ Some (Some before) → slice_get records before ≡ Some other → ¬ (SameRecord other r) → Walked records place r before
  next before other within e there_is differs =
      let last : IsLast records (like q) at before = before_of before e within in
      let below : before < at = last.below in
      let on : at ≤ place = walked.on in
      record {
        on = omega arith;
        alike = λ x x_is.
            let one : x ≡ other = cc in
            let passing : like q other ≡ true = sym (ap (λ o. option_map_or (like q) o false) there_is) ∙ last.passes in
            let first : IsAlike other q = alike_of other q passing in
            let here : IsAlike q r = walked.alike q is in
            subst (λ (y : Record RData). IsAlike y r) (sym one) (record { name = joined other.name q.name r.name first.name here.name; type = first.type ∙ here.type });
        none = λ k x from up_to x_is same. by_place k x x_is same up_to (below_or_same before k (omega arith)) (cases k);
      } where
        cases : (k : ℕ) → (k < at) ⊎ (at ≤ k)
        cases k = grind (arith, nat_tests)

        by_place : (k : ℕ) (x : Record RData) → slice_get records k ≡ Some x → SameRecord x r → k < place → (before < k) ⊎ (before ≡ k) → (k < at) ⊎ (at ≤ k) → ⊥
        by_place k x x_is same up_to first (inr high) = walked.none k x high up_to x_is same
        by_place k x x_is same up_to (inr here) low =
            let one : x ≡ other = cc in
            differs (subst (λ (y : Record RData). SameRecord y r) one same)
        by_place k x x_is same up_to (inl above) (inl low) = false≢true (sym ((before_of before e within).none k above low) ∙ passes k x x_is same)

  pub found : (before : ℕ) (other : Record RData) → at < length records → slice_get earlier at ≡ Some (Some before) → slice_get records before ≡ Some other → SameRecord other r → IsRepeated records place r
  found before other within e there_is same =
      let last : IsLast records (like q) at before = before_of before e within in
      let below : before < at = last.below in
      let on : at ≤ place = walked.on in
      record { before = before; other = other; on = omega arith; there = there_is; same = same }

  pub nowhere : at < length records → slice_get earlier at ≡ Some None → ¬ (IsRepeated records place r)
  nowhere within e repeated = by_place (cases repeated.before) where
    cases : (k : ℕ) → (k < at) ⊎ (at ≤ k)
    cases k = grind (arith, nat_tests)

    ended : last_before records (like q) at ≡ None
    ended = let known : slice_get earlier at ≡ Some (earlier_of records at q) = has.each at q within is in cc

    by_place : (repeated.before < at) ⊎ (at ≤ repeated.before) → ⊥
    by_place (inr high) = walked.none repeated.before repeated.other high repeated.on repeated.there repeated.same
    by_place (inl low) = false≢true (sym (none_last records (like q) at repeated.before ended low) ∙ passes repeated.before repeated.other repeated.there repeated.same)

module _ (records : Records) (earlier : List (Option ℕ)) (has : HasEarlier records earlier) (at : ℕ) (within : at < length records) where
  pub known : slice_get earlier at ≡ Some (get_or earlier at None)
  known = let inside : at < length earlier = omega (arith, has.size) in slice_get-get_or earlier at None inside

  pub below_here : (before : ℕ) → get_or earlier at None ≡ Some before → before < at
  below_here before is = elim ((slice_get_cases records at).1) [ inl (q, inside, at_q, got) ↦ (last_is records (like q) at before (by_record q at_q)).below | inr (past, none) ↦ absurd (omega arith) ] where
    by_record : (q : Record RData) → slice_get records at ≡ Some q → last_before records (like q) at ≡ Some before
    by_record q at_q = let told : slice_get earlier at ≡ Some (earlier_of records at q) = has.each at q within at_q in cc (known, is)

pub none_of : (o : Option ℕ) → ((place : ℕ) → ¬ (o ≡ Some place)) → o ≡ None
none_of None not = refl
none_of (Some place) not = absurd (not place refl)
