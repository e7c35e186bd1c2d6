-- An index tells what a zone has of a name whose place has no mark.
use Rattle.std.proofs.Common.{◌≡◌, ◌<◌, ℕ, zero, suc, Bool, true, false, cond, not, List, [], ◌∷◌, take, drop, length, Option, Some, None, refl, sym, ap, subst, ◌∙◌, arith}
use Rattle.std.specs.Prelude.{is_some, slice_get, slice_index_or}
use Rattle.std.specs.List.{AllByRecursion}
use Rattle.std.specs.List.Sorted.{IsStrictlySortedBy}
use Rattle.std.specs.Map.{keys_of, lookup}
use Rattle.std.specs.Option.{option_map}
use Rattle.std.specs.BTreeMap.{is_at}
use Rattle.std.specs.BTreeMap.Range.{IsLeBy, entries_between, range_contains}
use Rattle.std.specs.Cmp.{tied_itself, upto}
use Rattle.std.specs.declared.cmp.Ordering.{Ordering}
use Rattle.std.specs.declared.cmp.Ordering.TheVariants.{Less, Equal, Greater}
use Rattle.std.specs.declared.ops.Bound.TheVariants.{Included, Unbounded}
use Rattle.std.specs.Ordering.{is_eq, is_gt, ordering_reverse}
use Rattle.std.proofs.lemmas.List.Kept.{IsStrictlySortedBy-filter}
use Rattle.wire_names.specs.rr.domain.DomainName.{DomainName}
use Rattle.wire_names.specs.rr.domain.NameOrder.{name_cmp, name_cmp_total}
use Rattle.wire_messages.specs.rr.RrKeys.{key_cmp}
use Rattle.wire_messages.specs.declared.rr.rr_key.RrKey.{RrKey}
use Rattle.hickory_base.proofs.lemmas.zone_store.SharedSets.{lookup-shared}
use Rattle.hickory_base.proofs.lemmas.zone_store.ZoneByName.{key_total, keys-shared}
use Rattle.hickory_base.specs.zone_store.ZoneSets.{AreSetsInOrder, is_key, sets_of, shared_sets}
use Rattle.zone_answers.proofs.lemmas.names.EnclosedBetween.{same_of}
use Rattle.zone_answers.proofs.lemmas.zones.Nodes.{first_met, key_or}
use Rattle.zone_answers.proofs.lemmas.zones.Owners.{IsHeld, first_up_to, names_up_to}
use Rattle.zone_answers.proofs.lemmas.zones.Ranges.{all_from, held_there, is_range, keys_there, le_of, least, of_le}
use Rattle.zone_answers.proofs.lemmas.zones.Searches.{AreBelow, AreFrom, all_behind, found_place}
use Rattle.zone_answers.specs.representation.Indexes.{IndexedSets, IsIndexOf, IsPlaceOf, IsUnmarked}
use Rattle.zone_answers.specs.representation.KeysBeside.{Entry, HaveOneName, IsFirst, SharedMap, StandsBehind}
use Rattle.zone_answers.specs.Zones.{rrset}

-- ---- what stands first from a key on

module _ (first : RrKey) where
  head_from : (es : List Entry) (e : Entry) (rest : List Entry) → e ∷ rest ≡ entries_between key_cmp (Included first) Unbounded es → IsLeBy key_cmp first e.0
  head_from es e rest is = (subst (AllByRecursion (λ (x : Entry). IsLeBy key_cmp first x.0)) (sym is) (all_from key_total first es)).0

  head_held : (es : List Entry) (e : Entry) (rest : List Entry) → e ∷ rest ≡ entries_between key_cmp (Included first) Unbounded es → IsHeld es e.0
  head_held es e rest is =
      ap is_some (sym (held_there key_total first e.0 es (head_from es e rest is)))
      ∙ ap (λ (xs : List Entry). is_some (lookup (is_at (key_cmp e.0)) xs)) (sym is)
      ∙ ap (λ o. is_some (cond (is_eq o) (Some e.1) (lookup (is_at (key_cmp e.0)) rest))) (tied_itself key_total e.0)

  held_in : (q : RrKey) (es range : List Entry) → range ≡ entries_between key_cmp (Included first) Unbounded es → IsLeBy key_cmp first q → IsHeld es q → IsHeld range q
  held_in q es range is from held = ap (λ (xs : List Entry). is_some (lookup (is_at (key_cmp q)) xs)) is ∙ ap is_some (held_there key_total first q es from) ∙ held

  none_held : (q : RrKey) (es : List Entry) → [] ≡ entries_between key_cmp (Included first) Unbounded es → IsLeBy key_cmp first q → IsHeld es q → ⊥
  none_held q es is from held = let no : false ≡ true = held_in q es [] is from held in cc

  in_order : (es range : List Entry) → range ≡ entries_between key_cmp (Included first) Unbounded es → IsStrictlySortedBy key_cmp (keys_of es) → IsStrictlySortedBy key_cmp (keys_of range)
  in_order es range is sorted =
      subst (IsStrictlySortedBy key_cmp) (sym (ap keys_of is ∙ keys_there key_total first es)) (IsStrictlySortedBy-filter key_cmp (λ k. range_contains key_cmp (Included first) Unbounded k) (keys_of es) sorted)

  head_least : (q : RrKey) (es : List Entry) (e : Entry) (rest : List Entry) → e ∷ rest ≡ entries_between key_cmp (Included first) Unbounded es → IsStrictlySortedBy key_cmp (keys_of es)
      → IsLeBy key_cmp first q → IsHeld es q → IsLeBy key_cmp e.0 q
  head_least q es e rest is sorted from held = least key_total q (e ∷ rest) (in_order es (e ∷ rest) is sorted) (held_in q es (e ∷ rest) is from held)

-- ---- places

map_all : {X : Type 0} (P Q : X → Type 0) → ((x : X) → P x → Q x) → (xs : List X) → AllByRecursion P xs → AllByRecursion Q xs
map_all P Q h [] all = tt
map_all P Q h (x ∷ xs) all = (h x all.0, map_all P Q h xs all.1)

below_step : (first key k : RrKey) (b : Bool) → range_contains key_cmp (Included key) Unbounded k ≡ b → IsLeBy key_cmp first key → range_contains key_cmp (Included first) Unbounded k ≡ false → b ≡ false
below_step first key k true is from below =
    let up : range_contains key_cmp (Included first) Unbounded k ≡ true = of_le (key_cmp first k) (upto key_total first key k from (le_of (key_cmp key k) is)) in
    let no : true ≡ false = sym up ∙ below in no
below_step first key k false is from below = refl

abbrev pub nameless : DomainName → RrKey
nameless name = record { name = name; record_type = 0 }

-- what is between a key and the first key from it on has the same place
module _ (first : RrKey) (es : List Entry) (place : ℕ) (at : IsPlaceOf first es place) where
  rest_is : drop place es ≡ entries_between key_cmp (Included first) Unbounded es
  rest_is = found_place key_total first es place at.before at.behind

  lower : (key : RrKey) → IsLeBy key_cmp first key → AreBelow key_cmp key (take place es)
  lower key from = map_all (λ (e : Entry). range_contains key_cmp (Included first) Unbounded e.0 ≡ false) (λ e. range_contains key_cmp (Included key) Unbounded e.0 ≡ false) (λ e below. below_step first key e.0 (range_contains key_cmp (Included key) Unbounded e.0) refl from below) (take place es) at.before

  pub place_before_none : (key : RrKey) → IsLeBy key_cmp first key → [] ≡ entries_between key_cmp (Included first) Unbounded es → IsPlaceOf key es place
  place_before_none key from none = record { before = lower key from; behind = subst (AreFrom key_cmp key) (none ∙ sym rest_is) tt }

  pub place_before : (key : RrKey) (e : Entry) (rest : List Entry) → IsLeBy key_cmp first key → IsLeBy key_cmp key e.0 → IsStrictlySortedBy key_cmp (keys_of es)
      → e ∷ rest ≡ entries_between key_cmp (Included first) Unbounded es → IsPlaceOf key es place
  unfolding IsStrictlySortedBy
  place_before key e rest from to sorted is =
      let own : range_contains key_cmp (Included key) Unbounded e.0 ≡ true = of_le (key_cmp key e.0) to in
      let ordered : IsStrictlySortedBy key_cmp (keys_of (e ∷ rest)) = in_order first es (e ∷ rest) is sorted in
      record { before = lower key from; behind = subst (AreFrom key_cmp key) (is ∙ sym rest_is) (own, all_behind key_total key e.0 rest own ordered.0) }

-- ---- what is held under a key

some_value : {X Y : Type 0} (f : X → Y) (o : Option X) → is_some (option_map f o) ≡ is_some o
some_value f None = refl
some_value f (Some x) = refl

held_is : (es : List Entry) (q : RrKey) → is_some (rrset (shared_sets es) q.name q.record_type) ≡ is_some (lookup (is_at (key_cmp q)) es)
held_is es q = ap is_some (lookup-shared (is_key q.name q.record_type) es) ∙ some_value (λ s. s.value) (lookup (is_key q.name q.record_type) es)

pub both_up_to : (o p : Ordering) → p ≡ ordering_reverse o → is_gt o ≡ false → is_gt p ≡ false → o ≡ Equal
both_up_to Less p e f g = absurd (let h : is_gt p ≡ true = ap is_gt e in cc)
both_up_to Equal p e f g = refl
both_up_to Greater p e f g = absurd cc

first_is : (es : List Entry) (key : Option RrKey) → IsFirst es key → key ≡ key_or None es
first_is [] None h = refl
first_is (e ∷ es) None h = absurd cc
first_is [] (Some key) h = absurd (let no : [] ≡ (key, h.0) ∷ h.1 = h.2 in cc)
first_is (e ∷ es) (Some key) h = let is : e ∷ es ≡ (key, h.0) ∷ h.1 = h.2 in let same : e ≡ (key, h.0) = cc in sym (ap (λ (x : Entry). Some x.0) same)

module _ (first : RrKey) (least : first.record_type ≡ 0) (es ms : List Entry) (place : ℕ) (at : IsPlaceOf first es place) (sorted : IsStrictlySortedBy key_cmp (keys_of es)) (ordered : IsStrictlySortedBy key_cmp (keys_of ms))
    (still : (q : RrKey) → IsPlaceOf (nameless q.name) es place → rrset (shared_sets ms) q.name q.record_type ≡ rrset (shared_sets es) q.name q.record_type) where
  from_name : (q : RrKey) → IsLeBy key_cmp first q → IsLeBy key_cmp first (nameless q.name)
  from_name q from = first_up_to first (nameless q.name) least (names_up_to first q from)

  to_name : (q k : RrKey) → IsLeBy key_cmp q k → IsLeBy key_cmp (nameless q.name) k
  to_name q k to = first_up_to (nameless q.name) k refl (names_up_to q k to)

  itself : (q : RrKey) → IsLeBy key_cmp q q
  itself q = ap is_gt (tied_itself key_total q)

  held_too : (q : RrKey) → IsPlaceOf (nameless q.name) es place → IsHeld ms q → IsHeld es q
  held_too q is held = sym (held_is es q) ∙ ap is_some (sym (still q is)) ∙ held_is ms q ∙ held

  held_still : (q : RrKey) → IsPlaceOf (nameless q.name) es place → IsHeld es q → IsHeld ms q
  held_still q is held = sym (held_is ms q) ∙ ap is_some (still q is) ∙ held_is es q ∙ held

  -- the first keys from the key on have one name
  one_name : (range now : List Entry) → range ≡ entries_between key_cmp (Included first) Unbounded es → now ≡ entries_between key_cmp (Included first) Unbounded ms → HaveOneName (key_or None range) (key_or None now)
  one_name [] [] is was = tt
  one_name [] (f ∷ now) is was =
      let from : IsLeBy key_cmp first f.0 = head_from first ms f now was in
      absurd (none_held first f.0 es is from (held_too f.0 (place_before_none first es place at (nameless f.0.name) (from_name f.0 from) is) (head_held first ms f now was)))
  one_name (k ∷ range) [] is was =
      let from : IsLeBy key_cmp first k.0 = head_from first es k range is in
      absurd (none_held first k.0 ms was from (held_still k.0 (place_before first es place at (nameless k.0.name) k range (from_name k.0 from) (to_name k.0 k.0 (itself k.0)) sorted is) (head_held first es k range is)))
  one_name (k ∷ range) (f ∷ now) is was =
      let from : IsLeBy key_cmp first k.0 = head_from first es k range is in
      let from_f : IsLeBy key_cmp first f.0 = head_from first ms f now was in
      let held : IsHeld ms k.0 = held_still k.0 (place_before first es place at (nameless k.0.name) k range (from_name k.0 from) (to_name k.0 k.0 (itself k.0)) sorted is) (head_held first es k range is) in
      let low : IsLeBy key_cmp f.0 k.0 = head_least first k.0 ms f now was ordered from held in
      let held_f : IsHeld es f.0 = held_too f.0 (place_before first es place at (nameless f.0.name) k range (from_name f.0 from_f) (to_name f.0 k.0 low) sorted is) (head_held first ms f now was) in
      let high : IsLeBy key_cmp k.0 f.0 = head_least first f.0 es k range is sorted from_f held_f in
      same_of k.0.name f.0.name (both_up_to (name_cmp k.0.name f.0.name) (name_cmp f.0.name k.0.name) (name_cmp_total.antisymm f.0.name k.0.name) (names_up_to k.0 f.0 high) (names_up_to f.0 k.0 low))

-- what is the first key of an index from an unmarked name on has the name of the first key of the zone
pub behind_in : (index : IndexedSets) (first : RrKey) (range : List Entry) (key : Option RrKey) → first.record_type ≡ 0 → IsStrictlySortedBy key_cmp (keys_of index.entries)
    → range ≡ entries_between key_cmp (Included first) Unbounded index.entries → IsFirst range key → IsUnmarked index first
    → (origin : DomainName) (sets : SharedMap) → IsIndexOf origin (sets_of sets) index → AreSetsInOrder (sets_of sets) → StandsBehind sets first key
behind_in index first range key least sorted is met clear origin sets of in_order =
    let ordered : IsStrictlySortedBy key_cmp (keys_of sets.entries) = subst (IsStrictlySortedBy key_cmp) (keys-shared sets.entries) in_order in
    let part = entries_between key_cmp (Included first) Unbounded sets.entries in
    let still = λ (q : RrKey) (at : IsPlaceOf (nameless q.name) index.entries clear.place). of.unmarked q.name q.record_type refl (record { place = clear.place; is = at; within = clear.within; unmarked = clear.unmarked }) in
    record {
      ordered = ordered;
      range = part;
      whole = refl;
      of = is_range key_total first sets ordered part refl;
      own = key_or None part;
      least = first_met part;
      same = subst (λ o. HaveOneName o (key_or None part)) (sym (first_is range key met)) (one_name first least index.entries sets.entries clear.place clear.is sorted ordered still range part is refl);
    }

-- what is asked for of an unmarked name
pub still_has : (index : IndexedSets) (first : RrKey) (t : ℕ) → first.record_type ≡ 0 → IsUnmarked index first → (origin : DomainName) (sets : SharedMap) → IsIndexOf origin (sets_of sets) index
    → rrset (sets_of sets) first.name t ≡ rrset (shared_sets index.entries) first.name t
still_has index first t least clear origin sets of =
    let own : first ≡ nameless first.name = ap (λ n. record { name = first.name; record_type = n }) least in
    of.unmarked first.name t refl (subst (IsUnmarked index) own clear)

-- a place without a mark
pub clear_at : (marks : List Bool) (i : ℕ) → i < length marks → not (slice_index_or marks i false) ≡ true → slice_get marks i ≡ Some false
clear_at [] i h clear = absurd (omega arith)
clear_at (true ∷ marks) zero h clear = absurd cc
clear_at (false ∷ marks) zero h clear = refl
clear_at (m ∷ marks) (suc i) h clear = clear_at marks i (omega arith) clear

-- what is in a front of entries is in them
pub taken : (es : List Entry) (n place : ℕ) (e : Entry) → slice_get (take n es) place ≡ Some e → slice_get es place ≡ Some e
taken [] zero place e there = there
taken [] (suc n) place e there = there
taken (x ∷ es) zero place e there = absurd cc
taken (x ∷ es) (suc n) zero e there = there
taken (x ∷ es) (suc n) (suc place) e there = taken es n place e there
