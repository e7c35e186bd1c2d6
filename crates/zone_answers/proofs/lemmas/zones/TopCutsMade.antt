-- The topmost cuts are told by one walk over the sets in the order of their keys.
use Rattle.std.proofs.Common.{◌≡◌, ◌⊎◌, ℕ, zero, suc, ◌-◌, ◌<◌, Bool, true, false, cond, ◌&&◌, List, [], ◌∷◌, ◌++◌, length, Option, Some, None, inl, inr, refl, sym, ap, subst, ◌∙◌, arith, append_assoc}
use Rattle.std.specs.Prelude.{◌==◌, is_some, slice_get}
use Rattle.std.specs.List.{All, AllByRecursion, Contains}
use Rattle.std.specs.List.Sorted.{IsStrictlySortedBy}
use Rattle.std.specs.Map.{keys_of}
use Rattle.std.specs.Option.{IsSomeAnd}
use Rattle.std.specs.BTreeMap.Range.{IsLeBy}
use Rattle.std.specs.Cmp.{tied_itself}
use Rattle.std.specs.Ordering.{is_eq, nat_cmp, ordering_reverse}
use Rattle.std.specs.declared.cmp.Ordering.{Ordering}
use Rattle.std.specs.declared.cmp.Ordering.TheVariants.{Less}
use Rattle.std.proofs.lemmas.Bool.Decides.{nat_tests}
use Rattle.std.proofs.lemmas.List.{append-nil, length-map}
use Rattle.std.proofs.lemmas.List.Elements.{All-contains, All-nil, All-push, recursion_from_All, Contains-append_left, Contains-push, Contains-push_cases}
use Rattle.wire_names.specs.rr.domain.DomainName.{DomainName}
use Rattle.wire_names.specs.representation.NameHash.{same_from_eq}
use Rattle.wire_names.specs.rr.domain.NameOrder.{Encloses, SameName, lower_label, lower_labels, name_cmp}
use Rattle.wire_messages.specs.declared.rr.rr_key.RrKey.{RrKey}
use Rattle.wire_messages.specs.rr.RrKeys.{key_cmp}
use Rattle.hickory_base.proofs.lemmas.zone_store.ZoneByName.{eq_numbers, eq_then, key_total, keys-shared}
use Rattle.hickory_base.specs.zone_store.ZoneSets.{is_key, shared_sets}
use Rattle.zone_answers.proofs.lemmas.names.EnclosedBetween.{between, encloses_up_to}
use Rattle.zone_answers.proofs.lemmas.zones.Cuts.{below_the_apex, encloses_length}
use Rattle.zone_answers.proofs.lemmas.zones.Owners.{names_up_to}
use Rattle.zone_answers.proofs.lemmas.zones.TopCuts.{contained, in_order, key_at, not_gt_of_less, place_of_one, some_same}
use Rattle.zone_answers.specs.representation.KeysBeside.{Entry}
use Rattle.zone_answers.specs.representation.TopCuts.{AreApart, AreTopCuts, IsBelowOne, IsPassedOver, IsPut, IsSetOfCut}
use Rattle.zone_answers.specs.Zones.{AreOwners, IsCut, IsOwner, Records, Zone, rrset}

module _ {K : Type 0} where
  next_of : (P : K → Type 0) (ks : List K) (k : K) (rest : List K) → AllByRecursion P (ks ++ k ∷ rest) → P k
  next_of P [] k rest all = all.0
  next_of P (q ∷ ks) k rest all = next_of P ks k rest all.1

  rest_of : (P : K → Type 0) (ks : List K) (k : K) (rest : List K) → AllByRecursion P (ks ++ k ∷ rest) → AllByRecursion P (ks ++ rest)
  rest_of P [] k rest all = all.1
  rest_of P (q ∷ ks) k rest all = (all.0, rest_of P ks k rest all.1)

  module _ (R : K → K → Ordering) where
    front_of : (ks rest : List K) → IsStrictlySortedBy R (ks ++ rest) → IsStrictlySortedBy R ks
    unfolding IsStrictlySortedBy
    front_of [] rest sorted = tt
    front_of (k ∷ ks) rest sorted = (fronts (λ q. R k q ≡ Less) ks rest sorted.0, front_of ks rest sorted.1)
      where
        fronts : (P : K → Type 0) (ks rest : List K) → AllByRecursion P (ks ++ rest) → AllByRecursion P ks
        fronts P [] rest all = tt
        fronts P (q ∷ ks) rest all = (all.0, fronts P ks rest all.1)

    all_before : (ks : List K) (k : K) (rest : List K) → IsStrictlySortedBy R (ks ++ k ∷ rest) → AllByRecursion (λ q. R q k ≡ Less) ks
    unfolding IsStrictlySortedBy
    all_before [] k rest sorted = tt
    all_before (q ∷ ks) k rest sorted = (next_of (λ y. R q y ≡ Less) ks k rest sorted.0, all_before ks k rest sorted.1)

    without : (ks : List K) (k : K) (rest : List K) → IsStrictlySortedBy R (ks ++ k ∷ rest) → IsStrictlySortedBy R (ks ++ rest)
    unfolding IsStrictlySortedBy
    without [] k rest sorted = sorted.1
    without (q ∷ ks) k rest sorted = (rest_of (λ y. R q y ≡ Less) ks k rest sorted.0, without ks k rest sorted.1)

keys_push : (es : List Entry) (e : Entry) → keys_of (es ++ e ∷ []) ≡ keys_of es ++ e.0 ∷ []
keys_push [] e = refl
keys_push (x ∷ es) e = ap (λ ks. x.0 ∷ ks) (keys_push es e)

-- a set lies under its own key
pub own_set : (es : List Entry) (i : ℕ) (e : Entry) → IsStrictlySortedBy key_cmp (keys_of es) → slice_get es i ≡ Some e → rrset (shared_sets es) e.0.name e.0.record_type ≡ Some e.1.value
unfolding IsStrictlySortedBy
own_set [] i e sorted is = absurd cc
own_set (x ∷ es) zero e sorted is =
    subst (λ (y : Entry). rrset (shared_sets (y ∷ es)) e.0.name e.0.record_type ≡ Some e.1.value) (sym (some_same is))
    (ap (λ o. cond (is_eq o) (Some e.1.value) (rrset (shared_sets es) e.0.name e.0.record_type)) (tied_itself key_total e.0))
own_set (x ∷ es) (suc i) e sorted is =
    let less : key_cmp x.0 e.0 ≡ Less = key_at (λ y. key_cmp x.0 y ≡ Less) es i e sorted.0 is in
    ap (λ o. cond (is_eq o) (Some x.1.value) (rrset (shared_sets es) e.0.name e.0.record_type)) (key_total.antisymm e.0 x.0 ∙ ap ordering_reverse less) ∙ own_set es i e sorted.1 is

pub owner_at : (origin : DomainName) (es : List Entry) (i : ℕ) (e : Entry) → AreOwners origin (shared_sets es) → slice_get es i ≡ Some e → IsOwner origin e.0
owner_at origin es i e all is = key_at (IsOwner origin) es i e (recursion_from_All (IsOwner origin) (keys_of es) (subst (All (IsOwner origin)) (keys-shared es) all)) is

both : (a b : Bool) → (a && b) ≡ true → (a ≡ true) × (b ≡ true)
both true b h = (refl, h)
both false b h = absurd cc

module _ (name : DomainName) (t : ℕ) (key : RrKey) (is : is_key name t key ≡ true) where
  parts : (is_eq (name_cmp name key.name) ≡ true) × ((t == key.record_type) ≡ true)
  parts = both _ _ (sym (eq_then (name_cmp name key.name) (nat_cmp t key.record_type) ∙ ap (λ b. is_eq (name_cmp name key.name) && b) (eq_numbers t key.record_type)) ∙ is)

  pub same_name : SameName name key.name
  same_name = same_from_eq name key.name parts.0

  same_type : key.record_type ≡ t
  same_type = let e : (t == key.record_type) ≡ true = parts.1 in grind (arith, nat_tests, e)

some_there : {X : Type 0} (o : Option X) (P : X → Type 0) → IsSomeAnd o P → (x : X) × (o ≡ Some x) × P x
some_there None P h = absurd h
some_there (Some x) P h = (x, refl, h)

at_some : {X : Type 0} (o : Option X) (x : X) (P : X → Type 0) → o ≡ Some x → P x → IsSomeAnd o P
at_some None x P is h = absurd cc
at_some (Some y) x P is h = let e : x ≡ y = cc in subst P e h

by_first : (P : Type 0) (b : Bool) (x : Records) (o : Option Records) → (b ≡ true → P) → is_some (cond b (Some x) o) ≡ true → P ⊎ (is_some o ≡ true)
by_first P true x o f h = inl (f refl)
by_first P false x o f h = inr h

-- What is known once the sets before these were looked at: a cut is below one of the topmost so far, or is still to
-- come.
pub record AreTopSoFar (zone : Zone) (cuts rest : List Entry) : Type 0 where
  pub each : All (IsSetOfCut zone) cuts
  pub whole : (name : DomainName) → IsCut zone name → IsBelowOne cuts name ⊎ (is_some (rrset (shared_sets rest) name 2) ≡ true)
  pub apart : AreApart cuts
  pub ordered : IsStrictlySortedBy key_cmp (keys_of cuts ++ keys_of rest)

module _ (zone : Zone) where
  pub none_yet : (es : List Entry) → zone.sets ≡ shared_sets es → IsStrictlySortedBy key_cmp (keys_of es) → AreTopSoFar zone [] es
  none_yet es is sorted = record {
    each = All-nil (IsSetOfCut zone);
    whole = λ name c. inr (subst (λ sets. is_some (rrset sets name 2) ≡ true) is c.servers);
    apart = λ one other h k e. let none = h.1 in absurd (omega arith);
    ordered = sorted;
  }

  skipped : (cuts rest : List Entry) (e : Entry) → ((name : DomainName) → IsCut zone name → is_key name 2 e.0 ≡ true → IsBelowOne cuts name) → AreTopSoFar zone cuts (e ∷ rest) → AreTopSoFar zone cuts rest
  skipped cuts rest e below h = record {
    each = h.each;
    whole = λ name c. elim (h.whole name c) [
      | inl b ↦ inl b
      | inr s ↦ by_first (IsBelowOne cuts name) (is_key name 2 e.0) e.1.value (rrset (shared_sets rest) name 2) (λ t. below name c t) s
    ];
    apart = h.apart;
    ordered = without key_cmp (keys_of cuts) e.0 (keys_of rest) h.ordered;
  }

  pub passed_over : (cuts rest : List Entry) (e : Entry) → IsPassedOver zone.origin cuts e.0 → AreTopSoFar zone cuts (e ∷ rest) → AreTopSoFar zone cuts rest
  passed_over cuts rest e over h = skipped cuts rest e (λ name c t. elim over [
    | inl other ↦ absurd (other (same_type name 2 e.0 t))
    | inr more ↦ elim more [
      | inl apex ↦ absurd (omega (
        arith,
        encloses_length e.0.name.labels zone.origin.labels apex,
        c.below_apex,
        ap length (same_name name 2 e.0 t).labels,
        length-map name.labels lower_label,
        length-map e.0.name.labels lower_label,
      ))
      | inr last ↦
          let l = some_there (slice_get cuts (length cuts - 1)) (λ (x : Entry). Encloses x.0.name.labels e.0.name.labels) last in
          record { top = l.0; held = contained cuts (length cuts - 1) l.0 l.1; at_or_below = record { front = l.2.front; ends = (same_name name 2 e.0 t).labels ∙ l.2.ends } }
    ]
  ]) h

  module _ (cuts rest : List Entry) (e kept : Entry) (key : kept.0 ≡ e.0) (value : kept.1.value ≡ e.1.value) (owner : IsOwner zone.origin e.0) (set : rrset zone.sets e.0.name e.0.record_type ≡ Some e.1.value)
      (put : IsPut zone.origin cuts e.0) (h : AreTopSoFar zone cuts (e ∷ rest)) where
    servers : rrset zone.sets e.0.name 2 ≡ Some e.1.value
    servers = ap (rrset zone.sets e.0.name) (sym put.servers) ∙ set

    is_cut : IsCut zone e.0.name
    is_cut = record { within = owner.within; below_apex = (below_the_apex zone.origin.labels e.0.name.labels 0 owner.within put.below_apex).1; servers = ap is_some servers }

    own : IsSetOfCut zone kept
    own = record {
      cut = subst (λ (k : RrKey). IsCut zone k.name) (sym key) is_cut;
      qualified = ap (λ (k : RrKey). k.name.is_fqdn) key ∙ owner.qualified;
      of_type = ap (λ (k : RrKey). k.record_type) key ∙ put.servers;
      servers = ap (λ (k : RrKey). rrset zone.sets k.name 2) key ∙ servers ∙ ap Some (sym value);
    }

    qualified_one : (one : Entry) → Contains cuts one → one.0.name.is_fqdn ≡ true
    qualified_one one held = (All-contains (IsSetOfCut zone) cuts one h.each held).qualified

    earlier : (one : Entry) → Contains cuts one → key_cmp one.0 e.0 ≡ Less
    earlier one held = key_at (λ k. key_cmp k e.0 ≡ Less) cuts held.0 one (all_before key_cmp (keys_of cuts) e.0 (keys_of rest) h.ordered) (place_of_one cuts one held)

    -- none of the cuts before is above it
    none_above : (one : Entry) → Contains cuts one → Encloses one.0.name.labels e.0.name.labels → ⊥
    none_above one held above =
        let some = held.1 in
        let l = last_one cuts (omega arith) in
        let order : IsLeBy key_cmp one.0 l.0.0 = in_order key_total cuts held.0 (length cuts - 1) one l.0 (front_of key_cmp (keys_of cuts) (e.0 ∷ keys_of rest) h.ordered) (omega arith) (place_of_one cuts one held) l.1 in
        let there = contained cuts (length cuts - 1) l.0 l.1 in
        let middle = between one.0.name l.0.0.name e.0.name (names_up_to one.0 l.0.0 order) (names_up_to l.0.0 e.0 (not_gt_of_less (key_cmp l.0.0 e.0) (earlier l.0 there))) above in
        put.apart (at_some (slice_get cuts (length cuts - 1)) l.0 (λ (x : Entry). Encloses x.0.name.labels e.0.name.labels) l.1
        (subst (λ (k : RrKey). Encloses k.name.labels e.0.name.labels) (h.apart one l.0 held there middle) above))
      where
        last_one : (es : List Entry) → 0 < length es → (l : Entry) × (slice_get es (length es - 1) ≡ Some l)
        last_one es some = there_at es (length es - 1) (omega arith) where
          there_at : (xs : List Entry) (i : ℕ) → i < length xs → (x : Entry) × (slice_get xs i ≡ Some x)
          there_at [] i less = absurd (omega arith)
          there_at (x ∷ xs) zero less = (x, refl)
          there_at (x ∷ xs) (suc i) less = there_at xs i (omega arith)

    -- nor below it
    none_below : (one : Entry) → Contains cuts one → Encloses e.0.name.labels one.0.name.labels → ⊥
    none_below one held below =
        let low = encloses_up_to e.0.name one.0.name owner.qualified (qualified_one one held) below in
        let high = names_up_to one.0 e.0 (not_gt_of_less (key_cmp one.0 e.0) (earlier one held)) in
        none_above one held (between one.0.name e.0.name one.0.name high low (record { front = []; ends = refl }))

    apart : AreApart (cuts ++ kept ∷ [])
    apart one other h1 h2 above = elim (Contains-push_cases cuts kept one h1) [
      | inl a ↦ elim (Contains-push_cases cuts kept other h2) [
        | inl b ↦ h.apart one other a b above
        | inr b ↦ absurd (none_above one a (subst (λ (k : RrKey). Encloses one.0.name.labels k.name.labels) (sym (ap (λ (x : Entry). x.0) b) ∙ key) above))
      ]
      | inr a ↦ elim (Contains-push_cases cuts kept other h2) [
        | inl b ↦ absurd (none_below other b (subst (λ (k : RrKey). Encloses k.name.labels other.0.name.labels) (sym (ap (λ (x : Entry). x.0) a) ∙ key) above))
        | inr b ↦ sym (ap (λ (x : Entry). x.0) a) ∙ ap (λ (x : Entry). x.0) b
      ]
    ]

    pub pushed : AreTopSoFar zone (cuts ++ kept ∷ []) rest
    pushed = record {
      each = All-push (IsSetOfCut zone) cuts kept h.each own;
      whole = λ name c. elim (h.whole name c) [
        | inl b ↦ inl (record { top = b.top; held = Contains-append_left cuts (kept ∷ []) b.top b.held; at_or_below = b.at_or_below })
        | inr s ↦ by_first (IsBelowOne (cuts ++ kept ∷ []) name) (is_key name 2 e.0) e.1.value (rrset (shared_sets rest) name 2) (λ t. record {
          top = kept;
          held = Contains-push cuts kept;
          at_or_below = record { front = []; ends = (same_name name 2 e.0 t).labels ∙ ap (λ (k : RrKey). lower_labels k.name.labels) (sym key) };
        }) s
      ];
      apart = apart;
      ordered = subst (IsStrictlySortedBy key_cmp) (sym (ap (λ ks. ks ++ keys_of rest) (keys_push cuts kept ∙ ap (λ k. keys_of cuts ++ k ∷ []) key) ∙ append_assoc (keys_of cuts) (e.0 ∷ []) (keys_of rest))) h.ordered;
    }

  pub all_told : (cuts : List Entry) → AreTopSoFar zone cuts [] → AreTopCuts zone cuts
  all_told cuts h = record {
    each = h.each;
    whole = λ name c. elim (h.whole name c) [ inl b ↦ b | inr s ↦ absurd cc ];
    apart = h.apart;
  }

  pub in_order_then : (cuts : List Entry) → AreTopSoFar zone cuts [] → IsStrictlySortedBy key_cmp (keys_of cuts)
  in_order_then cuts h = subst (IsStrictlySortedBy key_cmp) (append-nil (keys_of cuts)) h.ordered
