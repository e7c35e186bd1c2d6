-- The keys on both sides of a name tell which names above it exist.
use Rattle.std.proofs.Common.{◌≡◌, ℕ, true, false, List, [], ◌∷◌, ◌++◌, take, drop, Option, Some, None, inl, inr, refl, sym, ap, subst, ◌∙◌, arith}
use Rattle.std.specs.Prelude.{◌⊎◌, ◌↔◌, slice_get, IfSome, is_some}
use Rattle.std.specs.List.{All, Contains}
use Rattle.std.specs.Map.{keys_of, lookup}
use Rattle.std.specs.BTreeMap.{is_at}
use Rattle.std.specs.BTreeMap.Range.{IsLeBy, IsLtBy, IsRangeOf, entries_between, range_contains}
use Rattle.std.specs.declared.cmp.Ordering.{Ordering}
use Rattle.std.specs.declared.cmp.Ordering.TheVariants.{Less, Equal, Greater}
use Rattle.std.specs.declared.ops.Bound.TheVariants.{Included, Excluded, Unbounded}
use Rattle.std.specs.Ordering.{is_gt, is_lt, ordering_reverse}
use Rattle.std.specs.Cmp.{upto}
use Rattle.std.proofs.lemmas.List.{map-append, take-append-drop}
use Rattle.std.proofs.lemmas.List.Elements.{All-contains, All-filter, Contains-push}
use Rattle.wire_names.specs.rr.domain.DomainName.{DomainName}
use Rattle.wire_names.specs.rr.domain.NameOrder.{Encloses, lower_label, lower_labels, name_cmp, name_cmp_total}
use Rattle.wire_messages.specs.rr.RrKeys.{key_cmp}
use Rattle.wire_messages.specs.declared.rr.rr_key.RrKey.{RrKey}
use Rattle.hickory_base.proofs.lemmas.zone_store.ZoneByName.{key_total, keys-shared}
use Rattle.hickory_base.specs.zone_store.ZoneSets.{sets_of}
use Rattle.zone_answers.proofs.lemmas.names.EnclosedBetween.{between, encloses_up_to}
use Rattle.zone_answers.proofs.lemmas.zones.Owners.{Entry, IsHeld, all_held, all_keys, names_up_to}
use Rattle.zone_answers.specs.representation.FoundRecords.{IsAbove}
use Rattle.zone_answers.specs.representation.KeysBeside.{IsFirst, IsLast, SharedMap}
use Rattle.zone_answers.specs.Zones.{AreOwners, IsOwner, Exists, ancestor}

pub encloses_drop : (k : ℕ) (ls : List (List ℕ)) → Encloses (drop k ls) ls
encloses_drop k ls = record { front = lower_labels (take k ls); ends = ap lower_labels (sym (take-append-drop k ls)) ∙ map-append lower_label (take k ls) (drop k ls) }

-- a key is before another, or that one is up to it
sides : (a b : RrKey) → (IsLtBy key_cmp a b) ⊎ (IsLeBy key_cmp b a)
sides a b = by_order (key_cmp b a) (key_total.antisymm a b) refl where
  by_order : (o : Ordering) → key_cmp a b ≡ ordering_reverse (key_cmp b a) → key_cmp b a ≡ o → (IsLtBy key_cmp a b) ⊎ (IsLeBy key_cmp b a)
  by_order Less back e = inr (ap is_gt e)
  by_order Equal back e = inr (ap is_gt e)
  by_order Greater back e = inl (back ∙ ap ordering_reverse e)

not_gt_of_lt : (o : Ordering) → o ≡ Less → is_gt o ≡ false
not_gt_of_lt o e = ap is_gt e

turned_lt : (o p : Ordering) → o ≡ ordering_reverse p → is_lt p ≡ false → is_gt o ≡ false
turned_lt o Less e h = absurd cc
turned_lt o Equal e h = ap is_gt e
turned_lt o Greater e h = ap is_gt e

module _ (sets : SharedMap) (first : RrKey) (least : first.record_type ≡ 0) (qualified : first.name.is_fqdn ≡ true) (origin : DomainName) (all : AreOwners origin (sets_of sets)) where
  same_keys : keys_of (sets_of sets) ≡ keys_of sets.entries
  same_keys = keys-shared sets.entries

  mark : (n : DomainName) (x : Exists (sets_of sets) n) → x.owner.name.is_fqdn ≡ true
  mark n x = (All-contains (IsOwner origin) (keys_of (sets_of sets)) x.owner all x.held).qualified

  held : (n : DomainName) (x : Exists (sets_of sets) n) → IsHeld sets.entries x.owner
  held n x = All-contains (IsHeld sets.entries) (keys_of sets.entries) x.owner (all_held sets.entries) (subst (λ ks. Contains ks x.owner) same_keys x.held)

  abbrev up : ℕ → DomainName
  up k = ancestor first.name k

  above_first : (k : ℕ) → IsLeBy name_cmp (up k) first.name
  above_first k = encloses_up_to (up k) first.name qualified qualified (encloses_drop k first.name.labels)

  above_owner : (k : ℕ) (x : Exists (sets_of sets) (up k)) → IsLeBy name_cmp (up k) x.owner.name
  above_owner k x = encloses_up_to (up k) x.owner.name qualified (mark (up k) x) x.at_or_below

  -- an entry of the map makes the names above its own exist
  owned : (n : DomainName) (e : Entry) → Contains (keys_of sets.entries) e.0 → Encloses n.labels e.0.name.labels → Exists (sets_of sets) n
  owned n e member below = record { owner = e.0; held = subst (λ ks. Contains ks e.0) (sym same_keys) member; at_or_below = below }

  module _ (range : List Entry) (is : range ≡ entries_between key_cmp (Included first) Unbounded sets.entries) (of : IsRangeOf key_cmp (Included first) Unbounded sets range) where
    start : (r : List Entry) → IsRangeOf key_cmp (Included first) Unbounded sets r → IfSome (slice_get r 0) (λ q. IsLeBy key_cmp first q.0)
    start [] h = tt
    start (q ∷ r) h = h.1.0.0

    -- an owner from the name on, and so the first of them
    pub behind : (k : ℕ) (x : Exists (sets_of sets) (up k)) → IsLeBy key_cmp first x.owner → (f : Entry) (rest : List Entry) → range ≡ f ∷ rest → Encloses (up k).labels f.0.name.labels
    behind k x from f rest e =
        let low : IsLeBy key_cmp first f.0 = subst (λ r. IfSome (slice_get r 0) (λ q. IsLeBy key_cmp first q.0)) e (start range of) in
        let high : IsLeBy key_cmp f.0 x.owner = subst (λ r. IfSome (slice_get r 0) (λ q. IsLeBy key_cmp q.0 x.owner)) e (of.2 x.owner (from, tt) (held (up k) x)) in
        between (up k) f.0.name x.owner.name (upto name_cmp_total (up k) first.name f.0.name (above_first k) (names_up_to first f.0 low)) (names_up_to f.0 x.owner high) x.at_or_below

    none_held : {X : Type 0} (o : Option X) → is_some o ≡ true → o ≡ None → ⊥
    none_held o h e = cc

    pub none_behind : (k : ℕ) (x : Exists (sets_of sets) (up k)) → IsLeBy key_cmp first x.owner → range ≡ [] → ⊥
    none_behind k x from e = none_held (lookup (is_at (key_cmp x.owner)) sets.entries) (held (up k) x) (of.5 e x.owner (from, tt))

    pub by_behind : (n : DomainName) (f : Entry) (rest : List Entry) → range ≡ f ∷ rest → Encloses n.labels f.0.name.labels → Exists (sets_of sets) n
    by_behind n f rest e below =
        let members : All (λ (q : Entry). Contains (keys_of sets.entries) q.0) range = subst (All (λ (q : Entry). Contains (keys_of sets.entries) q.0)) (sym is)
        (All-filter (λ (q : Entry). range_contains key_cmp (Included first) Unbounded q.0) (λ q. Contains (keys_of sets.entries) q.0) sets.entries (all_keys sets.entries)) in
        owned n f (subst (All (λ (q : Entry). Contains (keys_of sets.entries) q.0)) e members 0 f (omega arith)) below

  module _ (range : List Entry) (is : range ≡ entries_between key_cmp Unbounded (Excluded first) sets.entries) (of : IsRangeOf key_cmp Unbounded (Excluded first) sets range) where
    -- an owner before the name, and so the last of them
    pub before : (k : ℕ) (x : Exists (sets_of sets) (up k)) → IsLtBy key_cmp x.owner first → (f : Entry) (rest : List Entry) → range ≡ rest ++ f ∷ [] → Encloses (up k).labels f.0.name.labels
    before k x below f rest e =
        let last : IsLeBy key_cmp x.owner f.0 = turned_lt (key_cmp x.owner f.0) (key_cmp f.0 x.owner) (key_total.antisymm x.owner f.0) (of.4 f rest e x.owner (tt, below) (held (up k) x)) in
        let high : IsLeBy key_cmp f.0 first = not_gt_of_lt (key_cmp f.0 first) (of.3 f rest e).0.1 in
        between (up k) f.0.name first.name (upto name_cmp_total (up k) x.owner.name f.0.name (above_owner k x) (names_up_to x.owner f.0 last)) (names_up_to f.0 first high) (encloses_drop k first.name.labels)

    pub none_before : (k : ℕ) (x : Exists (sets_of sets) (up k)) → IsLtBy key_cmp x.owner first → range ≡ [] → ⊥
    none_before k x below e = none_by (lookup (is_at (key_cmp x.owner)) sets.entries) (held (up k) x) (of.5 e x.owner (tt, below)) where
      none_by : {X : Type 0} (o : Option X) → is_some o ≡ true → o ≡ None → ⊥
      none_by o h e = cc

    pub by_before : (n : DomainName) (f : Entry) (rest : List Entry) → range ≡ rest ++ f ∷ [] → Encloses n.labels f.0.name.labels → Exists (sets_of sets) n
    by_before n f rest e below =
        let members : All (λ (q : Entry). Contains (keys_of sets.entries) q.0) range = subst (All (λ (q : Entry). Contains (keys_of sets.entries) q.0)) (sym is)
        (All-filter (λ (q : Entry). range_contains key_cmp Unbounded (Excluded first) q.0) (λ q. Contains (keys_of sets.entries) q.0) sets.entries (all_keys sets.entries)) in
        owned n f (All-contains (λ (q : Entry). Contains (keys_of sets.entries) q.0) range f members (subst (λ r. Contains r f) (sym e) (Contains-push rest f))) below

  module _ (high low : List Entry) (is : high ≡ entries_between key_cmp (Included first) Unbounded sets.entries) (of : IsRangeOf key_cmp (Included first) Unbounded sets high)
      (js : low ≡ entries_between key_cmp Unbounded (Excluded first) sets.entries) (og : IsRangeOf key_cmp Unbounded (Excluded first) sets low) where
    found_behind : (k : ℕ) (x : Exists (sets_of sets) (up k)) → IsLeBy key_cmp first x.owner → (o : Option RrKey) → IsFirst high o → IsAbove (up k) o
    found_behind k x from None h = none_behind high is of k x from h
    found_behind k x from (Some key) h = behind high is of k x from (key, h.0) h.1 h.2

    found_before : (k : ℕ) (x : Exists (sets_of sets) (up k)) → IsLtBy key_cmp x.owner first → (o : Option RrKey) → IsLast low o → IsAbove (up k) o
    found_before k x below None h = none_before low js og k x below h
    found_before k x below (Some key) h = before low js og k x below (key, h.0) h.1 h.2

    exists_behind : (n : DomainName) (o : Option RrKey) → IsFirst high o → IsAbove n o → Exists (sets_of sets) n
    exists_behind n None h a = absurd a
    exists_behind n (Some key) h a = by_behind high is of n (key, h.0) h.1 h.2 a

    exists_before : (n : DomainName) (o : Option RrKey) → IsLast low o → IsAbove n o → Exists (sets_of sets) n
    exists_before n None h a = absurd a
    exists_before n (Some key) h a = by_before low js og n (key, h.0) h.1 h.2 a

    pub tells : (k : ℕ) (behind before : Option RrKey) → IsFirst high behind → IsLast low before
        → Exists (sets_of sets) (up k) ↔ (IsAbove (up k) before ⊎ IsAbove (up k) behind)
    tells k behind before h l = (
      λ x. elim (sides x.owner first) [ inl below ↦ inl (found_before k x below before l) | inr from ↦ inr (found_behind k x from behind h) ],
      λ a. elim a [ inl b ↦ exists_before (up k) before l b | inr b ↦ exists_behind (up k) behind h b ],
    )
