-- Whether a name exists is told by the first key that is not below it.
use Rattle.std.proofs.Common.{◌≡◌, Bool, true, false, cond, List, [], ◌∷◌, Option, Some, None, refl, sym, ap, subst, ◌∙◌, arith}
use Rattle.std.specs.Prelude.{is_some, slice_index_or, IfSome, slice_get}
use Rattle.std.specs.List.{All, Contains}
use Rattle.std.specs.Map.{keys_of, lookup}
use Rattle.std.specs.BTreeMap.{is_at}
use Rattle.std.specs.BTreeMap.Range.{IsLeBy, IsRangeOf, entries_between, range_contains}
use Rattle.std.specs.declared.alloc.Global.{Global}
use Rattle.std.specs.declared.ops.Bound.TheVariants.{Included, Unbounded}
use Rattle.std.specs.declared.rc.Rc.{Rc}
use Rattle.std.specs.declared.cmp.Ordering.{Ordering}
use Rattle.std.specs.declared.cmp.Ordering.TheVariants.{Less, Equal, Greater}
use Rattle.std.specs.Ordering.{is_eq, is_gt, is_le, ordering_then, nat_cmp}
use Rattle.std.specs.Cmp.{tied_itself}
use Rattle.std.proofs.lemmas.List.Elements.{All-nil, All-cons, All-filter, All-contains, Contains-append_right}
use Rattle.wire_names.specs.rr.domain.DomainName.{DomainName}
use Rattle.wire_names.specs.rr.domain.NameOrder.{Encloses, name_cmp}
use Rattle.wire_messages.specs.rr.RrKeys.{key_cmp}
use Rattle.wire_messages.specs.declared.rr.rr_key.RrKey.{RrKey}
use Rattle.hickory_base.proofs.lemmas.zone_store.KeyOrder.{from_first}
use Rattle.hickory_base.proofs.lemmas.zone_store.ZoneByName.{key_total, keys-shared}
use Rattle.hickory_base.specs.declared.zone_store.record_set.RecordSet.{RecordSet}
use Rattle.hickory_base.specs.zone_store.ZoneSets.{sets_of}
use Rattle.zone_answers.proofs.lemmas.names.EnclosedBetween.{between, encloses_up_to, same_back}
use Rattle.std.specs.Prelude.{◌↔◌}
use Rattle.zone_answers.specs.representation.FoundRecords.{IsAbove}
use Rattle.zone_answers.specs.representation.KeysBeside.{HaveOneName, IsFirst, SharedMap, StandsBehind}
use Rattle.zone_answers.specs.Zones.{AreOwners, IsOwner, Exists}

abbrev pub Entry : Type 0
Entry = RrKey × Rc RecordSet Global

not_gt : (o : Ordering) → is_le o ≡ true → is_gt o ≡ false
not_gt Less h = refl
not_gt Equal h = refl
not_gt Greater h = absurd cc

le_of : (o : Ordering) → is_gt o ≡ false → is_le o ≡ true
le_of Less h = refl
le_of Equal h = refl
le_of Greater h = absurd cc

pub names_up_to : (a b : RrKey) → IsLeBy key_cmp a b → IsLeBy name_cmp a.name b.name
names_up_to a b h = by_first (name_cmp a.name b.name) (nat_cmp a.record_type b.record_type) h where
  by_first : (o p : Ordering) → is_gt (ordering_then o p) ≡ false → is_gt o ≡ false
  by_first Less p h = refl
  by_first Equal p h = refl
  by_first Greater p h = h

pub first_up_to : (first key : RrKey) → first.record_type ≡ 0 → IsLeBy name_cmp first.name key.name → IsLeBy key_cmp first key
first_up_to first key least h = not_gt (key_cmp first key) (from_first first key least ∙ le_of (name_cmp first.name key.name) h)

module _ {X : Type 0} where
  abbrev pub IsHeld : List (RrKey × X) → RrKey → Type 0
  IsHeld es key = is_some (lookup (is_at (key_cmp key)) es) ≡ true

  held_behind : (b : Bool) (x : X) (o : Option X) → is_some o ≡ true → is_some (cond b (Some x) o) ≡ true
  held_behind true x o h = refl
  held_behind false x o h = h

  -- each key is found
  pub all_held : (es : List (RrKey × X)) → All (IsHeld es) (keys_of es)
  all_held [] = All-nil (IsHeld [])
  all_held (e ∷ es) =
      All-cons (IsHeld (e ∷ es)) e.0 (keys_of es) (ap (λ o. is_some (cond (is_eq o) (Some e.1) (lookup (is_at (key_cmp e.0)) es))) (tied_itself key_total e.0))
      (λ k d h. held_behind (is_at (key_cmp (slice_index_or (keys_of es) k d)) e.0) e.1 _ (all_held es k d h))

  -- each entry has its key among the keys
  pub all_keys : (es : List (RrKey × X)) → All (λ (q : RrKey × X). Contains (keys_of es) q.0) es
  all_keys [] = All-nil (λ (q : RrKey × X). Contains (keys_of {X = X} []) q.0)
  all_keys (e ∷ es) =
      All-cons (λ (q : RrKey × X). Contains (keys_of (e ∷ es)) q.0) e es (0, omega arith, refl)
      (λ k d h. Contains-append_right (e.0 ∷ []) (keys_of es) (slice_index_or es k d).0 (all_keys es k d h))

module _ (sets : SharedMap) (first : RrKey) (range : List Entry) (least : first.record_type ≡ 0) (qualified : first.name.is_fqdn ≡ true) (origin : DomainName) (all : AreOwners origin (sets_of sets))
    (is : range ≡ entries_between key_cmp (Included first) Unbounded sets.entries) (of : IsRangeOf key_cmp (Included first) Unbounded sets range) where
  same_keys : keys_of (sets_of sets) ≡ keys_of sets.entries
  same_keys = keys-shared sets.entries

  -- a name at or below it is in the range
  owner_in : (x : Exists (sets_of sets) first.name) → IsLeBy key_cmp first x.owner
  owner_in x = first_up_to first x.owner least (encloses_up_to first.name x.owner.name qualified (All-contains (IsOwner origin) (keys_of (sets_of sets)) x.owner all x.held).qualified x.at_or_below)

  owner_held : (x : Exists (sets_of sets) first.name) → IsHeld sets.entries x.owner
  owner_held x = All-contains (IsHeld sets.entries) (keys_of sets.entries) x.owner (all_held sets.entries) (subst (λ ks. Contains ks x.owner) same_keys x.held)

  -- where the name exists, the first key of the range is at or below it
  pub first_below : (f : Entry) (rest : List Entry) → range ≡ f ∷ rest → Exists (sets_of sets) first.name → Encloses first.name.labels f.0.name.labels
  first_below f rest e x =
      let low : IsLeBy key_cmp first f.0 = (subst (λ r. IfSome (slice_get r 0) (λ q. IsLeBy key_cmp first q.0)) e (start range of)) in
      let high : IsLeBy key_cmp f.0 x.owner = subst (λ r. IfSome (slice_get r 0) (λ q. IsLeBy key_cmp q.0 x.owner)) e (of.2 x.owner (owner_in x, tt) (owner_held x)) in
      between first.name f.0.name x.owner.name (names_up_to first f.0 low) (names_up_to f.0 x.owner high) x.at_or_below
    where
      start : (r : List Entry) → IsRangeOf key_cmp (Included first) Unbounded sets r → IfSome (slice_get r 0) (λ q. IsLeBy key_cmp first q.0)
      start [] h = tt
      start (q ∷ r) h = h.1.0.0

  -- where the first key is at or below the name, the name exists
  pub exists_by : (f : Entry) (rest : List Entry) → range ≡ f ∷ rest → Encloses first.name.labels f.0.name.labels → Exists (sets_of sets) first.name
  exists_by f rest e below =
      let members : All (λ q. Contains (keys_of sets.entries) q.0) range = subst (All (λ q. Contains (keys_of sets.entries) q.0)) (sym is)
      (All-filter (λ (q : Entry). range_contains key_cmp (Included first) Unbounded q.0) (λ q. Contains (keys_of sets.entries) q.0) sets.entries (all_keys sets.entries)) in
      let member : Contains (keys_of sets.entries) f.0 = subst (All (λ q. Contains (keys_of sets.entries) q.0)) e members 0 f (omega arith) in
      record { owner = f.0; held = subst (λ ks. Contains ks f.0) (sym same_keys) member; at_or_below = below }

  -- without such a key it does not
  pub none_exists : range ≡ [] → ¬ (Exists (sets_of sets) first.name)
  none_exists e x = none (lookup (is_at (key_cmp x.owner)) sets.entries) (owner_held x) (of.5 e x.owner (owner_in x, tt)) where
    none : {X : Type 0} (o : Option X) → is_some o ≡ true → o ≡ None → ⊥
    none o h e = cc

-- names are above both keys or above neither
pub above_same : (n : DomainName) (one other : Option RrKey) → HaveOneName one other → IsAbove n one → IsAbove n other
above_same n None None same a = a
above_same n None (Some k) same a = absurd same
above_same n (Some k) None same a = absurd same
above_same n (Some k) (Some f) same a = record { front = a.front; ends = sym same.labels ∙ a.ends }

pub turned : (one other : Option RrKey) → HaveOneName one other → HaveOneName other one
turned None None same = tt
turned None (Some k) same = absurd same
turned (Some k) None same = absurd same
turned (Some k) (Some f) same = same_back k.name f.name same

-- whether a name exists, by the first key from it on
exists_from : (sets : SharedMap) (first : RrKey) (range : List Entry) (key : Option RrKey) (origin : DomainName) → first.record_type ≡ 0 → first.name.is_fqdn ≡ true → AreOwners origin (sets_of sets)
    → range ≡ entries_between key_cmp (Included first) Unbounded sets.entries → IsRangeOf key_cmp (Included first) Unbounded sets range → IsFirst range key
    → Exists (sets_of sets) first.name ↔ IsAbove first.name key
exists_from sets first range None origin least qualified all whole of met = (λ x. none_exists sets first range least qualified origin all whole of met x, λ a. absurd a)
exists_from sets first range (Some key) origin least qualified all whole of met = (
  λ x. first_below sets first range least qualified origin all whole of (key, met.0) met.1 met.2 x,
  λ a. exists_by sets first range least qualified origin all whole of (key, met.0) met.1 met.2 a,
)

pub exists_behind : (sets : SharedMap) (first : RrKey) (key : Option RrKey) (origin : DomainName) → first.record_type ≡ 0 → first.name.is_fqdn ≡ true → AreOwners origin (sets_of sets) → StandsBehind sets first key
    → Exists (sets_of sets) first.name ↔ IsAbove first.name key
exists_behind sets first key origin least qualified all b =
    let own = exists_from sets first b.range b.own origin least qualified all b.whole b.of b.least in
    (λ x. above_same first.name b.own key (turned key b.own b.same) (own.0 x), λ a. own.1 (above_same first.name key b.own b.same a))
