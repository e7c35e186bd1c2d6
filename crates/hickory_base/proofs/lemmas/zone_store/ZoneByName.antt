-- The records of a zone, read by owner name and type, are what the zone's map has under its keys.
use Rattle.std.proofs.Common.{◌≡◌, ℕ, Bool, true, false, cond, ◌&&◌, ◌||◌, List, [], ◌∷◌, ◌++◌, filter, length, Some, refl, sym, ap, ◌∙◌, ◌<◌, arith}
use Rattle.std.specs.Prelude.{nat_lt, ◌==◌}
use Rattle.std.specs.List.{AllByRecursion, flat_map, list_any}
use Rattle.std.specs.List.Sorted.{IsStrictlySortedBy}
use Rattle.std.specs.Map.{keys_of, lookup}
use Rattle.std.specs.Ordering.{is_eq, nat_cmp, ordering_then}
use Rattle.std.specs.Cmp.{IsTotalOrder, then_total, on_total, nat_cmp_total}
use Rattle.std.specs.declared.alloc.Global.{Global}
use Rattle.std.specs.declared.cmp.Ordering.{Ordering}
use Rattle.std.specs.declared.cmp.Ordering.TheVariants.{Less, Equal, Greater}
use Rattle.std.specs.declared.rc.Rc.{Rc}
use Rattle.std.proofs.lemmas.Bool.Decides.{nat_tests}
use Rattle.std.proofs.lemmas.List.{append-nil}
use Rattle.std.proofs.lemmas.List.Elements.{filter-append}
use Rattle.std.proofs.lemmas.List.Folds.{list_any-append}
use Rattle.wire_names.specs.rr.domain.DomainName.{DomainName}
use Rattle.wire_names.specs.rr.domain.NameOrder.{name_cmp, name_cmp_total, SameName}
use Rattle.wire_messages.specs.rr.RecordData.{type_of}
use Rattle.wire_messages.specs.declared.rr.rdata.RData.{RData}
use Rattle.wire_messages.specs.declared.rr.record.Record.{Record}
use Rattle.wire_names.proofs.lemmas.rr.domain.SameNames.{same_order}
use Rattle.hickory_base.specs.zone_store.ZoneRecords.{existing, is_at, is_of}
use Rattle.hickory_base.specs.zone_store.ZoneSets.{has_name, is_key, shared_sets, zone_records, IsUnder, IsZone}
use Rattle.wire_messages.specs.rr.RrKeys.{key_cmp}
use Rattle.hickory_base.specs.declared.zone_store.record_set.RecordSet.{RecordSet}
use Rattle.wire_messages.specs.declared.rr.rr_key.RrKey.{RrKey}

pub eq_then : (o p : Ordering) → is_eq (ordering_then o p) ≡ (is_eq o && is_eq p)
eq_then Less p = refl
eq_then Equal p = refl
eq_then Greater p = refl

eq_by_tests : (a b : ℕ) (below same : Bool) → nat_lt a b ≡ below → (a == b) ≡ same → is_eq (cond below Less (cond same Equal Greater)) ≡ same
eq_by_tests a b true true e f = absurd (grind (arith, nat_tests))
eq_by_tests a b true false e f = refl
eq_by_tests a b false true e f = refl
eq_by_tests a b false false e f = refl

pub eq_numbers : (a b : ℕ) → is_eq (nat_cmp a b) ≡ (a == b)
eq_numbers a b = eq_by_tests a b (nat_lt a b) (a == b) refl refl

pub itself : (name : DomainName) → SameName name name
itself name = record { labels = refl; marks = refl }

pub key_total : IsTotalOrder key_cmp
key_total = then_total (on_total (λ (k : RrKey). k.name) name_cmp_total) (on_total (λ (k : RrKey). k.record_type) nat_cmp_total)

-- what lies under a key has its name and type
pub name_under : (name : DomainName) (key : RrKey) (r : Record RData) → IsUnder key r → is_at name r ≡ has_name name key
name_under name key r under = ap is_eq (same_order name r.name name key.name (itself name) under.name)

pub of_under : (name : DomainName) (t : ℕ) (key : RrKey) (r : Record RData) → IsUnder key r → is_of name t r ≡ is_key name t key
of_under name t key r under =
    ap (λ b. b && (t == type_of r.rdata)) (name_under name key r under)
    ∙ ap (λ n. is_eq (name_cmp name key.name) && (t == n)) under.record_type
    ∙ ap (λ b. is_eq (name_cmp name key.name) && b) (sym (eq_numbers t key.record_type))
    ∙ sym (eq_then (name_cmp name key.name) (nat_cmp t key.record_type))

module _ (name : DomainName) (t : ℕ) where
  whole_set : (key : RrKey) (rs : List (Record RData)) → AllByRecursion (IsUnder key) rs → is_key name t key ≡ true → filter (is_of name t) rs ≡ rs
  whole_set key [] under e = refl
  whole_set key (r ∷ rs) under e = rw (of_under name t key r under.0 ∙ e) (ap (λ qs. r ∷ qs) (whole_set key rs under.1 e))

  no_set : (key : RrKey) (rs : List (Record RData)) → AllByRecursion (IsUnder key) rs → is_key name t key ≡ false → filter (is_of name t) rs ≡ []
  no_set key [] under e = refl
  no_set key (r ∷ rs) under e = rw (of_under name t key r under.0 ∙ e) (no_set key rs under.1 e)

  asked : RrKey
  asked = record { name = name; record_type = t }

  equal_is : (o : Ordering) → is_eq o ≡ true → o ≡ Equal
  equal_is Less e = absurd (cc)
  equal_is Equal e = refl
  equal_is Greater e = absurd (cc)

  -- behind a key that is asked for there is no other
  none_behind : (key : RrKey) (es : List (RrKey × List (Record RData))) → is_key name t key ≡ true → AllByRecursion (λ q. key_cmp key q ≡ Less) (keys_of es) → IsZone es
      → filter (is_of name t) (zone_records es) ≡ []
  unfolding asked
  none_behind key [] e above zone = refl
  none_behind key (q ∷ es) e above zone =
      let less : key_cmp asked q.0 ≡ Less = key_total.congr asked key q.0 (equal_is _ e) ∙ above.0 in
      filter-append (is_of name t) q.1 (zone_records es)
      ∙ ap (λ rs. rs ++ filter (is_of name t) (zone_records es)) (no_set q.0 q.1 zone.0.under (ap is_eq less))
      ∙ none_behind key es e above.1 zone.1

  exists : (rs : List (Record RData)) → 0 < length rs → existing rs ≡ Some rs
  exists [] h = absurd (omega arith)
  exists (r ∷ rs) h = refl

  found_step : (b : Bool) (e : RrKey × List (Record RData)) (es : List (RrKey × List (Record RData))) → is_key name t e.0 ≡ b
      → AllByRecursion (λ q. key_cmp e.0 q ≡ Less) (keys_of es) → IsZone (e ∷ es) → existing (filter (is_of name t) (zone_records es)) ≡ lookup (is_key name t) es
      → existing (filter (is_of name t) e.1 ++ filter (is_of name t) (zone_records es)) ≡ cond b (Some e.1) (lookup (is_key name t) es)
  found_step true e es is above zone rest =
      ap existing (ap (λ rs. filter (is_of name t) e.1 ++ rs) (none_behind e.0 es is above zone.1) ∙ append-nil _ ∙ whole_set e.0 e.1 zone.0.under is)
      ∙ exists e.1 zone.0.filled
  found_step false e es is above zone rest = ap (λ rs. existing (rs ++ filter (is_of name t) (zone_records es))) (no_set e.0 e.1 zone.0.under is) ∙ rest

  -- the RRset of a name and type is the set that stands under them
  pub rrset_found : (es : List (RrKey × List (Record RData))) → IsStrictlySortedBy key_cmp (keys_of es) → IsZone es
      → existing (filter (is_of name t) (zone_records es)) ≡ lookup (is_key name t) es
  unfolding IsStrictlySortedBy
  rrset_found [] sorted zone = refl
  rrset_found (e ∷ es) sorted zone =
      ap existing (filter-append (is_of name t) e.1 (zone_records es))
      ∙ found_step (is_key name t e.0) e es refl sorted.0 zone (rrset_found es sorted.1 zone.1)

pub keys-shared : (es : List (RrKey × Rc RecordSet Global)) → keys_of (shared_sets es) ≡ keys_of es
keys-shared [] = refl
keys-shared (e ∷ es) = ap (λ ks. e.0 ∷ ks) (keys-shared es)

module _ (name : DomainName) where
  all_or_none : (b : Bool) (key : RrKey) (r : Record RData) (rs : List (Record RData)) → AllByRecursion (IsUnder key) (r ∷ rs) → has_name name key ≡ b → list_any (is_at name) (r ∷ rs) ≡ b
  all_or_none true key r rs under e = rw (name_under name key r under.0 ∙ e) refl
  all_or_none false key r [] under e = rw (name_under name key r under.0 ∙ e) refl
  all_or_none false key r (q ∷ rs) under e = rw (name_under name key r under.0 ∙ e) (all_or_none false key q rs under.1 e)

  in_set : (key : RrKey) (rs : List (Record RData)) → 0 < length rs → AllByRecursion (IsUnder key) rs → list_any (is_at name) rs ≡ has_name name key
  in_set key [] filled under = absurd (omega arith)
  in_set key (r ∷ rs) filled under = all_or_none (has_name name key) key r rs under refl

  -- a name has records where a key has it
  pub name_found : (es : List (RrKey × List (Record RData))) → IsZone es → list_any (is_at name) (zone_records es) ≡ list_any (λ e. has_name name e.0) es
  name_found [] zone = refl
  name_found (e ∷ es) zone =
      list_any-append (is_at name) e.1 (zone_records es)
      ∙ ap (λ b. b || list_any (is_at name) (zone_records es)) (in_set e.0 e.1 zone.0.filled zone.0.under)
      ∙ ap (λ b. has_name name e.0 || b) (name_found es zone.1)

  all_of_name : (key : RrKey) (rs : List (Record RData)) → AllByRecursion (IsUnder key) rs → has_name name key ≡ true → filter (is_at name) rs ≡ rs
  all_of_name key [] under e = refl
  all_of_name key (r ∷ rs) under e = rw (name_under name key r under.0 ∙ e) (ap (λ qs. r ∷ qs) (all_of_name key rs under.1 e))

  none_of_name : (key : RrKey) (rs : List (Record RData)) → AllByRecursion (IsUnder key) rs → has_name name key ≡ false → filter (is_at name) rs ≡ []
  none_of_name key [] under e = refl
  none_of_name key (r ∷ rs) under e = rw (name_under name key r under.0 ∙ e) (none_of_name key rs under.1 e)

  name_step : (b : Bool) (e : RrKey × List (Record RData)) (rest : List (Record RData)) (es : List (RrKey × List (Record RData))) → AllByRecursion (IsUnder e.0) e.1 → has_name name e.0 ≡ b
      → rest ≡ flat_map (λ s. s.1) es → filter (is_at name) e.1 ++ rest ≡ flat_map (λ s. s.1) (cond b (e ∷ es) es)
  name_step true e rest es under is same = ap (λ rs. rs ++ rest) (all_of_name e.0 e.1 under is) ∙ ap (λ rs. e.1 ++ rs) same
  name_step false e rest es under is same = ap (λ rs. rs ++ rest) (none_of_name e.0 e.1 under is) ∙ same

  -- the records of a name are those under the keys that have it
  pub records_found : (es : List (RrKey × List (Record RData))) → IsZone es → filter (is_at name) (zone_records es) ≡ flat_map (λ e. e.1) (filter (λ e. has_name name e.0) es)
  records_found [] zone = refl
  records_found (e ∷ es) zone =
      filter-append (is_at name) e.1 (zone_records es)
      ∙ name_step (has_name name e.0) e (filter (is_at name) (zone_records es)) (filter (λ e. has_name name e.0) es) zone.0.under refl (records_found es zone.1)
