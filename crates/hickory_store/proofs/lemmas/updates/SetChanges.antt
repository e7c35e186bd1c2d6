-- Changes of a map, by its entries and by its keys.
use Rattle.std.proofs.Common.{◌≡◌, ◌∙◌, ap, sym, refl, subst, Bool, true, false, cond, ◌||◌, ◌++◌, List, [], ◌∷◌, Option, Some, None, IsSome}
use Rattle.std.specs.List.{AllByRecursion, list_any}
use Rattle.std.specs.List.Sorted.{IsStrictlySortedBy}
use Rattle.std.specs.Option.{option_map, option_or}
use Rattle.std.specs.declared.cmp.Ordering.{Ordering}
use Rattle.std.specs.declared.cmp.Ordering.TheVariants.{Less, Equal, Greater}
use Rattle.std.specs.Ordering.{match_ordering, is_eq}
use Rattle.std.specs.Cmp.{eq_by_cmp_equiv}
use Rattle.std.specs.BTreeMap.{insert_entry, is_at}
use Rattle.std.specs.Map.{keys_of, lookup, remove_entry}
use Rattle.std.specs.Borrow.{Bor}
use Rattle.wire_messages.specs.declared.rr.rdata.RData.{RData}
use Rattle.wire_messages.specs.declared.rr.record.Record.{Record}
use Rattle.wire_messages.specs.declared.rr.rr_key.RrKey.{RrKey}
use Rattle.hickory_store.specs.declared.updates.set_changes.Put.{Put}
use Rattle.hickory_base.specs.zone_store.ZoneSets.{is_key, sets_of}
use Rattle.wire_messages.specs.rr.RrKeys.{key_cmp}
use Rattle.hickory_base.proofs.lemmas.zone_store.SharedSets.{lookup-shared}
use Rattle.hickory_base.proofs.lemmas.zone_store.ZoneByName.{key_total}
use Rattle.hickory_store.specs.representation.SetChanges.{AllPresent, KeepsKeys, Makes, SharedSet, SharedSets, at, equals, is_among, is_put, put_all, put_sets, take_all, undone}
use Rattle.hickory_store.specs.representation.ZoneSets.{HoldsSets}
use Rattle.hickory_store.proofs.lemmas.file.SetsOfRecords.{key_alike}

-- ---- keys

pub is_itself : (k : RrKey) → equals k k ≡ true
is_itself k = (eq_by_cmp_equiv key_total).refl k

-- ---- what went in comes out

module _ {K X : Type 0} where
  absent_step : (b : Bool) (e : K × X) (es more : List (K × X)) (o : Option X) → cond b (Some e.1) o ≡ None → (o ≡ None → more ≡ es) → cond b es (e ∷ more) ≡ e ∷ es
  absent_step true e es more o h m = cc
  absent_step false e es more o h m = ap (λ w. e ∷ w) (m h)

  pub remove_absent : (test : K → Bool) (es : List (K × X)) → lookup test es ≡ None → remove_entry test es ≡ es
  remove_absent test [] h = refl
  remove_absent test (e ∷ es) h = absent_step (test e.0) e es (remove_entry test es) (lookup test es) h (remove_absent test es)

  inserted_step : (R : K → K → Ordering) (k : K) (v : X) (o : Ordering) (e : K × X) (es more : List (K × X)) → is_eq (R k k) ≡ true → R k e.0 ≡ o
      → cond (is_eq o) (Some e.1) (lookup (is_at (R k)) es) ≡ None → (lookup (is_at (R k)) es ≡ None → remove_entry (is_at (R k)) more ≡ es)
      → remove_entry (is_at (R k)) (match_ordering o ((k, v) ∷ e ∷ es) ((e.0, v) ∷ es) (e ∷ more)) ≡ e ∷ es
  inserted_step R k v Less e es more r c h m = ap (λ b. cond b (e ∷ es) ((k, v) ∷ remove_entry (is_at (R k)) (e ∷ es))) r
  inserted_step R k v Equal e es more r c h m = absurd (cc)
  inserted_step R k v Greater e es more r c h m = ap (λ o. cond (is_eq o) more (e ∷ remove_entry (is_at (R k)) more)) c ∙ ap (λ w. e ∷ w) (m h)

  pub remove_inserted : (R : K → K → Ordering) (k : K) (v : X) (es : List (K × X)) → is_eq (R k k) ≡ true → lookup (is_at (R k)) es ≡ None
      → remove_entry (is_at (R k)) (insert_entry R es k v) ≡ es
  remove_inserted R k v [] r h = ap (λ b. cond b [] ((k, v) ∷ [])) r
  remove_inserted R k v (e ∷ es) r h =
      inserted_step R k v (R k e.0) e es (insert_entry R es k v) r refl h (remove_inserted R k v es r)

pub undone_push : (ks : List (Bor RrKey)) (k : Bor RrKey) (es : List (RrKey × SharedSet)) → undone (ks ++ k ∷ []) es ≡ undone ks (remove_entry (equals k.now) es)
undone_push [] k es = refl
undone_push (x ∷ ks) k es = ap (remove_entry (equals x.now)) (undone_push ks k es)

-- ---- what a key is given

pub keeps_step : {X : Type 0} (b : Bool) (v : X) (x y : Option X) → y ≡ cond b (Some v) x → IsSome x → IsSome y
keeps_step true v x y e h = subst IsSome (sym e) refl
keeps_step false v x y e h = subst IsSome (sym e) h

pub some_not_none : {X : Type 0} (o : Option X) → IsSome o → o ≡ None → ⊥
some_not_none {X} o h e = let g : IsSome {T = X} None = subst (λ (w : Option X). IsSome w) e h in absurd (cc)

pub present_kept : (ps : List Put) (m n : SharedSets) → KeepsKeys m n → AllPresent ps m → AllPresent ps n
present_kept [] m n k h = tt
present_kept (p ∷ ps) m n k h = (k p.key h.0, present_kept ps m n k h.1)

pub put_alike : (ps : List Put) (f g : RrKey → Option SharedSet) → ((x : RrKey) → f x ≡ g x) → (q : RrKey) → put_all ps f q ≡ put_all ps g q
put_alike [] f g h q = h q
put_alike (p ∷ ps) f g h q = put_alike ps _ _ (λ x. ap (λ w. cond (equals p.key x) (Some p.set) w) (h x)) q

pub take_alike : (ks : List RrKey) (f g : RrKey → Option SharedSet) → ((x : RrKey) → f x ≡ g x) → (q : RrKey) → take_all ks f q ≡ take_all ks g q
take_alike [] f g h q = h q
take_alike (k ∷ ks) f g h q = take_alike ks _ _ (λ x. ap (λ w. cond (equals k x) None w) (h x)) q

agree_step : {X : Type 0} (b c : Bool) (v f g : X) → c ≡ false → ((b || c) ≡ false → f ≡ g) → cond b v f ≡ cond b v g
agree_step true c v f g e h = refl
agree_step false c v f g e h = h e

-- what stands under a key that is put counts for nothing
pub put_agree : (ps : List Put) (f g : RrKey → Option SharedSet) (q : RrKey) → (is_put ps q ≡ false → f q ≡ g q) → put_all ps f q ≡ put_all ps g q
put_agree [] f g q h = h refl
put_agree (p ∷ ps) f g q h = put_agree ps _ _ q (λ e. agree_step (equals p.key q) (is_put ps q) (Some p.set) (f q) (g q) e h)

pub or_left : (b c : Bool) → b ≡ true → (b || c) ≡ true
or_left true c h = refl
or_left false c h = cc

pub or_right : (b c : Bool) → c ≡ true → (b || c) ≡ true
or_right true c h = refl
or_right false c h = h

not_both : (b : Bool) (c : Bool) → (b ≡ true → c ≡ true) → c ≡ false → b ≡ false
not_both true c h e = absurd (let g : c ≡ true = h refl in cc)
not_both false c h e = refl

pub apart : (p : Put) (ps all : List Put) (q : RrKey) → (is_put (p ∷ ps) q ≡ true → is_put all q ≡ true) → is_put all q ≡ false → equals p.key q ≡ false
apart p ps all q h e = not_both (equals p.key q) (is_put all q) (λ t. h (or_left _ _ t)) e

-- ---- changes as a zone sees them

module _ (k : RrKey) where
  abbrev value : SharedSet → List (Record RData)
  value set = set.value

  take_step : (b rest : Bool) (x : Option SharedSet) → cond rest None (option_map value (cond b None x)) ≡ cond (b || rest) None (option_map value x)
  take_step true true x = refl
  take_step true false x = refl
  take_step false rest x = refl

  pub take_is : (gone : List RrKey) (f : RrKey → Option SharedSet) → option_map value (take_all gone f k) ≡ cond (list_any (equals k) gone) None (option_map value (f k))
  take_is [] f = refl
  take_is (g ∷ gs) f =
      take_is gs (λ x. cond (equals g x) None (f x)) ∙ take_step (equals g k) (list_any (equals k) gs) (f k)
      ∙ ap (λ b. cond (b || list_any (equals k) gs) None (option_map value (f k))) (key_alike.symm g k)

  none_above : (p : RrKey) (ps : List Put) → equals p k ≡ true → AllByRecursion (λ q. key_cmp p q ≡ Less) (keys_of (put_sets ps)) → lookup (equals k) (put_sets ps) ≡ None
  none_above p [] e above = refl
  none_above p (x ∷ ps) e above =
      ap (λ b. cond b (Some x.set.value) (lookup (equals k) (put_sets ps))) (sym (key_alike.congr p k x.key e) ∙ ap is_eq above.0) ∙ none_above p ps e above.1

  put_step : (p : Put) (ps : List Put) (f : RrKey → Option SharedSet) (b : Bool) → equals p.key k ≡ b → AllByRecursion (λ q. key_cmp p.key q ≡ Less) (keys_of (put_sets ps))
      → option_or (lookup (equals k) (put_sets ps)) (option_map value (cond b (Some p.set) (f k))) ≡ option_or (cond (equals k p.key) (Some p.set.value) (lookup (equals k) (put_sets ps))) (option_map value (f k))
  put_step p ps f true e above =
      ap (λ o. option_or o (Some p.set.value)) (none_above p.key ps e above)
      ∙ sym (ap (λ b. option_or (cond b (Some p.set.value) (lookup (equals k) (put_sets ps))) (option_map value (f k))) (key_alike.symm k p.key ∙ e))
  put_step p ps f false e above =
      sym (ap (λ b. option_or (cond b (Some p.set.value) (lookup (equals k) (put_sets ps))) (option_map value (f k))) (key_alike.symm k p.key ∙ e))

  pub put_is : (ps : List Put) (f : RrKey → Option SharedSet) → IsStrictlySortedBy key_cmp (keys_of (put_sets ps))
      → option_map value (put_all ps f k) ≡ option_or (lookup (equals k) (put_sets ps)) (option_map value (f k))
  unfolding IsStrictlySortedBy
  put_is [] f sorted = refl
  put_is (p ∷ ps) f sorted = put_is ps (λ x. cond (equals p.key x) (Some p.set) (f x)) sorted.1 ∙ put_step p ps f (equals p.key k) refl sorted.0

-- what is committed holds the records
pub committed : (puts : List Put) (gone : List RrKey) (old new : SharedSets) (S : List (RrKey × List (Record RData))) (records : List (Record RData))
    → IsStrictlySortedBy key_cmp (keys_of (put_sets puts)) → sets_of old ≡ S → ((k : RrKey) → at new k ≡ take_all gone (put_all puts (at old)) k)
    → Makes (put_sets puts) gone S records → HoldsSets records (sets_of new)
committed puts gone old new S records sorted is done makes name t =
    let k : RrKey = record { name = name; record_type = t } in
    lookup-shared (is_key name t) new.entries
    ∙ ap (option_map (value k)) (done k)
    ∙ take_is k gone (put_all puts (at old))
    ∙ ap (λ o. cond (is_among name t gone) None o)
    (put_is k puts (at old) sorted
    ∙ ap (λ o. option_or (lookup (is_key name t) (put_sets puts)) o) (sym (lookup-shared (is_key name t) old.entries) ∙ ap (lookup (is_key name t)) is))
    ∙ makes name t
