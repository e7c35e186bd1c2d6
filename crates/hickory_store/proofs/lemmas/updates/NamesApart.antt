-- A turn concerns the owner name of its record alone.
use Rattle.std.proofs.Common.{◌≡◌, ◌∙◌, ap, sym, refl, Bool, true, false, cond, not, ◌&&◌, ◌||◌, ◌++◌, List, [], ◌∷◌, filter}
use Rattle.std.specs.Prelude.{◌==◌}
use Rattle.std.specs.List.{list_any}
use Rattle.std.proofs.lemmas.List.Elements.{filter-append}
use Rattle.wire_names.specs.rr.domain.DomainName.{DomainName}
use Rattle.wire_names.specs.rr.domain.NameOrder.{name_eq}
use Rattle.wire_messages.specs.rr.RecordData.{type_of}
use Rattle.hickory_base.specs.zone_store.ZoneRecords.{is_at}
use Rattle.hickory_store.specs.updates.Changes.{changes, is_added, after_updates, is_deleted, is_deleted_when, in_class, in_rrset, is_in_deleted_rrsets, is_ignored, is_newer, is_spared, adds_nothing_new, is_type, replaces_rrset, after_counted, after_record, after_record_when, counted, counted_changes, has_other_ttl, has_ttl, one_ttl}
use Rattle.hickory_store.specs.updates.Identity.{same_record, ttl_at}
use Rattle.hickory_store.specs.updates.NameUpdates.{of_name}
use Rattle.hickory_store.proofs.lemmas.updates.ApexNs.{Records, Resource, and_left, names}
use Rattle.hickory_store.proofs.lemmas.updates.OneTtl.{any_alike, counted_at, settled_of_name, settled_other}
use Rattle.hickory_store.proofs.lemmas.file.SetsOfRecords.{append_none, ttl_kept}

pub not_so : (b : Bool) → (b ≡ true → ⊥) → b ≡ false
not_so true h = absurd (h refl)
not_so false h = refl

-- ---- names

-- whoever has r's name has that of n, where n is r's
pub named : (n : DomainName) (r q : Resource) → is_at n r ≡ true → is_at r.name q ≡ true → is_at n q ≡ true
named n r q h e = names.congr n r.name q.name h ∙ e

-- and nobody of n has r's, where n is another
pub not_named : (n : DomainName) (r q : Resource) → is_at n r ≡ false → is_at n q ≡ true → is_at r.name q ≡ false
not_named n r q h e = not_so (is_at r.name q) (λ t. let g : is_at n r ≡ true = names.congr n q.name r.name e ∙ names.symm q.name r.name ∙ t in cc)

pub first_false : (a b : Bool) → a ≡ false → (a && b) ≡ false
first_false true b h = absurd (cc)
first_false false b h = refl

-- two names are apart where one is equal to a third and the other is not
pub apart : (a b c : DomainName) → name_eq a b ≡ false → name_eq b c ≡ true → name_eq a c ≡ false
apart a b c h e = names.symm a c ∙ sym (names.congr b c a e) ∙ names.symm b a ∙ h

-- ---- lists

module _ {X : Type 0} where
  any_step : (p : X → Bool) (x : X) (xs more : List X) (b : Bool) → (p x ≡ true → b ≡ true) → list_any p more ≡ list_any p xs → list_any p (cond b (x ∷ more) more) ≡ list_any p (x ∷ xs)
  any_step p x xs more true i h = ap (λ w. p x || w) h
  any_step p x xs more false i h = h ∙ ap (λ w. w || list_any p xs) (sym (not_so (p x) (λ t. let g : false ≡ true = i t in cc)))

  -- a test that passes only what a filter keeps sees the same
  pub any_within : (p P : X → Bool) → ((x : X) → p x ≡ true → P x ≡ true) → (xs : List X) → list_any p (filter P xs) ≡ list_any p xs
  any_within p P i [] = refl
  any_within p P i (x ∷ xs) = any_step p x xs (filter P xs) (P x) (i x) (any_within p P i xs)

  swap_step : (P N : X → Bool) (x : X) (xs : List X) (b d : Bool) → P x ≡ b → N x ≡ d → filter P (filter N xs) ≡ filter N (filter P xs)
      → filter P (cond d (x ∷ filter N xs) (filter N xs)) ≡ filter N (cond b (x ∷ filter P xs) (filter P xs))
  swap_step P N x xs true true e f h = ap (λ b. cond b (x ∷ filter P (filter N xs)) (filter P (filter N xs))) e ∙ ap (λ w. x ∷ w) h ∙ ap (λ b. cond b (x ∷ filter N (filter P xs)) (filter N (filter P xs))) (sym f)
  swap_step P N x xs true false e f h = h ∙ ap (λ b. cond b (x ∷ filter N (filter P xs)) (filter N (filter P xs))) (sym f)
  swap_step P N x xs false true e f h = ap (λ b. cond b (x ∷ filter P (filter N xs)) (filter P (filter N xs))) e ∙ h
  swap_step P N x xs false false e f h = h

  pub filter_swap : (P N : X → Bool) (xs : List X) → filter P (filter N xs) ≡ filter N (filter P xs)
  filter_swap P N [] = refl
  filter_swap P N (x ∷ xs) = swap_step P N x xs (P x) (N x) refl refl (filter_swap P N xs)

  keep_step : (P N : X → Bool) (x : X) (xs : List X) (d : Bool) → N x ≡ d → (P x ≡ true → N x ≡ true) → filter P (filter N xs) ≡ filter P xs
      → filter P (cond d (x ∷ filter N xs) (filter N xs)) ≡ filter P (x ∷ xs)
  keep_step P N x xs true e i h = ap (λ w. cond (P x) (x ∷ w) w) h
  keep_step P N x xs false e i h = h ∙ ap (λ b. cond b (x ∷ filter P xs) (filter P xs)) (sym (not_so (P x) (λ t. let g : N x ≡ true = i t in cc)))

  -- a filter that takes nothing of what another keeps
  pub filter_keep : (P N : X → Bool) → ((x : X) → P x ≡ true → N x ≡ true) → (xs : List X) → filter P (filter N xs) ≡ filter P xs
  filter_keep P N i [] = refl
  filter_keep P N i (x ∷ xs) = keep_step P N x xs (N x) refl (i x) (filter_keep P N i xs)

-- ---- a turn on its own name

module _ (n : DomainName) (r : Resource) (h : is_at n r ≡ true) where
  own : (X : Resource → Bool) (z : Records) → list_any (λ q. is_at r.name q && X q) (of_name n z) ≡ list_any (λ q. is_at r.name q && X q) z
  own X z = any_within (λ q. is_at r.name q && X q) (is_at n) (λ q t. named n r q h (and_left _ _ t)) z

  own_set : (X : Resource → Bool) (z : Records) → list_any (λ q. in_rrset r q && X q) (of_name n z) ≡ list_any (λ q. in_rrset r q && X q) z
  own_set X z = any_within (λ q. in_rrset r q && X q) (is_at n) (λ q t. named n r q h (and_left _ _ (and_left (in_rrset r q) _ t))) z

  own_ttl : (z : Records) → ttl_at (of_name n z) r ≡ ttl_at z r
  own_ttl z = ttl_kept (is_at n) r (λ q t. named n r q h (and_left _ _ t)) z

  own_ignored : (z : Records) → is_ignored (of_name n z) r ≡ is_ignored z r
  own_ignored z = cc (own (λ q. not (is_type 5 q)) z, own (λ q. is_type 5 q) z, own (λ q. is_type (type_of r.rdata) q) z, own_set (λ q. not (is_newer r.rdata q.rdata)) z)

  -- of the RRset of r the name has what the zone has
  set_ttl : (z : Records) (q : Resource) → in_rrset r q ≡ true → ttl_at (of_name n z) q ≡ ttl_at z q
  set_ttl z q t = ttl_kept (is_at n) q (λ x s. named n q x (named n r q h (and_left _ _ t)) (and_left _ _ s)) z

  set_step : (z : Records) (q : Resource) (b : Bool) → in_rrset r q ≡ b → (b && not (has_ttl r.ttl (ttl_at (of_name n z) q))) ≡ (b && not (has_ttl r.ttl (ttl_at z q)))
  set_step z q true e = ap (λ o. not (has_ttl r.ttl o)) (set_ttl z q e)
  set_step z q false e = refl

  own_other_ttl : (z : Records) → has_other_ttl (of_name n z) r ≡ has_other_ttl z r
  own_other_ttl z =
      own_set (λ q. not (has_ttl r.ttl (ttl_at (of_name n z) q))) z
      ∙ any_alike (λ q. in_rrset r q && not (has_ttl r.ttl (ttl_at (of_name n z) q))) (λ q. in_rrset r q && not (has_ttl r.ttl (ttl_at z q))) (λ q. set_step z q (in_rrset r q) refl) z

  own_stands : (f : Bool) (z : Records) → adds_nothing_new f (of_name n z) r ≡ adds_nothing_new f z r
  own_stands f z = cc (own_ttl z, own_set (λ q. not (same_record r q)) z, own_other_ttl z)

  pub own_comes : (f : Bool) (z : Records) → is_added f (of_name n z) r ≡ is_added f z r
  own_comes f z = cc (own_ignored z, own_stands f z)

  pub own_spared : (f : Bool) (o : DomainName) (z : Records) → is_spared f o (of_name n z) r ≡ is_spared f o z r
  own_spared f o z = cc (own_set (λ q. not (same_record (in_class r) q)) z)

  kept_tail : (a : Bool) → of_name n (cond a (r ∷ []) []) ≡ cond a (r ∷ []) []
  kept_tail true = ap (λ b. cond b (r ∷ []) []) h
  kept_tail false = refl

  own_when : (f : Bool) (origin : DomainName) (z : Records) (a s : Bool) → of_name n (after_record_when f origin z r a s) ≡ after_record_when f origin (of_name n z) r a s
  own_when f origin z a s =
      let stays : Resource → Bool = λ q. not (is_deleted_when origin r a s q) in
      settled_of_name n r (f && a) (filter stays z ++ cond a (r ∷ []) [])
      ∙ ap (λ (w : Records). cond (f && a) (one_ttl r w) w)
      (filter-append (is_at n) (filter stays z) (cond a (r ∷ []) [])
      ∙ ap (λ w. w ++ of_name n (cond a (r ∷ []) [])) (filter_swap (is_at n) stays z)
      ∙ ap (λ w. filter stays (of_name n z) ++ w) (kept_tail a))

  pub own_counted : (f : Bool) (origin : DomainName) (z : Records) → of_name n (after_counted f origin z r) ≡ after_counted f origin (of_name n z) r
  own_counted f origin z =
      own_when f origin z (is_added f z r) (is_spared f origin z r)
      ∙ sym (ap (λ b. after_record_when f origin (of_name n z) r b (is_spared f origin z r)) (own_comes f z))
      ∙ sym (ap (λ b. after_record_when f origin (of_name n z) r (is_added f (of_name n z) r) b) (own_spared f origin z))

-- what a turn makes of its own name is its turn on what there is of the name
pub own_turn : (f : Bool) (n : DomainName) (r : Resource) → is_at n r ≡ true → (origin : DomainName) (z : Records)
    → of_name n (after_record f origin z r) ≡ after_record f origin (of_name n z) r
unfolding after_record
own_turn f n r h origin z = own_counted n (counted f r) (counted_at f n r ∙ h) f origin z

-- ---- and on others

by_cases : (coming rep spared cl set same t : Bool) (k any : Bool) → (cl ≡ true → t ≡ true) → (set ≡ true → t ≡ true) → (same ≡ true → t ≡ true) → (other : Bool) → (other ≡ true → t ≡ true)
    → cond k (coming && cond rep set same) (cond any cl (not spared && other)) ≡ true → t ≡ true
by_cases true true spared cl set same t true any f g h other i e = g e
by_cases true false spared cl set same t true any f g h other i e = h e
by_cases false rep spared cl set same t true any f g h other i e = absurd (cc)
by_cases coming rep spared cl set same t false true f g h other i e = f e
by_cases coming rep true cl set same t false false f g h other i e = absurd (cc)
by_cases coming rep false cl set same t false false f g h other i e = i e

-- what goes has the name
pub goes_named : (origin : DomainName) (r : Resource) (a s : Bool) (q : Resource) → is_deleted_when origin r a s q ≡ true → is_at r.name q ≡ true
goes_named origin r a s q e =
    by_cases a (replaces_rrset r) s (is_in_deleted_rrsets origin r q) (in_rrset r q) (same_record r q) (is_at r.name q) (r.dns_class == 1) (r.dns_class == 255)
    (λ t. and_left _ _ t) (λ t. and_left _ _ t) (λ t. and_left _ _ t) (same_record (in_class r) q) (λ t. and_left _ _ t) e

module _ (n : DomainName) (r : Resource) (h : is_at n r ≡ false) where
  lost_tail : (a : Bool) → of_name n (cond a (r ∷ []) []) ≡ []
  lost_tail true = ap (λ b. cond b (r ∷ []) []) h
  lost_tail false = refl

  stays_so : (g : Bool) → g ≡ false → not g ≡ true
  stays_so true e = absurd (cc)
  stays_so false e = refl

  not_of_set : (q : Resource) → is_at n q ≡ true → in_rrset r q ≡ false
  not_of_set q t = first_false (is_at r.name q) _ (not_named n r q h t)

  other_counted : (f : Bool) (origin : DomainName) (z : Records) → of_name n (after_counted f origin z r) ≡ of_name n z
  other_counted f origin z =
      let a = is_added f z r in
      let s = is_spared f origin z r in
      let stays : Resource → Bool = λ q. not (is_deleted_when origin r a s q) in
      settled_other n r not_of_set (f && a) (filter stays z ++ cond a (r ∷ []) [])
      ∙ filter-append (is_at n) (filter stays z) (cond a (r ∷ []) [])
      ∙ ap (λ w. of_name n (filter stays z) ++ w) (lost_tail a)
      ∙ append_none _
      ∙ filter_keep (is_at n) stays
      (λ q t. stays_so _ (not_so _ (λ g. let u : is_at r.name q ≡ true = goes_named origin r a s q g in let v : is_at r.name q ≡ false = not_named n r q h t in cc))) z

pub other_turn : (f : Bool) (n : DomainName) (r : Resource) → is_at n r ≡ false → (origin : DomainName) (z : Records) → of_name n (after_record f origin z r) ≡ of_name n z
unfolding after_record
other_turn f n r h origin z = other_counted n (counted f r) (counted_at f n r ∙ h) f origin z

-- ---- the fold

module _ (f : Bool) (origin n : DomainName) where
  fold_step : (r : Resource) (rs z : Records) (b : Bool) → is_at n r ≡ b
      → after_updates f origin (of_name n (after_record f origin z r)) (of_name n rs) ≡ after_updates f origin (of_name n z) (cond b (r ∷ of_name n rs) (of_name n rs))
  fold_step r rs z true e = ap (λ w. after_updates f origin w (of_name n rs)) (own_turn f n r e origin z)
  fold_step r rs z false e = ap (λ w. after_updates f origin w (of_name n rs)) (other_turn f n r e origin z)

  pub fold_by_name : (rs z : Records) → of_name n (after_updates f origin z rs) ≡ after_updates f origin (of_name n z) (of_name n rs)
  fold_by_name [] z = refl
  fold_by_name (r ∷ rs) z = fold_by_name rs (after_record f origin z r) ∙ fold_step r rs z (is_at n r) refl

-- ---- whether it changes anything

own_counted_changes : (f : Bool) (n : DomainName) (r : Resource) (h : is_at n r ≡ true) (origin : DomainName) (z : Records) → counted_changes f origin (of_name n z) r ≡ counted_changes f origin z r
own_counted_changes f n r h origin z =
    let w = of_name n z in
    ap (λ b. list_any (is_deleted_when origin r b (is_spared f origin w r)) w || b) (own_comes n r h f z)
    ∙ ap (λ b. list_any (is_deleted_when origin r (is_added f z r) b) w || is_added f z r) (own_spared n r h f origin z)
    ∙ ap (λ b. b || is_added f z r) (any_within (is_deleted f origin z r) (is_at n) (λ q t. named n r q h (goes_named origin r _ _ q t)) z)

pub own_changes : (f : Bool) (n : DomainName) (r : Resource) → is_at n r ≡ true → (origin : DomainName) (z : Records) → changes f origin (of_name n z) r ≡ changes f origin z r
unfolding changes
own_changes f n r h origin z = own_counted_changes f n (counted f r) (counted_at f n r ∙ h) origin z
