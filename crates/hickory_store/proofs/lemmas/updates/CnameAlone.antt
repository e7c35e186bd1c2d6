-- A CNAME stays alone at its name.
use Rattle.std.proofs.Common.{◌≡◌, ◌∙◌, ap, sym, refl, Bool, true, false, cond, not, ◌&&◌, ◌||◌, ◌++◌, [], ◌∷◌, filter}
use Rattle.std.specs.Prelude.{◌==◌}
use Rattle.std.specs.List.{list_any}
use Rattle.std.proofs.lemmas.List.Folds.{list_any-append}
use Rattle.wire_names.specs.rr.domain.DomainName.{DomainName}
use Rattle.wire_names.specs.rr.domain.NameOrder.{name_eq}
use Rattle.hickory_base.specs.zone_store.ZoneRecords.{is_at}
use Rattle.hickory_store.specs.updates.Changes.{is_added, is_deleted_when, in_rrset, is_ignored, is_newer, is_spared, adds_nothing_new, is_type, after_counted, after_record, counted, one_ttl}
use Rattle.hickory_store.specs.updates.UpdateLaws.{CnameStaysAlone, IsCnameAlone, has_cname, has_other}
use Rattle.hickory_store.proofs.lemmas.updates.ApexNs.{Records, Resource, and_left, and_right, names, not_true}
use Rattle.hickory_store.proofs.lemmas.updates.OneTtl.{any_settled}

pub or_none : (a b : Bool) → a ≡ false → b ≡ false → (a || b) ≡ false
or_none true b h k = cc
or_none false b h k = k

none_first : (a b : Bool) → (a || b) ≡ false → a ≡ false
none_first true b h = cc
none_first false b h = refl

none_rest : (a b : Bool) → (a || b) ≡ false → b ≡ false
none_rest true b h = cc
none_rest false b h = h

kept_none : (p : Resource → Bool) (q : Resource) (more : Records) (b : Bool) → p q ≡ false → list_any p more ≡ false → list_any p (cond b (q ∷ more) more) ≡ false
kept_none p q more true h k = or_none (p q) (list_any p more) h k
kept_none p q more false h k = k

pub none_kept : (p keep : Resource → Bool) (z : Records) → list_any p z ≡ false → list_any p (filter keep z) ≡ false
none_kept p keep [] h = refl
none_kept p keep (q ∷ z) h = kept_none p q (filter keep z) (keep q) (none_first (p q) _ h) (none_kept p keep z (none_rest (p q) _ h))

some_before : (p keep : Resource → Bool) (z : Records) → list_any p (filter keep z) ≡ true → list_any p z ≡ true
some_before p keep z h = back (list_any p z) refl
  where
    back : (b : Bool) → list_any p z ≡ b → list_any p z ≡ true
    back true e = e
    back false e = absurd (let f : list_any p (filter keep z) ≡ false = none_kept p keep z e in cc)

-- names that are the same have the same records
pub named_alike : (f : Resource → Bool) (n m : DomainName) → name_eq n m ≡ true → (z : Records) → list_any (λ q. is_at n q && f q) z ≡ list_any (λ q. is_at m q && f q) z
named_alike f n m e [] = refl
named_alike f n m e (q ∷ z) =
    ap (λ b. (b && f q) || list_any (λ q. is_at n q && f q) z) (names.congr n m q.name e) ∙ ap (λ b. (is_at m q && f q) || b) (named_alike f n m e z)

last_false : (p : Resource → Bool) (xs : Records) (r : Resource) → p r ≡ false → list_any p (xs ++ r ∷ []) ≡ list_any p xs
last_false p xs r h = list_any-append p xs (r ∷ []) ∙ ap (λ b. list_any p xs || (b || false)) h ∙ or_false (list_any p xs)
  where
    or_false : (b : Bool) → (b || false) ≡ b
    or_false true = refl
    or_false false = refl

-- what an addition that is not ignored finds
pub other_free : (five others cnames more : Bool) → five ≡ true → not (cond five others (cnames || more)) ≡ true → others ≡ false
other_free true others cnames more e h = not_true others h
other_free false others cnames more e h = cc

cname_free : (five others cnames more : Bool) → five ≡ false → not (cond five others (cnames || more)) ≡ true → cnames ≡ false
cname_free true others cnames more e h = cc
cname_free false others cnames more e h = none_first cnames more (not_true (cnames || more) h)

pub and_false : (a b : Bool) → b ≡ false → (a && b) ≡ false
and_false true b h = h
and_false false b h = refl

pub first_false : (a b : Bool) → a ≡ false → (a && b) ≡ false
first_false true b h = cc
first_false false b h = refl

module _ (z : Records) (alone : IsCnameAlone z) (r : Resource) (keep : Resource → Bool) (n : DomainName) where
  kept_alone : has_cname (filter keep z) n ≡ true → has_other (filter keep z) n ≡ false
  kept_alone h = none_kept (λ q. is_at n q && not (is_type 5 q)) keep z (alone n (some_before (λ q. is_at n q && is_type 5 q) keep z h))

  added : (at five : Bool) → is_at n r ≡ at → is_type 5 r ≡ five → not (is_ignored z r) ≡ true
      → has_cname (filter keep z ++ r ∷ []) n ≡ true → has_other (filter keep z ++ r ∷ []) n ≡ false
  added false five e f free h =
      last_false (λ q. is_at n q && not (is_type 5 q)) (filter keep z) r (first_false (is_at n r) _ e)
      ∙ kept_alone (sym (last_false (λ q. is_at n q && is_type 5 q) (filter keep z) r (first_false (is_at n r) _ e)) ∙ h)
  added true true e f free h =
      last_false (λ q. is_at n q && not (is_type 5 q)) (filter keep z) r (and_false (is_at n r) _ (ap not f))
      ∙ none_kept (λ q. is_at n q && not (is_type 5 q)) keep z (named_alike (λ q. not (is_type 5 q)) n r.name e z ∙ other_free (is_type 5 r) _ (list_any (λ q. is_at r.name q && is_type 5 q) z) (is_type 6 r && (not (list_any (in_rrset r) z) || list_any (λ q. in_rrset r q && not (is_newer r.rdata q.rdata)) z)) f free)
  added true false e f free h =
      absurd (let none : has_cname (filter keep z ++ r ∷ []) n ≡ false =
      last_false (λ q. is_at n q && is_type 5 q) (filter keep z) r (and_false (is_at n r) _ f)
      ∙ none_kept (λ q. is_at n q && is_type 5 q) keep z (named_alike (is_type 5) n r.name e z ∙ cname_free (is_type 5 r) (list_any (λ q. is_at r.name q && not (is_type 5 q)) z) _ (is_type 6 r && (not (list_any (in_rrset r) z) || list_any (λ q. in_rrset r q && not (is_newer r.rdata q.rdata)) z)) f free) in cc)

append_none : (xs : Records) → xs ++ [] ≡ xs
append_none [] = refl
append_none (x ∷ xs) = ap (λ more. x ∷ more) (append_none xs)

turn_cases : (o : DomainName) (z : Records) (r : Resource) (a b : Bool) → (a ≡ true → not (is_ignored z r) ≡ true) → IsCnameAlone z
    → IsCnameAlone (filter (λ q. not (is_deleted_when o r a b q)) z ++ cond a (r ∷ []) [])
turn_cases o z r true b free alone n h = added z alone r (λ q. not (is_deleted_when o r true b q)) n (is_at n r) (is_type 5 r) refl refl (free refl) h
turn_cases o z r false b free alone n h =
    ap (λ xs. has_other xs n) (append_none _) ∙ kept_alone z alone r (λ q. not (is_deleted_when o r false b q)) n (ap (λ xs. has_cname xs n) (sym (append_none _)) ∙ h)

settled_alone : (c : Bool) (r : Resource) (z : Records) → IsCnameAlone z → IsCnameAlone (cond c (one_ttl r z) z)
settled_alone c r z alone n h =
    any_settled (λ q. is_at n q && not (is_type 5 q)) (λ q ttl. refl) c r z
    ∙ alone n (sym (any_settled (λ q. is_at n q && is_type 5 q) (λ q ttl. refl) c r z) ∙ h)

cname_counted : (f : Bool) (o : DomainName) (z : Records) (r : Resource) → IsCnameAlone z → IsCnameAlone (after_counted f o z r)
cname_counted f o z r alone =
    settled_alone (f && is_added f z r) r _
    (turn_cases o z r (is_added f z r) (is_spared f o z r) (λ e. and_left (not (is_ignored z r)) (not (adds_nothing_new f z r)) (and_right (r.dns_class == 1) _ e)) alone)

cname_turn : (f : Bool) (o : DomainName) (z : Records) (r : Resource) → IsCnameAlone z → IsCnameAlone (after_record f o z r)
unfolding after_record
cname_turn f o z r alone = cname_counted f o z (counted f r) alone

pub cname_stays : CnameStaysAlone
cname_stays f o [] z alone = alone
cname_stays f o (r ∷ rs) z alone = cname_stays f o rs (after_record f o z r) (cname_turn f o z r alone)
