-- One record of an update section in its turn, where it is settled whether it comes and whether it is spared.
use Rattle.std.proofs.Common.{◌≡◌, ◌∙◌, ap, sym, cond, refl, ℕ, ◌≤◌, ◌<◌, ◌^◌, nat_le, arith, Bool, true, false, ◌&&◌, ◌||◌, ◌++◌, List, [], ◌∷◌, filter, not}
use Rattle.std.specs.List.{list_any}
use Rattle.std.proofs.lemmas.Bool.Decides.{nat_tests}
use Rattle.std.proofs.lemmas.List.{append-nil}
use Rattle.wire_names.specs.rr.domain.DomainName.{DomainName}
use Rattle.wire_messages.specs.declared.rr.rdata.RData.{RData}
use Rattle.wire_messages.specs.declared.rr.record.Record.{Record}
use Rattle.hickory_store.specs.updates.Changes.{after_counted, after_record, after_record_when, changes, counted, counted_changes, is_added, is_deleted_when, is_spared, one_ttl}

or_true : (b : Bool) → (b || true) ≡ true
or_true true = refl
or_true false = refl

or_false : (b : Bool) → (b || false) ≡ b
or_false true = refl
or_false false = refl

both_or : {X : Type 0} (f : Bool) (x y : X) → cond (f && false) x y ≡ y
both_or true x y = refl
both_or false x y = refl

both_true : {X : Type 0} (f : Bool) (x y : X) → cond f x y ≡ cond (f && true) x y
both_true true x y = refl
both_true false x y = refl

module _ (f : Bool) (origin : DomainName) (zone : List (Record RData)) (r : Record RData) (a b : Bool) (p : a ≡ is_added f zone r) (s : b ≡ is_spared f origin zone r) where
  kept : List (Record RData)
  kept = filter (λ q. not (is_deleted_when origin r a b q)) zone

  turn_as : after_record_when f origin zone r a b ≡ after_counted f origin zone r
  turn_as = ap (λ a. after_record_when f origin zone r a b) p ∙ ap (λ b. after_record_when f origin zone r (is_added f zone r) b) s

  changes_as : (list_any (is_deleted_when origin r a b) zone || a) ≡ counted_changes f origin zone r
  changes_as =
      ap (λ a. list_any (is_deleted_when origin r a b) zone || a) p
      ∙ ap (λ b. list_any (is_deleted_when origin r (is_added f zone r) b) zone || is_added f zone r) s

  pub turn_coming : (w new : List (Record RData)) → a ≡ true → w ≡ filter (λ q. not (is_deleted_when origin r a b q)) zone
      → new ≡ cond f (one_ttl r (w ++ r ∷ [])) (w ++ r ∷ []) → new ≡ after_counted f origin zone r
  unfolding kept
  turn_coming w new t e g =
      g ∙ ap (λ (w : List (Record RData)). cond f (one_ttl r (w ++ r ∷ [])) (w ++ r ∷ [])) e
      ∙ both_true f (one_ttl r (kept ++ r ∷ [])) (kept ++ r ∷ [])
      ∙ ap (λ v. cond (f && v) (one_ttl r (kept ++ cond v (r ∷ []) [])) (kept ++ cond v (r ∷ []) [])) (sym t) ∙ turn_as

  pub turn_leaving : (w : List (Record RData)) → a ≡ false → w ≡ filter (λ q. not (is_deleted_when origin r a b q)) zone → w ≡ after_counted f origin zone r
  unfolding kept
  turn_leaving w t e =
      e ∙ sym (append-nil kept) ∙ sym (both_or f (one_ttl r (kept ++ [])) (kept ++ []))
      ∙ ap (λ v. cond (f && v) (one_ttl r (kept ++ cond v (r ∷ []) [])) (kept ++ cond v (r ∷ []) [])) (sym t) ∙ turn_as

  pub changes_coming : a ≡ true → true ≡ counted_changes f origin zone r
  changes_coming t = sym (or_true (list_any (is_deleted_when origin r a b) zone)) ∙ ap (λ v. list_any (is_deleted_when origin r a b) zone || v) (sym t) ∙ changes_as

  pub changes_leaving : (d : Bool) → a ≡ false → d ≡ list_any (is_deleted_when origin r a b) zone → d ≡ counted_changes f origin zone r
  changes_leaving d t e = e ∙ sym (or_false _) ∙ ap (λ v. list_any (is_deleted_when origin r a b) zone || v) (sym t) ∙ changes_as

-- ---- the TTL that counts

pub counted_large : (f : Bool) (r q : Record RData) → f ≡ true → 2 ^ 31 ≤ r.ttl → q ≡ record r { ttl = 0 } → q ≡ counted f r
counted_large f r q t h e = e ∙ step (f && nat_le (2 ^ 31) r.ttl) (large f (nat_le (2 ^ 31) r.ttl) t (grind (arith, nat_tests)))
  where
    large : (a b : Bool) → a ≡ true → b ≡ true → (a && b) ≡ true
    large a b k l = cc

    step : (b : Bool) → b ≡ true → record r { ttl = 0 } ≡ cond b (record r { ttl = 0 }) r
    step true k = refl
    step false k = cc

pub below_large : (f : Bool) (n : ℕ) → n < 2 ^ 31 → (f && nat_le (2 ^ 31) n) ≡ false
below_large true n h = grind (arith, nat_tests)
below_large false n h = refl

pub not_by_rfc : (f : Bool) (n : ℕ) → f ≡ false → (f && nat_le (2 ^ 31) n) ≡ false
not_by_rfc true n h = cc
not_by_rfc false n h = refl

pub counted_small : (f : Bool) (r : Record RData) → (f && nat_le (2 ^ 31) r.ttl) ≡ false → r ≡ counted f r
counted_small f r h = step (f && nat_le (2 ^ 31) r.ttl) h
  where
    step : (b : Bool) → b ≡ false → r ≡ cond b (record r { ttl = 0 }) r
    step true k = cc
    step false k = refl

module _ (f : Bool) (origin : DomainName) (zone : List (Record RData)) (r q : Record RData) (e : q ≡ counted f r) where
  pub turn_of : after_counted f origin zone q ≡ after_record f origin zone r
  unfolding after_record
  turn_of = ap (λ (x : Record RData). after_counted f origin zone x) e

  pub changes_of : counted_changes f origin zone q ≡ changes f origin zone r
  unfolding changes
  changes_of = ap (λ (x : Record RData). counted_changes f origin zone x) e
