-- The records of an RRset get one TTL, and tests that look at no TTL see the same.
use Rattle.std.proofs.Common.{◌≡◌, ◌∙◌, ap, sym, refl, ℕ, ◌+◌, Bool, true, false, cond, ◌||◌, List, [], ◌∷◌, filter}
use Rattle.std.specs.List.{list_any}
use Rattle.wire_names.specs.rr.domain.DomainName.{DomainName}
use Rattle.wire_messages.specs.declared.rr.rdata.RData.{RData}
use Rattle.wire_messages.specs.declared.rr.record.Record.{Record}
use Rattle.hickory_base.specs.zone_store.ZoneRecords.{is_at}
use Rattle.hickory_store.specs.updates.Changes.{counted, in_rrset, one_ttl}
use Rattle.hickory_store.specs.updates.UpdateLaws.{how_many}

abbrev Resource : Type 0
Resource = Record RData

abbrev Records : Type 0
Records = List Resource

pub any_alike : {X : Type 0} (p s : X → Bool) → ((x : X) → p x ≡ s x) → (xs : List X) → list_any p xs ≡ list_any s xs
any_alike p s h [] = refl
any_alike p s h (x ∷ xs) = ap (λ b. b || list_any p xs) (h x) ∙ ap (λ b. s x || b) (any_alike p s h xs)

-- a test that looks at no TTL
abbrev pub Blind : (Resource → Bool) → Type 0
Blind p = (q : Resource) (ttl : ℕ) → p (record q { ttl = ttl }) ≡ p q

-- a record that is given a TTL, or not
abbrev pub given : Bool → ℕ → Resource → Resource
given b ttl q = cond b (record q { ttl = ttl }) q

blind_step : (p : Resource → Bool) → Blind p → (q : Resource) (ttl : ℕ) (b : Bool) → p (given b ttl q) ≡ p q
blind_step p h q ttl true = h q ttl
blind_step p h q ttl false = refl

any_one : (p : Resource → Bool) → Blind p → (r : Resource) (z : Records) → list_any p (one_ttl r z) ≡ list_any p z
any_one p h r [] = refl
any_one p h r (q ∷ z) =
    ap (λ b. b || list_any p (one_ttl r z)) (blind_step p h q r.ttl (in_rrset r q)) ∙ ap (λ b. p q || b) (any_one p h r z)

many_one : (p : Resource → Bool) → Blind p → (r : Resource) (z : Records) → how_many p (one_ttl r z) ≡ how_many p z
many_one p h r [] = refl
many_one p h r (q ∷ z) =
    ap (λ b. cond b 1 0 + how_many p (one_ttl r z)) (blind_step p h q r.ttl (in_rrset r q)) ∙ ap (λ n. cond (p q) 1 0 + n) (many_one p h r z)

pub any_settled : (p : Resource → Bool) → Blind p → (c : Bool) (r : Resource) (z : Records) → list_any p (cond c (one_ttl r z) z) ≡ list_any p z
any_settled p h true r z = any_one p h r z
any_settled p h false r z = refl

pub many_settled : (p : Resource → Bool) → Blind p → (c : Bool) (r : Resource) (z : Records) → how_many p (cond c (one_ttl r z) z) ≡ how_many p z
many_settled p h true r z = many_one p h r z
many_settled p h false r z = refl

-- ---- the records of a name

module _ (n : DomainName) (r : Resource) where
  at_given : (q : Resource) (ttl : ℕ) (b : Bool) → is_at n (given b ttl q) ≡ is_at n q
  at_given q ttl true = refl
  at_given q ttl false = refl

  at_step : (q : Resource) (z : Records) (b : Bool) → one_ttl r (cond b (q ∷ z) z) ≡ cond b (given (in_rrset r q) r.ttl q ∷ one_ttl r z) (one_ttl r z)
  at_step q z true = refl
  at_step q z false = refl

  one_of_name : (z : Records) → filter (is_at n) (one_ttl r z) ≡ one_ttl r (filter (is_at n) z)
  one_of_name [] = refl
  one_of_name (q ∷ z) =
      ap (λ b. cond b (given (in_rrset r q) r.ttl q ∷ filter (is_at n) (one_ttl r z)) (filter (is_at n) (one_ttl r z))) (at_given q r.ttl (in_rrset r q))
      ∙ ap (λ (w : Records). cond (is_at n q) (given (in_rrset r q) r.ttl q ∷ w) w) (one_of_name z)
      ∙ sym (at_step q (filter (is_at n) z) (is_at n q))

  pub settled_of_name : (c : Bool) (z : Records) → filter (is_at n) (cond c (one_ttl r z) z) ≡ cond c (one_ttl r (filter (is_at n) z)) (filter (is_at n) z)
  settled_of_name true z = one_of_name z
  settled_of_name false z = refl

  other_step : (q : Resource) (z : Records) (b : Bool) → (b ≡ true → in_rrset r q ≡ false) → one_ttl r z ≡ z → one_ttl r (cond b (q ∷ z) z) ≡ cond b (q ∷ z) z
  other_step q z true i e = ap (λ b. given b r.ttl q ∷ one_ttl r z) (i refl) ∙ ap (λ (w : Records). q ∷ w) e
  other_step q z false i e = e

  other_one : ((q : Resource) → is_at n q ≡ true → in_rrset r q ≡ false) → (z : Records) → one_ttl r (filter (is_at n) z) ≡ filter (is_at n) z
  other_one h [] = refl
  other_one h (q ∷ z) = other_step q (filter (is_at n) z) (is_at n q) (h q) (other_one h z)

  -- of another name nothing is in the RRset
  pub settled_other : ((q : Resource) → is_at n q ≡ true → in_rrset r q ≡ false) → (c : Bool) (z : Records)
      → filter (is_at n) (cond c (one_ttl r z) z) ≡ filter (is_at n) z
  settled_other h true z = one_of_name z ∙ other_one h z
  settled_other h false z = refl

-- ---- the TTL of a record that counts

pub counted_at : (f : Bool) (n : DomainName) (r : Resource) → is_at n (counted f r) ≡ is_at n r
counted_at f n r = step _
  where
    step : (b : Bool) → is_at n (cond b (record r { ttl = 0 }) r) ≡ is_at n r
    step true = refl
    step false = refl

-- what holds of a record, whatever its TTL, holds of it as it counts
pub counted_so : (P : Resource → Type 0) (f : Bool) (r : Resource) → P r → P (record r { ttl = 0 }) → P (counted f r)
counted_so P f r h k = step _
  where
    step : (b : Bool) → P (cond b (record r { ttl = 0 }) r)
    step true = k
    step false = h
