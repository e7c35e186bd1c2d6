-- Hashes as keys of a map.
use Rattle.std.proofs.Common.{◌≡◌, ◌++◌, ◌∙◌, ℕ, Bool, true, false, List, [], ◌∷◌, Option, Some, None, refl, sym, ap, subst, inl, inr}
use Rattle.std.specs.Prelude.{◌↔◌, IsTrue, MatchOption, is_some, nat_eq}
use Rattle.std.specs.Ordering.{is_eq, is_gt, is_lt, ordering_reverse}
use Rattle.std.specs.Cmp.{tied_itself}
use Rattle.std.specs.Cmp.Lexicographic.{nat_list_cmp_total, pointwise}
use Rattle.std.specs.BTreeMap.{BTreeMap, IsLowerBound, get}
use Rattle.std.specs.BTreeMap.Range.{IsRangeOf}
use Rattle.std.specs.declared.ops.Bound.TheVariants.{Excluded, Unbounded}
use Rattle.std.specs.declared.cmp.Ordering.{Ordering}
use Rattle.std.specs.declared.cmp.Ordering.TheVariants.{Less, Equal, Greater}
use Rattle.std.proofs.lemmas.Map.Lookups.{exact_bytes}
use Rattle.wire_messages.proofs.lemmas.rr.RecordComparing.{octets_equal, octets_from_eq}
use Rattle.zone_check.specs.CheckedZones.{CheckedZone}
use Rattle.zone_check.specs.HashedZones.{HasHash, IsCover, IsEarlierHash, IsFirst, IsLast, IsLaterHash, IsNextHash}
use Rattle.zone_check.specs.Indexes.{HasHashes, IsEarlierKey, IsKey, IsLaterKey, hash_cmp}
use Rattle.zone_denials.specs.Nsec3.{IsBelow}

false_true : false ≡ true → ⊥
false_true e = cc

pub equal_hashes : (a b : List ℕ) → is_eq (hash_cmp a b) ≡ true → a ≡ b
equal_hashes a b h = by_order (hash_cmp a b) refl h where
  by_order : (o : Ordering) → hash_cmp a b ≡ o → is_eq o ≡ true → a ≡ b
  by_order Less e h = absurd (cc)
  by_order Equal e h = exact_bytes a b e
  by_order Greater e h = absurd (cc)

pub same_hashes : (a b : List ℕ) → a ≡ b → is_eq (hash_cmp a b) ≡ true
same_hashes a b e = ap (λ x. is_eq (hash_cmp a x)) (sym e) ∙ ap is_eq (tied_itself nat_list_cmp_total a)

-- of two hashes neither of which is below the other
pub neither_below : (a b : List ℕ) → ¬ (IsBelow a b) → ¬ (IsBelow b a) → a ≡ b
neither_below a b not_up not_down = by_order (hash_cmp a b) refl where
  by_order : (o : Ordering) → hash_cmp a b ≡ o → a ≡ b
  by_order Less e = absurd (not_up e)
  by_order Equal e = exact_bytes a b e
  by_order Greater e = absurd (not_down (nat_list_cmp_total.antisymm b a ∙ ap ordering_reverse e))

-- whether the octets of two hashes are the same
pub eq_is : (a b : List ℕ) (r : Bool) → r ≡ pointwise nat_eq a b → IsTrue r ↔ (a ≡ b)
eq_is a b r e = (λ t. octets_from_eq a b (sym e ∙ t), λ s. e ∙ subst (λ (x : List ℕ). pointwise nat_eq a x ≡ true) s (octets_equal a))

pub one_first : (Is : List ℕ → Type 0) (a b : List ℕ) → IsFirst Is a → IsFirst Is b → a ≡ b
one_first Is a b f g = neither_below a b (g.least a f.is) (f.least b g.is)

pub one_last : (Is : List ℕ → Type 0) (a b : List ℕ) → IsLast Is a → IsLast Is b → a ≡ b
one_last Is a b f g = neither_below a b (f.greatest b g.is) (g.greatest a f.is)

not_gt : (o : Ordering) → is_gt o ≡ false → o ≡ Greater → ⊥
not_gt o h e = absurd (cc)

not_lt : (o : Ordering) → is_lt o ≡ false → o ≡ Less → ⊥
not_lt o h e = absurd (cc)

-- a hash that is not above another is not after it
not_after : (a b : List ℕ) → is_gt (hash_cmp a b) ≡ false → ¬ (IsBelow b a)
not_after a b h below = not_gt (hash_cmp a b) h (nat_list_cmp_total.antisymm a b ∙ ap ordering_reverse below)

module _ (hashes : BTreeMap (List ℕ) ℕ) where
  pub none_later : (hash : List ℕ) (range : List (List ℕ × ℕ)) → IsRangeOf hash_cmp (Excluded hash) Unbounded hashes range → range ≡ [] → (q : List ℕ) → ¬ (IsLaterKey hashes hash q)
  none_later hash range of empty q h = false_true (ap is_some (sym (of.5 empty q (h.0, tt))) ∙ h.1)

  pub first_later : (hash : List ℕ) {range rest : List (List ℕ × ℕ)} {e : List ℕ × ℕ} → IsRangeOf hash_cmp (Excluded hash) Unbounded hashes range → range ≡ e ∷ rest → IsFirst (IsLaterKey hashes hash) e.0
  first_later hash {range} {rest} {e} of begins =
      let o = subst (IsRangeOf hash_cmp (Excluded hash) Unbounded hashes) begins of in
      record { is = (o.1.0.0, ap is_some o.1.1); least = λ q h. not_after e.0 q (o.2 q (h.0, tt) h.1) }

  pub none_earlier : (hash : List ℕ) (range : List (List ℕ × ℕ)) → IsRangeOf hash_cmp Unbounded (Excluded hash) hashes range → range ≡ [] → (q : List ℕ) → ¬ (IsEarlierKey hashes hash q)
  none_earlier hash range of empty q h = false_true (ap is_some (sym (of.5 empty q (tt, h.0))) ∙ h.1)

  pub last_earlier : (hash : List ℕ) (range rest : List (List ℕ × ℕ)) (e : List ℕ × ℕ) → IsRangeOf hash_cmp Unbounded (Excluded hash) hashes range → range ≡ rest ++ e ∷ [] → IsLast (IsEarlierKey hashes hash) e.0
  last_earlier hash range rest e of ends =
      let at = of.3 e rest ends in
      record { is = (at.0.1, ap is_some at.1); greatest = λ q h below. not_lt (hash_cmp e.0 q) (of.4 e rest ends q (tt, h.0) h.1) below }

  pub first_key : (first : List ℕ) (place : ℕ) → get hash_cmp hashes first ≡ Some place → IsLowerBound hash_cmp hashes first → IsFirst (IsKey hashes) first
  first_key first place value least = record { is = ap is_some value; least = λ q h. not_after first q (least q h) }

  module _ (zone : CheckedZone) (has : HasHashes zone.origin zone.records zone.records hashes) where
    key_of : (q : List ℕ) → HasHash zone q → IsKey hashes q
    key_of q h = (has q).there ∙ h

    hash_of_key : (q : List ℕ) → IsKey hashes q → HasHash zone q
    hash_of_key q h = sym (has q).there ∙ h

    pub zone_later : (hash q : List ℕ) → IsFirst (IsLaterKey hashes hash) q → IsFirst (IsLaterHash zone hash) q
    zone_later hash q f = record { is = record { after = f.is.0; there = hash_of_key q f.is.1 }; least = λ o l. f.least o (l.after, key_of o l.there) }

    pub zone_none_later : (hash : List ℕ) → ((q : List ℕ) → ¬ (IsLaterKey hashes hash q)) → (q : List ℕ) → ¬ (IsLaterHash zone hash q)
    zone_none_later hash none q l = none q (l.after, key_of q l.there)

    pub zone_earlier : (hash q : List ℕ) → IsLast (IsEarlierKey hashes hash) q → IsLast (IsEarlierHash zone hash) q
    zone_earlier hash q f = record { is = record { before = f.is.0; there = hash_of_key q f.is.1 }; greatest = λ o l. f.greatest o (l.before, key_of o l.there) }

    pub zone_none_earlier : (hash : List ℕ) → ((q : List ℕ) → ¬ (IsEarlierKey hashes hash q)) → (q : List ℕ) → ¬ (IsEarlierHash zone hash q)
    zone_none_earlier hash none q l = none q (l.before, key_of q l.there)

    pub zone_first : (q : List ℕ) → IsFirst (IsKey hashes) q → IsFirst (HasHash zone) q
    zone_first q f = record { is = hash_of_key q f.is; least = λ o h. f.least o (key_of o h) }

    pub zone_last : (q : List ℕ) → IsLast (IsKey hashes) q → IsLast (HasHash zone) q
    zone_last q f = record { is = hash_of_key q f.is; greatest = λ o h. f.greatest o (key_of o h) }

    pub zone_none : ((q : List ℕ) → ¬ (IsKey hashes q)) → (q : List ℕ) → ¬ (HasHash zone q)
    zone_none none q h = none q (key_of q h)

    pub match_first : (o : Option (List ℕ)) → MatchOption o ((q : List ℕ) → ¬ (IsKey hashes q)) (IsFirst (IsKey hashes)) → MatchOption o ((q : List ℕ) → ¬ (HasHash zone q)) (IsFirst (HasHash zone))
    match_first None h = zone_none h
    match_first (Some q) h = zone_first q h

    pub match_last : (o : Option (List ℕ)) → MatchOption o ((q : List ℕ) → ¬ (IsKey hashes q)) (IsLast (IsKey hashes)) → MatchOption o ((q : List ℕ) → ¬ (HasHash zone q)) (IsLast (HasHash zone))
    match_last None h = zone_none h
    match_last (Some q) h = zone_last q h

module _ (zone : CheckedZone) where
  -- no hash is the next one of another twice
  pub one_next : (hash a b : List ℕ) → IsNextHash zone hash a → IsNextHash zone hash b → a ≡ b
  one_next hash a b (inl f) (inl g) = one_first (IsLaterHash zone hash) a b f g
  one_next hash a b (inl f) (inr g) = absurd (g.1 a f.is)
  one_next hash a b (inr f) (inl g) = absurd (f.1 b g.is)
  one_next hash a b (inr f) (inr g) = one_first (HasHash zone) a b f.0 g.0

  pub one_cover : (hash a b : List ℕ) → IsCover zone hash a → IsCover zone hash b → a ≡ b
  one_cover hash a b (inl f) (inl g) = one_last (IsEarlierHash zone hash) a b f g
  one_cover hash a b (inl f) (inr g) = absurd (g.1 a f.is)
  one_cover hash a b (inr f) (inl g) = absurd (f.1 b g.is)
  one_cover hash a b (inr f) (inr g) = one_last (HasHash zone) a b f.0 g.0

  pub cover_there : (hash a : List ℕ) → IsCover zone hash a → HasHash zone a
  cover_there hash a (inl f) = f.is.there
  cover_there hash a (inr f) = f.0.is

  pub next_there : (hash a : List ℕ) → IsNextHash zone hash a → HasHash zone a
  next_there hash a (inl f) = f.is.there
  next_there hash a (inr f) = f.0.is
