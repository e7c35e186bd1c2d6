-- The hashes of NSEC3 records in order, each once.
use Rattle.std.proofs.Common.{◌≡◌, ◌==◌, ◌++◌, ◌∙◌, ℕ, Bool, true, false, cond, List, [], ◌∷◌, map, take, drop, Option, Some, None, option_map, refl, sym, ap, subst, inl, inr, arith}
use Rattle.std.specs.Prelude.{◌⊎◌}
use Rattle.std.specs.List.{AllByRecursion, Contains}
use Rattle.std.specs.Option.{option_and_then}
use Rattle.std.specs.Ordering.{ordering_reverse}
use Rattle.std.specs.Cmp.{tied_itself}
use Rattle.std.specs.Cmp.Lexicographic.{nat_list_cmp_total}
use Rattle.std.specs.declared.cmp.Ordering.{Ordering}
use Rattle.std.specs.declared.cmp.Ordering.TheVariants.{Less, Equal, Greater}
use Rattle.std.proofs.lemmas.List.Elements.{Contains-append_right}
use Rattle.std.proofs.lemmas.Map.Lookups.{exact_bytes}
use Rattle.wire_names.specs.rr.domain.DomainName.{DomainName}
use Rattle.wire_messages.specs.rr.RecordData.{type_of}
use Rattle.wire_messages.specs.declared.rr.rdata.RData.{RData}
use Rattle.wire_messages.specs.declared.rr.record.Record.{Record}
use Rattle.zone_check.proofs.ChainOwners.{and_both, same_number}
use Rattle.zone_check.proofs.HashKeys.{equal_hashes, same_hashes}
use Rattle.zone_check.specs.CheckedZones.{Records, type_nsec3}
use Rattle.zone_check.specs.HashedZones.{hash_at, is_hash, is_hash_owner, is_of_hash, label_hash, nsec3_of}
use Rattle.zone_check.specs.Indexes.{hash_cmp}
use Rattle.zone_check.specs.SignedZones.{octets_of}
use Rattle.zone_denials.proofs.lemmas.Members.{head_or_in}
use Rattle.zone_denials.specs.Nsec3.{IsBelow, Nsec3}
use Rattle.zone_denials.specs.Nsec3Chain.{AreAscending3}
use Rattle.zone_denials.specs.Nsec3Data.{after_salt, has_next, has_salt, nsec3_in}
use Rattle.zone_denials.specs.TypeBits.{types_in}

some_same : {A : Type 0} {x y : A} → Some x ≡ Some y → x ≡ y
some_same e = cc

none_some : {A : Type 0} {x : A} → None ≡ Some x → ⊥
none_some e = cc

abbrev pub place : Ordering → List ℕ → List ℕ → List (List ℕ) → List (List ℕ) → List (List ℕ)
place Less h k ks rest = h ∷ k ∷ ks
place Equal h k ks rest = k ∷ ks
place Greater h k ks rest = k ∷ rest

abbrev pub insert : List ℕ → List (List ℕ) → List (List ℕ)
insert h [] = h ∷ []
insert h (k ∷ ks) = place (hash_cmp h k) h k ks (insert h ks)

abbrev pub with_hash : Option (List ℕ) → List (List ℕ) → List (List ℕ)
with_hash None hs = hs
with_hash (Some h) hs = insert h hs

abbrev pub hashes : DomainName → Records → List (List ℕ)
hashes origin [] = []
hashes origin (r ∷ rs) = with_hash (hash_at origin r) (hashes origin rs)

abbrev pub InOrder : List (List ℕ) → Type 0
InOrder [] = Unit {0}
InOrder (h ∷ hs) = AllByRecursion (IsBelow h) hs × InOrder hs

module _ (P : List ℕ → Type 0) where
  all_insert : (h : List ℕ) (ks : List (List ℕ)) → AllByRecursion P ks → P h → AllByRecursion P (insert h ks)
  all_insert h [] all p = (p, tt)
  all_insert h (k ∷ ks) all p = by_order (hash_cmp h k) (all_insert h ks all.1 p) where
    by_order : (c : Ordering) → AllByRecursion P (insert h ks) → AllByRecursion P (place c h k ks (insert h ks))
    by_order Less more = (p, all)
    by_order Equal more = all
    by_order Greater more = (all.0, more)

  pub all_hashes : (origin : DomainName) (rs : Records) → ((r : Record RData) (h : List ℕ) → Contains rs r → hash_at origin r ≡ Some h → P h) → AllByRecursion P (hashes origin rs)
  all_hashes origin [] all = tt
  all_hashes origin (r ∷ rs) all = by_hash (hash_at origin r) refl (all_hashes origin rs (λ q h x e. all q h (Contains-append_right (r ∷ []) rs q x) e)) where
    by_hash : (found : Option (List ℕ)) → hash_at origin r ≡ found → AllByRecursion P (hashes origin rs) → AllByRecursion P (with_hash found (hashes origin rs))
    by_hash None e rest = rest
    by_hash (Some h) e rest = all_insert h (hashes origin rs) rest (all r h (0, omega arith, refl) e)

all_later : (h k : List ℕ) (ks : List (List ℕ)) → IsBelow h k → AllByRecursion (IsBelow k) ks → AllByRecursion (IsBelow h) ks
all_later h k [] e all = tt
all_later h k (l ∷ ls) e all = (nat_list_cmp_total.trans h k l e all.0, all_later h k ls e all.1)

order_insert : (h : List ℕ) (ks : List (List ℕ)) → InOrder ks → InOrder (insert h ks)
order_insert h [] ordered = (tt, tt)
order_insert h (k ∷ ks) ordered = by_order (hash_cmp h k) refl (order_insert h ks ordered.1) where
  by_order : (c : Ordering) → hash_cmp h k ≡ c → InOrder (insert h ks) → InOrder (place c h k ks (insert h ks))
  by_order Less e more = ((e, all_later h k ks e ordered.0), ordered)
  by_order Equal e more = ordered
  by_order Greater e more = (all_insert (IsBelow k) h ks ordered.0 (nat_list_cmp_total.antisymm k h ∙ ap ordering_reverse e), more)

pub order_hashes : (origin : DomainName) (rs : Records) → InOrder (hashes origin rs)
order_hashes origin [] = tt
order_hashes origin (r ∷ rs) = by_hash (hash_at origin r) (order_hashes origin rs) where
  by_hash : (found : Option (List ℕ)) → InOrder (hashes origin rs) → InOrder (with_hash found (hashes origin rs))
  by_hash None rest = rest
  by_hash (Some h) rest = order_insert h (hashes origin rs) rest

tail_in : (k : List ℕ) (ks : List (List ℕ)) (h : List ℕ) → Contains ks h → Contains (k ∷ ks) h
tail_in k ks h x = Contains-append_right (k ∷ []) ks h x

pub first_in : (k : List ℕ) (ks : List (List ℕ)) → Contains (k ∷ ks) k
first_in k ks = (0, omega arith, refl)

insert_has : (h : List ℕ) (ks : List (List ℕ)) → Contains (insert h ks) h
insert_has h [] = first_in h []
insert_has h (k ∷ ks) = by_order (hash_cmp h k) refl (insert_has h ks) where
  by_order : (c : Ordering) → hash_cmp h k ≡ c → Contains (insert h ks) h → Contains (place c h k ks (insert h ks)) h
  by_order Less e rest = first_in h (k ∷ ks)
  by_order Equal e rest = subst (Contains (k ∷ ks)) (sym (exact_bytes h k e)) (first_in k ks)
  by_order Greater e rest = tail_in k (insert h ks) h rest

insert_keeps : (h : List ℕ) (ks : List (List ℕ)) (g : List ℕ) → Contains ks g → Contains (insert h ks) g
insert_keeps h [] g x = absurd (omega (arith, x.1))
insert_keeps h (k ∷ ks) g x = by_order (hash_cmp h k) (elim (head_or_in k ks g x) [
  | inl e ↦ subst (Contains (k ∷ insert h ks)) e (first_in k (insert h ks))
  | inr more ↦ tail_in k (insert h ks) g (insert_keeps h ks g more)
]) where
  by_order : (c : Ordering) → Contains (k ∷ insert h ks) g → Contains (place c h k ks (insert h ks)) g
  by_order Less kept = tail_in h (k ∷ ks) g x
  by_order Equal kept = x
  by_order Greater kept = kept

pub in_hashes : (origin : DomainName) (rs : Records) (r : Record RData) (h : List ℕ) → Contains rs r → hash_at origin r ≡ Some h → Contains (hashes origin rs) h
in_hashes origin [] r h x e = absurd (omega (arith, x.1))
in_hashes origin (q ∷ rs) r h x e = by_hash (hash_at origin q) refl (elim (head_or_in q rs r x) [
  | inl is ↦ inl is
  | inr more ↦ inr (in_hashes origin rs r h more e)
]) where
  by_hash : (found : Option (List ℕ)) → hash_at origin q ≡ found → (q ≡ r) ⊎ Contains (hashes origin rs) h → Contains (with_hash found (hashes origin rs)) h
  by_hash None g (inl is) = absurd (none_some (sym g ∙ ap (hash_at origin) is ∙ e))
  by_hash None g (inr more) = more
  by_hash (Some k) g (inl is) = subst (λ (l : List ℕ). Contains (insert k (hashes origin rs)) l) (some_same (sym g ∙ ap (hash_at origin) is ∙ e)) (insert_has k (hashes origin rs))
  by_hash (Some k) g (inr more) = insert_keeps k (hashes origin rs) h more

pub not_below_itself : (h : List ℕ) → IsBelow h h → ⊥
not_below_itself h e = let f : Less ≡ Equal = sym e ∙ tied_itself nat_list_cmp_total h in absurd cc

pub not_back : (a b : List ℕ) → IsBelow a b → IsBelow b a → ⊥
not_back a b h k = not_below_itself a (nat_list_cmp_total.trans a b a h k)

pub picked : (P : List ℕ → Type 0) (front : List (List ℕ)) (h : List ℕ) (rest : List (List ℕ)) → AllByRecursion P (front ++ h ∷ rest) → P h
picked P [] h rest all = all.0
picked P (f ∷ front) h rest all = picked P front h rest all.1

pub order_at : (front : List (List ℕ)) (h : List ℕ) (rest : List (List ℕ)) → InOrder (front ++ h ∷ rest) → InOrder (h ∷ rest)
order_at [] h rest ordered = ordered
order_at (f ∷ front) h rest ordered = order_at front h rest ordered.1

-- in a list in order what is after an element is one of those that follow it
pub among_rest : (front : List (List ℕ)) (h : List ℕ) (rest : List (List ℕ)) (q : List ℕ) → InOrder (front ++ h ∷ rest) → Contains (front ++ h ∷ rest) q → IsBelow h q → Contains rest q
among_rest [] h rest q ordered held after = elim (head_or_in h rest q held) [
  | inl e ↦ absurd (not_below_itself h (subst (IsBelow h) (sym e) after))
  | inr more ↦ more
]
among_rest (f ∷ front) h rest q ordered held after = elim (head_or_in f (front ++ h ∷ rest) q held) [
  | inl e ↦ absurd (not_back h f (subst (IsBelow h) (sym e) after) (picked (IsBelow f) front h rest ordered.0))
  | inr more ↦ among_rest front h rest q ordered.1 more after
]

-- records with these hashes are in order too
pub ascending : (f : List ℕ → Nsec3) (hs : List (List ℕ)) → InOrder hs → AllByRecursion (λ h. (f h).hash ≡ h) hs → AreAscending3 (map f hs)
ascending f [] ordered same = tt
ascending f (h ∷ hs) ordered same = (later hs ordered.0 same.1, ascending f hs ordered.1 same.1) where
  later : (ks : List (List ℕ)) → AllByRecursion (IsBelow h) ks → AllByRecursion (λ k. (f k).hash ≡ k) ks → AllByRecursion (λ m. IsBelow (f h).hash m.hash) (map f ks)
  later [] all t = tt
  later (k ∷ ks) all t = (subst (λ (a : List ℕ). IsBelow a (f k).hash) (sym same.0) (subst (IsBelow h) (sym t.0) all.0), later ks all.1 t.1)

-- what is of a hash has that hash
pub hash_passes : (origin : DomainName) (h : List ℕ) (r : Record RData) → is_of_hash origin h r ≡ true → hash_at origin r ≡ Some h
hash_passes origin h r = by_hash (hash_at origin r) where
  by_hash : (found : Option (List ℕ)) → is_hash h found ≡ true → found ≡ Some h
  by_hash None e = absurd (cc)
  by_hash (Some k) e = ap Some (equal_hashes k h e)

pub passes_hash : (origin : DomainName) (h : List ℕ) (r : Record RData) → hash_at origin r ≡ Some h → is_of_hash origin h r ≡ true
passes_hash origin h r e = ap (is_hash h) e ∙ same_hashes h h refl

-- a record with a hash is an NSEC3 record
pub hash_typed : (origin : DomainName) (h : List ℕ) (r : Record RData) → hash_at origin r ≡ Some h → type_of r.rdata ≡ type_nsec3
hash_typed origin h r = by_owner (is_hash_owner origin r) refl where
  by_owner : (b : Bool) → is_hash_owner origin r ≡ b → cond b (label_hash r.name.labels) None ≡ Some h → type_of r.rdata ≡ type_nsec3
  by_owner true e g = same_number (type_of r.rdata) type_nsec3 (and_both (type_of r.rdata == type_nsec3) _ e).0
  by_owner false e g = absurd (none_some g)

-- the hash of what data say is that which they were read with
hash_in_data : (h : List ℕ) (octets : List ℕ) (n : Nsec3) → nsec3_in h octets ≡ Some n → n.hash ≡ h
hash_in_data h (algorithm ∷ flags ∷ high ∷ low ∷ count ∷ rest) n e = by_salt (has_salt algorithm count rest) e where
  of_types : (next : List ℕ) (out : Bool) (types : Option (List ℕ)) → option_map (λ (ts : List ℕ). let m : Nsec3 = record { hash = h; next = next; opt_out = out; types = ts } in m) types ≡ Some n → n.hash ≡ h
  of_types next out None e = absurd (none_some e)
  of_types next out (Some ts) e = sym (ap (λ (m : Nsec3). m.hash) (some_same e))

  of_next : (octets : List ℕ) → after_salt h flags octets ≡ Some n → n.hash ≡ h
  of_next [] e = absurd (none_some e)
  of_next (count ∷ rest) e = by_next (has_next flags count rest) e where
    by_next : (b : Bool) → cond b (option_map (λ (types : List ℕ). let m : Nsec3 = record { hash = h; next = take 20 rest; opt_out = flags == 1; types = types } in m) (types_in (drop 20 rest))) None ≡ Some n → n.hash ≡ h
    by_next true e = of_types (take 20 rest) (flags == 1) (types_in (drop 20 rest)) e
    by_next false e = absurd (none_some e)

  by_salt : (b : Bool) → cond b (after_salt h flags (drop count rest)) None ≡ Some n → n.hash ≡ h
  by_salt true e = of_next (drop count rest) e
  by_salt false e = absurd (none_some e)
hash_in_data h [] n e = absurd (none_some e)
hash_in_data h (a ∷ []) n e = absurd (none_some e)
hash_in_data h (a ∷ b ∷ []) n e = absurd (none_some e)
hash_in_data h (a ∷ b ∷ c ∷ []) n e = absurd (none_some e)
hash_in_data h (a ∷ b ∷ c ∷ d ∷ []) n e = absurd (none_some e)

pub hash_said : (origin : DomainName) (h : List ℕ) (r : Record RData) (n : Nsec3) → hash_at origin r ≡ Some h → nsec3_of origin r ≡ Some n → n.hash ≡ h
hash_said origin h r n e says = by_octets (octets_of type_nsec3 r.rdata) (sym (ap (λ (o : Option (List ℕ)). option_and_then (λ hash. option_and_then (nsec3_in hash) (octets_of type_nsec3 r.rdata)) o) e) ∙ says) where
  by_octets : (octets : Option (List ℕ)) → option_and_then (nsec3_in h) octets ≡ Some n → n.hash ≡ h
  by_octets None e = absurd (none_some e)
  by_octets (Some octets) e = hash_in_data h octets n e
