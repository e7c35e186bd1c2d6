-- The last record of a chain below a hash covers it.
use Rattle.std.proofs.Common.{◌≡◌, ℕ, suc, List, [], ◌∷◌, ◌++◌, inl, inr, refl, sym, ap, subst, ◌∙◌, arith}
use Rattle.std.specs.Prelude.{◌⊎◌}
use Rattle.std.specs.List.{AllByRecursion, Contains}
use Rattle.std.specs.declared.cmp.Ordering.{Ordering}
use Rattle.std.specs.declared.cmp.Ordering.TheVariants.{Less, Equal, Greater}
use Rattle.std.specs.Ordering.{nat_cmp, ordering_reverse}
use Rattle.std.specs.Cmp.{tied_itself}
use Rattle.std.specs.Cmp.Lexicographic.{slice_cmp, nat_list_cmp_total}
use Rattle.std.proofs.lemmas.List.Elements.{Contains-append_right}
use Rattle.std.proofs.lemmas.Map.Lookups.{exact_bytes}
use Rattle.sha1.specs.Sha1.{sha1}
use Rattle.wire_names.specs.rr.domain.DomainName.{DomainName, wire_form}
use Rattle.wire_names.specs.rr.domain.NameOrder.{lower_labels}
use Rattle.zone_denials.proofs.lemmas.Members.{head_or_in}
use Rattle.zone_denials.specs.Nsec.{ancestor, wildcard}
use Rattle.zone_denials.specs.Nsec3.{CoversHash, Hashing, IsBelow, Nsec3, ShowsEncloser3, closest, hash_of, hashed_again, lacking_out, missing, out, wild_lacking}
use Rattle.zone_denials.specs.Nsec3Chain.{AreAscending3, AreLinked3, IsChain3, IsHashed, IsLastBelow, around, below, next_hash}
use Rattle.zone_denials.specs.Nsec3Laws.{CoversNextCloser, MatchesEncloser, MissingNamesAreDenied3, UnsignedZonesAreShown3, WildTypesAreDenied3, WildcardsAreShown3}

abbrev hash_cmp : List ℕ → List ℕ → Ordering
hash_cmp = slice_cmp nat_cmp

above : (other hash : List ℕ) → ¬ (IsBelow other hash) → ¬ (other ≡ hash) → IsBelow hash other
above other hash not_below differs = by_order (hash_cmp other hash) refl where
  by_order : (o : Ordering) → hash_cmp other hash ≡ o → IsBelow hash other
  by_order Less e = absurd (not_below e)
  by_order Equal e = absurd (differs (exact_bytes other hash e))
  by_order Greater e = nat_list_cmp_total.antisymm hash other ∙ ap ordering_reverse e

pub less_once : (a b : List ℕ) → IsBelow a b → IsBelow b a → ⊥
less_once a b h k = by_order (hash_cmp b a) (ap ordering_reverse h) (nat_list_cmp_total.antisymm b a) k where
  by_order : (o : Ordering) → ordering_reverse (hash_cmp a b) ≡ Greater → o ≡ ordering_reverse (hash_cmp a b) → o ≡ Less → ⊥
  by_order Less e f g = absurd (cc)
  by_order Equal e f g = absurd (cc)
  by_order Greater e f g = absurd (cc)

pub not_itself : (a : List ℕ) → IsBelow a a → ⊥
not_itself a h = less_once a a h h

head_in : (n : Nsec3) (ns : List Nsec3) → Contains (n ∷ ns) n
head_in n ns = (0, omega arith, refl)

pub linked_at : (first : List ℕ) (front : List Nsec3) (n : Nsec3) (rest : List Nsec3) → AreLinked3 first (front ++ n ∷ rest) → AreLinked3 first (n ∷ rest)
linked_at first [] n rest h = h
linked_at first (f ∷ front) n rest h = linked_at first front n rest h.1

pub picked : (P : Nsec3 → Type 0) (front : List Nsec3) (n : Nsec3) (rest : List Nsec3) → AllByRecursion P (front ++ n ∷ rest) → P n
picked P [] n rest h = h.0
picked P (f ∷ front) n rest h = picked P front n rest h.1

-- the first hash is not above another one
pub first_least : (front : List Nsec3) (n : Nsec3) (rest : List Nsec3) → AreAscending3 (front ++ n ∷ rest) → ¬ (IsBelow n.hash (next_hash [] (front ++ n ∷ rest)))
first_least [] n rest asc h = not_itself n.hash h
first_least (f ∷ front) n rest asc h = less_once f.hash n.hash (picked (λ m. IsBelow f.hash m.hash) front n rest asc.0) h

first_above : (hash : List ℕ) (chain : List Nsec3) (n : Nsec3) → Contains chain n → AllByRecursion (λ m. ¬ (IsBelow m.hash hash)) chain → ((m : Nsec3) → Contains chain m → ¬ (m.hash ≡ hash)) → IsBelow hash (next_hash [] chain)
first_above hash [] n held from differ = absurd (omega (arith, held.1))
first_above hash (f ∷ fs) n held from differ = above f.hash hash from.0 (differ f (head_in f fs))

module _ (chain : List Nsec3) (is_chain : IsChain3 chain) (hash : List ℕ) (n : Nsec3) (differ : (m : Nsec3) → Contains chain m → ¬ (m.hash ≡ hash)) where
  first : List ℕ
  first = next_hash [] chain

  at_rest : (front rest : List Nsec3) → chain ≡ front ++ n ∷ rest → n.next ≡ next_hash (next_hash [] chain) rest
  at_rest front rest is = (linked_at (next_hash [] chain) front n rest (subst (AreLinked3 (next_hash [] chain)) is is_chain.linked)).0

  least : (front rest : List Nsec3) → chain ≡ front ++ n ∷ rest → ¬ (IsBelow n.hash (next_hash [] chain))
  least front rest is = subst (λ ns. ¬ (IsBelow n.hash (next_hash [] ns))) (sym is) (first_least front n rest (subst AreAscending3 is is_chain.ascending))

  rest_in : (front rest : List Nsec3) → chain ≡ front ++ n ∷ rest → (m : Nsec3) → Contains rest m → Contains chain m
  rest_in front rest is m x = subst (λ ns. Contains ns m) (sym is) (Contains-append_right front (n ∷ rest) m (Contains-append_right (n ∷ []) rest m x))

  by_rest : (front rest : List Nsec3) → chain ≡ front ++ n ∷ rest → IsBelow n.hash hash → AllByRecursion (λ m. ¬ (IsBelow m.hash hash)) rest → CoversHash n hash
  by_rest front [] is before from = inr (subst (λ next. ¬ (IsBelow n.hash next)) (sym (at_rest front [] is)) (least front [] is), inl before)
  by_rest front (m ∷ ms) is before from = inl (before, subst (IsBelow hash) (sym (at_rest front (m ∷ ms) is)) (above m.hash hash from.0 (differ m (rest_in front (m ∷ ms) is m (head_in m ms)))))

  n_in : (front rest : List Nsec3) → chain ≡ front ++ n ∷ rest → Contains chain n
  n_in front rest is = subst (λ ns. Contains ns n) (sym is) (Contains-append_right front (n ∷ rest) n (head_in n rest))

  pub covers : IsLastBelow chain hash n → CoversHash n hash
  covers (below front rest is before from) = by_rest front rest is before from
  covers (around front is from) = inr (
    subst (λ next. ¬ (IsBelow n.hash next)) (sym (at_rest front [] is)) (least front [] is),
    inr (subst (IsBelow hash) (sym (at_rest front [] is)) (first_above hash chain n (n_in front [] is) from differ)),
  )

-- the record found is one of the chain
pub in_chain3 : (chain : List Nsec3) (hash : List ℕ) (n : Nsec3) → IsLastBelow chain hash n → Contains chain n
in_chain3 chain hash n (below front rest is before from) = subst (λ ns. Contains ns n) (sym is) (Contains-append_right front (n ∷ rest) n (head_in n rest))
in_chain3 chain hash n (around front is from) = subst (λ ns. Contains ns n) (sym is) (Contains-append_right front (n ∷ []) n (head_in n []))

same_or_not : (a b : List ℕ) → (a ≡ b) ⊎ ¬ (a ≡ b)
same_or_not a b = by_order (hash_cmp a b) refl where
  tied : a ≡ b → hash_cmp a b ≡ Equal
  tied s = ap (hash_cmp a) (sym s) ∙ tied_itself nat_list_cmp_total a

  by_order : (o : Ordering) → hash_cmp a b ≡ o → (a ≡ b) ⊎ ¬ (a ≡ b)
  by_order Less e = inr (λ s. let f : Less ≡ Equal = sym e ∙ tied s in absurd cc)
  by_order Equal e = inl (exact_bytes a b e)
  by_order Greater e = inr (λ s. let f : Greater ≡ Equal = sym e ∙ tied s in absurd cc)

-- names with the same labels, letter case aside, have the same hash
pub hash_alike : (by : Hashing) (a b : DomainName) → lower_labels a.labels ≡ lower_labels b.labels → hash_of by a ≡ hash_of by b
hash_alike by a b e = ap (λ (ls : List (List ℕ)). hashed_again by.salt by.iterations (sha1 (wire_form ls ++ 0 ∷ by.salt))) e

-- whether the chain has the hash of a name
pub hashed_or : (by : Hashing) (chain : List Nsec3) (name : DomainName) → IsHashed by chain name ⊎ ¬ (IsHashed by chain name)
hashed_or by [] name = inr (λ x. absurd (omega (arith, x.held.1)))
hashed_or by (n ∷ ns) name = elim (same_or_not n.hash (hash_of by name)) [
  | inl e ↦ let r : IsHashed by (n ∷ ns) name = record { at = n; held = head_in n ns; is = e } in inl r
  | inr differs ↦ elim (hashed_or by ns name) [
    | inl x ↦ let r : IsHashed by (n ∷ ns) name = record { at = x.at; held = Contains-append_right (n ∷ []) ns x.at x.held; is = x.is } in inl r
    | inr none ↦ inr (λ x. elim (head_or_in n ns x.at x.held) [
      | inl e ↦ differs (ap (λ (m : Nsec3). m.hash) e ∙ x.is)
      | inr more ↦ none (record { at = x.at; held = more; is = x.is })
    ])
  ]
]

pub differing : (by : Hashing) (chain : List Nsec3) (name : DomainName) → ¬ (IsHashed by chain name) → (m : Nsec3) → Contains chain m → ¬ (m.hash ≡ hash_of by name)
differing by chain name none m x e = none (record { at = m; held = x; is = e })

pub encloser_shown : (by : Hashing) (chain shown : List Nsec3) (name : DomainName) (k : ℕ) (e c : Nsec3) → IsChain3 chain → MatchesEncloser by chain name k e → CoversNextCloser by chain name k c → Contains shown e → Contains shown c → ShowsEncloser3 by shown name k c
encloser_shown by chain shown name k e c is_chain matched covered put_e put_c = record {
  match = e;
  put = put_e;
  matches = matched.matches;
  is_open = matched.is_open;
  covers_put = put_c;
  covers = covers chain is_chain (hash_of by (ancestor name k)) c (differing by chain (ancestor name k) covered.unhashed) covered.last;
}

pub missing_names_are_denied3 : MissingNamesAreDenied3
missing_names_are_denied3 by chain shown name k e c w is_chain matched covered none_wild last_wild put_e put_c put_w =
    missing (encloser_shown by chain shown name k e c is_chain matched covered put_e put_c) put_w
    (covers chain is_chain (hash_of by (wildcard (ancestor name (suc k)))) w (differing by chain (wildcard (ancestor name (suc k))) none_wild) last_wild)

pub wildcards_are_shown3 : WildcardsAreShown3
wildcards_are_shown3 by chain shown name k c is_chain covered put_c = closest put_c (covers chain is_chain (hash_of by (ancestor name k)) c (differing by chain (ancestor name k) covered.unhashed) covered.last)

pub wild_types_are_denied3 : WildTypesAreDenied3
wild_types_are_denied3 by chain shown name k t e c w is_chain matched covered lack put_e put_c put_w = wild_lacking (encloser_shown by chain shown name k e c is_chain matched covered put_e put_c) put_w lack

pub unsigned_zones_are_shown3 : UnsignedZonesAreShown3
unsigned_zones_are_shown3 by chain shown name k e c is_chain matched covered opted put_e put_c =
    let s = encloser_shown by chain shown name k e c is_chain matched covered put_e put_c in (out s opted, lacking_out s opted)
