-- A record of a chain that covers a hash is beside no record of that hash, so that what it shows is so.
use Rattle.std.proofs.Common.{◌≡◌, ℕ, suc, true, List, [], ◌∷◌, ◌++◌, inl, inr, refl, sym, ap, subst, ◌∙◌, arith}
use Rattle.std.specs.Prelude.{◌⊎◌}
use Rattle.std.specs.List.{AllByRecursion, Contains}
use Rattle.std.proofs.lemmas.List.Elements.{All-contains, All-from_recursion, Contains-append_cases}
use Rattle.wire_names.specs.rr.domain.DomainName.{DomainName}
use Rattle.zone_denials.proofs.lemmas.Members.{head_or_in}
use Rattle.zone_denials.proofs.lemmas.Nsec3Chains.{first_least, less_once, linked_at, not_itself, picked}
use Rattle.zone_denials.specs.Nsec.{ancestor, wildcard}
use Rattle.zone_denials.specs.Nsec3.{CoversHash, Hashing, IsBelow, Nsec3, ShowsEncloser3, ShowsLack3, closest, hash_of, insecure, lacking, lacking_out, missing, out, wild_lacking}
use Rattle.zone_denials.specs.Nsec3Chain.{AreAscending3, AreLinked3, IsChain3, IsHashed, next_hash}
use Rattle.zone_denials.specs.Nsec3Laws.{DeniedNamesAreMissing3, DeniedTypesAreMissing3, IsEncloser3, IsLeftOut, IsWithout3, UnsignedZonesAreCuts3, WildcardsAreTrue3}

-- the place of a record in a list
record Split (chain : List Nsec3) (n : Nsec3) : Type 0 where
  front : List Nsec3
  rest : List Nsec3
  is : chain ≡ front ++ n ∷ rest

split : (chain : List Nsec3) (n : Nsec3) → Contains chain n → Split chain n
split [] n x = absurd (omega (arith, x.1))
split (f ∷ fs) n x = elim (head_or_in f fs n x) [
  | inl e ↦ let r : Split (f ∷ fs) n = record { front = []; rest = fs; is = ap (λ q. q ∷ fs) e } in r
  | inr more ↦ let s = split fs n more in let r : Split (f ∷ fs) n = record { front = f ∷ s.front; rest = s.rest; is = ap (λ ns. f ∷ ns) s.is } in r
]

ascending_at : (front : List Nsec3) (n : Nsec3) (rest : List Nsec3) → AreAscending3 (front ++ n ∷ rest) → AreAscending3 (n ∷ rest)
ascending_at [] n rest h = h
ascending_at (f ∷ front) n rest h = ascending_at front n rest h.1

before_at : (front : List Nsec3) (n : Nsec3) (rest : List Nsec3) → AreAscending3 (front ++ n ∷ rest) → AllByRecursion (λ m. IsBelow m.hash n.hash) front
before_at [] n rest h = tt
before_at (f ∷ front) n rest h = (picked (λ m. IsBelow f.hash m.hash) front n rest h.0, before_at front n rest h.1)

-- the hash is that of a record before this one, of this one, or of one after it
abbrev IsBeside : Nsec3 → List Nsec3 → Nsec3 → Type 0
IsBeside n rest m = IsBelow m.hash n.hash ⊎ ((m.hash ≡ n.hash) ⊎ Contains rest m)

beside : (front : List Nsec3) (n : Nsec3) (rest : List Nsec3) → AreAscending3 (front ++ n ∷ rest) → (m : Nsec3) → Contains (front ++ n ∷ rest) m → IsBeside n rest m
beside front n rest asc m x = elim (Contains-append_cases front (n ∷ rest) m x) [
  | inl f ↦ inl (All-contains (λ (q : Nsec3). IsBelow q.hash n.hash) front m (All-from_recursion (λ (q : Nsec3). IsBelow q.hash n.hash) front (before_at front n rest asc)) f)
  | inr r ↦ elim (head_or_in n rest m r) [
    | inl e ↦ inr (inl (ap (λ (q : Nsec3). q.hash) (sym e)))
    | inr more ↦ inr (inr more)
  ]
]

module _ (n : Nsec3) (hash : List ℕ) (covers : CoversHash n hash) where
  -- a hash after that of the record is not one up to it
  not_up_to : (m : Nsec3) → IsBelow n.hash hash → IsBelow m.hash n.hash ⊎ (m.hash ≡ n.hash) → ¬ (m.hash ≡ hash)
  not_up_to m up (inl below) e = less_once n.hash hash up (subst (λ (h : List ℕ). IsBelow h n.hash) e below)
  not_up_to m up (inr same) e = not_itself hash (subst (λ (h : List ℕ). IsBelow h hash) (sym same ∙ e) up)

  no_record : (front rest : List Nsec3) → n.next ≡ next_hash (next_hash [] (front ++ n ∷ rest)) rest → AreAscending3 (front ++ n ∷ rest) → (m : Nsec3) → IsBeside n rest m → ¬ (IsBelow m.hash (next_hash [] (front ++ n ∷ rest))) → ¬ (m.hash ≡ hash)
  no_record front [] link asc m at least e = elim at [
    | inl below ↦ by_last (inl below)
    | inr other ↦ elim other [ inl same ↦ by_last (inr same) | inr more ↦ absurd (omega (arith, more.1)) ]
  ] where
    low : IsBelow m.hash n.hash ⊎ (m.hash ≡ n.hash) → IsBelow n.hash hash → ⊥
    low where_it up = not_up_to m up where_it e

    high : IsBelow hash n.next → ⊥
    high down = least (subst (λ (h : List ℕ). IsBelow h (next_hash [] (front ++ n ∷ []))) (sym e) (subst (IsBelow hash) link down))

    by_last : IsBelow m.hash n.hash ⊎ (m.hash ≡ n.hash) → ⊥
    by_last at = elim covers [
      | inl both ↦ low at both.0
      | inr around ↦ elim around.1 [ inl up ↦ low at up | inr down ↦ high down ]
    ]
  no_record front (p ∷ ps) link asc m at least e = elim covers [
    | inl both ↦ by_both both.0 (subst (IsBelow hash) link both.1) at
    | inr around ↦ around.0 (subst (IsBelow n.hash) (sym link) (ascending_at front n (p ∷ ps) asc).0.0)
  ] where
    after_p : IsBelow hash p.hash → Contains (p ∷ ps) m → ⊥
    after_p down x = elim (head_or_in p ps m x) [
      | inl is ↦ not_itself hash (subst (IsBelow hash) (ap (λ (q : Nsec3). q.hash) is ∙ e) down)
      | inr more ↦ less_once hash p.hash down (subst (IsBelow p.hash) e (All-contains (λ (q : Nsec3). IsBelow p.hash q.hash) ps m (All-from_recursion (λ (q : Nsec3). IsBelow p.hash q.hash) ps (ascending_at front n (p ∷ ps) asc).1.0) more))
    ]

    by_both : IsBelow n.hash hash → IsBelow hash p.hash → IsBeside n (p ∷ ps) m → ⊥
    by_both up down (inl below) = not_up_to m up (inl below) e
    by_both up down (inr (inl same)) = not_up_to m up (inr same) e
    by_both up down (inr (inr more)) = after_p down more

-- no hash of a chain is before the first one
first_of_all : (chain : List Nsec3) (m : Nsec3) → AreAscending3 chain → Contains chain m → ¬ (IsBelow m.hash (next_hash [] chain))
first_of_all chain m asc x =
    let at = split chain m x in
    subst (λ (ns : List Nsec3). ¬ (IsBelow m.hash (next_hash [] ns))) (sym at.is) (first_least at.front m at.rest (subst AreAscending3 at.is asc))

pub not_there : (chain : List Nsec3) → IsChain3 chain → (n : Nsec3) → Contains chain n → (hash : List ℕ) → CoversHash n hash → (m : Nsec3) → Contains chain m → ¬ (m.hash ≡ hash)
not_there chain is_chain n held hash covers m x =
    let at = split chain n held in
    let asc : AreAscending3 (at.front ++ n ∷ at.rest) = subst AreAscending3 at.is is_chain.ascending in
    let link : n.next ≡ next_hash (next_hash [] (at.front ++ n ∷ at.rest)) at.rest = (linked_at (next_hash [] (at.front ++ n ∷ at.rest)) at.front n at.rest (subst (λ (ns : List Nsec3). AreLinked3 (next_hash [] ns) ns) at.is is_chain.linked)).0 in
    let there : Contains (at.front ++ n ∷ at.rest) m = subst (λ (ns : List Nsec3). Contains ns m) at.is x in
    no_record n hash covers at.front at.rest link asc m (beside at.front n at.rest asc m there) (first_of_all (at.front ++ n ∷ at.rest) m asc there)

module _ (by : Hashing) (chain shown : List Nsec3) (is_chain : IsChain3 chain) (among : (n : Nsec3) → Contains shown n → Contains chain n) where
  unhashed : (n : Nsec3) → Contains shown n → (name : DomainName) → CoversHash n (hash_of by name) → ¬ (IsHashed by chain name)
  unhashed n put name covers x = not_there chain is_chain n (among n put) (hash_of by name) covers x.at x.held x.is

  is_encloser : (name : DomainName) (k : ℕ) (c : Nsec3) → ShowsEncloser3 by shown name k c → IsEncloser3 by chain name k
  is_encloser name k c s = record {
    encloser = record { at = s.match; held = among s.match s.put; is = s.matches };
    next_closer = unhashed c s.covers_put (ancestor name k) s.covers;
  }

  left_out : (name : DomainName) (k : ℕ) (c : Nsec3) → ShowsEncloser3 by shown name k c → c.opt_out ≡ true → IsLeftOut by chain name k
  left_out name k c s opted = record { encloser = is_encloser name k c s; cover = c; held = among c s.covers_put; covers = s.covers; out = opted }

  without : (name : DomainName) (t : ℕ) (n : Nsec3) → Contains shown n → ShowsLack3 by n name t → IsWithout3 by chain name t
  without name t n put lack = record { at = n; held = among n put; is = lack.matches; none = lack.lacks; no_alias = lack.no_alias }

pub denied_names_are_missing3 : DeniedNamesAreMissing3
denied_names_are_missing3 by chain shown name is_chain among (missing {k} {c} {m} s put covers) = (
  k,
  is_encloser by chain shown is_chain among name k c s,
  unhashed by chain shown is_chain among m put (wildcard (ancestor name (suc k))) covers,
)

pub wildcards_are_true3 : WildcardsAreTrue3
wildcards_are_true3 by chain shown name _ is_chain among (closest {k} {c} put covers) = unhashed by chain shown is_chain among c put (ancestor name k) covers

pub denied_types_are_missing3 : DeniedTypesAreMissing3
denied_types_are_missing3 by chain shown name _ is_chain among (lacking {n} {t} put lack) = inl (without by chain shown is_chain among name t n put lack)
denied_types_are_missing3 by chain shown name _ is_chain among (lacking_out {k} {c} s opted) = inr (k, inl (refl, left_out by chain shown is_chain among name k c s opted))
denied_types_are_missing3 by chain shown name _ is_chain among (wild_lacking {k} {t} {c} {n} s put lack) = inr (k, inr (is_encloser by chain shown is_chain among name k c s, without by chain shown is_chain among (wildcard (ancestor name (suc k))) t n put lack))

pub unsigned_zones_are_cuts3 : UnsignedZonesAreCuts3
unsigned_zones_are_cuts3 by chain shown name is_chain among (insecure {n} put is cut no_ds) = inl (n, among n put, is, cut, no_ds)
unsigned_zones_are_cuts3 by chain shown name is_chain among (out {k} {c} s opted) = inr (k, left_out by chain shown is_chain among name k c s opted)
