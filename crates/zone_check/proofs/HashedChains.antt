-- A zone with NSEC3 parameters of which nothing is found has a complete chain of NSEC3 records.
use Rattle.std.proofs.Common.{◌≡◌, ◌++◌, ◌∙◌, ◌+◌, ◌*◌, ℕ, zero, suc, ◌<◌, ◌≤◌, Bool, true, false, cond, List, [], ◌∷◌, map, drop, take, length, length-append, Option, Some, None, append_assoc, refl, sym, ap, subst, inl, inr, arith}
use Rattle.std.specs.Prelude.{◌⊎◌, ◌↔◌, MatchOption, filter, is_some, not}
use Rattle.std.specs.List.{AllByRecursion, Contains, find}
use Rattle.std.specs.Option.{option_and_then}
use Rattle.std.specs.Ordering.{is_eq}
use Rattle.std.specs.Cmp.Lexicographic.{nat_list_cmp_total}
use Rattle.std.proofs.lemmas.List.{length-map}
use Rattle.std.proofs.lemmas.List.Elements.{All-contains, All-from_recursion, Contains-append_right}
use Rattle.wire_names.specs.rr.domain.DomainName.{DomainName}
use Rattle.wire_names.specs.rr.domain.NameOrder.{Encloses, SameName, lower_label, lower_labels, lower_name}
use Rattle.wire_names.specs.representation.NameHash.{same_from_eq}
use Rattle.wire_names.proofs.lemmas.rr.domain.SameNames.{lower_labels-twice, lower_same}
use Rattle.wire_messages.specs.rr.RecordData.{type_of}
use Rattle.wire_messages.specs.declared.rr.rdata.RData.{RData}
use Rattle.wire_messages.specs.declared.rr.record.Record.{Record}
use Rattle.wire_messages.specs.declared.rr.rr_key.RrKey.{RrKey}
use Rattle.zone_check.proofs.ChainOwners.{FoundIn, FromMap, both_enclose, enclosed_or, find_in, finds, from_map, in_map, true_or}
use Rattle.zone_check.proofs.ChainedZones.{same_ancestors}
use Rattle.zone_check.proofs.HashChains.{InOrder, all_hashes, among_rest, ascending, first_in, hash_passes, hash_said, hash_typed, hashes, in_hashes, not_back, not_below_itself, order_at, order_hashes, passes_hash}
use Rattle.zone_check.proofs.HashKeys.{equal_hashes, one_cover, one_first, same_hashes}
use Rattle.zone_check.proofs.SameNames.{cut_alike, owns_alike}
use Rattle.zone_check.proofs.ZoneRecords.{Owned, in_or, owned, owns_or, unfound}
use Rattle.zone_check.specs.ChainedZones.{FaultlessZonesAreHashed, IsFaultless, IsSaid3, hash_chain_kinds, is_named, key_in, names_in}
use Rattle.zone_check.specs.CheckedZones.{CheckedZone, IsCut, Owns, Records, ancestor, first_of, type_dname, type_ns, type_nsec3, type_nsec3param, type_rrsig, type_soa}
use Rattle.zone_check.specs.Findings.{IsFoundIfHashed, IsFoundOfEmpty, IsFoundOfOwner}
use Rattle.zone_check.specs.HashedZones.{HasHash, HasNameHash, HasOtherNextHash, IsByName, IsByRecord, IsCover, IsEarlierHash, IsFirst, IsLaterHash, IsNextHash, IsOfName, IsOptedOut, LacksHash, OfNsec3, OwnsNothing, first_with, hash_at, hashing_of, is_at, is_of_hash, nsec3_at, nsec3_of, parameters_of}
use Rattle.zone_check.specs.Indexes.{hash_cmp}
use Rattle.zone_check.specs.SignedZones.{HasIdleType, IsListed, IsOfZone, is_type_at_cut, octets_of}
use Rattle.zone_check.specs.declared.finding.Kind.TheVariants as kind
use Rattle.zone_denials.proofs.lemmas.EnclosedBetween.{same_back}
use Rattle.zone_denials.proofs.lemmas.Members.{head_or_in}
use Rattle.zone_denials.proofs.lemmas.Nsec3Chains.{hash_alike}
use Rattle.zone_denials.proofs.lemmas.NsecChains.{enclosed_same, encloses_drop}
use Rattle.zone_denials.proofs.lemmas.SignedZones.{same_trans, set_same}
use Rattle.zone_denials.specs.Nsec3.{CoversHash, Hashing, IsBelow, Nsec3, hash_of}
use Rattle.zone_denials.specs.Nsec3Chain.{AreLinked3, next_hash}
use Rattle.zone_denials.specs.Nsec3Chain as chains
use Rattle.zone_denials.specs.Nsec3Data.{after_salt, has_salt, nsec3_in, parameters_in}
use Rattle.zone_denials.specs.SignedZone as keys
use Rattle.zone_denials.specs.SignedZone.{Exists, HasSet}
use Rattle.zone_denials.specs.SignedZone3 as keys3
use Rattle.zone_denials.specs.SignedZone3.{IsChained3, StandsFor}

some_same : {A : Type 0} {x y : A} → Some x ≡ Some y → x ≡ y
some_same e = cc

none_some : {A : Type 0} {x : A} → None ≡ Some x → ⊥
none_some e = cc

false_true : false ≡ true → ⊥
false_true e = cc

hash_or : (a b : List ℕ) → (a ≡ b) ⊎ ¬ (a ≡ b)
hash_or a b = elim (true_or (is_eq (hash_cmp a b))) [
  | inl e ↦ inl (equal_hashes a b e)
  | inr fails ↦ inr (λ e. fails (same_hashes a b e))
]

number_or : (a b : ℕ) → (a ≡ b) ⊎ ¬ (a ≡ b)
number_or zero zero = inl refl
number_or zero (suc b) = inr (λ e. absurd (omega (arith, e)))
number_or (suc a) zero = inr (λ e. absurd (omega (arith, e)))
number_or (suc a) (suc b) = elim (number_or a b) [ inl e ↦ inl (ap suc e) | inr fails ↦ inr (λ e. fails (omega (arith, e))) ]

hashing_or : (p q : Hashing) → (p ≡ q) ⊎ ¬ (p ≡ q)
hashing_or p q = elim (hash_or p.salt q.salt) [
  | inr fails ↦ inr (λ e. fails (ap (λ (b : Hashing). b.salt) e))
  | inl s ↦ elim (number_or p.iterations q.iterations) [
    | inr fails ↦ inr (λ e. fails (ap (λ (b : Hashing). b.iterations) e))
    | inl i ↦ inl (ap (λ (salt : List ℕ). let b : Hashing = record { salt = salt; iterations = p.iterations } in b) s ∙ ap (λ (n : ℕ). let b : Hashing = record { salt = q.salt; iterations = n } in b) i)
  ]
]

drop_front : (front rest : List (List ℕ)) → drop (length front) (front ++ rest) ≡ rest
drop_front [] rest = refl
drop_front (l ∷ ls) rest = drop_front ls rest

-- the place of an element in a list
record Split {A : Type 0} (xs : List A) (x : A) : Type 0 where
  front : List A
  rest : List A
  is : xs ≡ front ++ x ∷ rest

split : {A : Type 0} (xs : List A) (x : A) → Contains xs x → Split xs x
split [] x held = absurd (omega (arith, held.1))
split (y ∷ ys) x held = elim (head_or_in y ys x held) [
  | inl e ↦ let r : Split (y ∷ ys) x = record { front = []; rest = ys; is = ap (λ z. z ∷ ys) e } in r
  | inr more ↦ let s = split ys x more in let r : Split (y ∷ ys) x = record { front = y ∷ s.front; rest = s.rest; is = ap (λ zs. y ∷ zs) s.is } in r
]

-- what a filtered list has
record Passed {A : Type 0} (test : A → Bool) (xs : List A) (x : A) : Type 0 where
  held : Contains xs x
  passes : test x ≡ true

from_filter : {A : Type 0} (test : A → Bool) (xs : List A) (x : A) → Contains (filter test xs) x → Passed test xs x
from_filter test [] x held = absurd (omega (arith, held.1))
from_filter {A} test (y ∷ ys) x held = by_test (test y) refl (from_filter test ys x) held where
  by_test : (b : Bool) → test y ≡ b → (Contains (filter test ys) x → Passed test ys x) → Contains (cond b (y ∷ filter test ys) (filter test ys)) x → Passed test (y ∷ ys) x
  by_test true e rest held = elim (head_or_in y (filter test ys) x held) [
    | inl is ↦ let r : Passed test (y ∷ ys) x = record { held = (0, omega arith, is); passes = ap test (sym is) ∙ e } in r
    | inr more ↦ let p = rest more in let r : Passed test (y ∷ ys) x = record { held = Contains-append_right (y ∷ []) ys x p.held; passes = p.passes } in r
  ]
  by_test false e rest held = let p = rest held in record { held = Contains-append_right (y ∷ []) ys x p.held; passes = p.passes }

in_filter : {A : Type 0} (test : A → Bool) (xs : List A) (x : A) → Contains xs x → test x ≡ true → Contains (filter test xs) x
in_filter test [] x held passes = absurd (omega (arith, held.1))
in_filter {A} test (y ∷ ys) x held passes = by_test (test y) refl (elim (head_or_in y ys x held) [ inl is ↦ inl is | inr more ↦ inr (in_filter test ys x more passes) ]) where
  by_test : (b : Bool) → test y ≡ b → (y ≡ x) ⊎ Contains (filter test ys) x → Contains (cond b (y ∷ filter test ys) (filter test ys)) x
  by_test true e (inl is) = (0, omega arith, is)
  by_test true e (inr more) = Contains-append_right (y ∷ []) (filter test ys) x more
  by_test false e (inl is) = absurd (false_true (sym e ∙ ap test is ∙ passes))
  by_test false e (inr more) = more

-- a number up to another for which a fact holds
record UpTo (P : ℕ → Type 0) (most : ℕ) : Type 0 where
  k : ℕ
  within : k ≤ most
  is : P k

up_to_or : (P : ℕ → Type 0) → ((k : ℕ) → P k ⊎ ¬ (P k)) → (most : ℕ) → UpTo P most ⊎ ¬ (UpTo P most)
up_to_or P decide zero = elim (decide 0) [
  | inl p ↦ let r : UpTo P 0 = record { k = 0; within = omega arith; is = p } in inl r
  | inr fails ↦ inr (λ u. let none : u.k ≡ 0 = omega (arith, u.within) in fails (subst P none u.is))
]
up_to_or P decide (suc most) = elim (decide (suc most)) [
  | inl p ↦ let r : UpTo P (suc most) = record { k = suc most; within = omega arith; is = p } in inl r
  | inr fails ↦ elim (up_to_or P decide most) [
    | inl u ↦ let r : UpTo P (suc most) = record { k = u.k; within = omega (arith, u.within); is = u.is } in inl r
    | inr none ↦ inr (λ u. elim (at_or_below u.k most u.within) [ inl low ↦ none (record { k = u.k; within = low; is = u.is }) | inr e ↦ fails (subst P e u.is) ])
  ]
] where
  at_or_below : (k most : ℕ) → k ≤ suc most → (k ≤ most) ⊎ (k ≡ suc most)
  at_or_below k most h = grind arith

-- data that say something have parameters
record HasParameters (octets : List ℕ) : Type 0 where
  it : Hashing
  is : parameters_in octets ≡ Some it

data_have_parameters : (h : List ℕ) (octets : List ℕ) (n : Nsec3) → nsec3_in h octets ≡ Some n → HasParameters octets
data_have_parameters h (algorithm ∷ flags ∷ high ∷ low ∷ count ∷ rest) n e = by_salt (has_salt algorithm count rest) refl e where
  by_salt : (b : Bool) → has_salt algorithm count rest ≡ b → cond b (after_salt h flags (drop count rest)) None ≡ Some n → HasParameters (algorithm ∷ flags ∷ high ∷ low ∷ count ∷ rest)
  by_salt true t e = record { it = record { salt = take count rest; iterations = high * 256 + low }; is = rw t refl }
  by_salt false t e = absurd (none_some e)
data_have_parameters h [] n e = absurd (none_some e)
data_have_parameters h (a ∷ []) n e = absurd (none_some e)
data_have_parameters h (a ∷ b ∷ []) n e = absurd (none_some e)
data_have_parameters h (a ∷ b ∷ c ∷ []) n e = absurd (none_some e)
data_have_parameters h (a ∷ b ∷ c ∷ d ∷ []) n e = absurd (none_some e)

abbrev nsec3_or : List ℕ → Option Nsec3 → Nsec3
nsec3_or h (Some n) = n
nsec3_or h None = record { hash = h; next = h; opt_out = false; types = [] }

module _ (zone : CheckedZone) (by : Hashing) (hashing : hashing_of zone ≡ Some by) (f : IsFaultless hash_chain_kinds zone) where
  if_hashed : (Is : Hashing → Type 0) → Is by → MatchOption (hashing_of zone) ⊥ Is
  if_hashed Is h = subst (λ (o : Option Hashing). MatchOption o ⊥ Is) (sym hashing) h

  -- what the NSEC3 record of a hash says
  abbrev nsec : List ℕ → Nsec3
  nsec h = nsec3_or h (nsec3_at zone h)

  record Says (h : List ℕ) : Type 0 where
    r : Record RData
    held : Contains zone.records r
    hash : hash_at zone.origin r ≡ Some h
    first : nsec3_at zone h ≡ Some (nsec h)
    says : nsec3_of zone.origin r ≡ Some (nsec h)
    same : (nsec h).hash ≡ h

  says_by : (h : List ℕ) (o : FoundIn (is_of_hash zone.origin h) zone.records) (said : Option Nsec3) → nsec3_of zone.origin o.it ≡ said → Says h
  says_by h o None e = absurd (unfound zone hash_chain_kinds f kind.UnreadNsec3 (2, omega arith, refl) o.it o.held (f.signed, inl (hash_typed zone.origin h o.it (hash_passes zone.origin h o.it o.passes), e)))
  says_by h o (Some n) e =
      let at : hash_at zone.origin o.it ≡ Some h = hash_passes zone.origin h o.it o.passes in
      let first : nsec3_at zone h ≡ Some n = ap (option_and_then (nsec3_of zone.origin)) o.is ∙ e in
      let is : n ≡ nsec h = sym (ap (nsec3_or h) first) in
      record {
        r = o.it;
        held = o.held;
        hash = at;
        first = first ∙ ap Some is;
        says = e ∙ ap Some is;
        same = ap (λ (m : Nsec3). m.hash) (sym is) ∙ hash_said zone.origin h o.it n at e;
      }

  says : (h : List ℕ) → HasHash zone h → Says h
  says h x = let o = find_in (is_of_hash zone.origin h) zone.records x in says_by h o (nsec3_of zone.origin o.it) refl

  abbrev hs : List (List ℕ)
  hs = hashes zone.origin zone.records

  abbrev chain : List Nsec3
  chain = map nsec hs

  all_there : AllByRecursion (HasHash zone) hs
  all_there = all_hashes (HasHash zone) zone.origin zone.records (λ r h x e. finds (is_of_hash zone.origin h) zone.records r x (passes_hash zone.origin h r e))

  there : (h : List ℕ) → Contains hs h → HasHash zone h
  there h x = All-contains (HasHash zone) hs h (All-from_recursion (HasHash zone) hs all_there) x

  listed : (h : List ℕ) → HasHash zone h → Contains hs h
  listed h x = let s = says h x in in_hashes zone.origin zone.records s.r h s.held s.hash

  all_same : (ks : List (List ℕ)) → AllByRecursion (HasHash zone) ks → AllByRecursion (λ k. (nsec k).hash ≡ k) ks
  all_same [] all = tt
  all_same (k ∷ ks) all = ((says k all.0).same, all_same ks all.1)

  ordered : (front : List (List ℕ)) (h : List ℕ) (rest : List (List ℕ)) → hs ≡ front ++ h ∷ rest → InOrder (front ++ h ∷ rest)
  ordered front h rest is = subst InOrder is (order_hashes zone.origin zone.records)

  there_at : (front : List (List ℕ)) (h : List ℕ) (rest : List (List ℕ)) → hs ≡ front ++ h ∷ rest → HasHash zone h
  there_at front h rest is = there h (subst (λ ks. Contains ks h) (sym is) (Contains-append_right front (h ∷ rest) h (first_in h rest)))

  -- a hash after another is one of those that follow it
  after_in : (front : List (List ℕ)) (h : List ℕ) (rest : List (List ℕ)) → hs ≡ front ++ h ∷ rest → (o : List ℕ) → HasHash zone o → IsBelow h o → Contains rest o
  after_in front h rest is o x after = among_rest front h rest o (ordered front h rest is) (subst (λ ks. Contains ks o) is (listed o x)) after

  there_next : (front : List (List ℕ)) (h p : List ℕ) (ps : List (List ℕ)) → hs ≡ front ++ h ∷ (p ∷ ps) → HasHash zone p
  there_next front h p ps is = there p (subst (λ ks. Contains ks p) (sym is) (Contains-append_right front (h ∷ (p ∷ ps)) p (Contains-append_right (h ∷ []) (p ∷ ps) p (first_in p ps))))

  not_before_next : (front : List (List ℕ)) (h p : List ℕ) (ps : List (List ℕ)) → hs ≡ front ++ h ∷ (p ∷ ps) → (o : List ℕ) → HasHash zone o → IsBelow h o → ¬ (IsBelow o p)
  not_before_next front h p ps is o x after down = elim (head_or_in p ps o (after_in front h (p ∷ ps) is o x after)) [
    | inl e ↦ not_below_itself p (subst (λ (l : List ℕ). IsBelow l p) (sym e) down)
    | inr more ↦ not_back p o (All-contains (IsBelow p) ps o (All-from_recursion (IsBelow p) ps (order_at front h (p ∷ ps) (ordered front h (p ∷ ps) is)).1.0) more) down
  ]

  first_later : (front : List (List ℕ)) (h p : List ℕ) (ps : List (List ℕ)) → hs ≡ front ++ h ∷ (p ∷ ps) → IsFirst (IsLaterHash zone h) p
  first_later front h p ps is = record {
    is = record { after = (order_at front h (p ∷ ps) (ordered front h (p ∷ ps) is)).0.0; there = there_next front h p ps is };
    least = λ o l. not_before_next front h p ps is o l.there l.after;
  }

  smallest : (k : List ℕ) (ks : List (List ℕ)) → hs ≡ k ∷ ks → IsFirst (HasHash zone) k
  smallest k ks is = record {
    is = there_at [] k ks is;
    least = λ o x down. elim (head_or_in k ks o (subst (λ ls. Contains ls o) is (listed o x))) [
      | inl e ↦ not_below_itself k (subst (λ (l : List ℕ). IsBelow l k) (sym e) down)
      | inr more ↦ not_back k o (All-contains (IsBelow k) ks o (All-from_recursion (IsBelow k) ks (ordered [] k ks is).0) more) down
    ];
  }

  -- the first hash of the chain is the first of all
  start_is : (os : List (List ℕ)) → hs ≡ os → (o : List ℕ) → HasHash zone o → IsFirst (HasHash zone) (next_hash [] (map nsec os))
  start_is [] is o x = absurd (none_in (subst (λ ks. Contains ks o) is (listed o x))) where
    none_in : Contains [] o → ⊥
    none_in c = omega (arith, c.1)
  start_is (k ∷ ks) is o x = subst (IsFirst (HasHash zone)) (sym (says k (there_at [] k ks is)).same) (smallest k ks is)

  start : (o : List ℕ) → HasHash zone o → IsFirst (HasHash zone) (next_hash [] chain)
  start o x = start_is hs refl o x

  by_next : (front : List (List ℕ)) (h : List ℕ) (rest : List (List ℕ)) → hs ≡ front ++ h ∷ rest → (next : List ℕ) → IsNextHash zone h next → next ≡ next_hash (next_hash [] chain) (map nsec rest)
  by_next front h [] is next (inl g) = absurd (none_in (after_in front h [] is next g.is.there g.is.after)) where
    none_in : Contains [] next → ⊥
    none_in c = omega (arith, c.1)
  by_next front h [] is next (inr g) = one_first (HasHash zone) next (next_hash [] chain) g.0 (start next g.0.is)
  by_next front h (p ∷ ps) is next (inl g) = one_first (IsLaterHash zone h) next p g (first_later front h p ps is) ∙ sym (says p (there_next front h p ps is)).same
  by_next front h (p ∷ ps) is next (inr g) = absurd (g.1 p (first_later front h p ps is).is)

  linked_next : (front : List (List ℕ)) (h : List ℕ) (rest : List (List ℕ)) → hs ≡ front ++ h ∷ rest → (nsec h).next ≡ next_hash (next_hash [] chain) (map nsec rest)
  linked_next front h rest is =
      let s = says h (there_at front h rest is) in
      elim (hash_or (nsec h).next (next_hash (next_hash [] chain) (map nsec rest))) [
        | inl e ↦ e
        | inr differs ↦ absurd (unfound zone hash_chain_kinds f kind.OtherNextHash (4, omega arith, refl) s.r s.held (if_hashed (λ _. HasOtherNextHash zone s.r)
            (subst (OfNsec3 (λ n. ¬ (IsNextHash zone n.hash n.next))) (sym s.says) (λ next. differs (by_next front h rest is (nsec h).next (subst (λ (l : List ℕ). IsNextHash zone l (nsec h).next) s.same next))))))
      ]

  linked_from : (front os : List (List ℕ)) → hs ≡ front ++ os → AreLinked3 (next_hash [] chain) (map nsec os)
  linked_from front [] is = tt
  linked_from front (h ∷ os) is = (linked_next front h os is, linked_from (front ++ h ∷ []) os (is ∙ sym (append_assoc front (h ∷ []) os)))

  -- a record of the chain that covers a hash is the one that may cover it
  last_earlier : (h e : List ℕ) → HasHash zone e → IsBelow e h → ((o : List ℕ) → IsEarlierHash zone h o → ¬ (IsBelow e o)) → IsCover zone h e
  last_earlier h e x below greatest = inl (record { is = record { before = below; there = x }; greatest = greatest })

  covering : (front : List (List ℕ)) (e : List ℕ) (rest : List (List ℕ)) → hs ≡ front ++ e ∷ rest → (h : List ℕ) → (IsBelow e h × IsBelow h (next_hash (next_hash [] chain) (map nsec rest))) ⊎ ((¬ (IsBelow e (next_hash (next_hash [] chain) (map nsec rest)))) × (IsBelow e h ⊎ IsBelow h (next_hash (next_hash [] chain) (map nsec rest)))) → IsCover zone h e
  covering front e [] is h which = elim which [
    | inl both ↦ low both.0
    | inr around ↦ elim around.1 [ inl below ↦ low below | inr up ↦ high up ]
  ] where
    none_after : (o : List ℕ) → HasHash zone o → ¬ (IsBelow e o)
    none_after o x after = none_in (after_in front e [] is o x after) where
      none_in : Contains [] o → ⊥
      none_in c = omega (arith, c.1)

    low : IsBelow e h → IsCover zone h e
    low below = last_earlier h e (there_at front e [] is) below (λ o l. none_after o l.there)

    high : IsBelow h (next_hash [] chain) → IsCover zone h e
    high up = inr (
      record { is = there_at front e [] is; greatest = none_after },
      λ o l. (start e (there_at front e [] is)).least o l.there (nat_list_cmp_total.trans o h (next_hash [] chain) l.before up),
    )
  covering front e (p ∷ ps) is h which = elim which [
    | inl both ↦ low both.0 (subst (IsBelow h) same both.1)
    | inr around ↦ absurd (around.0 (subst (IsBelow e) (sym same) (order_at front e (p ∷ ps) (ordered front e (p ∷ ps) is)).0.0))
  ] where
    same : (nsec p).hash ≡ p
    same = (says p (there_next front e p ps is)).same

    low : IsBelow e h → IsBelow h p → IsCover zone h e
    low below up = last_earlier h e (there_at front e (p ∷ ps) is) below (λ o l after. not_before_next front e p ps is o l.there after (nat_list_cmp_total.trans o h p l.before up))

  is_cover : (e : List ℕ) → Contains hs e → (h : List ℕ) → CoversHash (nsec e) h → IsCover zone h e
  is_cover e held h covers =
      let at = split hs e held in
      let s = says e (there e held) in
      covering at.front e at.rest at.is h (
      subst (λ (next : List ℕ). (IsBelow e h × IsBelow h next) ⊎ ((¬ (IsBelow e next)) × (IsBelow e h ⊎ IsBelow h next))) (linked_next at.front e at.rest at.is)
      (subst (λ (own : List ℕ). (IsBelow own h × IsBelow h (nsec e).next) ⊎ ((¬ (IsBelow own (nsec e).next)) × (IsBelow own h ⊎ IsBelow h (nsec e).next))) s.same covers))

  within : (r : Record RData) → Contains zone.records r → Encloses zone.origin.labels r.name.labels
  within r x = elim (enclosed_or zone.origin.labels r.name.labels) [
    | inl e ↦ e
    | inr fails ↦ absurd (unfound zone hash_chain_kinds f kind.Outside (0, omega arith, refl) r x fails)
  ]

  -- a record that is no NSEC3 record and no signature is of a name of the zone
  named_by : (r : Record RData) → Contains zone.records r → ¬ (type_of r.rdata ≡ type_nsec3) → ¬ (type_of r.rdata ≡ type_rrsig) → ¬ (Owns zone r.name type_nsec3)
  named_by r x other unsigned beside = unfound zone hash_chain_kinds f kind.BesideNsec3 (6, omega arith, refl) r x (if_hashed (λ b. IsFoundIfHashed kind.BesideNsec3 zone b r) (record { other = other; unsigned = unsigned; beside = beside }))

  passes_named : (r : Record RData) → ¬ (Owns zone r.name type_nsec3) → is_named zone r ≡ true
  passes_named r named = by_test (is_some (first_of zone r.name type_nsec3)) named where
    by_test : (b : Bool) → ¬ (b ≡ true) → not b ≡ true
    by_test true h = absurd (h refl)
    by_test false h = refl

  named_passes : (r : Record RData) → is_named zone r ≡ true → ¬ (Owns zone r.name type_nsec3)
  named_passes r = by_test (is_some (first_of zone r.name type_nsec3)) where
    by_test : (b : Bool) → not b ≡ true → ¬ (b ≡ true)
    by_test true h e = absurd (false_true h)
    by_test false h e = absurd (false_true e)

  key_held : (r : Record RData) → Contains zone.records r → ¬ (Owns zone r.name type_nsec3) → Contains (names_in zone).keys (key_in r)
  key_held r x named = in_map key_in (filter (is_named zone) zone.records) r (in_filter (is_named zone) zone.records r x (passes_named r named))

  -- the record of a key
  record OfKey (key : RrKey) : Type 0 where
    r : Record RData
    held : Contains zone.records r
    named : ¬ (Owns zone r.name type_nsec3)
    is : key_in r ≡ key

  of_key : (key : RrKey) → Contains (names_in zone).keys key → OfKey key
  of_key key x =
      let m = from_map key_in (filter (is_named zone) zone.records) key x in
      let p = from_filter (is_named zone) zone.records m.it m.held in
      record { r = m.it; held = p.held; named = named_passes m.it p.passes; is = m.is }

  has_set_by : (r : Record RData) → Contains zone.records r → ¬ (Owns zone r.name type_nsec3) → (name : DomainName) → SameName r.name name → HasSet (names_in zone) name (type_of r.rdata)
  has_set_by r x named name s = record { key = key_in r; held = key_held r x named; named = s; typed = refl }

  has_set : (name : DomainName) (t : ℕ) → ¬ (t ≡ type_nsec3) → ¬ (t ≡ type_rrsig) → Owns zone name t → HasSet (names_in zone) name t
  has_set name t other unsigned h =
      let o = owned zone name t h in
      subst (HasSet (names_in zone) name) o.typed (has_set_by o.it o.held (named_by o.it o.held (λ e. other (sym o.typed ∙ e)) (λ e. unsigned (sym o.typed ∙ e))) name o.named)

  -- a record of a set
  record OfSet (name : DomainName) (t : ℕ) : Type 0 where
    r : Record RData
    held : Contains zone.records r
    named : ¬ (Owns zone r.name type_nsec3)
    same : SameName r.name name
    typed : type_of r.rdata ≡ t

  of_set : (name : DomainName) (t : ℕ) → HasSet (names_in zone) name t → OfSet name t
  of_set name t h =
      let k = of_key h.key h.held in
      record { r = k.r; held = k.held; named = k.named; same = subst (λ (key : RrKey). SameName key.name name) (sym k.is) h.named; typed = ap (λ (key : RrKey). key.record_type) k.is ∙ h.typed }

  cut_key : (name : DomainName) → IsCut zone name → keys.IsCut (names_in zone) name
  cut_key name c = record { below_apex = λ s. c.below.other (record { front = []; ends = sym s.labels }); servers = has_set name type_ns (λ e. omega (arith, e)) (λ e. omega (arith, e)) c.servers }

  -- a record by which a name exists
  record ByRecord (name : DomainName) : Type 0 where
    r : Record RData
    held : Contains zone.records r
    named : ¬ (Owns zone r.name type_nsec3)
    count : ℕ
    far : count ≤ length r.name.labels
    same : lower_labels (ancestor (lower_name r.name) count).labels ≡ lower_labels name.labels
    empty : 0 < count → OwnsNothing zone (ancestor (lower_name r.name) count)

  exists_by : (name : DomainName) → Exists (names_in zone) name → ByRecord name
  exists_by name x = by_front x.at_or_below.front refl where
    k : OfKey x.owner
    k = of_key x.owner x.held

    ends : lower_labels k.r.name.labels ≡ x.at_or_below.front ++ lower_labels name.labels
    ends = ap (λ (key : RrKey). lower_labels key.name.labels) k.is ∙ x.at_or_below.ends

    here : (front : List (List ℕ)) → x.at_or_below.front ≡ front → (ancestor (lower_name k.r.name) (length front)).labels ≡ lower_labels name.labels
    here front is = ap (drop (length front)) (ends ∙ ap (λ ls. ls ++ lower_labels name.labels) is) ∙ drop_front front (lower_labels name.labels)

    same_here : (front : List (List ℕ)) → x.at_or_below.front ≡ front → lower_labels (ancestor (lower_name k.r.name) (length front)).labels ≡ lower_labels name.labels
    same_here front is = ap lower_labels (here front is) ∙ lower_labels-twice name.labels

    far : (front : List (List ℕ)) → x.at_or_below.front ≡ front → length front ≤ length k.r.name.labels
    far front is = omega (arith, ap length ends, ap length is, length-append x.at_or_below.front (lower_labels name.labels), length-map k.r.name.labels lower_label)

    by_front : (front : List (List ℕ)) → x.at_or_below.front ≡ front → ByRecord name
    by_front [] is = record { r = k.r; held = k.held; named = k.named; count = 0; far = omega arith; same = same_here [] is; empty = λ some. absurd (omega (arith, some)) }
    by_front (l ∷ ls) is = by_owner (true_or (is_some (find (is_at (ancestor (lower_name k.r.name) (suc (length ls)))) zone.records))) (owns_or zone (ancestor (lower_name k.r.name) (suc (length ls))) type_nsec3) where
      by_empty : OwnsNothing zone (ancestor (lower_name k.r.name) (suc (length ls))) → ByRecord name
      by_empty nothing = record { r = k.r; held = k.held; named = k.named; count = suc (length ls); far = far (l ∷ ls) is; same = same_here (l ∷ ls) is; empty = λ some. nothing }

      by_owner : (is_some (find (is_at (ancestor (lower_name k.r.name) (suc (length ls)))) zone.records) ≡ true) ⊎ ¬ (is_some (find (is_at (ancestor (lower_name k.r.name) (suc (length ls)))) zone.records) ≡ true)
          → Owns zone (ancestor (lower_name k.r.name) (suc (length ls))) type_nsec3 ⊎ ¬ (Owns zone (ancestor (lower_name k.r.name) (suc (length ls))) type_nsec3) → ByRecord name
      by_owner (inr none) hashed = by_empty (inl none)
      by_owner (inl some) (inl hashed) = by_empty (inr hashed)
      by_owner (inl some) (inr named) =
          let o = find_in (is_at (ancestor (lower_name k.r.name) (suc (length ls)))) zone.records some in
          let s : SameName o.it.name (ancestor (lower_name k.r.name) (suc (length ls))) = same_from_eq o.it.name (ancestor (lower_name k.r.name) (suc (length ls))) o.passes in
          record {
            r = o.it;
            held = o.held;
            named = λ h. named (owns_alike zone o.it.name (ancestor (lower_name k.r.name) (suc (length ls))) s type_nsec3 h);
            count = 0;
            far = omega arith;
            same = lower_labels-twice o.it.name.labels ∙ s.labels ∙ same_here (l ∷ ls) is;
            empty = λ some. absurd (omega (arith, some));
          }

  module _ (name : DomainName) (b : ByRecord name) where
    hash_same : hash_of by (ancestor (lower_name b.r.name) b.count) ≡ hash_of by name
    hash_same = hash_alike by (ancestor (lower_name b.r.name) b.count) name b.same

    same_name : name.is_fqdn ≡ true → SameName (ancestor (lower_name b.r.name) b.count) name
    same_name q = record { labels = b.same; marks = f.qualified b.r b.held ∙ sym q }

    found_at : (Is IsEmpty : DomainName → Type 0) → Is (ancestor (lower_name b.r.name) b.count) → IsEmpty (ancestor (lower_name b.r.name) b.count) → IsByName zone Is IsEmpty b.r
    found_at Is IsEmpty p e = by_count b.count refl where
      by_count : (k : ℕ) → b.count ≡ k → IsByName zone Is IsEmpty b.r
      by_count zero is = record { named = b.named; is = inl (subst (λ (k : ℕ). Is (ancestor (lower_name b.r.name) k)) is p) }
      by_count (suc j) is =
          let above : 0 < b.count = omega (arith, is) in
          record { named = b.named; is = inr (record { count = b.count; above = above; is_ancestor = b.far; holds = record { empty = b.empty above; is = e } }) }

    of_zone : keys3.IsOfZone (names_in zone) name → IsOfZone zone (ancestor (lower_name b.r.name) b.count)
    of_zone z = record {
      within = record { front = z.inside.within.front; ends = b.same ∙ z.inside.within.ends };
      uncut = λ c. z.uncut c.count c.above (shorter c.count c.is_ancestor) (cut_key (ancestor name c.count) (cut_alike zone (ancestor (ancestor (lower_name b.r.name) b.count) c.count) (ancestor name c.count) (same_ancestors (ancestor (lower_name b.r.name) b.count) name c.count (same_name z.inside.qualified)) c.cut));
      undirected = λ d. z.undirected d.count d.above (shorter d.count d.is_ancestor)
          (has_set (ancestor name d.count) type_dname (λ e. omega (arith, e)) (λ e. omega (arith, e)) (owns_alike zone (ancestor (ancestor (lower_name b.r.name) b.count) d.count) (ancestor name d.count) (same_ancestors (ancestor (lower_name b.r.name) b.count) name d.count (same_name z.inside.qualified)) type_dname d.dname.owner));
    } where
      shorter : (k : ℕ) → k ≤ length (ancestor (lower_name b.r.name) b.count).labels → k ≤ length name.labels
      shorter k h = omega (arith, h, ap length b.same, length-map (ancestor (lower_name b.r.name) b.count).labels lower_label, length-map name.labels lower_label)

  complete : (name : DomainName) → Exists (names_in zone) name → keys3.IsOfZone (names_in zone) name → chains.IsHashed by chain name ⊎ keys3.IsOptedOut by chain name
  complete name x z = elim (true_or (is_some (first_with zone (hash_of by name)))) [
    | inl h ↦ let r : chains.IsHashed by chain name = record { at = nsec (hash_of by name); held = in_map nsec hs (hash_of by name) (listed (hash_of by name) h); is = (says (hash_of by name) h).same } in inl r
    | inr none ↦ inr (λ c held covers. out c held covers none)
  ] where
    b : ByRecord name
    b = exists_by name x

    out : (c : Nsec3) → Contains chain c → CoversHash c (hash_of by name) → ¬ (HasHash zone (hash_of by name)) → c.opt_out ≡ true
    out c held covers none = by_out c.opt_out refl where
      m : FromMap nsec hs c
      m = from_map nsec hs c held

      covers_at : IsCover zone (hash_of by name) m.it
      covers_at = is_cover m.it m.held (hash_of by name) (subst (λ (n : Nsec3). CoversHash n (hash_of by name)) (sym m.is) covers)

      opted : IsOptedOut zone (hash_of by name) → c.opt_out ≡ true
      opted o =
          let e : o.cover ≡ m.it = one_cover zone (hash_of by name) o.cover m.it o.covers covers_at in
          let said : OfNsec3 (λ n. n.opt_out ≡ true) (nsec3_at zone m.it) = subst (λ (l : List ℕ). OfNsec3 (λ n. n.opt_out ≡ true) (nsec3_at zone l)) e o.out in
          let is : (nsec m.it).opt_out ≡ true = subst (OfNsec3 (λ n. n.opt_out ≡ true)) (says m.it (there m.it m.held)).first said in
          ap (λ (n : Nsec3). n.opt_out) (sym m.is) ∙ is

      by_out : (o : Bool) → c.opt_out ≡ o → o ≡ true
      by_out true e = refl
      by_out false e = absurd (unfound zone hash_chain_kinds f kind.NoNsec3 (7, omega arith, refl) b.r b.held (if_hashed (λ h. IsFoundIfHashed kind.NoNsec3 zone h b.r) (found_at name b (IsFoundOfOwner kind.NoNsec3 zone by b.r.name) (IsFoundOfEmpty kind.NoNsec3 zone by b.r.name) lacks lacks))) where
        lacks : LacksHash zone by b.r.name (ancestor (lower_name b.r.name) b.count)
        lacks = record {
          of_zone = of_zone name b z;
          none = subst (λ (l : List ℕ). ¬ (HasHash zone l)) (sym (hash_same name b)) none;
          kept = inl (λ o. false_true (sym e ∙ opted (subst (IsOptedOut zone) (hash_same name b) o)));
        }

  -- whether a name that exists has a hash
  by_record_or : (h : List ℕ) (r : Record RData) → IsByRecord zone.origin zone.records by h r ⊎ ¬ (IsByRecord zone.origin zone.records by h r)
  by_record_or h r = elim (owns_or zone r.name type_nsec3) [
    | inl hashed ↦ inr (λ x. x.named hashed)
    | inr named ↦ elim (up_to_or (λ k. HasNameHash zone.origin by h (ancestor (lower_name r.name) k)) has_or (length r.name.labels)) [
      | inl u ↦ let x : IsByRecord zone.origin zone.records by h r = record { named = named; count = u.k; is_ancestor = u.within; has = u.is } in inl x
      | inr none ↦ inr (λ x. none (record { k = x.count; within = x.is_ancestor; is = x.has }))
    ]
  ] where
    has_or : (k : ℕ) → HasNameHash zone.origin by h (ancestor (lower_name r.name) k) ⊎ ¬ (HasNameHash zone.origin by h (ancestor (lower_name r.name) k))
    has_or k = elim (enclosed_or zone.origin.labels (ancestor (lower_name r.name) k).labels) [
      | inr outside ↦ inr (λ x. outside x.within)
      | inl inside ↦ elim (hash_or (hash_of by (ancestor (lower_name r.name) k)) h) [
        | inl e ↦ let x : HasNameHash zone.origin by h (ancestor (lower_name r.name) k) = record { within = inside; is = e } in inl x
        | inr differs ↦ inr (λ x. differs x.is)
      ]
    ]

  of_name_or : (h : List ℕ) (rs : Records) → IsOfName zone.origin zone.records by rs h ⊎ ¬ (IsOfName zone.origin zone.records by rs h)
  of_name_or h [] = inr (λ x. absurd (omega (arith, x.held.1)))
  of_name_or h (r ∷ rs) = elim (by_record_or h r) [
    | inl x ↦ let o : IsOfName zone.origin zone.records by (r ∷ rs) h = record { r = r; held = (0, omega arith, refl); is = x } in inl o
    | inr fails ↦ elim (of_name_or h rs) [
      | inl o ↦ let p : IsOfName zone.origin zone.records by (r ∷ rs) h = record { r = o.r; held = Contains-append_right (r ∷ []) rs o.r o.held; is = o.is } in inl p
      | inr none ↦ inr (λ o. elim (head_or_in r rs o.r o.held) [
        | inl e ↦ fails (subst (IsByRecord zone.origin zone.records by h) (sym e) o.is)
        | inr more ↦ none (record { r = o.r; held = more; is = o.is })
      ])
    ]
  ]

  stands_for : (h : List ℕ) → Contains hs h → StandsFor (names_in zone) by (nsec h)
  stands_for h held =
      let s = says h (there h held) in
      elim (of_name_or h zone.records) [
        | inr none ↦ absurd (unfound zone hash_chain_kinds f kind.IdleNsec3 (5, omega arith, refl) s.r s.held (if_hashed (λ b. IsFoundIfHashed kind.IdleNsec3 zone b s.r)
            (subst (λ (o : Option (List ℕ)). MatchOption o ⊥ (λ hash. ¬ (IsOfName zone.origin zone.records by zone.records hash))) (sym s.hash) none)))
        | inl x ↦ let n : StandsFor (names_in zone) by (nsec h) = record {
          name = ancestor (lower_name x.r.name) x.is.count;
          exists = record {
            owner = key_in x.r;
            held = key_held x.r x.held x.is.named;
            at_or_below = enclosed_same (ancestor (lower_name x.r.name) x.is.count).labels (lower_name x.r.name) x.r.name (same_back (lower_name x.r.name) x.r.name (lower_same x.r.name)) (encloses_drop x.is.count (lower_name x.r.name).labels);
          };
          is = s.same ∙ sym x.is.has.is;
        } in n
      ]

  listed_by : (name other : DomainName) (t : ℕ) → SameName name other → keys.IsListed (names_in zone) name t → IsListed zone other t
  listed_by name other t s (inl uncut) = inr (λ c. uncut (cut_key name (cut_alike zone other name (same_back name other s) c)))
  listed_by name other t s (inr (inl e)) = inl (subst (λ (u : ℕ). is_type_at_cut u ≡ true) (sym e) refl)
  listed_by name other t s (inr (inr (inl e))) = inl (subst (λ (u : ℕ). is_type_at_cut u ≡ true) (sym e) refl)
  listed_by name other t s (inr (inr (inr (inl e)))) = inl (subst (λ (u : ℕ). is_type_at_cut u ≡ true) (sym e) refl)
  listed_by name other t s (inr (inr (inr (inr e)))) = inl (subst (λ (u : ℕ). is_type_at_cut u ≡ true) (sym e) refl)

  module _ (h : List ℕ) (held : Contains hs h) (name : DomainName) (t : ℕ) (inside : keys3.IsIn (names_in zone) name) (is : (nsec h).hash ≡ hash_of by name) where
    s : Says h
    s = says h (there h held)

    at_hash : (other : DomainName) → lower_labels other.labels ≡ lower_labels name.labels → nsec3_at zone (hash_of by other) ≡ Some (nsec h)
    at_hash other same = ap (nsec3_at zone) (hash_alike by other name same ∙ sym is ∙ s.same) ∙ s.first

    -- a type that is listed has records
    listed_has : Exists (names_in zone) name → Contains (nsec h).types t → HasSet (names_in zone) name t
    listed_has x c = by_count b.count refl where
      b : ByRecord name
      b = exists_by name x

      by_count : (k : ℕ) → b.count ≡ k → HasSet (names_in zone) name t
      by_count zero e = elim (owns_or zone (lower_name b.r.name) t) [
        | inl owns ↦ by_owned (owned zone (lower_name b.r.name) t owns)
        | inr none ↦ absurd (unfound zone hash_chain_kinds f kind.IdleType3 (8, omega arith, refl) b.r b.held (if_hashed (λ g. IsFoundIfHashed kind.IdleType3 zone g b.r)
            (record { named = b.named; is = inl (subst (OfNsec3 (λ n. HasIdleType zone (lower_name b.r.name) n.types)) (sym (at_hash (lower_name b.r.name) (subst (λ (k : ℕ). lower_labels (ancestor (lower_name b.r.name) k).labels ≡ lower_labels name.labels) e b.same))) (record { t = t; listed = c; idle = inl none })) })))
      ] where
        by_owned : Owned zone (lower_name b.r.name) t → HasSet (names_in zone) name t
        by_owned o =
            let to_owner : SameName o.it.name b.r.name = same_trans o.it.name (lower_name b.r.name) b.r.name o.named (lower_same b.r.name) in
            let to_name : SameName (lower_name b.r.name) name = subst (λ (k : ℕ). SameName (ancestor (lower_name b.r.name) k) name) e (same_name name b inside.qualified) in
            subst (HasSet (names_in zone) name) o.typed (has_set_by o.it o.held (λ hashed. b.named (owns_alike zone o.it.name b.r.name to_owner type_nsec3 hashed)) name (same_trans o.it.name (lower_name b.r.name) name o.named to_name))
      by_count (suc j) e = absurd (unfound zone hash_chain_kinds f kind.IdleType3 (8, omega arith, refl) b.r b.held (if_hashed (λ g. IsFoundIfHashed kind.IdleType3 zone g b.r)
          (let above : 0 < b.count = omega (arith, e) in
          record { named = b.named; is = inr (record { count = b.count; above = above; is_ancestor = b.far; holds = record { empty = b.empty above; is = subst (OfNsec3 (λ n. ¬ (n.types ≡ []))) (sym (at_hash (ancestor (lower_name b.r.name) b.count) b.same)) (λ none. none_in (subst (λ (ts : List ℕ). Contains ts t) none c)) } }) }))) where
            none_in : Contains [] t → ⊥
            none_in c = omega (arith, c.1)

    -- a type that has records is listed
    has_listed : keys.IsListed (names_in zone) name t → HasSet (names_in zone) name t → Contains (nsec h).types t
    has_listed listed set = elim (in_or (nsec h).types t) [
      | inl c ↦ c
      | inr fails ↦ let o = of_set name t set in absurd (unfound zone hash_chain_kinds f kind.Unlisted3 (9, omega arith, refl) o.r o.held (if_hashed (λ g. IsFoundIfHashed kind.Unlisted3 zone g o.r) (record {
        named = o.named;
        listed = subst (IsListed zone o.r.name) (sym o.typed) (listed_by name o.r.name t (same_back o.r.name name o.same) listed);
        missing = subst (OfNsec3 (λ n. ¬ (Contains n.types (type_of o.r.rdata)))) (sym (at_hash o.r.name o.same.labels)) (subst (λ (u : ℕ). ¬ (Contains (nsec h).types u)) (sym o.typed) fails);
      })))
    ]

  apex_at : (name : DomainName) → HasSet (names_in zone) name type_soa ↔ SameName name zone.origin
  apex_at name = (λ h. by_record (of_set name type_soa h), by_start) where
    by_record : OfSet name type_soa → SameName name zone.origin
    by_record o = elim (enclosed_or o.r.name.labels zone.origin.labels) [
      | inl e ↦ same_trans name o.r.name zone.origin (same_back o.r.name name o.same) (record { labels = both_enclose o.r.name.labels zone.origin.labels e (within o.r o.held); marks = f.qualified o.r o.held ∙ sym f.apex })
      | inr fails ↦ absurd (unfound zone hash_chain_kinds f kind.SoaBelowApex (1, omega arith, refl) o.r o.held (record { typed = o.typed; below = record { within = within o.r o.held; other = fails } }))
    ]

    by_start : SameName name zone.origin → HasSet (names_in zone) name type_soa
    by_start same = elim (owns_or zone zone.origin type_soa) [
      | inr fails ↦ absurd (f.start fails)
      | inl h ↦ set_same (names_in zone) zone.origin name type_soa (same_back name zone.origin same) (has_set zone.origin type_soa (λ e. omega (arith, e)) (λ e. omega (arith, e)) h)
    ]

  is_chained : IsChained3 (names_in zone) by chain
  is_chained = record {
    is_chain = record { ascending = ascending nsec hs (order_hashes zone.origin zone.records) (all_same hs all_there); linked = linked_from [] hs refl };
    complete = complete;
    names = λ n x. let m = from_map nsec hs n x in subst (StandsFor (names_in zone) by) m.is (stands_for m.it m.held);
    types = λ n name t x inside is exists listed. let m = from_map nsec hs n x in
        subst (λ (g : Nsec3). g.hash ≡ hash_of by name → Contains g.types t ↔ HasSet (names_in zone) name t) m.is (λ is. (listed_has m.it m.held name t inside is exists, has_listed m.it m.held name t inside is listed)) is;
    apex = apex_at;
  }

  same_parameters : (h : List ℕ) (s : Says h) → option_and_then parameters_in (octets_of type_nsec3 s.r.rdata) ≡ Some by
  same_parameters h s = by_octets (octets_of type_nsec3 s.r.rdata) refl (sym (ap (λ (o : Option (List ℕ)). option_and_then (λ hash. option_and_then (nsec3_in hash) (octets_of type_nsec3 s.r.rdata)) o) s.hash) ∙ s.says) where
    by_octets : (octets : Option (List ℕ)) → octets_of type_nsec3 s.r.rdata ≡ octets → option_and_then (nsec3_in h) octets ≡ Some (nsec h) → option_and_then parameters_in octets ≡ Some by
    by_octets None e says = absurd (none_some says)
    by_octets (Some octets) e says =
        let p = data_have_parameters h octets (nsec h) says in
        elim (hashing_or p.it by) [
          | inl is ↦ p.is ∙ ap Some is
          | inr differs ↦ absurd (unfound zone hash_chain_kinds f kind.OtherParameters (3, omega arith, refl) s.r s.held (if_hashed (λ b. IsFoundIfHashed kind.OtherParameters zone b s.r)
              (subst (λ (o : Option Hashing). MatchOption o ⊥ (λ other. ¬ (other ≡ by))) (sym (ap (option_and_then parameters_in) e ∙ p.is)) differs)))
        ]

  is_said : (n : Nsec3) → Contains chain n → IsSaid3 zone by n
  is_said n x =
      let m = from_map nsec hs n x in
      let s = says m.it (there m.it m.held) in
      record { r = s.r; held = s.held; says = s.says ∙ ap Some m.is; parameters = same_parameters m.it s }

  pub hashed_chain : (b : Hashing) × (hashing_of zone ≡ Some b) × (ns : List Nsec3) × IsChained3 (names_in zone) b ns × ((n : Nsec3) → Contains ns n → IsSaid3 zone b n)
  hashed_chain = (by, hashing, chain, is_chained, is_said)

pub faultless_zones_are_hashed : FaultlessZonesAreHashed
faultless_zones_are_hashed zone f hashed = by_parameters (parameters_of o.it.rdata) refl where
  o : Owned zone zone.origin type_nsec3param
  o = owned zone zone.origin type_nsec3param hashed

  by_parameters : (found : Option Hashing) → parameters_of o.it.rdata ≡ found → (by : Hashing) × (hashing_of zone ≡ Some by) × (chain : List Nsec3) × IsChained3 (names_in zone) by chain × ((n : Nsec3) → Contains chain n → IsSaid3 zone by n)
  by_parameters None e = absurd (unfound zone hash_chain_kinds f kind.UnreadNsec3 (2, omega arith, refl) o.it o.held (f.signed, inr (o.typed, e)))
  by_parameters (Some by) e = hashed_chain zone by (ap (option_and_then (λ (r : Record RData). parameters_of r.rdata)) o.is ∙ e) f
