-- The owner names of NSEC records in canonical order, each once.
use Rattle.std.proofs.Common.{◌≡◌, ◌==◌, ◌&&◌, ◌++◌, ◌∙◌, ℕ, Bool, true, false, cond, List, [], ◌∷◌, map, length, length-append, Option, Some, refl, sym, ap, subst, inl, inr, arith}
use Rattle.std.specs.Prelude.{◌⊎◌, is_some}
use Rattle.std.specs.List.{AllByRecursion, Contains, find}
use Rattle.std.specs.Ordering.{ordering_reverse}
use Rattle.std.specs.declared.cmp.Ordering.{Ordering}
use Rattle.std.specs.declared.cmp.Ordering.TheVariants.{Less, Equal, Greater}
use Rattle.std.proofs.lemmas.Bool.Decides.{nat_tests}
use Rattle.std.proofs.lemmas.List.Elements.{Contains-append_right}
use Rattle.wire_names.proofs.lemmas.rr.domain.Ends.{ends-decides}
use Rattle.wire_names.specs.representation.NameHash.{same_from_eq}
use Rattle.wire_names.specs.rr.domain.DomainName.{DomainName}
use Rattle.wire_names.specs.rr.domain.NameOrder.{Encloses, SameName, encloses, lower_labels, name_cmp, name_cmp_total, name_eq}
use Rattle.wire_names.proofs.lemmas.rr.domain.SameNames.{eq_from_same}
use Rattle.wire_messages.specs.rr.RecordData.{type_of}
use Rattle.wire_messages.specs.declared.rr.rdata.RData.{RData}
use Rattle.wire_messages.specs.declared.rr.record.Record.{Record}
use Rattle.zone_check.proofs.NextOwners.{before_alike}
use Rattle.zone_check.specs.CheckedZones.{Records, type_nsec}
use Rattle.zone_denials.proofs.lemmas.EnclosedBetween.{equal_of, same_back, same_of}
use Rattle.zone_denials.proofs.lemmas.Members.{head_or_in}
use Rattle.zone_denials.specs.Nsec.{IsBefore, Nsec}
use Rattle.zone_denials.specs.NsecChain.{AreAscending}

pub itself : (name : DomainName) → SameName name name
itself name = record { labels = refl; marks = refl }

pub not_true : false ≡ true → ⊥
not_true e = cc

pub true_or : (b : Bool) → (b ≡ true) ⊎ ¬ (b ≡ true)
true_or true = inl refl
true_or false = inr not_true

pub enclosed_or : (ns ms : List (List ℕ)) → Encloses ns ms ⊎ ¬ (Encloses ns ms)
enclosed_or ns ms = by_test (encloses ns ms) refl where
  by_test : (b : Bool) → b ≡ encloses ns ms → Encloses ns ms ⊎ ¬ (Encloses ns ms)
  by_test true e = inl ((ends-decides ns ms true e).0 refl)
  by_test false e = inr (λ h. not_true ((ends-decides ns ms false e).1 h))

pub same_or : (a b : DomainName) → SameName a b ⊎ ¬ (SameName a b)
same_or a b = elim (true_or (name_eq a b)) [
  | inl e ↦ inl (same_from_eq a b e)
  | inr fails ↦ inr (λ s. fails (eq_from_same a b s))
]

pub both_enclose : (a b : List (List ℕ)) → Encloses a b → Encloses b a → lower_labels a ≡ lower_labels b
both_enclose a b e f = by_front e.front refl where
  by_front : (fs : List (List ℕ)) → e.front ≡ fs → lower_labels a ≡ lower_labels b
  by_front [] is = sym (e.ends ∙ ap (λ xs. xs ++ lower_labels a) is)
  by_front (x ∷ xs) is = absurd (omega (arith, ap length e.ends, ap length is, ap length f.ends, length-append e.front (lower_labels a), length-append f.front (lower_labels b)))

pub and_both : (a b : Bool) → (a && b) ≡ true → (a ≡ true) × (b ≡ true)
and_both true b h = (refl, h)
and_both false b h = absurd cc

pub same_number : (a b : ℕ) → (a == b) ≡ true → a ≡ b
same_number a b h = grind (arith, nat_tests)

pub equal_numbers : (a b : ℕ) → a ≡ b → (a == b) ≡ true
equal_numbers a b e = grind (arith, nat_tests)

-- what is found in a list is of the list and passes the test
pub record FoundIn {A : Type 0} (test : A → Bool) (xs : List A) : Type 0 where
  pub it : A
  pub held : Contains xs it
  pub passes : test it ≡ true
  pub is : find test xs ≡ Some it

pub find_in : {A : Type 0} (test : A → Bool) (xs : List A) → is_some (find test xs) ≡ true → FoundIn test xs
find_in test [] h = absurd cc
find_in {A} test (x ∷ xs) h = by_test (test x) refl (find_in test xs) where
  by_test : (b : Bool) → test x ≡ b → (is_some (find test xs) ≡ true → FoundIn test xs) → FoundIn test (x ∷ xs)
  by_test true e rest = record { it = x; held = (0, omega arith, refl); passes = e; is = ap (λ b. cond b (Some x) (find test xs)) e }
  by_test false e rest =
      let step : find test (x ∷ xs) ≡ find test xs = ap (λ b. cond b (Some x) (find test xs)) e in
      let f = rest (ap is_some (sym step) ∙ h) in
      record { it = f.it; held = Contains-append_right (x ∷ []) xs f.it f.held; passes = f.passes; is = step ∙ f.is }

some_or : {A : Type 0} (b : Bool) (x : A) (o : Option A) → is_some o ≡ true → is_some (cond b (Some x) o) ≡ true
some_or true x o h = refl
some_or false x o h = h

pub finds : {A : Type 0} (test : A → Bool) (xs : List A) (y : A) → Contains xs y → test y ≡ true → is_some (find test xs) ≡ true
finds test [] y held h = absurd (omega (arith, held.1))
finds test (x ∷ xs) y held h = elim (head_or_in x xs y held) [
  | inl e ↦ ap (λ b. is_some (cond b (Some x) (find test xs))) (ap test e ∙ h)
  | inr more ↦ some_or (test x) x (find test xs) (finds test xs y more h)
]

-- what a list that was mapped has comes of an element
pub record FromMap {A B : Type 0} (f : A → B) (xs : List A) (y : B) : Type 0 where
  pub it : A
  pub held : Contains xs it
  pub is : f it ≡ y

pub from_map : {A B : Type 0} (f : A → B) (xs : List A) (y : B) → Contains (map f xs) y → FromMap f xs y
from_map f [] y h = absurd (omega (arith, h.1))
from_map f (x ∷ xs) y h = elim (head_or_in (f x) (map f xs) y h) [
  | inl e ↦ let r : FromMap f (x ∷ xs) y = record { it = x; held = (0, omega arith, refl); is = e } in r
  | inr more ↦ let m = from_map f xs y more in let r : FromMap f (x ∷ xs) y = record { it = m.it; held = Contains-append_right (x ∷ []) xs m.it m.held; is = m.is } in r
]

pub in_map : {A B : Type 0} (f : A → B) (xs : List A) (x : A) → Contains xs x → Contains (map f xs) (f x)
in_map f [] x h = absurd (omega (arith, h.1))
in_map f (y ∷ xs) x h = elim (head_or_in y xs x h) [
  | inl e ↦ let r : Contains (f y ∷ map f xs) (f x) = (0, omega arith, ap f e) in r
  | inr more ↦ Contains-append_right (f y ∷ []) (map f xs) (f x) (in_map f xs x more)
]

abbrev pub place : Ordering → DomainName → DomainName → List DomainName → List DomainName → List DomainName
place Less o p ps rest = o ∷ p ∷ ps
place Equal o p ps rest = p ∷ ps
place Greater o p ps rest = p ∷ rest

abbrev pub insert : DomainName → List DomainName → List DomainName
insert o [] = o ∷ []
insert o (p ∷ ps) = place (name_cmp o p) o p ps (insert o ps)

abbrev pub owners : Records → List DomainName
owners [] = []
owners (r ∷ rs) = cond (type_of r.rdata == type_nsec) (insert r.name (owners rs)) (owners rs)

abbrev pub InOrder : List DomainName → Type 0
InOrder [] = Unit {0}
InOrder (o ∷ os) = AllByRecursion (IsBefore o) os × InOrder os

module _ (P : DomainName → Type 0) where
  all_insert : (o : DomainName) (ps : List DomainName) → AllByRecursion P ps → P o → AllByRecursion P (insert o ps)
  all_insert o [] h po = (po, tt)
  all_insert o (p ∷ ps) h po = by_order (name_cmp o p) (all_insert o ps h.1 po) where
    by_order : (c : Ordering) → AllByRecursion P (insert o ps) → AllByRecursion P (place c o p ps (insert o ps))
    by_order Less more = (po, h)
    by_order Equal more = h
    by_order Greater more = (h.0, more)

  pub all_owners : (rs : Records) → ((r : Record RData) → Contains rs r → type_of r.rdata ≡ type_nsec → P r.name) → AllByRecursion P (owners rs)
  all_owners [] h = tt
  all_owners (r ∷ rs) h =
      let rest : AllByRecursion P (owners rs) = all_owners rs (λ q x typed. h q (Contains-append_right (r ∷ []) rs q x) typed) in
      by_type (type_of r.rdata == type_nsec) refl rest where
        by_type : (b : Bool) → (type_of r.rdata == type_nsec) ≡ b → AllByRecursion P (owners rs) → AllByRecursion P (cond b (insert r.name (owners rs)) (owners rs))
        by_type true e rest = all_insert r.name (owners rs) rest (h r (0, omega arith, refl) (same_number (type_of r.rdata) type_nsec e))
        by_type false e rest = rest

all_later : (o p : DomainName) (ps : List DomainName) → IsBefore o p → AllByRecursion (IsBefore p) ps → AllByRecursion (IsBefore o) ps
all_later o p [] e h = tt
all_later o p (q ∷ qs) e h = (name_cmp_total.trans o p q e h.0, all_later o p qs e h.1)

order_insert : (o : DomainName) (ps : List DomainName) → InOrder ps → InOrder (insert o ps)
order_insert o [] h = (tt, tt)
order_insert o (p ∷ ps) h = by_order (name_cmp o p) refl (order_insert o ps h.1) where
  by_order : (c : Ordering) → name_cmp o p ≡ c → InOrder (insert o ps) → InOrder (place c o p ps (insert o ps))
  by_order Less e more = ((e, all_later o p ps e h.0), h)
  by_order Equal e more = h
  by_order Greater e more = (all_insert (IsBefore p) o ps h.0 (name_cmp_total.antisymm p o ∙ ap ordering_reverse e), more)

pub order_owners : (rs : Records) → InOrder (owners rs)
order_owners [] = tt
order_owners (r ∷ rs) = by_type (type_of r.rdata == type_nsec) (order_owners rs) where
  by_type : (b : Bool) → InOrder (owners rs) → InOrder (cond b (insert r.name (owners rs)) (owners rs))
  by_type true rest = order_insert r.name (owners rs) rest
  by_type false rest = rest

-- a name of the list that is the same
pub record HasName (os : List DomainName) (name : DomainName) : Type 0 where
  pub o : DomainName
  pub held : Contains os o
  pub same : SameName o name

named_tail : (p : DomainName) (ps : List DomainName) (name : DomainName) → HasName ps name → HasName (p ∷ ps) name
named_tail p ps name h = record { o = h.o; held = Contains-append_right (p ∷ []) ps h.o h.held; same = h.same }

named_head : (p : DomainName) (ps : List DomainName) (name : DomainName) → SameName p name → HasName (p ∷ ps) name
named_head p ps name s = record { o = p; held = (0, omega arith, refl); same = s }

insert_has : (o : DomainName) (ps : List DomainName) → HasName (insert o ps) o
insert_has o [] = named_head o [] o (itself o)
insert_has o (p ∷ ps) = by_order (name_cmp o p) refl (insert_has o ps) where
  by_order : (c : Ordering) → name_cmp o p ≡ c → HasName (insert o ps) o → HasName (place c o p ps (insert o ps)) o
  by_order Less e rest = named_head o (p ∷ ps) o (itself o)
  by_order Equal e rest = named_head p ps o (same_back o p (same_of o p e))
  by_order Greater e rest = named_tail p (insert o ps) o rest

insert_keeps : (o : DomainName) (ps : List DomainName) (name : DomainName) → HasName ps name → HasName (insert o ps) name
insert_keeps o [] name h = absurd (omega (arith, h.held.1))
insert_keeps o (p ∷ ps) name h = by_order (name_cmp o p) (elim (head_or_in p ps h.o h.held) [
  | inl e ↦ named_head p (insert o ps) name (subst (λ (q : DomainName). SameName q name) (sym e) h.same)
  | inr more ↦ named_tail p (insert o ps) name (insert_keeps o ps name (record { o = h.o; held = more; same = h.same }))
]) where
  by_order : (c : Ordering) → HasName (p ∷ insert o ps) name → HasName (place c o p ps (insert o ps)) name
  by_order Less kept = named_tail o (p ∷ ps) name h
  by_order Equal kept = h
  by_order Greater kept = kept

pub in_owners : (rs : Records) (r : Record RData) → Contains rs r → type_of r.rdata ≡ type_nsec → HasName (owners rs) r.name
in_owners [] r held typed = absurd (omega (arith, held.1))
in_owners (q ∷ rs) r held typed = by_type (type_of q.rdata == type_nsec) refl (elim (head_or_in q rs r held) [
  | inl is ↦ inl is
  | inr more ↦ inr (in_owners rs r more typed)
]) where
  by_type : (b : Bool) → (type_of q.rdata == type_nsec) ≡ b → (q ≡ r) ⊎ HasName (owners rs) r.name → HasName (cond b (insert q.name (owners rs)) (owners rs)) r.name
  by_type true e (inl is) = subst (λ (s : Record RData). HasName (insert q.name (owners rs)) s.name) is (insert_has q.name (owners rs))
  by_type true e (inr more) = insert_keeps q.name (owners rs) r.name more
  by_type false e (inl is) = absurd (not_true (sym e ∙ equal_numbers (type_of q.rdata) type_nsec (ap (λ (s : Record RData). type_of s.rdata) is ∙ typed)))
  by_type false e (inr more) = more

not_before_itself : (o : DomainName) → IsBefore o o → ⊥
not_before_itself o h = let e : Less ≡ Equal = sym h ∙ equal_of o o (itself o) in absurd cc

not_back : (a b : DomainName) → IsBefore a b → IsBefore b a → ⊥
not_back a b h k = not_before_itself a (name_cmp_total.trans a b a h k)

picked : (P : DomainName → Type 0) (front : List DomainName) (o : DomainName) (rest : List DomainName) → AllByRecursion P (front ++ o ∷ rest) → P o
picked P [] o rest h = h.0
picked P (f ∷ front) o rest h = picked P front o rest h.1

-- in a list in order what is after an element is one of those that follow it
pub among_rest : (front : List DomainName) (o : DomainName) (rest : List DomainName) (q : DomainName) → InOrder (front ++ o ∷ rest) → Contains (front ++ o ∷ rest) q → IsBefore o q → Contains rest q
among_rest [] o rest q ordered held after = elim (head_or_in o rest q held) [
  | inl e ↦ absurd (not_before_itself o (subst (IsBefore o) (sym e) after))
  | inr more ↦ more
]
among_rest (f ∷ front) o rest q ordered held after = elim (head_or_in f (front ++ o ∷ rest) q held) [
  | inl e ↦ absurd (not_back o f (subst (IsBefore o) (sym e) after) (picked (IsBefore f) front o rest ordered.0))
  | inr more ↦ among_rest front o rest q ordered.1 more after
]

-- records with such owners are in order too
pub ascending : (f : DomainName → Nsec) (os : List DomainName) → InOrder os → AllByRecursion (λ o. SameName (f o).owner o) os → AreAscending (map f os)
ascending f [] h s = tt
ascending f (o ∷ os) h s = (later os h.0 s.1, ascending f os h.1 s.1) where
  later : (ps : List DomainName) → AllByRecursion (IsBefore o) ps → AllByRecursion (λ p. SameName (f p).owner p) ps → AllByRecursion (λ m. IsBefore (f o).owner m.owner) (map f ps)
  later [] h t = tt
  later (p ∷ ps) h t = (before_alike o p (f o).owner (f p).owner (same_back (f o).owner o s.0) (same_back (f p).owner p t.0) h.0, later ps h.1 t.1)
