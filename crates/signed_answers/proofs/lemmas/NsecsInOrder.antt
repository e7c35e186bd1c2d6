-- NSEC RRsets of a zone, and the records of its chain.
use Rattle.std.proofs.Common.{◌≡◌, ◌==◌, ℕ, true, false, Bool, cond, List, [], ◌∷◌, ◌++◌, drop, Option, Some, None, Ok, Err, inl, inr, refl, sym, ap, subst, ◌∙◌, arith}
use Rattle.std.specs.List.{AllByRecursion, Contains}
use Rattle.std.specs.Map.{keys_of}
use Rattle.std.specs.Option.{option_and_then, option_map, unwrap_or}
use Rattle.std.specs.Ordering.{is_gt}
use Rattle.std.specs.declared.cmp.Ordering.{Ordering}
use Rattle.std.specs.declared.cmp.Ordering.TheVariants.{Less, Equal, Greater}
use Rattle.std.proofs.lemmas.List.Elements.{All-contains, All-from_recursion, Contains-append_right}
use Rattle.wire_names.specs.rr.domain.DomainName.{DomainName}
use Rattle.wire_names.specs.rr.domain.NameOrder.{SameName, name_cmp}
use Rattle.wire_messages.specs.Numbers.{type_nsec}
use Rattle.wire_messages.specs.serialize.reading.NameReading.{name}
use Rattle.wire_messages.specs.serialize.reading.Reading.{Read}
use Rattle.zone_answers.specs.Zones.{Records, Sets}
use Rattle.zone_denials.proofs.lemmas.EnclosedBetween.{between_same, equal_of, same_of}
use Rattle.zone_denials.proofs.lemmas.Members.{head_or_in}
use Rattle.zone_denials.proofs.lemmas.NsecChains.{ascending_at, not_both}
use Rattle.zone_denials.specs.Nsec.{IsBefore, Nsec}
use Rattle.zone_denials.specs.NsecChain.{AreAscending, IsLastBefore}
use Rattle.zone_denials.specs.NsecData.{nsec_in, with_next}
use Rattle.zone_denials.specs.TypeBits.{types_in}
use Rattle.signed_answers.specs.NsecSets.{IsNsecFor, IsUpTo, Rrset, chain_in, listless, octets_of, said, said_by}

pub first_in : {A : Type 0} (x : A) (xs : List A) → Contains (x ∷ xs) x
first_in x xs = (0, omega arith, refl)

pub later_in : {A : Type 0} (x : A) (xs : List A) (y : A) → Contains xs y → Contains (x ∷ xs) y
later_in x xs y = Contains-append_right (x ∷ []) xs y

-- where an element is in a list
pub record Split {A : Type 0} (xs : List A) (x : A) : Type 0 where
  pub front : List A
  pub rest : List A
  pub is : xs ≡ front ++ x ∷ rest

pub split : {A : Type 0} (xs : List A) (x : A) → Contains xs x → Split xs x
split [] x h = absurd (omega (arith, h.1))
split {A} (y ∷ ys) x h = elim (head_or_in y ys x h) [
  | inl is ↦ let r : Split (y ∷ ys) x = record { front = []; rest = ys; is = ap (λ (z : A). z ∷ ys) is } in r
  | inr more ↦
      let s = split ys x more in
      let r : Split (y ∷ ys) x = record { front = y ∷ s.front; rest = s.rest; is = ap (λ (zs : List A). y ∷ zs) s.is } in r
]

all_of : {A : Type 0} (P : A → Type 0) (xs : List A) → ((x : A) → Contains xs x → P x) → AllByRecursion P xs
all_of P [] h = tt
all_of P (x ∷ xs) h = (h x (first_in x xs), all_of P xs (λ y c. h y (later_in x xs y c)))

-- the key of an RRset of a zone is one of its keys
pub key_in : (sets : Sets) (e : Rrset) → Contains sets e → Contains (keys_of sets) e.0
key_in [] e h = absurd (omega (arith, h.1))
key_in (f ∷ sets) e h = elim (head_or_in f sets e h) [
  | inl is ↦ subst (λ (q : Rrset). Contains (keys_of (f ∷ sets)) q.0) is (first_in f.0 (keys_of sets))
  | inr more ↦ later_in f.0 (keys_of sets) e.0 (key_in sets e more)
]

put_first : (b : Bool) (n m : Nsec) (ns : List Nsec) → b ≡ true → n ≡ m → Contains (cond b (n ∷ ns) ns) m
put_first true n m ns h is = subst (λ (q : Nsec). Contains (n ∷ ns) q) is (first_in n ns)
put_first false n m ns h is = absurd cc

put_later : (b : Bool) (n m : Nsec) (ns : List Nsec) → Contains ns m → Contains (cond b (n ∷ ns) ns) m
put_later true n m ns h = later_in n ns m h
put_later false n m ns h = h

-- what an NSEC RRset of a zone says is in its chain
pub in_chain : (sets : Sets) (e : Rrset) → Contains sets e → e.0.record_type ≡ type_nsec → Contains (chain_in sets) (said e)
in_chain [] e h typed = absurd (omega (arith, h.1))
in_chain (f ∷ sets) e h typed = elim (head_or_in f sets e h) [
  | inl is ↦ put_first (f.0.record_type == type_nsec) (said f) (said e) (chain_in sets) (ap (λ (q : Rrset). q.0.record_type == type_nsec) is ∙ ap (λ (u : ℕ). u == type_nsec) typed) (ap said is)
  | inr more ↦ put_later (f.0.record_type == type_nsec) (said f) (said e) (chain_in sets) (in_chain sets e more typed)
]

-- The NSEC RRset that says this.
pub record Source (sets : Sets) (n : Nsec) : Type 0 where
  pub set : Rrset
  pub held : Contains sets set
  pub nsec : set.0.record_type ≡ type_nsec
  pub is : said set ≡ n

same_number : (a b : ℕ) → (a == b) ≡ true → a ≡ b
same_number a b h = grind (arith, h)

source_later : (f : Rrset) (sets : Sets) (n : Nsec) → Source sets n → Source (f ∷ sets) n
source_later f sets n s = record { set = s.set; held = later_in f sets s.set s.held; nsec = s.nsec; is = s.is }

source_step : (b : Bool) (f : Rrset) (sets : Sets) (n : Nsec) → (f.0.record_type == type_nsec) ≡ b → Contains (cond b (said f ∷ chain_in sets) (chain_in sets)) n → (Contains (chain_in sets) n → Source sets n) → Source (f ∷ sets) n
source_step true f sets n typed h go = elim (head_or_in (said f) (chain_in sets) n h) [
  | inl is ↦ let r : Source (f ∷ sets) n = record { set = f; held = first_in f sets; nsec = same_number f.0.record_type type_nsec typed; is = is } in r
  | inr more ↦ source_later f sets n (go more)
]
source_step false f sets n typed h go = source_later f sets n (go h)

-- each record of the chain is what an NSEC RRset says
pub source : (sets : Sets) (n : Nsec) → Contains (chain_in sets) n → Source sets n
source [] n h = absurd (omega (arith, h.1))
source (f ∷ sets) n h = source_step (f.0.record_type == type_nsec) f sets n refl h (source sets n)

types_owner : (owner next : DomainName) (types : Option (List ℕ)) → (unwrap_or (option_map (λ (ts : List ℕ). let n : Nsec = record { owner = owner; next = next; types = ts } in n) types) (listless owner)).owner ≡ owner
types_owner owner next None = refl
types_owner owner next (Some ts) = refl

next_owner : (owner : DomainName) (octets : List ℕ) (r : Read DomainName) → (unwrap_or (with_next owner octets r) (listless owner)).owner ≡ owner
next_owner owner octets (Ok x) = types_owner owner x.0 (types_in (drop x.1.place octets))
next_owner owner octets (Err e) = refl

octets_owner : (owner : DomainName) (octets : Option (List ℕ)) → (unwrap_or (option_and_then (nsec_in owner) octets) (listless owner)).owner ≡ owner
octets_owner owner None = refl
octets_owner owner (Some octets) = next_owner owner octets (name (record { bytes = octets; place = 0 }))

said_owner_by : (owner : DomainName) (rs : Records) → (said_by owner rs).owner ≡ owner
said_owner_by owner [] = refl
said_owner_by owner (r ∷ rs) = octets_owner owner (octets_of r.rdata)

pub said_owner : (e : Rrset) → (said e).owner ≡ e.0.name
said_owner e = said_owner_by e.0.name e.1

-- the name of the RRset that says a record is the record's owner
pub source_owner : (sets : Sets) (n : Nsec) (s : Source sets n) → s.set.0.name ≡ n.owner
source_owner sets n s = sym (said_owner s.set) ∙ ap (λ (q : Nsec). q.owner) s.is

strictly : (a b : DomainName) → IsUpTo a b → ¬ (SameName a b) → IsBefore a b
strictly a b h differs = by_order (name_cmp a b) refl where
  not_greater : is_gt (name_cmp a b) ≡ true → ⊥
  not_greater g = absurd (cc)

  by_order : (o : Ordering) → name_cmp a b ≡ o → IsBefore a b
  by_order Less e = e
  by_order Equal e = absurd (differs (same_of a b e))
  by_order Greater e = absurd (not_greater (ap is_gt e))

-- An NSEC RRset that is the last one at a name or before it, and not at the name, has the chain's last record before it.
pub last_before : (sets : Sets) (name : DomainName) (e : Rrset) → AreAscending (chain_in sets) → IsNsecFor sets name e → ¬ (SameName e.0.name name) → IsLastBefore (chain_in sets) name (said e)
last_before sets name e ascending h differs =
    let s = split (chain_in sets) (said e) (in_chain sets e h.held h.nsec) in
    let order : AreAscending (said e ∷ s.rest) = ascending_at s.front (said e) s.rest (subst AreAscending s.is ascending) in
    record {
      front = s.front;
      rest = s.rest;
      is = s.is;
      before = subst (λ (d : DomainName). IsBefore d name) (sym (said_owner e)) (strictly e.0.name name h.up_to differs);
      after = all_of (λ (m : Nsec). ¬ (IsBefore m.owner name)) s.rest (λ m c. not_before s order m c);
    } where
      not_before : (s : Split (chain_in sets) (said e)) → AreAscending (said e ∷ s.rest) → (m : Nsec) → Contains s.rest m → ¬ (IsBefore m.owner name)
      not_before s order m c before =
          let f = source sets m (subst (λ (ns : List Nsec). Contains ns m) (sym s.is) (Contains-append_right s.front (said e ∷ s.rest) m (later_in (said e) s.rest m c))) in
          let of : f.set.0.name ≡ m.owner = source_owner sets m f in
          let up : IsUpTo f.set.0.name e.0.name = h.last f.set f.held f.nsec (ap is_gt (subst (λ (d : DomainName). IsBefore d name) (sym of) before)) in
          let less : IsBefore (said e).owner m.owner = All-contains (λ (q : Nsec). IsBefore (said e).owner q.owner) s.rest m (All-from_recursion (λ (q : Nsec). IsBefore (said e).owner q.owner) s.rest order.0) c in
          not_both (said e).owner m.owner less (subst (λ (d : DomainName). IsUpTo d (said e).owner) of (subst (λ (d : DomainName). IsUpTo f.set.0.name d) (sym (said_owner e)) up))

-- An NSEC RRset that is the last one at a name or before it is at the name if the chain has a record there.
pub at_owner : (sets : Sets) (name : DomainName) (e : Rrset) (n : Nsec) → IsNsecFor sets name e → Contains (chain_in sets) n → SameName n.owner name → SameName e.0.name name
at_owner sets name e n h held s =
    let f = source sets n held in
    let fs : SameName f.set.0.name name = subst (λ (d : DomainName). SameName d name) (sym (source_owner sets n f)) s in
    between_same f.set.0.name e.0.name name (h.last f.set f.held f.nsec (ap is_gt (equal_of f.set.0.name name fs))) h.up_to fs
