-- A record of a chain that covers a name is the last one before it, so that what it shows is so.
use Rattle.std.proofs.Common.{◌≡◌, ℕ, true, List, [], ◌∷◌, ◌++◌, drop, inl, inr, sym, ap, subst, ◌∙◌, arith}
use Rattle.std.specs.Prelude.{◌⊎◌}
use Rattle.std.specs.List.{AllByRecursion, Contains}
use Rattle.std.specs.Ordering.{is_gt}
use Rattle.std.proofs.lemmas.List.Elements.{All-contains, All-from_recursion, Contains-append_cases}
use Rattle.wire_names.specs.rr.domain.DomainName.{DomainName}
use Rattle.wire_names.specs.rr.domain.NameOrder.{SameName, name_cmp_total}
use Rattle.zone_denials.proofs.lemmas.EnclosedBetween.{encloses_up_to, same_back, equal_of}
use Rattle.zone_denials.proofs.lemmas.Members.{head_or_in}
use Rattle.zone_denials.proofs.lemmas.NsecChains.{ascending_at, before_at, before_same, encloses_drop, linked_at, not_both, seen, unseen}
use Rattle.zone_denials.specs.Nsec.{Covers, IsBefore, Nsec, ShowsEmpty, ShowsEncloser, ShowsLack, ShowsMissing, ancestor, closest, empty, insecure, lacking, missing, wild_empty, wild_lacking, wildcard}
use Rattle.zone_denials.specs.NsecChain.{AreAscending, AreLinked, IsChain, IsLastBefore, IsNamed, next_owner}
use Rattle.zone_denials.specs.NsecLaws.{DeniedNamesAreMissing, DeniedTypesAreMissing, IsEmptyName, IsEncloser, IsWithout, LacksIn, UnsignedZonesAreCuts, WildcardsAreTrue}

-- the place of a record in a list
pub record Split (chain : List Nsec) (n : Nsec) : Type 0 where
  pub front : List Nsec
  pub rest : List Nsec
  pub is : chain ≡ front ++ n ∷ rest

split : (chain : List Nsec) (n : Nsec) → Contains chain n → Split chain n
split [] n x = absurd (omega (arith, x.1))
split (f ∷ fs) n x = elim (head_or_in f fs n x) [
  | inl e ↦ let r : Split (f ∷ fs) n = record { front = []; rest = fs; is = ap (λ q. q ∷ fs) e } in r
  | inr more ↦ let s = split fs n more in let r : Split (f ∷ fs) n = record { front = f ∷ s.front; rest = s.rest; is = ap (λ ns. f ∷ ns) s.is } in r
]

second : (f : Nsec) (front : List Nsec) (n m : Nsec) (rest : List Nsec) → AllByRecursion (λ q. IsBefore f.owner q.owner) (front ++ n ∷ (m ∷ rest)) → IsBefore f.owner m.owner
second f [] n m rest h = h.1.0
second f (g ∷ gs) n m rest h = second f gs n m rest h.1

-- a record after another is not at the apex
not_apex : (apex : DomainName) (front : List Nsec) (n m : Nsec) (rest : List Nsec) → AreAscending (front ++ n ∷ (m ∷ rest)) → SameName (next_owner apex (front ++ n ∷ (m ∷ rest))) apex → SameName m.owner apex → ⊥
not_apex apex [] n m rest asc top s = not_both n.owner m.owner asc.0.0 (ap is_gt (equal_of m.owner n.owner (record { labels = s.labels ∙ sym top.labels; marks = s.marks ∙ sym top.marks })))
not_apex apex (f ∷ front) n m rest asc top s =
    not_both f.owner m.owner (second f front n m rest asc.0) (ap is_gt (equal_of m.owner f.owner (record { labels = s.labels ∙ sym top.labels; marks = s.marks ∙ sym top.marks })))

none_later : (m : Nsec) (name : DomainName) (ms : List Nsec) → IsBefore name m.owner → AllByRecursion (λ q. IsBefore m.owner q.owner) ms → AllByRecursion (λ q. ¬ (IsBefore q.owner name)) ms
none_later m name [] up h = tt
none_later m name (q ∷ qs) up h = (λ g. not_both q.owner name g (ap is_gt (name_cmp_total.trans name m.owner q.owner up h.0)), none_later m name qs up h.1)

module _ (apex name : DomainName) (n : Nsec) (covers : Covers apex n name) (front : List Nsec) where
  all_behind : (rest : List Nsec) → SameName n.next (next_owner apex rest) → AreAscending (front ++ n ∷ rest) → SameName (next_owner apex (front ++ n ∷ rest)) apex → AllByRecursion (λ m. ¬ (IsBefore m.owner name)) rest
  all_behind [] s asc top = tt
  all_behind (m ∷ ms) s asc top =
      let up : IsBefore name m.owner = elim covers.before [
        | inl before ↦ before_same name n.next m.owner before (same_back n.next m.owner s)
        | inr wraps ↦ absurd (not_apex apex front n m ms asc top (record { labels = sym s.labels ∙ wraps.labels; marks = sym s.marks ∙ wraps.marks }))
      ] in
      (λ h. not_both m.owner name h (ap is_gt up), none_later m name ms up (ascending_at front n (m ∷ ms) asc).1.0)

pub last_of : (apex name : DomainName) (chain : List Nsec) (n : Nsec) → IsChain apex chain → Contains chain n → Covers apex n name → IsLastBefore chain name n
last_of apex name chain n is_chain held covers =
    let at = split chain n held in
    let links : SameName n.next (next_owner apex at.rest) = (linked_at apex at.front n at.rest (subst (AreLinked apex) at.is is_chain.linked)).0 in
    record {
      front = at.front;
      rest = at.rest;
      is = at.is;
      before = covers.after;
      after = all_behind apex name n covers at.front at.rest links (subst AreAscending at.is is_chain.ascending) (subst (λ ns. SameName (next_owner apex ns) apex) at.is is_chain.top);
    }

module _ (apex name : DomainName) (chain : List Nsec) (is_chain : IsChain apex chain) (qualified : name.is_fqdn ≡ true) (n : Nsec) (held : Contains chain n) (shows : ShowsMissing apex n name) where
  last : IsLastBefore chain name n
  last = last_of apex name chain n is_chain held shows.covers

  pub is_missing : ¬ (IsNamed chain name.labels)
  is_missing x = elim (seen apex name chain is_chain qualified n last name qualified (encloses_drop 0 name.labels) x) [
    | inl e ↦ not_both n.owner name shows.covers.after (encloses_up_to name n.owner qualified (All-contains (λ (q : Nsec). q.owner.is_fqdn ≡ true) chain n is_chain.qualified held) e)
    | inr e ↦ shows.none_below e
  ]

  pub is_encloser : (k : ℕ) → ShowsEncloser n name k → IsEncloser chain name k
  is_encloser k e = record {
    exists = unseen apex name chain is_chain qualified n last (drop k name.labels) e.above;
    longest = λ j less x. e.longest j less (seen apex name chain is_chain qualified n last (ancestor name j) qualified (encloses_drop j name.labels) x);
  }

pub denied_names_are_missing : DeniedNamesAreMissing
denied_names_are_missing apex chain shown name is_chain qualified among (missing {n} {m} {k} put_n put_m shows_n encloser shows_m) = (
  k,
  is_missing apex name chain is_chain qualified n (among n put_n) shows_n,
  is_encloser apex name chain is_chain qualified n (among n put_n) shows_n k encloser,
  is_missing apex (wildcard (ancestor name k)) chain is_chain qualified m (among m put_m) shows_m,
)

pub wildcards_are_true : WildcardsAreTrue
wildcards_are_true apex chain shown name _ is_chain qualified among (closest {n} {k} put shows encloser) = record {
  missing = is_missing apex name chain is_chain qualified n (among n put) shows;
  encloser = is_encloser apex name chain is_chain qualified n (among n put) shows k encloser;
}

-- a record of a chain that covers a name is not followed by one of the name
module _ (apex name : DomainName) (chain : List Nsec) (is_chain : IsChain apex chain) (n : Nsec) (held : Contains chain n) (covers : Covers apex n name) where
  all_up : (m : Nsec) (ms : List Nsec) → IsBefore name m.owner → AllByRecursion (λ q. IsBefore m.owner q.owner) ms → AllByRecursion (λ q. IsBefore name q.owner) ms
  all_up m [] up h = tt
  all_up m (q ∷ qs) up h = (name_cmp_total.trans name m.owner q.owner up h.0, all_up m qs up h.1)

  rest_up : (front rest : List Nsec) → SameName n.next (next_owner apex rest) → AreAscending (front ++ n ∷ rest) → SameName (next_owner apex (front ++ n ∷ rest)) apex → AllByRecursion (λ q. IsBefore name q.owner) rest
  rest_up front [] s asc top = tt
  rest_up front (m ∷ ms) s asc top =
      let up : IsBefore name m.owner = elim covers.before [
        | inl before ↦ before_same name n.next m.owner before (same_back n.next m.owner s)
        | inr wraps ↦ absurd (not_apex apex front n m ms asc top (record { labels = sym s.labels ∙ wraps.labels; marks = sym s.marks ∙ wraps.marks }))
      ] in
      (up, all_up m ms up (ascending_at front n (m ∷ ms) asc).1.0)

  not_same : (m : Nsec) → IsBefore m.owner name ⊎ IsBefore name m.owner → ¬ (SameName m.owner name)
  not_same m (inl before) s = not_both m.owner name before (ap is_gt (equal_of name m.owner (same_back m.owner name s)))
  not_same m (inr after) s = not_both name m.owner after (ap is_gt (equal_of m.owner name s))

  pub no_owner : (m : Nsec) → Contains chain m → ¬ (SameName m.owner name)
  no_owner m x =
      let at = split chain n held in
      let links : SameName n.next (next_owner apex at.rest) = (linked_at apex at.front n at.rest (subst (AreLinked apex) at.is is_chain.linked)).0 in
      let ordered : AreAscending (at.front ++ n ∷ at.rest) = subst AreAscending at.is is_chain.ascending in
      let up = rest_up at.front at.rest links ordered (subst (λ ns. SameName (next_owner apex ns) apex) at.is is_chain.top) in
      elim (Contains-append_cases at.front (n ∷ at.rest) m (subst (λ ns. Contains ns m) at.is x)) [
        | inl f ↦ not_same m (inl (name_cmp_total.trans m.owner n.owner name (All-contains (λ (q : Nsec). IsBefore q.owner n.owner) at.front m (All-from_recursion (λ (q : Nsec). IsBefore q.owner n.owner) at.front (before_at at.front n at.rest ordered)) f) covers.after))
        | inr r ↦ elim (head_or_in n at.rest m r) [
          | inl is ↦ not_same m (inl (subst (λ (q : Nsec). IsBefore q.owner name) is covers.after))
          | inr more ↦ not_same m (inr (All-contains (λ (q : Nsec). IsBefore name q.owner) at.rest m (All-from_recursion (λ (q : Nsec). IsBefore name q.owner) at.rest up) more))
        ]
      ]

module _ (apex name : DomainName) (chain : List Nsec) (is_chain : IsChain apex chain) (qualified : name.is_fqdn ≡ true) where
  without : (t : ℕ) (n : Nsec) → Contains chain n → ShowsLack n name t → LacksIn chain name t
  without t n held lack = let r : IsWithout chain name t = record { at = n; held = held; is = lack.matches; none = lack.lacks; no_alias = lack.no_alias } in inl r

  is_empty : (t : ℕ) (n : Nsec) → Contains chain n → ShowsEmpty apex n name → LacksIn chain name t
  is_empty t n held shows =
      let r : IsEmptyName chain name = record {
        named = unseen apex name chain is_chain qualified n (last_of apex name chain n is_chain held shows.covers) name.labels (inr shows.below);
        no_owner = no_owner apex name chain is_chain n held shows.covers;
      } in inr r

pub denied_types_are_missing : DeniedTypesAreMissing
denied_types_are_missing apex chain shown name _ is_chain qualified among (lacking {n} {t} put lack) = inl (without apex name chain is_chain qualified t n (among n put) lack)
denied_types_are_missing apex chain shown name _ is_chain qualified among (empty {n} {t} put shows) = inl (is_empty apex name chain is_chain qualified t n (among n put) shows)
denied_types_are_missing apex chain shown name _ is_chain qualified among (wild_lacking {n} {m} {k} {t} put_n put_m shows encloser lack) = inr (
  k,
  wildcards_are_true apex chain shown name k is_chain qualified among (closest put_n shows encloser),
  without apex (wildcard (ancestor name k)) chain is_chain qualified t m (among m put_m) lack,
)
denied_types_are_missing apex chain shown name _ is_chain qualified among (wild_empty {n} {m} {k} {t} put_n put_m shows encloser below) = inr (
  k,
  wildcards_are_true apex chain shown name k is_chain qualified among (closest put_n shows encloser),
  is_empty apex (wildcard (ancestor name k)) chain is_chain qualified t m (among m put_m) below,
)

pub unsigned_zones_are_cuts : UnsignedZonesAreCuts
unsigned_zones_are_cuts apex chain shown name among (insecure {n} put same cut no_ds) = (n, among n put, same, cut, no_ds)
