-- What the last record of a chain before a name says of the name.
use Rattle.std.proofs.Common.{◌≡◌, ℕ, true, false, List, [], ◌∷◌, ◌++◌, drop, take, inl, inr, refl, sym, ap, subst, ◌∙◌, arith}
use Rattle.std.specs.Prelude.{◌⊎◌}
use Rattle.std.specs.List.{AllByRecursion, Contains}
use Rattle.std.specs.declared.cmp.Ordering.{Ordering}
use Rattle.std.specs.declared.cmp.Ordering.TheVariants.{Less, Equal, Greater}
use Rattle.std.specs.Ordering.{is_gt, ordering_reverse}
use Rattle.std.specs.Cmp.{alike_right, upto}
use Rattle.std.specs.BTreeMap.Range.{IsLeBy}
use Rattle.std.proofs.lemmas.List.{map-append, take-append-drop}
use Rattle.std.proofs.lemmas.List.Elements.{All-contains, All-from_recursion, Contains-append_cases, Contains-append_left, Contains-append_right, Contains-push}
use Rattle.wire_names.specs.rr.domain.DomainName.{DomainName}
use Rattle.wire_names.specs.rr.domain.NameOrder.{Encloses, SameName, lower_label, lower_labels, name_cmp, name_cmp_total}
use Rattle.zone_denials.proofs.lemmas.Members.{head_or_in}
use Rattle.zone_denials.proofs.lemmas.EnclosedBetween.{between, encloses_up_to, equal_of, same_back, same_of}
use Rattle.zone_denials.specs.Nsec.{Covers, IsAboveEnd, IsBefore, Nsec, ShowsEmpty, ShowsEncloser, ShowsMissing, ancestor, closest, empty, missing, wildcard}
use Rattle.zone_denials.specs.NsecChain.{AreAscending, AreLinked, IsChain, IsLastBefore, IsNamed, AreOpenAbove, next_owner}
use Rattle.zone_denials.specs.NsecLaws.{EmptyNamesAreDenied, IsEncloser, MissingNamesAreDenied, WildcardsAreShown}

pub encloses_drop : (k : ℕ) (ls : List (List ℕ)) → Encloses (drop k ls) ls
encloses_drop k ls = record { front = lower_labels (take k ls); ends = ap lower_labels (sym (take-append-drop k ls)) ∙ map-append lower_label (take k ls) (drop k ls) }

-- a name that is not before another, nor the same, is after it
pub after : (other name : DomainName) → ¬ (IsBefore other name) → ¬ (SameName other name) → IsBefore name other
after other name not_before differs = by_order (name_cmp other name) refl where
  by_order : (o : Ordering) → name_cmp other name ≡ o → IsBefore name other
  by_order Less e = absurd (not_before e)
  by_order Equal e = absurd (differs (same_of other name e))
  by_order Greater e = name_cmp_total.antisymm name other ∙ ap ordering_reverse e

pub up_to_other : (other name : DomainName) → ¬ (IsBefore other name) → IsLeBy name_cmp name other
up_to_other other name not_before = by_order (name_cmp other name) refl where
  by_order : (o : Ordering) → name_cmp other name ≡ o → IsLeBy name_cmp name other
  by_order Less e = absurd (not_before e)
  by_order Equal e = ap is_gt (name_cmp_total.antisymm name other ∙ ap ordering_reverse e)
  by_order Greater e = ap is_gt (name_cmp_total.antisymm name other ∙ ap ordering_reverse e)

pub not_both : (a b : DomainName) → IsBefore a b → IsLeBy name_cmp b a → ⊥
not_both a b h k = by_order (name_cmp b a) (ap ordering_reverse h) (name_cmp_total.antisymm b a) k where
  by_order : (o : Ordering) → ordering_reverse (name_cmp a b) ≡ Greater → o ≡ ordering_reverse (name_cmp a b) → is_gt o ≡ false → ⊥
  by_order Less e f g = absurd (cc)
  by_order Equal e f g = absurd (cc)
  by_order Greater e f g = absurd (cc)

pub before_same : (name other same : DomainName) → IsBefore name other → SameName same other → IsBefore name same
before_same name other same h s = alike_right name_cmp_total same other name (equal_of same other s) ∙ h

pub enclosed_same : (labels : List (List ℕ)) (other same : DomainName) → SameName same other → Encloses labels other.labels → Encloses labels same.labels
enclosed_same labels other same s e = record { front = e.front; ends = s.labels ∙ e.ends }

pub encloses_same : (a b : DomainName) → SameName a b → Encloses b.labels a.labels
encloses_same a b s = record { front = []; ends = s.labels }

pub head_in : (n : Nsec) (ns : List Nsec) → Contains (n ∷ ns) n
head_in n ns = Contains-append_left (n ∷ []) ns n (Contains-push [] n)

pub tail_in : (n : Nsec) (ns : List Nsec) (m : Nsec) → Contains ns m → Contains (n ∷ ns) m
tail_in n ns m = Contains-append_right (n ∷ []) ns m

pub linked_at : (apex : DomainName) (front : List Nsec) (n : Nsec) (rest : List Nsec) → AreLinked apex (front ++ n ∷ rest) → AreLinked apex (n ∷ rest)
linked_at apex [] n rest h = h
linked_at apex (f ∷ front) n rest h = linked_at apex front n rest h.1

pub ascending_at : (front : List Nsec) (n : Nsec) (rest : List Nsec) → AreAscending (front ++ n ∷ rest) → AreAscending (n ∷ rest)
ascending_at [] n rest h = h
ascending_at (f ∷ front) n rest h = ascending_at front n rest h.1

picked : (P : Nsec → Type 0) (front : List Nsec) (n : Nsec) (rest : List Nsec) → AllByRecursion P (front ++ n ∷ rest) → P n
picked P [] n rest h = h.0
picked P (f ∷ front) n rest h = picked P front n rest h.1

pub before_at : (front : List Nsec) (n : Nsec) (rest : List Nsec) → AreAscending (front ++ n ∷ rest) → AllByRecursion (λ m. IsBefore m.owner n.owner) front
before_at [] n rest h = tt
before_at (f ∷ front) n rest h = (picked (λ m. IsBefore f.owner m.owner) front n rest h.0, before_at front n rest h.1)

-- a name above the apex is one that the chain has
top_named : (apex : DomainName) (chain : List Nsec) (n : Nsec) → Contains chain n → SameName (next_owner apex chain) apex → (labels : List (List ℕ)) → Encloses labels apex.labels → IsNamed chain labels
top_named apex [] n held top labels e = absurd (omega (arith, held.1))
top_named apex (f ∷ fs) n held top labels e = record { at = f; held = head_in f fs; at_or_below = enclosed_same labels apex f.owner top e }

module _ (apex name : DomainName) (chain : List Nsec) (is_chain : IsChain apex chain) (qualified : name.is_fqdn ≡ true) (n : Nsec) (last : IsLastBefore chain name n) where
  within : (m : Nsec) → Contains (last.front ++ n ∷ last.rest) m → Contains chain m
  within m = subst (λ ns. Contains ns m) (sym last.is)

  pub in_chain : Contains chain n
  in_chain = within n (Contains-append_right last.front (n ∷ last.rest) n (head_in n last.rest))

  rest_in : (m : Nsec) → Contains last.rest m → Contains chain m
  rest_in m x = within m (Contains-append_right last.front (n ∷ last.rest) m (tail_in n last.rest m x))

  ordered : AreAscending (last.front ++ n ∷ last.rest)
  ordered = subst AreAscending last.is is_chain.ascending

  links : SameName n.next (next_owner apex last.rest)
  links = (linked_at apex last.front n last.rest (subst (AreLinked apex) last.is is_chain.linked)).0

  marked : (m : Nsec) → Contains chain m → m.owner.is_fqdn ≡ true
  marked m = All-contains (λ (q : Nsec). q.owner.is_fqdn ≡ true) chain m is_chain.qualified

  next_named_by : (rest : List Nsec) → ((m : Nsec) → Contains rest m → Contains chain m) → SameName n.next (next_owner apex rest) → (labels : List (List ℕ)) → Encloses labels n.next.labels → IsNamed chain labels
  next_named_by [] all s labels e = top_named apex chain n in_chain is_chain.top labels (enclosed_same labels n.next apex (same_back n.next apex s) e)
  next_named_by (m ∷ ms) all s labels e = record { at = m; held = all m (head_in m ms); at_or_below = enclosed_same labels n.next m.owner (same_back n.next m.owner s) e }

  -- the chain has what the record's ends are at or below
  pub unseen : (labels : List (List ℕ)) → IsAboveEnd n labels → IsNamed chain labels
  unseen labels a = elim a [
    | inl e ↦ let r : IsNamed chain labels = record { at = n; held = in_chain; at_or_below = e } in r
    | inr e ↦ next_named_by last.rest rest_in links labels e
  ]

  before_next : (rest : List Nsec) → SameName n.next (next_owner apex rest) → AllByRecursion (λ m. ¬ (IsBefore m.owner name)) rest → ((m : Nsec) → Contains rest m → ¬ (SameName m.owner name)) → IsBefore name n.next ⊎ SameName n.next apex
  before_next [] s from differ = inr s
  before_next (m ∷ ms) s from differ = inl (before_same name m.owner n.next (after m.owner name from.0 (differ m (head_in m ms))) s)

  pub covered : ((m : Nsec) → Contains chain m → ¬ (SameName m.owner name)) → Covers apex n name
  covered differ = record { after = last.before; before = before_next last.rest links last.after (λ m x. differ m (rest_in m x)) }

  differing : ¬ (IsNamed chain name.labels) → (m : Nsec) → Contains chain m → ¬ (SameName m.owner name)
  differing none m x s = none (record { at = m; held = x; at_or_below = encloses_same m.owner name s })

  module _ (up : DomainName) (mark : up.is_fqdn ≡ true) (above : Encloses up.labels name.labels) where
    up_name : IsLeBy name_cmp up name
    up_name = encloses_up_to up name mark qualified above

    -- an owner that is not after the record's
    low : (o : Nsec) → Contains chain o → Encloses up.labels o.owner.labels → IsLeBy name_cmp o.owner n.owner → Encloses up.labels n.owner.labels
    low o x e h = between up n.owner name (upto name_cmp_total up o.owner n.owner (encloses_up_to up o.owner mark (marked o x) e) h) (ap is_gt last.before) above

    high : (rest : List Nsec) → SameName n.next (next_owner apex rest) → AllByRecursion (λ m. ¬ (IsBefore m.owner name)) rest → AreAscending rest → (o : Nsec) → Contains rest o → Encloses up.labels o.owner.labels → Encloses up.labels n.next.labels
    high [] s from asc o x e = absurd (omega (arith, x.1))
    high (m ∷ ms) s from asc o x e = enclosed_same up.labels m.owner n.next s (elim (head_or_in m ms o x) [
      | inl is ↦ subst (λ (q : Nsec). Encloses up.labels q.owner.labels) (sym is) e
      | inr more ↦ between up m.owner o.owner (upto name_cmp_total up name m.owner up_name (up_to_other m.owner name from.0))
          (ap is_gt (All-contains (λ (q : Nsec). IsBefore m.owner q.owner) ms o (All-from_recursion (λ (q : Nsec). IsBefore m.owner q.owner) ms asc.0) more)) e
    ])

    -- what the chain has of the names above the name is above one of the record's ends
    pub seen : IsNamed chain up.labels → IsAboveEnd n up.labels
    seen named = elim (Contains-append_cases last.front (n ∷ last.rest) named.at (subst (λ ns. Contains ns named.at) last.is named.held)) [
      | inl f ↦ inl (low named.at named.held named.at_or_below (ap is_gt (All-contains (λ (q : Nsec). IsBefore q.owner n.owner) last.front named.at
          (All-from_recursion (λ (q : Nsec). IsBefore q.owner n.owner) last.front (before_at last.front n last.rest ordered)) f)))
      | inr r ↦ elim (head_or_in n last.rest named.at r) [
        | inl is ↦ inl (subst (λ (q : Nsec). Encloses up.labels q.owner.labels) (sym is) named.at_or_below)
        | inr more ↦ inr (high last.rest links last.after (ascending_at last.front n last.rest ordered).1 named.at more named.at_or_below)
      ]
    ]

  pub shows_missing : ¬ (IsNamed chain name.labels) → AreOpenAbove chain name → ShowsMissing apex n name
  shows_missing none is_open = record { covers = covered (differing none); is_open = is_open n in_chain; none_below = λ e. none (unseen name.labels (inr e)) }

  pub shows_encloser : (k : ℕ) → IsEncloser chain name k → ShowsEncloser n name k
  shows_encloser k x = record { above = seen (ancestor name k) qualified (encloses_drop k name.labels) x.exists; longest = λ j less a. x.longest j less (unseen (drop j name.labels) a) }

  pub shows_empty : IsNamed chain name.labels → ((m : Nsec) → Contains chain m → ¬ (SameName m.owner name)) → AreOpenAbove chain name → ShowsEmpty apex n name
  shows_empty named differ is_open = record {
    covers = covered differ;
    is_open = is_open n in_chain;
    below = elim (seen name qualified (encloses_drop 0 name.labels) named) [
      | inl e ↦ absurd (not_both n.owner name last.before (encloses_up_to name n.owner qualified (marked n in_chain) e))
      | inr e ↦ e
    ];
  }

pub missing_names_are_denied : MissingNamesAreDenied
missing_names_are_denied apex chain shown name k n m is_chain qualified none encloser none_wild is_open wild_open last last_wild put put_wild =
    missing put put_wild (shows_missing apex name chain is_chain qualified n last none is_open) (shows_encloser apex name chain is_chain qualified n last k encloser)
    (shows_missing apex (wildcard (ancestor name k)) chain is_chain qualified m last_wild none_wild wild_open)

pub wildcards_are_shown : WildcardsAreShown
wildcards_are_shown apex chain shown name k n is_chain qualified none encloser is_open last put =
    closest put (shows_missing apex name chain is_chain qualified n last none is_open) (shows_encloser apex name chain is_chain qualified n last k encloser)

pub empty_names_are_denied : EmptyNamesAreDenied
empty_names_are_denied apex chain shown name t n is_chain qualified named differ is_open last put = empty put (shows_empty apex name chain is_chain qualified n last named differ is_open)
