-- A wildcard above a name is found by shortening the name, label by label, to the root.
use Rattle.std.proofs.Common.{◌≡◌, ℕ, ◌+◌, ◌<◌, ◌≤◌, true, false, List, [], ◌∷◌, ◌++◌, length, take, drop, refl, sym, ap, subst, ◌∙◌, arith, length-append, length-drop, append_assoc, ◌⊎◌, inl, inr}
use Rattle.std.specs.Prelude.{◌↔◌, IsTrue}
use Rattle.std.proofs.lemmas.Bool.{false≢true, cases_lt}
use Rattle.std.proofs.lemmas.List.{length-map, map-append, take-append-drop}
use Rattle.wire_names.specs.rr.domain.DomainName.{DomainName}
use Rattle.wire_names.specs.rr.domain.NameOrder.{SameName, Encloses, lower_label, lower_labels}
use Rattle.hickory_store.specs.blocklist.Entries.{wildcard_over}
use Rattle.hickory_store.specs.blocklist.Blocked.{IsUnderWildcard}
use Rattle.hickory_store.proofs.lemmas.blocklist.KeptNames.{has, has_entry, entry_has, has_alike, full, Beside}

-- the name above has one label less
pub one_less : (name next : DomainName) → next ≡ record name { labels = drop 1 name.labels } → 0 < length name.labels → length name.labels ≡ length next.labels + 1
one_less name next e h = omega (arith, ap (λ (d : DomainName). length d.labels) e, length-drop 1 name.labels)

pub still_full : (name next : DomainName) → next ≡ record name { labels = drop 1 name.labels } → name.is_fqdn ≡ true → next.is_fqdn ≡ true
still_full name next e m = ap (λ (d : DomainName). d.is_fqdn) e ∙ m

-- two ends of one list that are as long are the same
ends_same : (front other xs ys : List (List ℕ)) → front ++ xs ≡ other ++ ys → length xs ≡ length ys → xs ≡ ys
ends_same [] [] xs ys e n = e
ends_same [] (l ∷ other) xs ys e n = absurd (omega (arith, ap length e, length-append other ys))
ends_same (l ∷ front) [] xs ys e n = absurd (omega (arith, ap length e, length-append front xs))
ends_same (l ∷ front) (m ∷ other) xs ys e n = let rest : front ++ xs ≡ other ++ ys = cc in ends_same front other xs ys rest n

lower_length : (ls : List (List ℕ)) → length (lower_labels ls) ≡ length ls
lower_length ls = length-map ls lower_label

-- a fully qualified name that the name ends in
pub record IsAbove (name base : DomainName) : Type 0 where
  pub front : List (List ℕ)
  pub ends : name.labels ≡ front ++ base.labels
  pub marked : base.is_fqdn ≡ true

encloses : (name base : DomainName) → IsAbove name base → Encloses base.labels name.labels
encloses name base a = record { front = lower_labels a.front; ends = ap lower_labels a.ends ∙ map-append lower_label a.front base.labels }

-- of names above that have as many labels there is one
same_above : (name base : DomainName) (labels : List (List ℕ)) → IsAbove name base → Encloses labels name.labels → length labels ≡ length base.labels → SameName base (full labels)
same_above name base labels a e n =
    let mine : Encloses base.labels name.labels = encloses name base a in
    let size : length (lower_labels labels) ≡ length (lower_labels base.labels) = omega (arith, lower_length labels, lower_length base.labels) in
    record { labels = sym (ends_same e.front mine.front (lower_labels labels) (lower_labels base.labels) (sym e.ends ∙ mine.ends) size); marks = a.marked }

pub itself : (name copy : DomainName) → copy ≡ name → name.is_fqdn ≡ true → IsAbove name copy
itself name copy is e = subst (IsAbove name) (sym is) (record { front = []; ends = refl; marked = e })

pub up : (name base next : DomainName) → next ≡ record base { labels = drop 1 base.labels } → IsAbove name base → IsAbove name next
up name base next e a =
    subst (IsAbove name) (sym e)
    (record {
      front = a.front ++ take 1 base.labels;
      ends = a.ends ∙ ap (λ (ls : List (List ℕ)). a.front ++ ls) (sym (take-append-drop 1 base.labels)) ∙ sym (append_assoc a.front (take 1 base.labels) (drop 1 base.labels));
      marked = a.marked;
    })

-- no base of a wildcard is above the name with that many labels or more
abbrev pub NoneFrom : List DomainName → DomainName → ℕ → Type 0
NoneFrom bases name n = (labels : List (List ℕ)) → Encloses labels name.labels → n ≤ length labels → length labels < length name.labels → has bases (full labels) ≡ false

pub none_at_first : (bases : List DomainName) (name copy : DomainName) → copy ≡ name → NoneFrom bases name (length copy.labels)
none_at_first bases name copy is = λ labels e long short. absurd (omega (arith, ap (λ (d : DomainName). length d.labels) is))

module _ (bases : List DomainName) (name base next : DomainName) (shorter : next ≡ record base { labels = drop 1 base.labels }) (a : IsAbove name base) (more : 0 < length base.labels) (none : NoneFrom bases name (length base.labels)) where
  narrowed : (labels : List (List ℕ)) → (length next.labels < length labels) ⊎ (length labels ≤ length next.labels) → has bases next ≡ false → Encloses labels name.labels → length next.labels ≤ length labels → length labels < length name.labels → has bases (full labels) ≡ false
  narrowed labels (inl lt) miss e long short = none labels e (omega (arith, one_less base next shorter more)) short
  narrowed labels (inr ge) miss e long short = sym (has_alike bases next (full labels) (same_above name next labels (up name base next shorter a) e (omega arith))) ∙ miss

  -- the name above is no base either
  pub none_next : has bases next ≡ false → NoneFrom bases name (length next.labels)
  none_next miss = λ labels e long short. narrowed labels (cases_lt (length next.labels) (length labels)) miss e long short

  next_below : length next.labels < length name.labels
  next_below = omega (arith, ap length a.ends, length-append a.front base.labels, one_less base next shorter more)

  -- the name above is a base that has enough labels
  module _ (names : List DomainName) (beside : Beside names bases) (hit : has bases next ≡ true) (depth : ℕ) where
    reached : depth ≤ length next.labels → IsUnderWildcard names depth name
    reached deep =
        let at : has bases (full next.labels) ≡ true = sym (has_alike bases next (full next.labels) (record { labels = refl; marks = still_full base next shorter a.marked })) ∙ hit in
        record {
          base = next.labels;
          listed = has_entry names (wildcard_over next.labels) (sym (beside next.labels) ∙ at);
          deep = deep;
          ends = encloses name next (up name base next shorter a);
          below = next_below;
        }

    pub under_at : depth ≤ length next.labels → IsTrue true ↔ IsUnderWildcard names depth name
    under_at deep = (λ t. reached deep, λ u. refl)

-- no wildcard of enough labels is above the name
pub under_none : (names bases : List DomainName) (name : DomainName) (depth n : ℕ) → Beside names bases → n ≤ depth → NoneFrom bases name n → IsTrue false ↔ IsUnderWildcard names depth name
under_none names bases name depth n beside few none = (
  λ t. absurd (false≢true t),
  λ u. absurd (false≢true (sym (none u.base u.ends (omega (arith, u.deep)) u.below) ∙ beside u.base ∙ entry_has names (wildcard_over u.base) u.listed)),
)

-- the name has too few labels
pub under_short : (names bases : List DomainName) (name : DomainName) (depth : ℕ) → Beside names bases → length name.labels ≤ depth → IsTrue false ↔ IsUnderWildcard names depth name
under_short names bases name depth beside few = under_none names bases name depth (length name.labels) beside few (none_at_first bases name name refl)

none_of : (bases : List DomainName) (name : DomainName) → length bases ≡ 0 → has bases name ≡ false
none_of [] name e = refl
none_of (b ∷ bases) name e = absurd (omega (arith, e))

-- there are no wildcards
pub under_nothing : (names bases : List DomainName) (name : DomainName) (depth : ℕ) → Beside names bases → length bases ≡ 0 → IsTrue false ↔ IsUnderWildcard names depth name
under_nothing names bases name depth beside e = under_none names bases name depth 0 beside (omega arith) (λ labels ends long short. none_of bases (full labels) e)
