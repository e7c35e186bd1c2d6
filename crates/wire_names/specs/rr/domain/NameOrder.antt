-- How names are compared: without regard to the case of ASCII letters (RFC 1035, section 2.3.3; RFC 4343, section 3).
use Rattle.std.specs.Prelude.{◌≡◌, ℕ, nat_eq, Bool, false, ◌-◌, ◌<◌, ◌||◌, if◌then◌else◌, List, [], ◌∷◌, ◌++◌, length, drop, map, reverse}
use Rattle.std.specs.declared.cmp.Ordering.{Ordering}
use Rattle.std.specs.Ordering.{nat_cmp, bool_cmp, on, then_cmp, eq_by_cmp}
use Rattle.std.specs.Cmp.{IsTotalOrder, then_total, on_total, bool_cmp_total}
use Rattle.std.specs.Cmp.Lexicographic.{slice_cmp, pointwise, lists_total, nat_list_cmp_total}
use Rattle.std.specs.Char.{to_ascii_lowercase}
use Rattle.wire_names.specs.rr.domain.DomainName.{DomainName}

-- a label with its ASCII letters in lower case
abbrev pub lower_label : List ℕ → List ℕ
lower_label label = map to_ascii_lowercase label

abbrev pub lower_labels : List (List ℕ) → List (List ℕ)
lower_labels labels = map lower_label labels

-- the name with its labels in lower case
abbrev pub lower_name : DomainName → DomainName
lower_name name = record { labels = lower_labels name.labels; is_fqdn = name.is_fqdn }

-- The names are the same: letter case aside they have the same labels, and both are fully qualified or neither is.
pub record SameName (a b : DomainName) : Type 0 where
  pub labels : lower_labels a.labels ≡ lower_labels b.labels
  pub marks : a.is_fqdn ≡ b.is_fqdn

-- A name of the labels `ns` equals or encloses one of the labels `ms`: letter case aside, `ns` stand at the end of
-- `ms`.
pub record Encloses (ns ms : List (List ℕ)) : Type 0 where
  pub front : List (List ℕ)
  pub ends : lower_labels ms ≡ front ++ lower_labels ns

-- The end is what is left of the name where labels are taken off its front, one at least, until it encloses the other
-- name.
pub record IsSharedEnd (name other end : DomainName) : Type 0 where
  pub count : ℕ
  pub some : 0 < count
  pub ends : end ≡ record name { labels = drop count name.labels }
  pub encloses : Encloses end.labels other.labels
  pub longest : (k : ℕ) → 0 < k → k < count → ¬ (Encloses (drop k name.labels) other.labels)

-- labels in lower case, as bytes
abbrev pub label_cmp : List ℕ → List ℕ → Ordering
label_cmp = on lower_label (slice_cmp nat_cmp)

-- the labels are the same, letter case aside
abbrev pub same_labels : List (List ℕ) → List (List ℕ) → Bool
same_labels = pointwise (eq_by_cmp label_cmp)

-- whether a name of the labels `ns` equals or encloses one of the labels `ms`: `Encloses` as a Bool
abbrev pub encloses : List (List ℕ) → List (List ℕ) → Bool
encloses ns [] = same_labels ns []
encloses ns (m ∷ ms) = same_labels ns (m ∷ ms) || encloses ns ms

-- By the labels from the last one on, a name that runs out first being less (RFC 4034, section 6.1);
-- then the name that isn't fully qualified is less.
abbrev pub name_cmp : DomainName → DomainName → Ordering
name_cmp = then_cmp (on (λ n. reverse n.labels) (slice_cmp label_cmp)) (on (λ n. n.is_fqdn) bool_cmp)

abbrev pub name_eq : DomainName → DomainName → Bool
name_eq = eq_by_cmp name_cmp

pub name_cmp_total : IsTotalOrder name_cmp
name_cmp_total = then_total (on_total (λ n. reverse n.labels) (lists_total (on_total lower_label nat_list_cmp_total))) (on_total (λ n. n.is_fqdn) bool_cmp_total)

-- whether the first label is `*` (RFC 4592, section 2.1.1)
abbrev pub is_wildcard : List (List ℕ) → Bool
is_wildcard [] = false
is_wildcard (l ∷ ls) = pointwise nat_eq l (42 ∷ [])

-- how many labels there are, a first label `*` not counted
abbrev pub counted_labels : List (List ℕ) → ℕ
counted_labels labels = if is_wildcard labels then length labels - 1 else length labels
