-- The names on a list, as a list of names in which each stands once.
use Rattle.std.specs.Prelude.{◌≡◌, ◌↔◌, ◌<◌, ◌⊎◌, ℕ, true, List, [], ◌∷◌, length, take, Option, Some, None}
use Rattle.std.specs.List.{All, Any, list_any, IsDistinct}
use Rattle.wire_names.specs.rr.domain.DomainName.{DomainName}
use Rattle.wire_names.specs.rr.domain.NameOrder.{SameName, lower_labels, name_eq, is_wildcard}
use Rattle.hickory_store.specs.blocklist.ListLines.{Lists}
use Rattle.hickory_store.specs.declared.blocklist.lines.Listed.{Listed}

-- the name is one of the entries, letter case aside
abbrev pub HasEntry : List DomainName → DomainName → Type 0
HasEntry entries name = Any (λ entry. SameName entry name) entries

-- `*` before the labels of a name (RFC 4592, section 2.1.1)
abbrev pub wildcard_over : List (List ℕ) → DomainName
wildcard_over base = record { labels = (42 ∷ []) ∷ base; is_fqdn = true }

-- a fully qualified name in lower case
pub record IsEntry (name : DomainName) : Type 0 where
  pub lower : lower_labels name.labels ≡ name.labels
  pub full : name.is_fqdn ≡ true

-- The entries are fully qualified names in lower case, and each stands once.
pub record AreEntries (entries : List DomainName) : Type 0 where
  pub each : All IsEntry entries
  pub once : IsDistinct name_eq entries

-- the new entries are the old ones and this name
abbrev pub AddsEntry : List DomainName → DomainName → List DomainName → Type 0
AddsEntry old entry new = (name : DomainName) → HasEntry new name ↔ (HasEntry old name ⊎ SameName entry name)

-- the new entries are the old ones and the names that the lines list
abbrev pub AddsLines : List DomainName → List (List ℕ) → List DomainName → Type 0
AddsLines old lines new = (name : DomainName) → HasEntry new name ↔ (HasEntry old name ⊎ Any (λ line. Lists line name) lines)

-- the first so many of the lines were added, but not all of them
abbrev pub AddsFirstLines : List DomainName → List (List ℕ) → List DomainName → Type 0
AddsFirstLines old lines new = (count : ℕ) × (count < length lines) × AddsLines old (take count lines) new

-- What reading a line gives: a name that the line lists and that is its only one, or none where it lists no name.
abbrev pub Tells : List ℕ → Option Listed → Type 0
Tells line None = (name : DomainName) → ¬ (Lists line name)
Tells line (Some listed) = IsEntry listed.name × (listed.is_wildcard ≡ is_wildcard listed.name.labels) × ((name : DomainName) → Lists line name ↔ SameName listed.name name)

-- Beside the names that are kept, the bases of wildcards: those names that a kept one has behind its first label `*`.
pub record AreKept (names bases : List DomainName) : Type 0 where
  pub entries : AreEntries names
  pub beside : (base : List (List ℕ)) → list_any (name_eq (record { labels = base; is_fqdn = true })) bases ≡ list_any (name_eq (wildcard_over base)) names
