-- What a server puts into a reply of a chain is a proof.
use Rattle.std.specs.Prelude.{◌≡◌, ◌<◌, ◌⊎◌, ℕ, List, drop, true}
use Rattle.std.specs.List.{Contains}
use Rattle.wire_names.specs.rr.domain.DomainName.{DomainName}
use Rattle.wire_names.specs.rr.domain.NameOrder.{SameName}
use Rattle.wire_messages.specs.Numbers.{type_cname, type_ds}
use Rattle.zone_denials.specs.Nsec.{IsAtCut, Nsec, Proves, ancestor, by_wildcard, no_name, no_type, unsigned, wildcard}
use Rattle.zone_denials.specs.NsecChain.{IsChain, IsLastBefore, IsNamed, AreOpenAbove}

-- The chain has the name of the k-th ancestor, and of no closer one.
pub record IsEncloser (chain : List Nsec) (name : DomainName) (k : ℕ) : Type 0 where
  pub exists : IsNamed chain (drop k name.labels)
  pub longest : (j : ℕ) → j < k → ¬ (IsNamed chain (drop j name.labels))

-- A name that the zone has not, and for which there is no wildcard.
abbrev pub MissingNamesAreDenied : Type 0
MissingNamesAreDenied = (apex : DomainName) (chain shown : List Nsec) (name : DomainName) (k : ℕ) (n m : Nsec) → IsChain apex chain → name.is_fqdn ≡ true
    → ¬ (IsNamed chain name.labels) → IsEncloser chain name k → ¬ (IsNamed chain (wildcard (ancestor name k)).labels) → AreOpenAbove chain name → AreOpenAbove chain (wildcard (ancestor name k))
    → IsLastBefore chain name n → IsLastBefore chain (wildcard (ancestor name k)) m → Contains shown n → Contains shown m → Proves apex shown name no_name

-- A name that is synthesized from a wildcard.
abbrev pub WildcardsAreShown : Type 0
WildcardsAreShown = (apex : DomainName) (chain shown : List Nsec) (name : DomainName) (k : ℕ) (n : Nsec) → IsChain apex chain → name.is_fqdn ≡ true
    → ¬ (IsNamed chain name.labels) → IsEncloser chain name k → AreOpenAbove chain name → IsLastBefore chain name n → Contains shown n → Proves apex shown name (by_wildcard k)

-- An empty non-terminal: the chain has a name below it, and no record at it.
abbrev pub EmptyNamesAreDenied : Type 0
EmptyNamesAreDenied = (apex : DomainName) (chain shown : List Nsec) (name : DomainName) (t : ℕ) (n : Nsec) → IsChain apex chain → name.is_fqdn ≡ true
    → IsNamed chain name.labels → ((m : Nsec) → Contains chain m → ¬ (SameName m.owner name)) → AreOpenAbove chain name → IsLastBefore chain name n → Contains shown n → Proves apex shown name (no_type t)

-- What a resolver takes for proved is so: no name of the chain is the name or below it, and none is the wildcard.
abbrev pub DeniedNamesAreMissing : Type 0
DeniedNamesAreMissing = (apex : DomainName) (chain shown : List Nsec) (name : DomainName) → IsChain apex chain → name.is_fqdn ≡ true → ((n : Nsec) → Contains shown n → Contains chain n)
    → Proves apex shown name no_name → (k : ℕ) × ¬ (IsNamed chain name.labels) × IsEncloser chain name k × ¬ (IsNamed chain (wildcard (ancestor name k)).labels)

-- The chain has not the name, and its k-th ancestor is the closest encloser.
pub record IsByWildcard (chain : List Nsec) (name : DomainName) (k : ℕ) : Type 0 where
  pub missing : ¬ (IsNamed chain name.labels)
  pub encloser : IsEncloser chain name k

-- The name of a record of the chain does not have the type, nor an alias.
pub record IsWithout (chain : List Nsec) (name : DomainName) (t : ℕ) : Type 0 where
  pub at : Nsec
  pub held : Contains chain at
  pub is : SameName at.owner name
  pub none : ¬ (Contains at.types t)
  pub no_alias : ¬ (Contains at.types type_cname)

-- The chain has a name below, and no record at the name.
pub record IsEmptyName (chain : List Nsec) (name : DomainName) : Type 0 where
  pub named : IsNamed chain name.labels
  pub no_owner : (m : Nsec) → Contains chain m → ¬ (SameName m.owner name)

abbrev pub LacksIn : List Nsec → DomainName → ℕ → Type 0
LacksIn chain name t = IsWithout chain name t ⊎ IsEmptyName chain name

-- The same of what else a resolver takes for proved: a synthesized name is missing, a denied type is missing at the name or
-- at its wildcard, and a zone that is not signed has servers and no DS records.
abbrev pub WildcardsAreTrue : Type 0
WildcardsAreTrue = (apex : DomainName) (chain shown : List Nsec) (name : DomainName) (k : ℕ) → IsChain apex chain → name.is_fqdn ≡ true → ((n : Nsec) → Contains shown n → Contains chain n)
    → Proves apex shown name (by_wildcard k) → IsByWildcard chain name k

abbrev pub DeniedTypesAreMissing : Type 0
DeniedTypesAreMissing = (apex : DomainName) (chain shown : List Nsec) (name : DomainName) (t : ℕ) → IsChain apex chain → name.is_fqdn ≡ true → ((n : Nsec) → Contains shown n → Contains chain n)
    → Proves apex shown name (no_type t) → LacksIn chain name t ⊎ ((k : ℕ) × IsByWildcard chain name k × LacksIn chain (wildcard (ancestor name k)) t)

abbrev pub UnsignedZonesAreCuts : Type 0
UnsignedZonesAreCuts = (apex : DomainName) (chain shown : List Nsec) (name : DomainName) → ((n : Nsec) → Contains shown n → Contains chain n) → Proves apex shown name unsigned
    → (n : Nsec) × Contains chain n × SameName n.owner name × IsAtCut n × ¬ (Contains n.types type_ds)
