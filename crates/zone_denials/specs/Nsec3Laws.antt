-- What a server puts into a reply of a chain of NSEC3 records is a proof. No name that the zone has not may have the
-- hash of one that it has: else no server can deny it (RFC 5155 section 7.2.9).
use Rattle.std.specs.Prelude.{◌≡◌, ◌⊎◌, ℕ, suc, true, List}
use Rattle.std.specs.List.{Contains}
use Rattle.wire_names.specs.rr.domain.DomainName.{DomainName}
use Rattle.wire_messages.specs.Numbers.{type_cname, type_ds}
use Rattle.zone_denials.specs.Nsec.{ancestor, by_wildcard, no_name, no_type, unsigned, wildcard}
use Rattle.zone_denials.specs.Nsec3.{CoversHash, Hashing, IsAtCut3, Nsec3, Proves3, ShowsLack3, IsOpen3, hash_of}
use Rattle.zone_denials.specs.Nsec3Chain.{IsChain3, IsHashed, IsLastBelow}

-- The record matches the closest encloser of a name, the name by suc k labels shorter, which is no cut and owns no DNAME.
pub record MatchesEncloser (by : Hashing) (chain : List Nsec3) (name : DomainName) (k : ℕ) (n : Nsec3) : Type 0 where
  pub held : Contains chain n
  pub matches : n.hash ≡ hash_of by (ancestor name (suc k))
  pub is_open : IsOpen3 n

-- The record covers the next closer name.
pub record CoversNextCloser (by : Hashing) (chain : List Nsec3) (name : DomainName) (k : ℕ) (n : Nsec3) : Type 0 where
  pub unhashed : ¬ (IsHashed by chain (ancestor name k))
  pub last : IsLastBelow chain (hash_of by (ancestor name k)) n

abbrev pub MissingNamesAreDenied3 : Type 0
MissingNamesAreDenied3 = (by : Hashing) (chain shown : List Nsec3) (name : DomainName) (k : ℕ) (e c w : Nsec3) → IsChain3 chain → MatchesEncloser by chain name k e → CoversNextCloser by chain name k c
    → ¬ (IsHashed by chain (wildcard (ancestor name (suc k)))) → IsLastBelow chain (hash_of by (wildcard (ancestor name (suc k)))) w
    → Contains shown e → Contains shown c → Contains shown w → Proves3 by shown name no_name

abbrev pub WildcardsAreShown3 : Type 0
WildcardsAreShown3 = (by : Hashing) (chain shown : List Nsec3) (name : DomainName) (k : ℕ) (c : Nsec3) → IsChain3 chain → CoversNextCloser by chain name k c → Contains shown c → Proves3 by shown name (by_wildcard (suc k))

abbrev pub WildTypesAreDenied3 : Type 0
WildTypesAreDenied3 = (by : Hashing) (chain shown : List Nsec3) (name : DomainName) (k t : ℕ) (e c w : Nsec3) → IsChain3 chain → MatchesEncloser by chain name k e → CoversNextCloser by chain name k c
    → ShowsLack3 by w (wildcard (ancestor name (suc k))) t → Contains shown e → Contains shown c → Contains shown w → Proves3 by shown name (no_type t)

-- An unsigned zone below that has no record of its own: the cover of the next closer name must have opted out.
abbrev pub UnsignedZonesAreShown3 : Type 0
UnsignedZonesAreShown3 = (by : Hashing) (chain shown : List Nsec3) (name : DomainName) (k : ℕ) (e c : Nsec3) → IsChain3 chain → MatchesEncloser by chain name k e → CoversNextCloser by chain name k c
    → c.opt_out ≡ true → Contains shown e → Contains shown c → Proves3 by shown name unsigned × Proves3 by shown name (no_type type_ds)

-- The closest encloser of the name has a record, and the next closer name has none.
pub record IsEncloser3 (by : Hashing) (chain : List Nsec3) (name : DomainName) (k : ℕ) : Type 0 where
  pub encloser : IsHashed by chain (ancestor name (suc k))
  pub next_closer : ¬ (IsHashed by chain (ancestor name k))

-- The record of the name has not the type, nor an alias.
pub record IsWithout3 (by : Hashing) (chain : List Nsec3) (name : DomainName) (t : ℕ) : Type 0 where
  pub at : Nsec3
  pub held : Contains chain at
  pub is : at.hash ≡ hash_of by name
  pub none : ¬ (Contains at.types t)
  pub no_alias : ¬ (Contains at.types type_cname)

-- The next closer name may be one of an unsigned zone that is left out.
pub record IsLeftOut (by : Hashing) (chain : List Nsec3) (name : DomainName) (k : ℕ) : Type 0 where
  pub encloser : IsEncloser3 by chain name k
  pub cover : Nsec3
  pub held : Contains chain cover
  pub covers : CoversHash cover (hash_of by (ancestor name k))
  pub out : cover.opt_out ≡ true

-- What a resolver takes for proved by records of a chain is so.
abbrev pub DeniedNamesAreMissing3 : Type 0
DeniedNamesAreMissing3 = (by : Hashing) (chain shown : List Nsec3) (name : DomainName) → IsChain3 chain → ((n : Nsec3) → Contains shown n → Contains chain n)
    → Proves3 by shown name no_name → (k : ℕ) × IsEncloser3 by chain name k × ¬ (IsHashed by chain (wildcard (ancestor name (suc k))))

abbrev pub WildcardsAreTrue3 : Type 0
WildcardsAreTrue3 = (by : Hashing) (chain shown : List Nsec3) (name : DomainName) (k : ℕ) → IsChain3 chain → ((n : Nsec3) → Contains shown n → Contains chain n)
    → Proves3 by shown name (by_wildcard (suc k)) → ¬ (IsHashed by chain (ancestor name k))

abbrev pub DeniedTypesAreMissing3 : Type 0
DeniedTypesAreMissing3 = (by : Hashing) (chain shown : List Nsec3) (name : DomainName) (t : ℕ) → IsChain3 chain → ((n : Nsec3) → Contains shown n → Contains chain n) → Proves3 by shown name (no_type t)
    → IsWithout3 by chain name t ⊎ ((k : ℕ) × (((t ≡ type_ds) × IsLeftOut by chain name k) ⊎ (IsEncloser3 by chain name k × IsWithout3 by chain (wildcard (ancestor name (suc k))) t)))

abbrev pub UnsignedZonesAreCuts3 : Type 0
UnsignedZonesAreCuts3 = (by : Hashing) (chain shown : List Nsec3) (name : DomainName) → IsChain3 chain → ((n : Nsec3) → Contains shown n → Contains chain n) → Proves3 by shown name unsigned
    → ((n : Nsec3) × Contains chain n × (n.hash ≡ hash_of by name) × IsAtCut3 n × ¬ (Contains n.types type_ds)) ⊎ ((k : ℕ) × IsLeftOut by chain name k)
