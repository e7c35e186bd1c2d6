-- A zone that is signed with NSEC3 records, by the keys of its RRsets, without the owners of these records, which are no
-- names of it (RFC 5155 section 7.2.8).
use Rattle.std.specs.Prelude.{◌≡◌, ◌<◌, ◌≤◌, ◌⊎◌, ◌↔◌, ℕ, suc, List, length, true}
use Rattle.std.specs.List.{Contains}
use Rattle.wire_names.specs.rr.domain.DomainName.{DomainName}
use Rattle.wire_names.specs.rr.domain.NameOrder.{Encloses, SameName}
use Rattle.wire_messages.specs.Numbers.{type_dname, type_ds, type_soa}
use Rattle.zone_denials.specs.Nsec.{ancestor, by_wildcard, no_name, no_type, unsigned, wildcard}
use Rattle.zone_denials.specs.Nsec3.{CoversHash, Hashing, Nsec3, Proves3, hash_of}
use Rattle.zone_denials.specs.Nsec3Chain.{IsChain3, IsHashed, IsLastBelow}
use Rattle.zone_denials.specs.SignedZone.{Exists, HasSet, IsCut, IsOwn, IsListed, ZoneKeys}
use Rattle.zone_denials.specs.SignedZoneLaws.{IsDenied, IsSynthesized, Lacks}

-- The name is in the zone: its apex or a name below it.
pub record IsIn (zone : ZoneKeys) (name : DomainName) : Type 0 where
  pub qualified : name.is_fqdn ≡ true
  pub within : Encloses zone.origin.labels name.labels

-- The name is the zone's own, or a cut: it is in the zone, and nothing above it is cut or redirects.
pub record IsOfZone (zone : ZoneKeys) (name : DomainName) : Type 0 where
  pub inside : IsIn zone name
  pub uncut : (k : ℕ) → 0 < k → k ≤ length name.labels → ¬ (IsCut zone (ancestor name k))
  pub undirected : (k : ℕ) → 0 < k → k ≤ length name.labels → ¬ (HasSet zone (ancestor name k) type_dname)

-- The record has the hash of a name of the zone that exists.
pub record StandsFor (zone : ZoneKeys) (by : Hashing) (n : Nsec3) : Type 0 where
  pub name : DomainName
  pub exists : Exists zone name
  pub is : n.hash ≡ hash_of by name

-- Whichever record covers the name has opted out.
abbrev pub IsOptedOut : Hashing → List Nsec3 → DomainName → Type 0
IsOptedOut by chain name = (c : Nsec3) → Contains chain c → CoversHash c (hash_of by name) → c.opt_out ≡ true

-- The chain is that of the zone (RFC 5155 section 7.1): each name of the zone that exists has a record of it, or is left
-- out, and then what covers it has opted out; each record has the hash of a name that exists, and lists its types.
pub record IsChained3 (zone : ZoneKeys) (by : Hashing) (chain : List Nsec3) : Type 0 where
  pub is_chain : IsChain3 chain
  pub complete : (name : DomainName) → Exists zone name → IsOfZone zone name → IsHashed by chain name ⊎ IsOptedOut by chain name
  pub names : (n : Nsec3) → Contains chain n → StandsFor zone by n
  pub types : (n : Nsec3) (name : DomainName) (t : ℕ) → Contains chain n → IsIn zone name → n.hash ≡ hash_of by name → Exists zone name → IsListed zone name t → Contains n.types t ↔ HasSet zone name t
  pub apex : (name : DomainName) → HasSet zone name type_soa ↔ SameName name zone.origin

-- A name of the zone has the hash of this one, which does not exist: then no server can deny it, and the reply is
-- SERVFAIL (RFC 5155 section 7.2.9).
pub record Collides (zone : ZoneKeys) (by : Hashing) (name : DomainName) : Type 0 where
  pub none : ¬ (Exists zone name)
  pub other : DomainName
  pub exists : Exists zone other
  pub same : hash_of by name ≡ hash_of by other

-- A record of the chain that matches a name.
pub record IsMatch (by : Hashing) (chain : List Nsec3) (name : DomainName) (n : Nsec3) : Type 0 where
  pub held : Contains chain n
  pub is : n.hash ≡ hash_of by name

abbrev pub NamesAreDenied3 : Type 0
NamesAreDenied3 = (zone : ZoneKeys) (by : Hashing) (chain shown : List Nsec3) (name : DomainName) (k : ℕ) (e c w : Nsec3) → IsChained3 zone by chain → IsDenied zone name (suc k) → IsIn zone (ancestor name (suc k))
    → IsMatch by chain (ancestor name (suc k)) e
    → IsLastBelow chain (hash_of by (ancestor name k)) c → IsLastBelow chain (hash_of by (wildcard (ancestor name (suc k)))) w → Contains shown e → Contains shown c → Contains shown w
    → (Collides zone by (ancestor name k) ⊎ Collides zone by (wildcard (ancestor name (suc k)))) ⊎ Proves3 by shown name no_name

abbrev pub WildcardsAreProved3 : Type 0
WildcardsAreProved3 = (zone : ZoneKeys) (by : Hashing) (chain shown : List Nsec3) (name : DomainName) (k : ℕ) (c : Nsec3) → IsChained3 zone by chain → IsSynthesized zone name (suc k)
    → IsLastBelow chain (hash_of by (ancestor name k)) c → Contains shown c → Collides zone by (ancestor name k) ⊎ Proves3 by shown name (by_wildcard (suc k))

abbrev pub TypesAreDenied3 : Type 0
TypesAreDenied3 = (zone : ZoneKeys) (by : Hashing) (chain shown : List Nsec3) (name : DomainName) (t : ℕ) (n : Nsec3) → IsChained3 zone by chain → IsIn zone name → Exists zone name → Lacks zone name t → IsMatch by chain name n → Contains shown n → Proves3 by shown name (no_type t)

abbrev pub WildTypesAreDenied3 : Type 0
WildTypesAreDenied3 = (zone : ZoneKeys) (by : Hashing) (chain shown : List Nsec3) (name : DomainName) (k t : ℕ) (e c w : Nsec3) → IsChained3 zone by chain → IsSynthesized zone name (suc k) → IsIn zone (ancestor name (suc k))
    → IsMatch by chain (ancestor name (suc k)) e → IsLastBelow chain (hash_of by (ancestor name k)) c → Exists zone (wildcard (ancestor name (suc k))) → Lacks zone (wildcard (ancestor name (suc k))) t → IsMatch by chain (wildcard (ancestor name (suc k))) w
    → Contains shown e → Contains shown c → Contains shown w → Collides zone by (ancestor name k) ⊎ Proves3 by shown name (no_type t)

abbrev pub CutsAreProved3 : Type 0
CutsAreProved3 = (zone : ZoneKeys) (by : Hashing) (chain shown : List Nsec3) (name : DomainName) (n : Nsec3) → IsChained3 zone by chain → IsIn zone name → IsCut zone name → ¬ (HasSet zone name type_ds) → IsMatch by chain name n → Contains shown n → Proves3 by shown name unsigned

-- A cut that the chain has left out: the closest encloser that it has, and the cover of the next closer name.
abbrev pub CutsLeftOutAreProved3 : Type 0
CutsLeftOutAreProved3 = (zone : ZoneKeys) (by : Hashing) (chain shown : List Nsec3) (name : DomainName) (k : ℕ) (e c : Nsec3) → IsChained3 zone by chain → IsCut zone name → IsOfZone zone (ancestor name k) → IsIn zone (ancestor name (suc k))
    → ¬ (IsHashed by chain (ancestor name k)) → IsOwn zone (ancestor name (suc k)) → IsMatch by chain (ancestor name (suc k)) e → ¬ (HasSet zone (ancestor name (suc k)) type_dname) → IsLastBelow chain (hash_of by (ancestor name k)) c
    → Contains shown e → Contains shown c → Proves3 by shown name unsigned × Proves3 by shown name (no_type type_ds)
