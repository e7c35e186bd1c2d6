-- What a server puts into a reply of a signed zone is a proof, for every zone whose chain is complete.
use Rattle.std.specs.Prelude.{◌≡◌, ◌⊎◌, ℕ, List, true}
use Rattle.std.specs.List.{Contains}
use Rattle.wire_names.specs.rr.domain.DomainName.{DomainName}
use Rattle.wire_names.specs.rr.domain.NameOrder.{SameName}
use Rattle.wire_messages.specs.Numbers.{type_cname, type_ds}
use Rattle.zone_denials.specs.Nsec.{Nsec, Proves, ancestor, by_wildcard, no_name, no_type, unsigned, wildcard}
use Rattle.zone_denials.specs.NsecChain.{IsLastBefore}
use Rattle.zone_denials.specs.SignedZone.{Exists, HasClosestEncloser, HasSet, IsChained, IsCut, IsOwn, ZoneKeys}

-- A name of the zone's own that does not exist, and for which there is no wildcard (RFC 4035 section 3.1.3.2).
pub record IsDenied (zone : ZoneKeys) (name : DomainName) (k : ℕ) : Type 0 where
  pub qualified : name.is_fqdn ≡ true
  pub own : IsOwn zone name
  pub missing : ¬ (Exists zone name)
  pub encloser : HasClosestEncloser zone name k
  pub no_wildcard : ¬ (Exists zone (wildcard (ancestor name k)))

abbrev pub NamesAreDenied : Type 0
NamesAreDenied = (zone : ZoneKeys) (chain shown : List Nsec) (name : DomainName) (k : ℕ) (n m : Nsec) → IsChained zone chain → IsDenied zone name k → IsLastBefore chain name n → IsLastBefore chain (wildcard (ancestor name k)) m
    → Contains shown n → Contains shown m → Proves zone.origin shown name no_name

-- A name of the zone's own that does not exist, and for which there may be a wildcard (RFC 4035 section 3.1.3.3).
pub record IsSynthesized (zone : ZoneKeys) (name : DomainName) (k : ℕ) : Type 0 where
  pub qualified : name.is_fqdn ≡ true
  pub own : IsOwn zone name
  pub missing : ¬ (Exists zone name)
  pub encloser : HasClosestEncloser zone name k

abbrev pub WildcardsAreProved : Type 0
WildcardsAreProved = (zone : ZoneKeys) (chain shown : List Nsec) (name : DomainName) (k : ℕ) (n : Nsec) → IsChained zone chain → IsSynthesized zone name k → IsLastBefore chain name n → Contains shown n → Proves zone.origin shown name (by_wildcard k)

-- The records of the type that the name owns are the zone's: it is the zone's own, or a cut and they are DS records.
abbrev pub IsTypeOfZone : ZoneKeys → DomainName → ℕ → Type 0
IsTypeOfZone zone name t = IsOwn zone name ⊎ (t ≡ type_ds)

-- A name that owns records, none of the type, and no alias (RFC 4035 section 3.1.3.1).
pub record Lacks (zone : ZoneKeys) (name : DomainName) (t : ℕ) : Type 0 where
  pub of_zone : IsTypeOfZone zone name t
  pub none : ¬ (HasSet zone name t)
  pub no_alias : ¬ (HasSet zone name type_cname)
  pub below_apex : t ≡ type_ds → ¬ (SameName name zone.origin)

abbrev pub TypesAreDenied : Type 0
TypesAreDenied = (zone : ZoneKeys) (chain shown : List Nsec) (name : DomainName) (t : ℕ) (n : Nsec) → IsChained zone chain → Lacks zone name t → Contains chain n → SameName n.owner name → Contains shown n → Proves zone.origin shown name (no_type t)

-- The same of a wildcard from which a name is synthesized (RFC 4035 section 3.1.3.4).
abbrev pub WildTypesAreDenied : Type 0
WildTypesAreDenied = (zone : ZoneKeys) (chain shown : List Nsec) (name : DomainName) (k t : ℕ) (n m : Nsec) → IsChained zone chain → IsSynthesized zone name k → Lacks zone (wildcard (ancestor name k)) t → IsLastBefore chain name n
    → Contains chain m → SameName m.owner (wildcard (ancestor name k)) → Contains shown n → Contains shown m → Proves zone.origin shown name (no_type t)

-- A name of the zone's own that exists without records.
pub record IsEmpty (zone : ZoneKeys) (name : DomainName) : Type 0 where
  pub qualified : name.is_fqdn ≡ true
  pub own : IsOwn zone name
  pub exists : Exists zone name
  pub owns_none : (t : ℕ) → ¬ (HasSet zone name t)

abbrev pub EmptyNamesAreProved : Type 0
EmptyNamesAreProved = (zone : ZoneKeys) (chain shown : List Nsec) (name : DomainName) (t : ℕ) (n : Nsec) → IsChained zone chain → IsEmpty zone name → IsLastBefore chain name n → Contains shown n → Proves zone.origin shown name (no_type t)

-- A cut without DS records (RFC 4035 section 3.1.4).
abbrev pub CutsAreProved : Type 0
CutsAreProved = (zone : ZoneKeys) (chain shown : List Nsec) (name : DomainName) (n : Nsec) → IsChained zone chain → IsCut zone name → ¬ (HasSet zone name type_ds) → Contains chain n → SameName n.owner name → Contains shown n → Proves zone.origin shown name unsigned

-- A name that owns records and that the zone itself answers for has a record of the chain.
abbrev pub OwnersAreLinked : Type 0
OwnersAreLinked = (zone : ZoneKeys) (chain : List Nsec) (name : DomainName) (t : ℕ) → IsChained zone chain → name.is_fqdn ≡ true → IsOwn zone name → HasSet zone name t → (n : Nsec) × Contains chain n × SameName n.owner name
