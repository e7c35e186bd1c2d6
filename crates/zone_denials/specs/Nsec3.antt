-- How NSEC3 records deny names and types: what a resolver accepts (RFC 5155 section 8).
use Rattle.std.specs.Prelude.{◌≡◌, ◌⊎◌, ◌∷◌, ◌++◌, ℕ, zero, suc, Bool, true, List}
use Rattle.std.specs.List.{Contains}
use Rattle.std.specs.Ordering.{nat_cmp}
use Rattle.std.specs.Cmp.Lexicographic.{slice_cmp}
use Rattle.std.specs.declared.cmp.Ordering.TheVariants.{Less}
use Rattle.sha1.specs.Sha1.{sha1}
use Rattle.wire_names.specs.rr.domain.DomainName.{DomainName, wire_form}
use Rattle.wire_names.specs.rr.domain.NameOrder.{lower_labels}
use Rattle.wire_messages.specs.Numbers.{type_cname, type_dname, type_ds, type_ns, type_soa}
use Rattle.zone_denials.specs.Nsec.{Claim, ancestor, by_wildcard, no_name, no_type, unsigned, wildcard}

-- What an NSEC3 record says (RFC 5155 section 3): the hash that its owner name has, the next one in order, whether
-- unsigned zones below may have no records, and of which types the name of the hash has records.
pub record Nsec3 : Type 0 where
  pub hash : List ℕ
  pub next : List ℕ
  pub opt_out : Bool
  pub types : List ℕ

-- the salt, which follows each name and hash, and how often a hash is hashed again
pub record Hashing : Type 0 where
  pub salt : List ℕ
  pub iterations : ℕ

abbrev pub hashed_again : List ℕ → ℕ → List ℕ → List ℕ
hashed_again salt zero digest = digest
hashed_again salt (suc k) digest = hashed_again salt k (sha1 (digest ++ salt))

-- the hash of a name (RFC 5155 section 5)
abbrev pub hash_of : Hashing → DomainName → List ℕ
hash_of by name = hashed_again by.salt by.iterations (sha1 (wire_form (lower_labels name.labels) ++ 0 ∷ by.salt))

-- the order of hashes, octet by octet (RFC 5155 section 3.1.7)
abbrev pub IsBelow : List ℕ → List ℕ → Type 0
IsBelow a b = slice_cmp nat_cmp a b ≡ Less

-- The hash would be between the record's own and the next one, or after the last record's hash, or before the first
-- one, if the next one is not after its own (RFC 5155 section 1.3).
abbrev pub CoversHash : Nsec3 → List ℕ → Type 0
CoversHash n hash = (IsBelow n.hash hash × IsBelow hash n.next) ⊎ ((¬ (IsBelow n.hash n.next)) × (IsBelow n.hash hash ⊎ IsBelow hash n.next))

-- The record is at a cut, on the side of the zone above.
pub record IsAtCut3 (n : Nsec3) : Type 0 where
  pub servers : Contains n.types type_ns
  pub above : ¬ (Contains n.types type_soa)

-- The name of the record is no cut and owns no DNAME (RFC 5155 section 8.3).
pub record IsOpen3 (n : Nsec3) : Type 0 where
  pub uncut : ¬ (IsAtCut3 n)
  pub undirected : ¬ (Contains n.types type_dname)

-- The closest encloser proof (RFC 5155 section 8.3): a record matches the k-th ancestor, and this one covers the next
-- closer name.
pub record ShowsEncloser3 (by : Hashing) (shown : List Nsec3) (name : DomainName) (k : ℕ) (cover : Nsec3) : Type 0 where
  pub match : Nsec3
  pub put : Contains shown match
  pub matches : match.hash ≡ hash_of by (ancestor name (suc k))
  pub is_open : IsOpen3 match
  pub covers_put : Contains shown cover
  pub covers : CoversHash cover (hash_of by (ancestor name k))

-- By the record the name has no records of the type, and no alias. At a cut it denies only DS records, and at the
-- apex of all others (RFC 5155 sections 8.5 to 8.7).
pub record ShowsLack3 (by : Hashing) (n : Nsec3) (name : DomainName) (t : ℕ) : Type 0 where
  pub matches : n.hash ≡ hash_of by name
  pub lacks : ¬ (Contains n.types t)
  pub no_alias : ¬ (Contains n.types type_cname)
  pub cut : IsAtCut3 n → t ≡ type_ds
  pub apex : t ≡ type_ds → ¬ (Contains n.types type_soa)

-- These records prove the claim to a resolver. The closest encloser is the name's ancestor by suc k labels, and the next
-- closer name that by k.
pub data Proves3 (by : Hashing) (shown : List Nsec3) (name : DomainName) : Claim → Type 0 where
  missing : {k : ℕ} {c m : Nsec3} → ShowsEncloser3 by shown name k c → Contains shown m → CoversHash m (hash_of by (wildcard (ancestor name (suc k)))) → Proves3 by shown name no_name
  lacking : {n : Nsec3} {t : ℕ} → Contains shown n → ShowsLack3 by n name t → Proves3 by shown name (no_type t)
  lacking_out : {k : ℕ} {c : Nsec3} → ShowsEncloser3 by shown name k c → c.opt_out ≡ true → Proves3 by shown name (no_type type_ds)
  wild_lacking : {k t : ℕ} {c n : Nsec3} → ShowsEncloser3 by shown name k c → Contains shown n → ShowsLack3 by n (wildcard (ancestor name (suc k))) t → Proves3 by shown name (no_type t)
  closest : {k : ℕ} {c : Nsec3} → Contains shown c → CoversHash c (hash_of by (ancestor name k)) → Proves3 by shown name (by_wildcard (suc k))
  insecure : {n : Nsec3} → Contains shown n → n.hash ≡ hash_of by name → IsAtCut3 n → ¬ (Contains n.types type_ds) → Proves3 by shown name unsigned
  out : {k : ℕ} {c : Nsec3} → ShowsEncloser3 by shown name k c → c.opt_out ≡ true → Proves3 by shown name unsigned
