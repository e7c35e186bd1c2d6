-- How NSEC records deny names and types: what a resolver accepts (RFC 4035 section 5.4, RFC 6840 section 4).
use Rattle.std.specs.Prelude.{◌≡◌, ◌<◌, ◌⊎◌, ◌∷◌, ℕ, List, [], drop}
use Rattle.std.specs.List.{Contains}
use Rattle.std.specs.declared.cmp.Ordering.TheVariants.{Less}
use Rattle.wire_names.specs.rr.domain.DomainName.{DomainName}
use Rattle.wire_names.specs.rr.domain.NameOrder.{Encloses, SameName, name_cmp}
use Rattle.wire_messages.specs.Numbers.{type_cname, type_dname, type_ds, type_ns, type_soa}

-- What an NSEC record says (RFC 4034 section 4.1): its owner, the next owner in canonical order, and of which types its
-- owner has records.
pub record Nsec : Type 0 where
  pub owner : DomainName
  pub next : DomainName
  pub types : List ℕ

-- the name without so many labels of its front
abbrev pub ancestor : DomainName → ℕ → DomainName
ancestor name k = record name { labels = drop k name.labels }

-- the source of synthesis: the label `*` in front of the closest encloser (RFC 4592 section 3.3.1)
abbrev pub wildcard : DomainName → DomainName
wildcard encloser = record encloser { labels = (42 ∷ []) ∷ encloser.labels }

-- The name is before the other in canonical order (RFC 4034 section 6.1).
abbrev pub IsBefore : DomainName → DomainName → Type 0
IsBefore a b = name_cmp a b ≡ Less

-- The record covers the name: it would be between the record's owner and the next one. The next one of the last
-- record is the apex (RFC 4034 section 4.1.1).
pub record Covers (apex : DomainName) (n : Nsec) (name : DomainName) : Type 0 where
  pub after : IsBefore n.owner name
  pub before : IsBefore name n.next ⊎ SameName n.next apex

-- The record is at a cut, on the side of the zone above (RFC 6840 section 4.1).
pub record IsAtCut (n : Nsec) : Type 0 where
  pub servers : Contains n.types type_ns
  pub above : ¬ (Contains n.types type_soa)

-- The record may deny names below its owner, which is no cut and owns no DNAME (RFC 6840 section 4.1).
pub record IsOpen (n : Nsec) : Type 0 where
  pub uncut : ¬ (IsAtCut n)
  pub undirected : ¬ (Contains n.types type_dname)

-- By the record the name does not exist.
pub record ShowsMissing (apex : DomainName) (n : Nsec) (name : DomainName) : Type 0 where
  pub covers : Covers apex n name
  pub is_open : Encloses n.owner.labels name.labels → IsOpen n
  pub none_below : ¬ (Encloses name.labels n.next.labels)

-- By the record the name is an empty non-terminal: it owns nothing, and the next owner is below it.
pub record ShowsEmpty (apex : DomainName) (n : Nsec) (name : DomainName) : Type 0 where
  pub covers : Covers apex n name
  pub is_open : Encloses n.owner.labels name.labels → IsOpen n
  pub below : Encloses name.labels n.next.labels

-- The labels are those of the record's owner or its next one, or of a name above these.
abbrev pub IsAboveEnd : Nsec → List (List ℕ) → Type 0
IsAboveEnd n labels = Encloses labels n.owner.labels ⊎ Encloses labels n.next.labels

-- By the record, which covers the name, its closest encloser is its k-th ancestor.
pub record ShowsEncloser (n : Nsec) (name : DomainName) (k : ℕ) : Type 0 where
  pub above : IsAboveEnd n (drop k name.labels)
  pub longest : (j : ℕ) → j < k → ¬ (IsAboveEnd n (drop j name.labels))

-- By the record its owner, which the name is, has no records of the type, and no alias (RFC 6840 section 4.3). At a cut
-- it denies only DS records, and at the apex all others (section 4.1).
pub record ShowsLack (n : Nsec) (name : DomainName) (t : ℕ) : Type 0 where
  pub matches : SameName n.owner name
  pub lacks : ¬ (Contains n.types t)
  pub no_alias : ¬ (Contains n.types type_cname)
  pub cut : IsAtCut n → t ≡ type_ds
  pub apex : t ≡ type_ds → ¬ (Contains n.types type_soa)

-- What a reply may claim of a name: that it does not exist, nor a wildcard for it; that the name or the wildcard from
-- which it is synthesized has no records of the type; that it is synthesized from the wildcard right below the k-th
-- ancestor; that the zone below it is not signed.
pub data Claim : Type 0 where
  no_name : Claim
  no_type : ℕ → Claim
  by_wildcard : ℕ → Claim
  unsigned : Claim

-- These records prove the claim to a resolver, which knows them to be the zone's by their signatures.
pub data Proves (apex : DomainName) (shown : List Nsec) (name : DomainName) : Claim → Type 0 where
  missing : {n m : Nsec} {k : ℕ} → Contains shown n → Contains shown m → ShowsMissing apex n name → ShowsEncloser n name k → ShowsMissing apex m (wildcard (ancestor name k)) → Proves apex shown name no_name
  lacking : {n : Nsec} {t : ℕ} → Contains shown n → ShowsLack n name t → Proves apex shown name (no_type t)
  empty : {n : Nsec} {t : ℕ} → Contains shown n → ShowsEmpty apex n name → Proves apex shown name (no_type t)
  wild_lacking : {n m : Nsec} {k t : ℕ} → Contains shown n → Contains shown m → ShowsMissing apex n name → ShowsEncloser n name k → ShowsLack m (wildcard (ancestor name k)) t → Proves apex shown name (no_type t)
  wild_empty : {n m : Nsec} {k t : ℕ} → Contains shown n → Contains shown m → ShowsMissing apex n name → ShowsEncloser n name k → ShowsEmpty apex m (wildcard (ancestor name k)) → Proves apex shown name (no_type t)
  closest : {n : Nsec} {k : ℕ} → Contains shown n → ShowsMissing apex n name → ShowsEncloser n name k → Proves apex shown name (by_wildcard k)
  insecure : {n : Nsec} → Contains shown n → SameName n.owner name → IsAtCut n → ¬ (Contains n.types type_ds) → Proves apex shown name unsigned
