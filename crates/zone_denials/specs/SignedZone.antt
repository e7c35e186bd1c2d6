-- A zone that is signed with NSEC records, by the keys of its RRsets.
use Rattle.std.specs.Prelude.{◌<◌, ◌≤◌, ◌⊎◌, ◌↔◌, ◌≡◌, ℕ, List, length}
use Rattle.std.specs.List.{Contains}
use Rattle.wire_names.specs.rr.domain.DomainName.{DomainName}
use Rattle.wire_names.specs.rr.domain.NameOrder.{Encloses, SameName}
use Rattle.wire_messages.specs.Numbers.{type_cname, type_dname, type_ds, type_ns, type_nsec, type_soa}
use Rattle.wire_messages.specs.declared.rr.rr_key.RrKey.{RrKey}
use Rattle.zone_denials.specs.Nsec.{Nsec, ancestor}
use Rattle.zone_denials.specs.NsecChain.{IsChain}

-- the apex of a zone, and the names and types of its RRsets
pub record ZoneKeys : Type 0 where
  pub origin : DomainName
  pub keys : List RrKey

-- The zone has an RRset of the name and type.
pub record HasSet (zone : ZoneKeys) (name : DomainName) (t : ℕ) : Type 0 where
  pub key : RrKey
  pub held : Contains zone.keys key
  pub named : SameName key.name name
  pub typed : key.record_type ≡ t

-- The name exists: it, or a name below it, owns records (RFC 4592 section 2.2.2, RFC 8020 section 2).
pub record Exists (zone : ZoneKeys) (name : DomainName) : Type 0 where
  pub owner : RrKey
  pub held : Contains zone.keys owner
  pub at_or_below : Encloses name.labels owner.name.labels

-- The zone is cut at the name (RFC 1034 section 4.2).
pub record IsCut (zone : ZoneKeys) (name : DomainName) : Type 0 where
  pub below_apex : ¬ (SameName name zone.origin)
  pub servers : HasSet zone name type_ns

-- What is below the name is not the zone's own: it is a cut or owns a DNAME.
abbrev pub IsClosed : ZoneKeys → DomainName → Type 0
IsClosed zone name = IsCut zone name ⊎ HasSet zone name type_dname

-- The zone itself answers for the name: it is cut neither there nor above, and nothing above redirects it.
pub record IsOwn (zone : ZoneKeys) (name : DomainName) : Type 0 where
  pub uncut : (k : ℕ) → ¬ (IsCut zone (ancestor name k))
  pub undirected : (k : ℕ) → 0 < k → k ≤ length name.labels → ¬ (HasSet zone (ancestor name k) type_dname)

-- The closest encloser of the name is its k-th ancestor (RFC 4592 section 3.3.1).
pub record HasClosestEncloser (zone : ZoneKeys) (name : DomainName) (k : ℕ) : Type 0 where
  pub exists : Exists zone (ancestor name k)
  pub longest : (j : ℕ) → j < k → ¬ (Exists zone (ancestor name j))

-- The types that a record at the name lists: all, and at a cut those that are the zone's and not those of the zone
-- below (RFC 4035 section 2.3).
abbrev pub IsListed : ZoneKeys → DomainName → ℕ → Type 0
IsListed zone name t = (¬ (IsCut zone name)) ⊎ ((t ≡ type_ns) ⊎ ((t ≡ type_ds) ⊎ ((t ≡ type_soa) ⊎ (t ≡ type_cname))))

-- The owner of the key has this record, or lies below the record's owner, which is closed.
pub record IsLinked (zone : ZoneKeys) (chain : List Nsec) (key : RrKey) : Type 0 where
  pub by : Nsec
  pub held : Contains chain by
  pub encloses : Encloses by.owner.labels key.name.labels
  pub how : SameName by.owner key.name ⊎ IsClosed zone by.owner

-- The chain is that of the zone (RFC 4035 section 2.3): each owner of records has a record of it, or lies below one that
-- has and is closed; each record is at an owner, and lists the types of its RRsets. SOA is only at the apex.
pub record IsChained (zone : ZoneKeys) (chain : List Nsec) : Type 0 where
  pub is_chain : IsChain zone.origin chain
  pub complete : (key : RrKey) → Contains zone.keys key → IsLinked zone chain key
  pub owners : (n : Nsec) → Contains chain n → HasSet zone n.owner type_nsec
  pub types : (n : Nsec) (t : ℕ) → Contains chain n → IsListed zone n.owner t → Contains n.types t ↔ HasSet zone n.owner t
  pub apex : (n : Nsec) → Contains chain n → HasSet zone n.owner type_soa ↔ SameName n.owner zone.origin
