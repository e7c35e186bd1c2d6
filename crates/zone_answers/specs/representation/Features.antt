-- What a zone has, and where.
use Rattle.std.specs.Prelude.{◌≡◌, ◌==◌, ◌<◌, ◌≤◌, ◌-◌, ◌⊎◌, ℕ, Bool, false, true, List, length, slice_index}
use Rattle.std.specs.List.{list_any}
use Rattle.wire_names.specs.rr.domain.DomainName.{AreLabels, DomainName, wire_form}
use Rattle.wire_names.specs.rr.domain.NameOrder.{Encloses}
use Rattle.wire_messages.specs.Numbers.{type_dname, type_ns}
use Rattle.wire_messages.specs.rr.RecordData.{type_of}
use Rattle.wire_messages.specs.declared.rr.rdata.RData.{RData}
use Rattle.wire_messages.specs.declared.rr.record.Record.{Record}
use Rattle.wire_messages.specs.declared.rr.rr_key.RrKey.{RrKey}
use Rattle.zone_answers.specs.declared.features.Features.{Features}
use Rattle.zone_answers.specs.declared.features.Lengths.{Lengths}
use Rattle.zone_answers.specs.Zones.{Exists, HasDname, IsCut, Zone, wildcard}

-- The length is one of these.
pub record IsOfLength (lengths : Lengths) (len : ℕ) : Type 0 where
  pub least : lengths.least ≤ len
  pub most : len ≤ lengths.most

-- Where the zone is not said to have it it has none. A name has so many octets in wire form, without the one that ends
-- it (RFC 1035 section 3.1).
pub record AreFeatures (zone : Zone) (has : Features) : Type 0 where
  pub cuts : (name : DomainName) → AreLabels name.labels → IsCut zone name → IsOfLength has.cuts (length (wire_form name.labels))
  pub dnames : has.dnames ≡ false → (name : DomainName) → ¬ (HasDname zone name)
  pub wildcards : (encloser : DomainName) → AreLabels encloser.labels → Exists zone.sets (wildcard encloser) → IsOfLength has.wildcards (length (wire_form encloser.labels))

-- Records under the key cut no zone of this origin.
pub record CutsNothing (origin : DomainName) (key : RrKey) : Type 0 where
  pub servers : key.record_type ≡ type_ns → Encloses key.name.labels origin.labels

abbrev pub IsNoDname : RrKey → Type 0
IsNoDname key = ¬ (key.record_type ≡ type_dname)

-- whether one of the octets is `*`
abbrev pub has_star : List ℕ → Bool
has_star bytes = list_any (λ b. b == 42) bytes

-- No octet of the key's name is `*`.
pub record IsStarless (key : RrKey) : Type 0 where
  pub octets : has_star (wire_form key.name.labels) ≡ false

-- Records under the key cut no zone of this origin but at a name of such a length.
pub record CutsWithin (origin : DomainName) (lengths : Lengths) (key : RrKey) : Type 0 where
  pub servers : key.record_type ≡ type_ns → Encloses key.name.labels origin.labels ⊎ IsOfLength lengths (length (wire_form key.name.labels))

-- Behind each `*` of the octets so many stand.
pub record AreStarsWithin (lengths : Lengths) (bytes : List ℕ) : Type 0 where
  pub each : (i : ℕ) → i < length bytes → slice_index bytes i ≡ 42 → IsOfLength lengths (length bytes - i - 1)

-- All wildcards at the key's name or above it stand right below names of such lengths.
pub record IsWildWithin (lengths : Lengths) (key : RrKey) : Type 0 where
  pub stars : AreStarsWithin lengths (wire_form key.name.labels)

-- ---- what a zone has with records more

-- The lengths of the first are all among those of the second.
pub record AreAmong (less more : Lengths) : Type 0 where
  pub each : (len : ℕ) → IsOfLength less len → IsOfLength more len

-- What the first is said to have, and where, the second is.
pub record Includes (less more : Features) : Type 0 where
  pub cuts : AreAmong less.cuts more.cuts
  pub dnames : less.dnames ≡ true → more.dnames ≡ true
  pub wildcards : AreAmong less.wildcards more.wildcards

-- What a zone has by a record is said: a cut at its name, a DNAME, and wildcards at its name or above it.
pub record Covers (has : Features) (r : Record RData) : Type 0 where
  pub cuts : type_of r.rdata ≡ type_ns → IsOfLength has.cuts (length (wire_form r.name.labels))
  pub dnames : type_of r.rdata ≡ type_dname → has.dnames ≡ true
  pub wildcards : AreStarsWithin has.wildcards (wire_form r.name.labels)
