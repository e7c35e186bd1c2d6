-- The cuts of a zone that no other cut is above (RFC 1034 section 4.2).
use Rattle.std.specs.Prelude.{◌≡◌, ◌⊎◌, ◌-◌, ◌≤◌, ℕ, Bool, List, [], ◌∷◌, IfSome, length, Option, None, Some, false, true}
use Rattle.std.specs.List.{All, AllByRecursion, Contains, slice_get}
use Rattle.std.specs.Option.{IsSomeAnd, option_copied, option_map}
use Rattle.std.specs.declared.alloc.Global.{Global}
use Rattle.std.specs.declared.vec.Vec.{Vec}
use Rattle.wire_names.specs.rr.domain.DomainName.{DomainName}
use Rattle.wire_names.specs.rr.domain.NameOrder.{Encloses, lower_name}
use Rattle.wire_messages.specs.Numbers.{type_ns}
use Rattle.wire_messages.specs.declared.rr.rr_key.RrKey.{RrKey}
use Rattle.wire_messages.specs.declared.rr.rdata.RData.{RData}
use Rattle.wire_messages.specs.declared.rr.record.Record.{Record}
use Rattle.zone_answers.specs.declared.additionals.Source.TheVariants as source
use Rattle.zone_answers.specs.Additionals.{AreAdditionals, host_in}
use Rattle.zone_answers.specs.declared.cuts.Cut.{Cut}
use Rattle.zone_answers.specs.declared.cuts.Cuts.{Cuts}
use Rattle.zone_answers.specs.declared.cuts.TopCut.{TopCut}
use Rattle.zone_answers.specs.representation.Indexes.{IsPlaceOf, IsSearched}
use Rattle.zone_answers.specs.representation.KeysBeside.{Entry}
use Rattle.zone_answers.specs.Zones.{IsCut, Records, Zone, rrset}

-- The zone is cut at the key's name, and these are the NS records there.
pub record IsSetOfCut (zone : Zone) (e : Entry) : Type 0 where
  pub cut : IsCut zone e.0.name
  pub qualified : e.0.name.is_fqdn ≡ true
  pub of_type : e.0.record_type ≡ type_ns
  pub servers : rrset zone.sets e.0.name type_ns ≡ Some e.1.value

-- One of the sets is of a name that is this one or above it.
pub record IsBelowOne (cuts : List Entry) (name : DomainName) : Type 0 where
  pub top : Entry
  pub held : Contains cuts top
  pub at_or_below : Encloses top.0.name.labels name.labels

-- None of these names is above another.
abbrev pub AreApart : List Entry → Type 0
AreApart cuts = (one other : Entry) → Contains cuts one → Contains cuts other → Encloses one.0.name.labels other.0.name.labels → one.0 ≡ other.0

-- The zone is cut at the names of these, elsewhere only below them, and none of them is above another.
pub record AreTopCuts (zone : Zone) (cuts : List Entry) : Type 0 where
  pub each : All (IsSetOfCut zone) cuts
  pub whole : (name : DomainName) → IsCut zone name → IsBelowOne cuts name
  pub apart : AreApart cuts

-- They are these sets, in the order of their keys and with the numbers of their names, by which they are searched.
pub record AreCutsOf (zone : Zone) (cuts : Cuts) : Type 0 where
  pub tops : AreTopCuts zone cuts.entries.items
  pub searched : IsSearched zone.origin cuts.entries.items cuts.words.items

-- At its place among the cuts are the NS records.
pub record IsAt (cuts : List Entry) (top : TopCut) : Type 0 where
  pub entry : Entry
  pub is : slice_get cuts top.place ≡ Some entry
  pub servers : entry.1.value ≡ top.servers.now

-- The values of both lists belong together, each to the one at its place.
abbrev pub AreEach : {X Y : Type 0} → (X → Y → Type 0) → List X → List Y → Type 0
AreEach R [] [] = Unit {0}
AreEach R (x ∷ xs) (y ∷ ys) = R x y × AreEach R xs ys
AreEach R xs ys = ⊥

-- Those are the addresses of the servers at each cut that stand in the zone, as a referral has them (RFC 1034 section
-- 4.3.2, step 3b).
abbrev pub AreGlueOf : Zone → List Entry → List (Vec (Record RData) Global) → Type 0
AreGlueOf zone cuts all = AreEach (λ e glue. AreAdditionals source.Glue zone [] e.1.value glue.items) cuts all

-- the place of a host's name among the sets, and none if it is outside of the zone
abbrev pub IsPlaceOfHost : DomainName → List Entry → DomainName → Option ℕ → Type 0
IsPlaceOfHost apex entries host None = ¬ (Encloses apex.labels host.labels)
IsPlaceOfHost apex entries host (Some place) = IsPlaceOf (record { name = host; record_type = 0 }) entries place × (place ≤ length entries)

-- that of the host that a record names, if it names one
abbrev pub IsHostPlace : DomainName → List Entry → Record RData → Option ℕ → Type 0
IsHostPlace apex entries r place = IfSome (host_in r.rdata) (λ host. IsPlaceOfHost apex entries (lower_name host) place)

-- Those are the places of the servers at each cut.
abbrev pub AreHostsOf : DomainName → List Entry → List Entry → List (Vec (Option ℕ) Global) → Type 0
AreHostsOf apex entries cuts all = AreEach (λ e places. AreEach (IsHostPlace apex entries) e.1.value places.items) cuts all

-- There is no mark at the place of a host, if it has one.
abbrev pub IsClearHost : List Bool → Option ℕ → Type 0
IsClearHost marks place = IfSome place (λ n. slice_get marks n ≡ Some false)

-- These are the addresses at the place of a cut, and there is no mark at the places of its servers.
pub record IsClearGlue (marks : List Bool) (hosts : List (Vec (Option ℕ) Global)) (glue : List (Vec (Record RData) Global)) (place : ℕ) (rs : Records) : Type 0 where
  pub places : Vec (Option ℕ) Global
  pub hosts_there : slice_get hosts place ≡ Some places
  pub clear : AllByRecursion (IsClearHost marks) places.items
  pub section : Vec (Record RData) Global
  pub there : slice_get glue place ≡ Some section
  pub records : rs ≡ section.items

-- the servers of a cut, if there is one
abbrev pub servers_at : Option Cut → Option Records
servers_at cut = option_map (λ c. c.servers.now) cut

-- Where addresses are told, they are those of the servers that stand in the zone.
abbrev pub HasGlue : Zone → Cut → Type 0
HasGlue zone cut = IfSome (option_copied cut.glue) (AreAdditionals source.Glue zone [] cut.servers.now)

-- ---- how they are told, in the order of the keys

-- The last of the sets is of the key's name or of one above it.
abbrev pub IsBelowLast : List Entry → RrKey → Type 0
IsBelowLast cuts key = IsSomeAnd (slice_get cuts (length cuts - 1)) (λ e. Encloses e.0.name.labels key.name.labels)

-- The key is of NS records below the apex, and not below the last of these cuts.
pub record IsPut (origin : DomainName) (cuts : List Entry) (key : RrKey) : Type 0 where
  pub servers : key.record_type ≡ type_ns
  pub below_apex : ¬ (Encloses key.name.labels origin.labels)
  pub apart : ¬ (IsBelowLast cuts key)

-- The key is of other records, at the apex, or below the last of these cuts.
abbrev pub IsPassedOver : DomainName → List Entry → RrKey → Type 0
IsPassedOver origin cuts key = ¬ (key.record_type ≡ type_ns) ⊎ (Encloses key.name.labels origin.labels ⊎ IsBelowLast cuts key)
