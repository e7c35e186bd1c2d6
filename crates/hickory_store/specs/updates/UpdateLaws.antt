-- Laws of updates: what every zone keeps, whatever the updates.
use Rattle.std.specs.Prelude.{◌≡◌, ℕ, ◌+◌, ◌&&◌, Bool, true, false, not, cond, List, [], ◌∷◌, map, Ok}
use Rattle.std.specs.List.{flat_map, list_any}
use Rattle.wire_names.specs.rr.domain.DomainName.{DomainName}
use Rattle.wire_messages.specs.Numbers.{type_cname, type_ns}
use Rattle.wire_messages.specs.declared.rr.rdata.RData.{RData}
use Rattle.wire_messages.specs.declared.rr.rdata.RData.TheVariants as rdata
use Rattle.wire_messages.specs.declared.rr.record.Record.{Record}
use Rattle.hickory_base.specs.zone_store.ZoneAnswers.{MemoryZone}
use Rattle.hickory_base.specs.zone_store.ZoneRecords.{is_at}
use Rattle.hickory_base.specs.zone_store.ZoneSets.{zone_records}
use Rattle.hickory_base.specs.requests.Requests.{TimedRequest}
use Rattle.hickory_base.specs.zone_store.Lookups.{SignerContext, UpdateResult}
use Rattle.hickory_store.specs.updates.Changes.{any_change, after_updates, is_type}
use Rattle.hickory_store.specs.updates.Identity.{SameZone, same_record}
use Rattle.hickory_store.specs.updates.Serials.{next_serial}
use Rattle.hickory_store.specs.updates.UpdatableZone.{UpdatableZone}
use Rattle.hickory_store.specs.updates.UpdateAnswers.{AnswersUpdate, UpdatesAll, applied, is_apex_soa}
use Rattle.hickory_store.specs.declared.updates.verifier.Verifier.{Ghosts}

-- how many pass a test
abbrev pub how_many : {X : Type 0} → (X → Bool) → List X → ℕ
how_many test [] = 0
how_many test (x ∷ xs) = cond (test x) 1 0 + how_many test xs

-- A zone with one SOA at its apex keeps one (RFC 2136 sections 3.4.2.2 to 3.4.2.4).
abbrev pub SoaStays : Type 0
SoaStays =
    (by_rfc : Bool) (origin : DomainName) (updates zone : List (Record RData)) → how_many (is_apex_soa origin) zone ≡ 1
    → how_many (is_apex_soa origin) (after_updates by_rfc origin zone updates) ≡ 1

-- the record is an NS of the apex
abbrev pub is_apex_ns : DomainName → Record RData → Bool
is_apex_ns origin q = is_at origin q && is_type type_ns q

-- A zone with an NS at its apex keeps one (RFC 2136 sections 3.4.2.3 and 3.4.2.4).
abbrev pub NsStays : Type 0
NsStays =
    (by_rfc : Bool) (origin : DomainName) (updates zone : List (Record RData)) → list_any (is_apex_ns origin) zone ≡ true
    → list_any (is_apex_ns origin) (after_updates by_rfc origin zone updates) ≡ true

abbrev pub has_cname : List (Record RData) → DomainName → Bool
has_cname zone name = list_any (λ q. is_at name q && is_type type_cname q) zone

-- the name has a record of another type than CNAME
abbrev pub has_other : List (Record RData) → DomainName → Bool
has_other zone name = list_any (λ q. is_at name q && not (is_type type_cname q)) zone

-- A name with a CNAME has no record of another type (RFC 1034 section 3.6.2).
abbrev pub IsCnameAlone : List (Record RData) → Type 0
IsCnameAlone zone = (name : DomainName) → has_cname zone name ≡ true → has_other zone name ≡ false

-- CNAMEs that are alone stay alone (RFC 2136 section 3.4.2.2).
abbrev pub CnameStaysAlone : Type 0
CnameStaysAlone =
    (by_rfc : Bool) (origin : DomainName) (updates zone : List (Record RData)) → IsCnameAlone zone
    → IsCnameAlone (after_updates by_rfc origin zone updates)

-- The SOA is that of the apex, and the apex has no other.
abbrev pub IsOneSoa : DomainName → List (Record RData) → Record RData → Type 0
IsOneSoa origin zone soa =
    (is_apex_soa origin soa ≡ true) × (list_any (same_record soa) zone ≡ true) × (list_any (λ q. is_apex_soa origin q && not (same_record soa q)) zone ≡ false)

abbrev pub HasOneSoa : DomainName → List (Record RData) → Type 0
HasOneSoa origin zone = (soa : Record RData) × IsOneSoa origin zone soa

-- the apex has an NS
abbrev pub HasNs : DomainName → List (Record RData) → Type 0
HasNs origin zone = list_any (is_apex_ns origin) zone ≡ true

abbrev pub CnamesAlone : DomainName → List (Record RData) → Type 0
CnamesAlone origin zone = IsCnameAlone zone

-- the records of the zone are so
abbrev pub HoldsIn : (DomainName → List (Record RData) → Type 0) → MemoryZone → Type 0
HoldsIn Holds zone = Holds zone.origin (zone_records zone.sets)

-- What is so of a zone is so of it once a request was answered, with whatever answer, and once several were.
abbrev pub Keeps : {V : Type 0} → Ghosts V → (DomainName → List (Record RData) → Type 0) → Type 0
Keeps {V} by Holds =
    ((by_rfc : Bool) (request : TimedRequest) (answer : UpdateResult) (context : SignerContext) (old new : UpdatableZone V)
    → AnswersUpdate by_rfc by old request answer context new → HoldsIn Holds old.zone → HoldsIn Holds new.zone)
    × ((by_rfc : Bool) (requests : List TimedRequest) (old new : UpdatableZone V) → UpdatesAll by_rfc by requests old new
    → HoldsIn Holds old.zone → HoldsIn Holds new.zone)

-- Lists of records that stand for one zone before an update stand for one after it.
abbrev pub UpdatesRespectSameness : Type 0
UpdatesRespectSameness =
    (by_rfc : Bool) (origin : DomainName) (updates zone other : List (Record RData)) → SameZone zone other
    → SameZone (after_updates by_rfc origin zone updates) (after_updates by_rfc origin other updates)

abbrev pub serials_in : RData → List ℕ
serials_in (rdata.SOA soa) = soa.serial ∷ []
serials_in other = []

-- the serials of the SOAs of the apex
abbrev pub apex_serials : DomainName → List (Record RData) → List ℕ
apex_serials origin zone = flat_map (λ q. cond (is_apex_soa origin q) (serials_in q.rdata) []) zone

-- Where the apex has one SOA, the serial after an update that increments it is that which its records left, with one
-- added modulo 2^32 exactly where one of them changed the zone; and such an update is not refused.
abbrev pub SerialSteps : Type 0
SerialSteps =
    (by_rfc : Bool) (origin : DomainName) (updates zone : List (Record RData)) → how_many (is_apex_soa origin) zone ≡ 1
    → (after : List (Record RData)) × (applied by_rfc origin zone updates true ≡ Ok (after, any_change by_rfc origin zone updates))
    × (apex_serials origin after
    ≡ map (λ serial. cond (any_change by_rfc origin zone updates) (next_serial serial) serial) (apex_serials origin (after_updates by_rfc origin zone updates)))
