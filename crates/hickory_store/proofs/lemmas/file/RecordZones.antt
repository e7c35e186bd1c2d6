-- Zones of records.
use Rattle.std.proofs.Common.{◌≡◌, ◌∙◌, ap, sym, refl, subst, ℕ, arith, ◌<◌, ◌≤◌, ◌-◌, drop, get_or, length, take, [], ◌∷◌, ◌++◌, List, None}
use Rattle.std.specs.Prelude.{◌↔◌, IsTrue}
use Rattle.std.specs.List.{AllByRecursion}
use Rattle.std.specs.List.Sorted.{IsStrictlySortedBy}
use Rattle.std.specs.Map.{keys_of}
use Rattle.std.proofs.lemmas.List.{take_all}
use Rattle.wire_names.specs.rr.domain.DomainName.{DomainName}
use Rattle.wire_names.specs.rr.domain.NameOrder.{lower_name}
use Rattle.wire_messages.specs.rr.RecordSameness.{SameRecord}
use Rattle.wire_messages.specs.rr.RrKeys.{key_cmp}
use Rattle.wire_messages.specs.declared.rr.rdata.RData.{RData}
use Rattle.wire_messages.specs.declared.rr.record.Record.{Record}
use Rattle.wire_messages.specs.declared.rr.rr_key.RrKey.{RrKey}
use Rattle.hickory_base.specs.zone_store.ZoneRecords.{existing}
use Rattle.hickory_base.specs.zone_store.ZoneSets.{IsWellTyped, IsZone}
use Rattle.hickory_base.proofs.lemmas.zone_store.DistinctRecords.{all_from}
use Rattle.hickory_store.specs.file.FirstRecords.{first_records}
use Rattle.hickory_store.specs.updates.Identity.{same_record}
use Rattle.hickory_store.specs.file.RecordZones.{AreOfZone, HasOne, IsRecordFault, IsRecordsFault, IsSoaFault, soa_set, soas}
use Rattle.hickory_store.specs.representation.ZoneSets.{HoldsSets}
use Rattle.hickory_store.specs.declared.file.zones.RecordFault.{RecordFault}
use Rattle.hickory_store.specs.declared.file.zones.RecordsError.{RecordsError}
use Rattle.hickory_store.specs.declared.file.zones.RecordsError.TheVariants as error
use Rattle.hickory_store.proofs.lemmas.file.FirstRecords.{first_distinct, first_hold}
use Rattle.hickory_store.proofs.lemmas.file.SetsOfRecords.{zone_of}

abbrev Records : Type 0
Records = List (Record RData)

typed : (apex : DomainName) (rs : Records) → AreOfZone apex rs → AllByRecursion IsWellTyped rs
typed apex rs h = all_from (λ r. IsRecordFault apex r None) IsWellTyped (λ r f is. (f.1 is).1) rs h

-- sets that hold each record once make a zone
pub is_zone : ((a b : Record RData) → IsTrue (same_record a b) ↔ SameRecord a b) → (apex : DomainName) (rs : Records) → AreOfZone apex rs → (S : List (RrKey × Records)) → IsStrictlySortedBy key_cmp (keys_of S)
    → HoldsSets (first_records rs) S → IsZone S
is_zone identity apex rs h S sorted holds = zone_of (first_records rs) (first_distinct identity rs) (first_hold IsWellTyped rs (typed apex rs h)) S sorted holds

-- the first of some records and the others
pub front_of : (xs : Records) (x : Record RData) → 1 ≤ length xs → x ≡ get_or xs 0 x → xs ≡ x ∷ take (length xs - 1) (drop 1 xs)
front_of [] x least is = absurd (omega (arith, least))
front_of (y ∷ ys) x least is =
    let count : length (y ∷ ys) - 1 ≡ length ys = omega (arith) in
    ap (λ (z : Record RData). z ∷ ys) (sym is) ∙ ap (λ (zs : Records). x ∷ zs) (sym (ap (λ (n : ℕ). take n ys) count ∙ take_all (length ys) ys (omega (arith))))

-- a front of the records and one more, of which none is wrong
pub more_right : (apex : DomainName) (front : Records) (r : Record RData) → AreOfZone apex front → IsRecordFault apex r None → AreOfZone apex (front ++ r ∷ [])
more_right apex [] r h f = (f, tt)
more_right apex (x ∷ xs) r h f = (h.0, more_right apex xs r h.1 f)

-- ---- how many SOA records there are

one_existing : (xs : Records) → HasOne (existing xs) → length xs ≡ 1
one_existing [] h = absurd (h)
one_existing (x ∷ xs) h = h

none_existing : (xs : Records) → IsSoaFault (existing xs) error.NoSoa → xs ≡ []
none_existing [] h = refl
none_existing (x ∷ xs) h = absurd (h)

several_existing : (xs : Records) → IsSoaFault (existing xs) error.SeveralSoas → 1 < length xs
several_existing [] h = absurd (h)
several_existing (x ∷ []) h = absurd (h refl)
several_existing (x ∷ y ∷ ys) h = omega (arith)

no_record : {P : Type 0} (xs : Records) (number : ℕ) (fault : RecordFault) → IsSoaFault (existing xs) (error.Record number fault) → P
no_record [] number fault h = absurd (h)
no_record (x ∷ xs) number fault h = absurd (h)

pub one_soa : (apex : DomainName) (rs : Records) (S : List (RrKey × Records)) → HoldsSets (first_records rs) S → HasOne (soa_set apex S) → length (soas apex rs) ≡ 1
one_soa apex rs S holds h = one_existing (soas apex rs) (subst HasOne (holds (lower_name apex) 6) h)

pub soa_fault : (apex : DomainName) (rs : Records) (S : List (RrKey × Records)) → HoldsSets (first_records rs) S → AreOfZone apex rs → (e : RecordsError) → IsSoaFault (soa_set apex S) e → IsRecordsFault apex rs e
soa_fault apex rs S holds right e h = by e (subst (λ s. IsSoaFault s e) (holds (lower_name apex) 6) h) where
  by : (e : RecordsError) → IsSoaFault (existing (soas apex rs)) e → IsRecordsFault apex rs e
  by error.NoSoa h = (right, none_existing (soas apex rs) h)
  by error.SeveralSoas h = (right, several_existing (soas apex rs) h)
  by error.Memory h = tt
  by (error.Record number fault) h = no_record (soas apex rs) number fault h
