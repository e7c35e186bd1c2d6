-- What leads from one version of a zone to the next (RFC 1995 sections 2 and 4): the records that go, and those that
-- come, each beside the SOA of its version.
use Rattle.std.specs.Prelude.{◌≡◌, ◌++◌, ◌∷◌, ◌==◌, ◌&&◌, ℕ, Bool, false, true, not, List, [], filter, Option, Some, None}
use Rattle.std.specs.List.{list_any}
use Rattle.wire_messages.specs.Numbers.{type_soa}
use Rattle.wire_names.specs.rr.domain.DomainName.{DomainName}
use Rattle.wire_messages.specs.declared.rr.rdata.RData.{RData}
use Rattle.wire_messages.specs.declared.rr.record.Record.{Record}
use Rattle.hickory_base.specs.zone_store.ZoneAnswers.{MemoryZone}
use Rattle.hickory_base.specs.zone_store.ZoneRecords.{rrset}
use Rattle.hickory_base.specs.zone_store.ZoneSets.{zone_records}
use Rattle.hickory_store.specs.updates.Identity.{SameZone, same_record, ttl_at}
use Rattle.hickory_store.specs.updates.UpdateAnswers.{is_apex_soa}
use Rattle.zone_differences.specs.declared.difference.Difference.{Difference}

-- the same TTL, or none in both
abbrev pub same_ttl : Option ℕ → Option ℕ → Bool
same_ttl None None = true
same_ttl None (Some other) = false
same_ttl (Some ttl) None = false
same_ttl (Some ttl) (Some other) = ttl == other

-- The record of this identity is in one of the versions alone, or has another TTL in the other. The SOA of the apex
-- stands by itself.
abbrev pub is_changed : DomainName → List (Record RData) → List (Record RData) → Record RData → Bool
is_changed origin old new r = not (is_apex_soa origin r) && not (same_ttl (ttl_at old r) (ttl_at new r))

-- The difference between two versions of the zone of this origin, each with one SOA. Those that go are the records of
-- the old version, and those that come the records of the new one, that are not in the other with the same TTL; in
-- whatever order.
pub record IsDifference (origin : DomainName) (old new : List (Record RData)) (difference : Difference) : Type 0 where
  pub old_soa : rrset old origin type_soa ≡ difference.old_soa ∷ []
  pub new_soa : rrset new origin type_soa ≡ difference.new_soa ∷ []
  pub deleted : SameZone difference.deleted (filter (is_changed origin old new) old)
  pub added : SameZone difference.added (filter (is_changed origin old new) new)

-- the difference between two zones of one origin
abbrev pub IsDifferenceOf : MemoryZone → MemoryZone → Difference → Type 0
IsDifferenceOf old new difference = (new.origin ≡ old.origin) × IsDifference old.origin (zone_records old.sets) (zone_records new.sets) difference

-- the zone without the records that go
abbrev pub without : List (Record RData) → List (Record RData) → List (Record RData)
without deleted zone = filter (λ q. not (list_any (same_record q) deleted)) zone

-- What the client has once it has applied the difference to what it had (RFC 1995 section 4): the records that go are
-- taken out, and those that come are put in.
abbrev pub applied : Difference → List (Record RData) → List (Record RData)
applied difference zone = without (difference.old_soa ∷ difference.deleted) zone ++ difference.new_soa ∷ difference.added

-- several differences, one after another
abbrev pub applied_all : List Difference → List (Record RData) → List (Record RData)
applied_all [] zone = zone
applied_all (difference ∷ differences) zone = applied_all differences (applied difference zone)

-- ---- laws

-- Whoever applies the difference to the old version has the new one.
abbrev pub AppliedLeads : Type 0
AppliedLeads = (origin : DomainName) (old new : List (Record RData)) (difference : Difference) → IsDifference origin old new difference → SameZone (applied difference old) new

-- Lists that stand for one zone stand for one zone once differences were applied to both.
abbrev pub AppliedRespects : Type 0
AppliedRespects = (differences : List Difference) (zone other : List (Record RData)) → SameZone zone other → SameZone (applied_all differences zone) (applied_all differences other)
