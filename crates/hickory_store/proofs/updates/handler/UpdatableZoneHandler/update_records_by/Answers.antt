-- What is committed is a zone: no record is there twice, and what is of type SOA has the data of one.
use Rattle.std.proofs.Common.{◌≡◌, sym, subst, refl, Bool, false, Option, Some, Ok}
use Rattle.std.specs.Option.{MatchOption}
use Rattle.wire_names.specs.rr.domain.DomainName.{DomainName}
use Rattle.hickory_base.specs.zone_store.ZoneSets.{zone_records}
use Rattle.hickory_store.specs.updates.NameUpdates.{AreNow, ByName}
use Rattle.hickory_store.specs.updates.UpdateAnswers.{IsOutcome, Outcome, applied}
use Rattle.hickory_store.proofs.lemmas.updates.ApexNs.{Records}
use Rattle.hickory_store.proofs.lemmas.updates.UpdatedZones.{all_accepted, applied_good, some_part, zone_typed}
use Rattle.hickory_store.proofs.updates.handler.UpdatableZoneHandler.update_records_by.Goals as goal

module _ (by_rfc : Bool) (origin : DomainName) (zone updates : Records) (increments : Bool) where
  -- the touched names, and of all others what the zone has, are the records of the outcome
  abbrev Leaves : ByName → Type 0
  Leaves touched = (records : Records) × AreNow zone touched records × (applied by_rfc origin zone updates increments ≡ Ok (records, increments))

  leaves : (o : Option ByName) (touched : ByName) → o ≡ Some touched → MatchOption o (applied by_rfc origin zone updates increments ≡ Ok (zone, false)) Leaves → Leaves touched
  leaves o touched e h = some_part o touched (applied by_rfc origin zone updates increments ≡ Ok (zone, false)) Leaves e h

pub commit_changes-requires-clause-ordered : goal.commit_changes-requires-clause-ordered
commit_changes-requires-clause-ordered g c = c.in_ok-changes-in-Some.ensures.ordered

pub commit_changes-requires-clause-makes : goal.commit_changes-requires-clause-makes
commit_changes-requires-clause-makes g c =
    let zone = c.self.inside.in_memory in
    let left = leaves c.args.by_rfc zone.origin (zone_records zone.sets) c.args.updates.now c.args.increments_serial c.in_ok-touched.touched c.in-Some.touched c.in-Some.is c.in_ok-touched.ensures in
    let good = applied_good c.identities.ensures.records c.args.by_rfc zone.origin c.args.updates.now (zone_records zone.sets) left.0
    (all_accepted c.args.self.now.zone.origin c.args.updates.now c.requires c.read_serials.ensures) c.records.ensures.distinct (zone_typed zone.sets c.records.ensures.zone)
    c.args.increments_serial c.args.increments_serial left.2 in
    (left.0, good.0, good.1, c.in_ok-changes-in-Some.ensures.makes left.0 left.1)

pub returns-in_ok-commit_changes-in-Some-clause-zone : goal.returns-in_ok-commit_changes-in-Some-clause-zone
returns-in_ok-commit_changes-in-Some-clause-zone g c =
    let zone = c.self.inside.in_memory in
    let left = leaves c.args.by_rfc zone.origin (zone_records zone.sets) c.args.updates.now c.args.increments_serial c.in_ok-touched.touched c.in-Some.touched c.in-Some.is c.in_ok-touched.ensures in
    let makes = c.in_ok-changes-in-Some.ensures.makes left.0 left.1 in
    let done = c.in_ok-commit_changes-in-Some.ensures.done left.0 makes in
    let rrsets = c.in_ok-commit_changes-in-Some.ensures.rrsets left.0 makes in
    rw (← c.self.view_is)
    (subst (λ (outcome : Outcome). IsOutcome outcome (zone_records c.commit_changes.new.zone.sets) c.args.increments_serial) (sym left.2) (done, refl, rrsets), c.in_ok-commit_changes-in-Some.ensures.others)
