-- What changed at the names that the update speaks of is what changed.
use Rattle.std.proofs.Common.{◌≡◌, ◌∙◌, ◌∷◌, [], List, ap, sym, subst, true}
use Rattle.std.specs.List.{flat_map}
use Rattle.std.specs.Option.{IfSome}
use Rattle.std.proofs.lemmas.List.Elements.{recursion_from_All}
use Rattle.wire_names.specs.rr.domain.DomainName.{DomainName}
use Rattle.hickory_base.specs.zone_store.ZoneRecords.{rrset}
use Rattle.hickory_base.specs.zone_store.ZoneSets.{zone_records}
use Rattle.hickory_store.proofs.lemmas.updates.ApexNs.{Records, Resource}
use Rattle.zone_differences.specs.Standing.{are_among, came, went}
use Rattle.zone_differences.specs.declared.names.NameRecords.{NameRecords}
use Rattle.zone_differences.proofs.Compared.{is_difference}
use Rattle.zone_differences.proofs.Staying.{origin_kept, stays}
use Rattle.zone_differences.proofs.before.Before.until.Goals as goal

pub returns : goal.returns
returns c = λ old updates before made.
    let identity = c.identities.ensures.records in
    let new = c.args.zone.now in
    let es : List NameRecords = c.args.self.names.items in
    let records : Records = zone_records new.sets in
    let kept : new.origin ≡ old.origin = origin_kept old new updates made in
    let soa : rrset records old.origin 6 ≡ c.in-Some.new_soa ∷ [] =
    ap (λ (o : DomainName). rrset records o 6) (sym kept) ∙ subst (λ o. IfSome o (λ (s : Resource). rrset records new.origin 6 ≡ s ∷ [])) c.in-Some.is c.in_ok-new_soa.ensures in
    let go : c.in_ok-deleted.deleted ≡ flat_map (went old.origin records) es =
    c.in_ok-deleted.ensures.deleted
    ∙ ap (λ (o : DomainName). flat_map (went o records) c.deref.result.now) kept
    ∙ ap (λ (l : List NameRecords). flat_map (went old.origin records) l) c.deref.ensures.value in
    let come : c.in_ok-deleted.added ≡ flat_map (came old.origin records) es =
    c.in_ok-deleted.ensures.added
    ∙ ap (λ (o : DomainName). flat_map (came o records) c.deref.result.now) kept
    ∙ ap (λ (l : List NameRecords). flat_map (came old.origin records) l) c.deref.ensures.value in (
      kept,
      is_difference identity old.origin (zone_records old.sets) records es
          (stays identity old new updates es before.apex (recursion_from_All (λ (r : Resource). are_among es r.name ≡ true) updates before.others) made)
          (record { old_soa = c.args.self.soa; deleted = c.in_ok-deleted.deleted; new_soa = c.in-Some.new_soa; added = c.in_ok-deleted.added })
          before.standing before.soa soa go come,
    )
