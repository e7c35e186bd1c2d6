-- The copy has the zone's sets.
use Rattle.std.proofs.Common.{◌≡◌, ◌∙◌, ap, subst, sym}
use Rattle.hickory_base.specs.zone_store.ZoneSets.{IsZone, sets_of}
use Rattle.hickory_store.specs.updates.UpdatableZone.{UpdatableZone}
use Rattle.hickory_server.specs.declared.server.no_keys.NoKeys.{NoKeys}
use Rattle.durable_updates.proofs.Judging.{same_sets}
use Rattle.zone_import.proofs.copies.copy_of.Goals as goal

pub new-copy-requires : goal.new-copy-requires
new-copy-requires c =
    let sets : sets_of c.in-Ok.sets ≡ c.args.zone.now.sets = same_sets c.records.result.now.entries c.in-Ok.sets.entries c.in-Ok.ensures.cases ∙ c.records.ensures.sets in
    subst IsZone (sym sets) c.records.ensures.zone

pub returns : goal.returns
returns c =
    let sets : sets_of c.in-Ok.sets ≡ c.args.zone.now.sets = same_sets c.records.result.now.entries c.in-Ok.sets.entries c.in-Ok.ensures.cases ∙ c.records.ensures.sets in
    ap (λ (z : UpdatableZone NoKeys). z.zone) c.new.ensures ∙ c.new-copy.ensures
    ∙ (λ i. record {
      origin = (c.in_ok-origin.ensures.cases ∙ c.origin.ensures) i;
      zone_type = c.zone_type-kind.ensures i;
      axfr_policy = c.axfr_policy-policy.ensures i;
      sets = sets i;
    })
