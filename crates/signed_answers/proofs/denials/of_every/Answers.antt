use Rattle.std.proofs.Common.{subst, sym}
use Rattle.std.specs.Option.{option_map}
use Rattle.hickory_base.specs.zone_store.ZoneAnswers.{records_at}
use Rattle.hickory_base.specs.zone_store.ZoneSets.{sets_of}
use Rattle.zone_answers.specs.Zones.{Zone, any_of}
use Rattle.signed_answers.proofs.lemmas.ShownCases.{every_shown, none_shown}
use Rattle.signed_answers.specs.LentSets.{lent_set}
use Rattle.signed_answers.specs.ShownSets.{Shows}
use Rattle.signed_answers.specs.declared.denials.Shown.{Shown}
use Rattle.signed_answers.proofs.denials.of_every.Goals as goal

pub returns-then-is_owned : goal.returns-then-is_owned
returns-then-is_owned c =
    λ origin owners.
    let zone : Zone = record { origin = origin; sets = sets_of c.args.sets.now } in
    subst (λ (d : Shown). Shows zone c.args.first.now.name (any_of (records_at c.args.first.now.name zone.sets)) (option_map lent_set d.name) (option_map lent_set d.wildcard)) (sym c.none.ensures)
    (every_shown zone c.args.first.now.name (records_at c.args.first.now.name zone.sets) (c.is_owned.ensures.some c.if-is_owned.true))

pub returns-else-is_owned : goal.returns-else-is_owned
returns-else-is_owned c =
    λ origin owners.
    let zone : Zone = record { origin = origin; sets = sets_of c.args.sets.now } in
    none_shown zone c.args.first.now.name (records_at c.args.first.now.name zone.sets) c.of_no_data.result (c.is_owned.ensures.none c.if-is_owned.false) (c.of_no_data.ensures origin owners)
