use Rattle.std.proofs.Common.{sym, ◌∙◌}
use Rattle.std.proofs.lemmas.Bool.{false≢true}
use Rattle.hickory_base.specs.zone_store.ZoneSets.{sets_of}
use Rattle.zone_answers.specs.Zones.{Exists, Zone}
use Rattle.signed_answers.proofs.lemmas.ShownCases.{lacking_alone, wild_lacking_shown}
use Rattle.signed_answers.proofs.denials.of_no_data.Goals as goal

pub returns-then-exists : goal.returns-then-exists
returns-then-exists c =
    λ origin owners.
    let zone : Zone = record { origin = origin; sets = sets_of c.args.sets.now } in
    lacking_alone zone c.args.first.now.name c.of_name.result ((c.exists.ensures origin owners).0 c.if-exists.true) c.of_name.ensures

pub returns-else-exists : goal.returns-else-exists
returns-else-exists c =
    λ origin owners.
    let zone : Zone = record { origin = origin; sets = sets_of c.args.sets.now } in
    let none : ¬ (Exists zone.sets c.args.first.now.name) = λ x. false≢true (sym c.if-exists.false ∙ (c.exists.ensures origin owners).1 x) in
    wild_lacking_shown zone c.args.first.now.name c.of_missing.result none (c.of_missing.ensures origin owners none)
