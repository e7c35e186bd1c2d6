use Rattle.std.proofs.Common.{◌≡◌, refl, subst, sym}
use Rattle.std.specs.Option.{option_copied}
use Rattle.hickory_base.specs.zone_store.ZoneSets.{sets_of}
use Rattle.zone_answers.specs.representation.FoundRecords.{IsEncloser, Tells}
use Rattle.zone_answers.specs.Zones.{Exists, ancestor}
use Rattle.signed_answers.proofs.lemmas.ShownNames.{sides_tell}
use Rattle.signed_answers.proofs.enclosers.encloser.Goals as goal

pub returns-then-keep_closest_encloser : goal.returns-then-keep_closest_encloser
returns-then-keep_closest_encloser c =
    λ origin owners.
    let sets = sets_of c.args.sets.now in
    let same : c.in_ok-name.name ≡ c.args.first.now.name = c.in_ok-name.ensures.cases in
    let own : Tells sets c.args.first.now.name (record { before = c.key_before.result; behind = c.key_from.result }) = sides_tell c.args.sets.now c.args.first.now origin (option_copied c.key_before.result) (option_copied c.key_from.result) c.requires.least c.requires.qualified owners c.key_before.ensures c.key_from.ensures in
    let tells : Tells sets c.in_ok-name.name (record { before = c.key_before.result; behind = c.key_from.result }) = subst (λ n. Tells sets n (record { before = c.key_before.result; behind = c.key_from.result })) (sym same) own in
    subst (λ n. IsEncloser sets n c.keep_closest_encloser.new.name) same (c.if-keep_closest_encloser.ensures.found sets tells)

pub returns-else-keep_closest_encloser : goal.returns-else-keep_closest_encloser
returns-else-keep_closest_encloser c =
    λ origin owners.
    let sets = sets_of c.args.sets.now in
    let same : c.in_ok-name.name ≡ c.args.first.now.name = c.in_ok-name.ensures.cases in
    let own : Tells sets c.args.first.now.name (record { before = c.key_before.result; behind = c.key_from.result }) = sides_tell c.args.sets.now c.args.first.now origin (option_copied c.key_before.result) (option_copied c.key_from.result) c.requires.least c.requires.qualified owners c.key_before.ensures c.key_from.ensures in
    let tells : Tells sets c.in_ok-name.name (record { before = c.key_before.result; behind = c.key_from.result }) = subst (λ n. Tells sets n (record { before = c.key_before.result; behind = c.key_from.result })) (sym same) own in
    λ k x. c.if-keep_closest_encloser.ensures.none sets tells refl k (subst (λ n. Exists sets (ancestor n k)) (sym same) x)
