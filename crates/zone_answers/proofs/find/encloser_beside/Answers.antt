use Rattle.std.proofs.Common.{◌≡◌, refl, subst, sym}
use Rattle.hickory_base.specs.zone_store.ZoneSets.{sets_of}
use Rattle.zone_answers.specs.representation.FoundRecords.{IsEncloser, Tells}
use Rattle.zone_answers.specs.Zones.{Exists, ancestor}
use Rattle.zone_answers.proofs.find.encloser_beside.Goals as goal

pub returns-then-keep_closest_encloser : goal.returns-then-keep_closest_encloser
returns-then-keep_closest_encloser c =
    λ origin owners.
    let sets = sets_of c.args.sets.now in
    let same : c.in_ok-name.name ≡ c.args.first.now.name = c.in_ok-name.ensures.cases in
    let tells : Tells sets c.in_ok-name.name c.beside.result = subst (λ n. Tells sets n c.beside.result) (sym same) (c.beside.ensures origin owners) in
    subst (λ n. IsEncloser sets n c.keep_closest_encloser.new.name) same (c.if-keep_closest_encloser.ensures.found sets tells)

pub returns-else-keep_closest_encloser : goal.returns-else-keep_closest_encloser
returns-else-keep_closest_encloser c =
    λ origin owners.
    let sets = sets_of c.args.sets.now in
    let same : c.in_ok-name.name ≡ c.args.first.now.name = c.in_ok-name.ensures.cases in
    let tells : Tells sets c.in_ok-name.name c.beside.result = subst (λ n. Tells sets n c.beside.result) (sym same) (c.beside.ensures origin owners) in
    λ k x. c.if-keep_closest_encloser.ensures.none sets tells refl k (subst (λ n. Exists sets (ancestor n k)) (sym same) x)
