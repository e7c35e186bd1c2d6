use Rattle.std.proofs.Common.{◌≡◌, Option, None, Some, ap, refl, subst}
use Rattle.std.specs.Option.{option_copied}
use Rattle.hickory_base.specs.zone_store.ZoneSets.{sets_of}
use Rattle.zone_answers.specs.declared.find.Found.{Found}
use Rattle.zone_answers.proofs.lemmas.zones.CutsAbove.{above_encloser, refers}
use Rattle.zone_answers.proofs.lemmas.zones.Outcomes.{below_encloser, is_above}
use Rattle.zone_answers.proofs.lemmas.zones.Redirected.{as_direct, as_redirected, from_encloser}
use Rattle.zone_answers.specs.representation.FoundRecords.{CutAbove, WildFound}
use Rattle.zone_answers.specs.Zones.{Zone, direct}
use Rattle.zone_answers.proofs.find.found_below.Goals as goal

pub returns-in-Some : goal.returns-in-Some
returns-in-Some c =
    λ name t e missing cut w.
    let zone : Zone = record { origin = c.args.zone.origin.now; sets = sets_of c.args.zone.sets.now } in
    as_redirected zone name t c.in_ok-by.field-0 c.in-Some.by c.in-Some.is
    (from_encloser zone name c.args.encloser.now c.in_ok-by.field-0 e missing c.in_ok-by.ensures)

pub returns-in-Some-above : goal.returns-in-Some-above
returns-in-Some-above c =
    λ name t e missing cut w.
    let zone : Zone = record { origin = c.args.zone.origin.now; sets = sets_of c.args.zone.sets.now } in
    let is : option_copied c.args.above ≡ Some c.in-Some-above.cut.now = ap option_copied c.in-Some-above.is in
    direct (as_direct zone name c.in_ok-by.field-0 c.in_default.is (from_encloser zone name c.args.encloser.now c.in_ok-by.field-0 e missing c.in_ok-by.ensures))
    (refers zone name t c.in-Some-above.cut.now (subst (CutAbove zone name) is cut))

pub returns-in-Some-wild : goal.returns-in-Some-wild
returns-in-Some-wild c =
    λ name t e missing cut w.
    let zone : Zone = record { origin = c.args.zone.origin.now; sets = sets_of c.args.zone.sets.now } in
    let uncut : option_copied c.args.above ≡ None = ap option_copied c.in_default-above.is in
    direct (as_direct zone name c.in_ok-by.field-0 c.in_default.is (from_encloser zone name c.args.encloser.now c.in_ok-by.field-0 e missing c.in_ok-by.ensures))
    (below_encloser zone name c.args.encloser.now t None (Some c.in-Some-wild.found) e missing refl
    (above_encloser zone name c.args.encloser.now e (is_above zone.sets name c.args.encloser.now e missing) (subst (CutAbove zone name) uncut cut))
    (subst (λ (o : Option Found). WildFound zone.sets c.args.encloser.now t o) c.in-Some-wild.is w))

pub returns-in-None : goal.returns-in-None
returns-in-None c =
    λ name t e missing cut w.
    let zone : Zone = record { origin = c.args.zone.origin.now; sets = sets_of c.args.zone.sets.now } in
    let uncut : option_copied c.args.above ≡ None = ap option_copied c.in_default-above.is in
    direct (as_direct zone name c.in_ok-by.field-0 c.in_default.is (from_encloser zone name c.args.encloser.now c.in_ok-by.field-0 e missing c.in_ok-by.ensures))
    (below_encloser zone name c.args.encloser.now t None None e missing refl
    (above_encloser zone name c.args.encloser.now e (is_above zone.sets name c.args.encloser.now e missing) (subst (CutAbove zone name) uncut cut))
    (subst (λ (o : Option Found). WildFound zone.sets c.args.encloser.now t o) c.in-None.is w))
