use Rattle.hickory_base.specs.zone_store.ZoneSets.{sets_of}
use Rattle.zone_answers.proofs.lemmas.zones.Redirected.{as_direct, as_redirected}
use Rattle.zone_answers.specs.Zones.{Zone, direct}
use Rattle.zone_answers.proofs.find.look_at.Goals as goal

pub returns-in-Some : goal.returns-in-Some
returns-in-Some c =
    let zone : Zone = record { origin = c.args.zone.origin.now; sets = sets_of c.args.zone.sets.now } in
    as_redirected zone c.args.name.now c.args.record_type c.in_ok-by.field-0 c.in-Some.by c.in-Some.is c.in_ok-by.ensures

pub returns : goal.returns
returns c =
    let zone : Zone = record { origin = c.args.zone.origin.now; sets = sets_of c.args.zone.sets.now } in
    direct (as_direct zone c.args.name.now c.in_ok-by.field-0 c.in_default.is c.in_ok-by.ensures)
    (c.find_existing.ensures zone c.args.name.now (c.cut_at-cut.ensures zone.sets c.requires.above c.requires.servers) c.requires.exists c.requires.wanted c.requires.alias)
