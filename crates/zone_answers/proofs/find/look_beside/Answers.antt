use Rattle.hickory_base.specs.zone_store.ZoneSets.{sets_of}
use Rattle.zone_answers.proofs.lemmas.zones.Outcomes.{nothing, within}
use Rattle.zone_answers.proofs.lemmas.zones.Redirected.{nothing_redirects}
use Rattle.zone_answers.specs.representation.FoundRecords.{IsEncloser}
use Rattle.zone_answers.specs.Zones.{Zone, direct}
use Rattle.zone_answers.proofs.find.look_beside.Goals as goal

pub returns-in_default : goal.returns-in_default
returns-in_default c =
    let zone : Zone = record { origin = c.args.zone.origin.now; sets = sets_of c.args.zone.sets.now } in
    let found = c.in_ok-encloser.ensures c.args.zone.origin.now c.requires.owners in
    direct (nothing_redirects zone c.args.first.now.name (rw c.in_default.is at found)) (nothing zone c.args.first.now.name c.args.record_type (rw c.in_default.is at found))

pub found_below-requires-clause-within : goal.found_below-requires-clause-within
found_below-requires-clause-within c =
    let zone : Zone = record { origin = c.args.zone.origin.now; sets = sets_of c.args.zone.sets.now } in
    let found = c.in_ok-encloser.ensures c.args.zone.origin.now c.requires.owners in
    let e : IsEncloser zone.sets c.args.first.now.name c.in-Some.encloser = rw c.in-Some.is at found in
    within zone c.args.first.now.name c.in-Some.encloser c.requires.owners c.requires.within e

pub returns : goal.returns
returns c =
    let zone : Zone = record { origin = c.args.zone.origin.now; sets = sets_of c.args.zone.sets.now } in
    let found = c.in_ok-encloser.ensures c.args.zone.origin.now c.requires.owners in
    let e : IsEncloser zone.sets c.args.first.now.name c.in-Some.encloser = rw c.in-Some.is at found in
    c.found_below.ensures c.args.first.now.name c.args.record_type e c.requires.missing c.requires.above (c.in_ok-wild.ensures c.args.zone.origin.now c.requires.owners)
