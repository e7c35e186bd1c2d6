use Rattle.std.proofs.Common.{◌≡◌, ◌∙◌, ap}
use Rattle.std.specs.Option.{option_copied}
use Rattle.hickory_base.specs.zone_store.ZoneSets.{sets_of}
use Rattle.zone_answers.proofs.lemmas.zones.Missing.{encloser}
use Rattle.zone_answers.proofs.lemmas.zones.Outcomes.{within}
use Rattle.zone_answers.proofs.lemmas.zones.Wild.{told}
use Rattle.zone_answers.specs.representation.FoundRecords.{IsEncloser}
use Rattle.zone_answers.specs.Zones.{Zone, ancestor}
use Rattle.zone_answers.proofs.find.look_above_by_name.Goals as goal

pub find_wild-requires-clause-qualified : goal.find_wild-requires-clause-qualified
find_wild-requires-clause-qualified c = ap (λ d. d.is_fqdn) c.remove_first_label.ensures ∙ ap (λ d. d.is_fqdn) c.in_ok-parent.ensures.cases ∙ c.requires.qualified

pub found_below-requires-clause-within : goal.found_below-requires-clause-within
found_below-requires-clause-within c =
    let zone : Zone = record { origin = c.args.zone.origin.now; sets = sets_of c.args.zone.sets.now } in
    let name = c.args.first.now.name in
    let parent = c.remove_first_label.new.self in
    let up : parent ≡ ancestor name 1 = c.remove_first_label.ensures ∙ ap (λ d. ancestor d 1) c.in_ok-parent.ensures.cases in
    within zone name parent c.requires.owners c.requires.within
    (encloser zone.sets name parent up c.requires.missing
    (told c.args.zone.sets.now c.args.first.now (option_copied c.args.behind) c.args.zone.origin.now parent c.args.record_type c.in_ok-wild.wild c.requires.least c.requires.qualified c.requires.owners c.requires.behind
    (c.in_ok-wild.ensures c.args.zone.origin.now c.requires.owners) (c.is_told.ensures c.if-is_told.true)))

pub returns-then-is_told : goal.returns-then-is_told
returns-then-is_told c =
    let zone : Zone = record { origin = c.args.zone.origin.now; sets = sets_of c.args.zone.sets.now } in
    let name = c.args.first.now.name in
    let parent = c.remove_first_label.new.self in
    let up : parent ≡ ancestor name 1 = c.remove_first_label.ensures ∙ ap (λ d. ancestor d 1) c.in_ok-parent.ensures.cases in
    let wild = c.in_ok-wild.ensures c.args.zone.origin.now c.requires.owners in
    let e : IsEncloser zone.sets name parent = encloser zone.sets name parent up c.requires.missing
    (told c.args.zone.sets.now c.args.first.now (option_copied c.args.behind) c.args.zone.origin.now parent c.args.record_type c.in_ok-wild.wild c.requires.least c.requires.qualified c.requires.owners c.requires.behind wild
    (c.is_told.ensures c.if-is_told.true)) in
    c.found_below.ensures name c.args.record_type e c.requires.missing c.requires.above wild
