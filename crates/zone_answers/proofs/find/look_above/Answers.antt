use Rattle.std.proofs.Common.{None, inr, subst, sym}
use Rattle.std.specs.Option.{option_copied}
use Rattle.hickory_base.specs.zone_store.ZoneSets.{sets_of}
use Rattle.zone_answers.proofs.lemmas.zones.Missing.{answered_bare, none_wild}
use Rattle.zone_answers.proofs.lemmas.zones.Wild.{told}
use Rattle.zone_answers.proofs.lemmas.zones.WildBeside.{answered_wild}
use Rattle.zone_answers.specs.representation.FoundRecords.{IsBare}
use Rattle.zone_answers.specs.Zones.{Answers, Exists, Zone, ancestor}
use Rattle.zone_answers.proofs.find.look_above.Goals as goal

pub returns-then-is_bare : goal.returns-then-is_bare
returns-then-is_bare c =
    let zone : Zone = record { origin = c.args.zone.origin.now; sets = sets_of c.args.zone.sets.now } in
    let name = c.args.first.now.name in
    let behind = option_copied c.args.behind in
    let bare : IsBare c.args.zone.has name behind = c.is_bare.ensures c.if-is_bare.true in
    let x : Exists zone.sets (ancestor name 1) =
    told c.args.zone.sets.now c.args.first.now behind c.args.zone.origin.now (ancestor name 1) c.args.record_type None c.requires.least c.requires.qualified c.requires.owners c.requires.behind
    (none_wild zone name c.args.record_type c.args.zone.has behind c.requires.features bare) (inr bare.used) in
    subst (Answers zone name c.args.record_type) (sym (c.found_missing.ensures zone.sets name))
    (answered_bare zone name c.args.record_type c.args.zone.has behind (option_copied c.args.above) c.requires.features bare c.requires.missing x c.requires.above)

pub returns-in-Some : goal.returns-in-Some
returns-in-Some c =
    let zone : Zone = record { origin = c.args.zone.origin.now; sets = sets_of c.args.zone.sets.now } in
    let name = c.args.first.now.name in
    subst (Answers zone name c.args.record_type) (sym (c.found_wild_answer.ensures zone.sets name))
    (answered_wild zone name c.args.record_type c.args.before c.in-Some.records c.requires.qualified c.requires.owners c.requires.before c.in-Some.ensures.2
    c.args.zone.has (option_copied c.args.above) c.requires.features c.in-Some.ensures.0 c.in-Some.ensures.1 c.requires.missing c.requires.above)
