use Rattle.std.proofs.Common.{◌≡◌, false, subst, sym, ◌∙◌}
use Rattle.std.specs.Option.{option_copied}
use Rattle.std.proofs.lemmas.Bool.{false≢true}
use Rattle.hickory_base.specs.zone_store.ZoneSets.{sets_of}
use Rattle.zone_answers.proofs.lemmas.zones.CutsAbove.{undirected}
use Rattle.zone_answers.proofs.lemmas.zones.Owners.{exists_behind}
use Rattle.zone_answers.specs.representation.FoundRecords.{CutAbove}
use Rattle.zone_answers.specs.Zones.{Zone}
use Rattle.zone_answers.proofs.find.look_up_by.Goals as goal

pub look_above-requires-clause-missing : goal.look_above-requires-clause-missing
look_above-requires-clause-missing c =
    let f : c.is_above.result ≡ false = c.if-is_above.false in
    λ x. false≢true (sym f ∙ c.is_above.ensures.1
    ((exists_behind c.args.zone.sets.now c.args.first.now (option_copied c.node_by-node.result.behind) c.args.zone.origin.now c.requires.least c.requires.qualified c.requires.owners c.node_by-node.ensures.behind).0 x))

pub look_at-requires-clause-exists : goal.look_at-requires-clause-exists
look_at-requires-clause-exists c =
    (exists_behind c.args.zone.sets.now c.args.first.now (option_copied c.node_by-node.result.behind) c.args.zone.origin.now c.requires.least c.requires.qualified c.requires.owners c.node_by-node.ensures.behind).1
    (c.is_above.ensures.0 c.if-is_above.true)

pub returns-in-Some : goal.returns-in-Some
returns-in-Some c =
    let zone : Zone = record { origin = c.args.zone.origin.now; sets = sets_of c.args.zone.sets.now } in
    let name = c.args.first.now.name in
    undirected zone name c.args.record_type c.in-Some.servers.now (c.requires.features.dnames c.in-Some.ensures.1) (subst (CutAbove zone name) c.in-Some.ensures.0 c.requires.above)
