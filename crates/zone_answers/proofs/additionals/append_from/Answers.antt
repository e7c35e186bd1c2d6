use Rattle.std.proofs.Common.{◌≡◌, sym, subst}
use Rattle.std.specs.Option.{option_copied}
use Rattle.hickory_base.specs.zone_store.ZoneSets.{sets_of}
use Rattle.zone_answers.specs.Additionals.{IsHad, glue_of, some_records}
use Rattle.zone_answers.specs.declared.additionals.Source.{Source}
use Rattle.zone_answers.specs.declared.additionals.Source.TheVariants as source
use Rattle.zone_answers.specs.Zones.{Records, Zone}
use Rattle.zone_answers.proofs.lemmas.replies.Hosts.{had_by_answer, on_ok}
use Rattle.zone_answers.proofs.additionals.append_from.Goals as goal

pub returns-in-Glue : goal.returns-in-Glue
returns-in-Glue c =
    let zone : Zone = record { origin = c.args.zone.origin.now; sets = sets_of c.args.zone.sets.now } in
    let rs : Records = some_records (option_copied c.args.glue) in
    let stored : rs ≡ glue_of source.Glue zone c.args.host.now.name c.args.record_type = rw c.in-Glue.is at c.requires.glue in
    on_ok c.append_glue.result _ _ c.append_glue.ensures
    (λ put. record { added = rs; put = put; are = subst (λ (s : Source). IsHad s zone c.args.host.now.name c.args.record_type rs) (sym c.in-Glue.is) stored })

pub returns-in_default : goal.returns-in_default
returns-in_default c =
    let zone : Zone = record { origin = c.args.zone.origin.now; sets = sets_of c.args.zone.sets.now } in
    let glue : Records = some_records (option_copied c.args.glue) in
    on_ok c.append_answer.result _ _ c.append_answer.ensures
    (λ g. record { added = g.added; put = g.put; are = had_by_answer glue zone c.args.host.now.name c.args.record_type c.args.source g.added c.in_default.not-Glue c.requires.glue g.are })
