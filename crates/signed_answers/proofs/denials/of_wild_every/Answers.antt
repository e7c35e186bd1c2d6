use Rattle.std.proofs.Common.{◌≡◌, ap, subst, ◌∙◌, ◌<◌, [], length}
use Rattle.hickory_base.specs.zone_store.ZoneAnswers.{records_at}
use Rattle.hickory_base.specs.zone_store.ZoneSets.{sets_of}
use Rattle.wire_names.specs.rr.domain.DomainName.{DomainName}
use Rattle.zone_answers.specs.Zones.{Zone}
use Rattle.signed_answers.proofs.lemmas.ShownCases.{wild_every_shown, wild_none_shown}
use Rattle.signed_answers.proofs.denials.of_wild_every.Goals as goal

pub returns-then-is_owned : goal.returns-then-is_owned
returns-then-is_owned c =
    λ origin owners.
    let zone : Zone = record { origin = origin; sets = sets_of c.args.sets.now } in
    let same : c.new-start.result.name ≡ c.args.source.now.name = ap (λ k. k.name) c.new-start.ensures ∙ c.in_ok-wild.ensures.cases in
    wild_every_shown zone c.args.first.now.name (records_at c.args.source.now.name zone.sets) c.of_name.result (subst (λ (d : DomainName). 0 < length (records_at d zone.sets)) same (c.is_owned.ensures.some c.if-is_owned.true)) c.of_name.ensures

pub returns : goal.returns
returns c =
    λ origin owners.
    let zone : Zone = record { origin = origin; sets = sets_of c.args.sets.now } in
    let same : c.new-start.result.name ≡ c.args.source.now.name = ap (λ k. k.name) c.new-start.ensures ∙ c.in_ok-wild.ensures.cases in
    wild_none_shown zone c.args.first.now.name (records_at c.args.source.now.name zone.sets) c.of_no_data.result (subst (λ (d : DomainName). records_at d zone.sets ≡ []) same (c.is_owned.ensures.none c.if-is_owned.false)) (c.of_no_data.ensures origin owners)
