use Rattle.std.proofs.Common.{subst}
use Rattle.hickory_base.specs.zone_store.ZoneSets.{sets_of}
use Rattle.zone_answers.specs.representation.ChainEnds.{ending_of}
use Rattle.zone_answers.specs.representation.FoundRecords.{outcome_of}
use Rattle.zone_replies.specs.Replies.{EndsIn}
use Rattle.zone_answers.specs.Zones.{Records, Zone}
use Rattle.zone_replies.proofs.lemmas.replies.Finished.{finished_at_once}
use Rattle.zone_answers.proofs.lemmas.replies.Hosts.{on_ok}
use Rattle.zone_replies.proofs.answers.put_chain.Goals as goal

pub returns-in-Some : goal.returns-in-Some
returns-in-Some c =
    let zone : Zone = record { origin = c.args.zone.origin.now; sets = sets_of c.args.zone.sets.now } in
    let low = c.args.first.now.name in
    let end = ending_of c.in-Some.link.end in
    let reply = c.put_reply.new.reply in
    on_ok c.put_reply.result _ _ c.put_reply.ensures
    (λ made. finished_at_once zone c.args.name.now low c.args.record_type (outcome_of zone.sets low c.args.found) c.in-Some.link.answers.now end reply c.requires.spelled c.requires.found
    (c.in-Some.ensures zone.sets low c.args.name.now c.args.record_type) (subst (λ (rs : Records). EndsIn zone rs end reply) c.lent-answers.ensures made))
