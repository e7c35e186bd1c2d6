use Rattle.std.proofs.Common.{◌≡◌, sym, subst}
use Rattle.std.specs.Prelude.{IfSome}
use Rattle.std.specs.Option.{option_copied}
use Rattle.hickory_base.specs.zone_store.ZoneSets.{sets_of}
use Rattle.zone_answers.specs.representation.FoundRecords.{outcome_of}
use Rattle.zone_replies.specs.Replies.{IsReplied, denial_soa}
use Rattle.zone_answers.specs.Zones.{Sets, Zone}
use Rattle.zone_replies.proofs.lemmas.replies.Finished.{finished_of, zone_is}
use Rattle.zone_answers.proofs.lemmas.replies.Hosts.{on_ok}
use Rattle.zone_replies.proofs.lemmas.replies.Referred.{referred}
use Rattle.zone_replies.proofs.answers.put_within.Goals as goal

pub returns-then-put_at_once : goal.returns-then-put_at_once
returns-then-put_at_once c =
    let sets : Sets = sets_of c.records.result.now in
    let zone : Zone = record { origin = c.origin.result.now; sets = sets } in
    let low = c.args.first.now.name in
    let soa = subst (λ (z : Zone). IfSome (option_copied c.args.soa) (λ rs. rs ≡ denial_soa z)) (sym (zone_is c.args.zone.now c.origin.result.now sets c.origin.ensures c.records.ensures.sets)) c.requires.soa in
    let w = c.put_at_once.ensures c.if-put_at_once.true zone low c.args.name.now c.args.record_type soa in
    finished_of c.args.zone.now c.args.name.now low c.args.record_type c.origin.result.now sets (outcome_of sets low c.in_ok-found.found) w.chain w.ending c.put_at_once.new.reply
    c.origin.ensures c.records.ensures.sets c.requires.spelled c.in_ok-found.ensures w.steps w.ends_in

pub returns-then-put_referral_at_once : goal.returns-then-put_referral_at_once
returns-then-put_referral_at_once c =
    referred c.args.zone.now c.args.name.now c.args.first.now.name c.args.record_type c.origin.result.now (sets_of c.records.result.now) c.in_ok-cut.cut c.args.has c.put_referral_at_once.new.reply
    c.origin.ensures c.records.ensures.sets c.requires.spelled c.requires.features c.in_ok-cut.ensures.cut c.in_ok-cut.ensures.glue (c.put_referral_at_once.ensures c.if-put_referral_at_once.true)

pub returns : goal.returns
returns c =
    let sets : Sets = sets_of c.records.result.now in
    on_ok c.put_chain.result _ _ c.put_chain.ensures
    (λ made. subst (λ (z : Zone). IsReplied z c.args.name.now c.args.record_type c.put_chain.new.reply) (zone_is c.args.zone.now c.origin.result.now sets c.origin.ensures c.records.ensures.sets) made)
