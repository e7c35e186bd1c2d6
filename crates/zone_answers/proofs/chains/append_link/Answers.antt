use Rattle.std.proofs.Common.{[], refl, sym}
use Rattle.std.proofs.lemmas.List.{append-nil}
use Rattle.hickory_base.specs.zone_store.ZoneSets.{sets_of}
use Rattle.hickory_base.specs.zone_store.ZoneAnswers.{records_at}
use Rattle.zone_answers.specs.Chains.{not_yet, owned_by}
use Rattle.zone_answers.proofs.lemmas.replies.AllPut.{all_linked, all_owned_linked, linked, redirected_linked}
use Rattle.zone_answers.proofs.lemmas.zones.Outcomes.{if_ok}
use Rattle.zone_answers.specs.Zones.{Records, answer, no_data, no_name, referral, wild_answer}
use Rattle.zone_answers.proofs.chains.append_link.Goals as goal

pub returns-in_ok-append_once-in-Answer : goal.returns-in_ok-append_once-in-Answer
returns-in_ok-append_once-in-Answer c zone here says =
    let rs : Records = c.in-Answer.records.now in
    linked zone c.args.record_type c.args.name.now c.args.first.now.name c.requires.spelled c.args.answers.now.items _ _ (answer rs) (rw c.in-Answer.is at says)
    (record { added = not_yet c.args.answers.now.items c.args.name.now rs; put = c.in_ok-append_once-in-Answer.ensures; is = refl })

pub returns-in_ok-append_owned-in-WildAnswer : goal.returns-in_ok-append_owned-in-WildAnswer
returns-in_ok-append_owned-in-WildAnswer c zone here says =
    let rs : Records = c.in-WildAnswer.records.now in
    linked zone c.args.record_type c.args.name.now c.args.first.now.name c.requires.spelled c.args.answers.now.items _ _ (wild_answer rs) (rw c.in-WildAnswer.is at says)
    (record { added = owned_by c.args.name.now rs; put = c.in_ok-append_owned-in-WildAnswer.ensures; is = refl })

pub returns-in-Referral : goal.returns-in-Referral
returns-in-Referral c zone here says =
    linked zone c.args.record_type c.args.name.now c.args.first.now.name c.requires.spelled c.args.answers.now.items _ _ (referral c.in-Referral.servers.now) (rw c.in-Referral.is at says)
    (record { added = []; put = sym (append-nil c.args.answers.now.items); is = refl })

pub returns-in-NoData : goal.returns-in-NoData
returns-in-NoData c zone here says =
    linked zone c.args.record_type c.args.name.now c.args.first.now.name c.requires.spelled c.args.answers.now.items _ _ no_data (rw c.in-NoData.is at says)
    (record { added = []; put = sym (append-nil c.args.answers.now.items); is = refl })

pub returns-in-NoName : goal.returns-in-NoName
returns-in-NoName c zone here says =
    linked zone c.args.record_type c.args.name.now c.args.first.now.name c.requires.spelled c.args.answers.now.items _ _ no_name (rw c.in-NoName.is at says)
    (record { added = []; put = sym (append-nil c.args.answers.now.items); is = refl })

pub returns-in-Every : goal.returns-in-Every
returns-in-Every c =
    let low = c.args.first.now.name in
    let rs : Records = records_at low (sets_of c.args.sets.now) in
    if_ok c.append_all.result _ _ c.append_all.ensures
    (λ end put zone here says. all_linked zone c.args.record_type c.args.name.now low c.requires.spelled c.args.answers.now.items c.append_all.new.answers.items end rs (rw c.in-Every.is at says) put)

pub returns-in-WildEvery : goal.returns-in-WildEvery
returns-in-WildEvery c =
    let low = c.args.first.now.name in
    let rs : Records = records_at c.in-WildEvery.key.now.name (sets_of c.args.sets.now) in
    if_ok c.append_all_owned.result _ _ c.append_all_owned.ensures
    (λ end put zone here says. all_owned_linked zone c.args.record_type c.args.name.now low c.requires.spelled c.args.answers.now.items c.append_all_owned.new.answers.items end rs (rw c.in-WildEvery.is at says) put)

pub returns-in-Redirected : goal.returns-in-Redirected
returns-in-Redirected c =
    if_ok c.append_redirection.result _ _ c.append_redirection.ensures
    (λ end step zone here says. redirected_linked zone c.args.record_type c.args.name.now c.args.first.now.name c.requires.spelled c.args.answers.now.items c.append_redirection.new.answers.items end c.in-Redirected.by
    (rw c.in-Redirected.is at says) step)
