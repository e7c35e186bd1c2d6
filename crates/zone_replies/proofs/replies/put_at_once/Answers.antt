use Rattle.std.proofs.Common.{◌≡◌, Option, sym, subst}
use Rattle.std.specs.Prelude.{IfSome}
use Rattle.zone_answers.specs.declared.find.Found.{Found}
use Rattle.zone_answers.specs.representation.FoundRecords.{outcome_of}
use Rattle.zone_replies.specs.Replies.{denial_soa}
use Rattle.zone_replies.specs.representation.ReplyAtOnce.{IsReplyAtOnce}
use Rattle.zone_answers.specs.Zones.{Records}
use Rattle.zone_replies.proofs.lemmas.replies.AtOnce.{of_no_data, of_no_name, of_records}
use Rattle.zone_replies.proofs.replies.put_at_once.Goals as goal

pub returns-else-not-are_hostless : goal.returns-else-not-are_hostless
returns-else-not-are_hostless c = λ ok zone low name t soa.
    let reply = c.put_lent.new.reply in
    subst (λ (f : Found). IsReplyAtOnce zone t name (outcome_of zone.sets low f) reply) (sym c.in-Answer.is)
    (of_records zone t name reply c.in-Answer.records.now (c.are_hostless.ensures.0 c.if-not-are_hostless.false) c.put_lent.ensures)

pub returns-in-NoData : goal.returns-in-NoData
returns-in-NoData c = λ ok zone low name t soa.
    let reply = c.put_lent_denial.new.reply in
    let w = c.put_lent_denial.ensures ok in
    subst (λ (f : Found). IsReplyAtOnce zone t name (outcome_of zone.sets low f) reply) (sym c.in-NoData.is)
    (of_no_data zone t name reply w.0 (subst (λ (o : Option Records). IfSome o (λ rs. rs ≡ denial_soa zone)) w.1 soa) w.2)

pub returns-in-NoName : goal.returns-in-NoName
returns-in-NoName c = λ ok zone low name t soa.
    let reply = c.put_lent_denial-in-NoName.new.reply in
    let w = c.put_lent_denial-in-NoName.ensures ok in
    subst (λ (f : Found). IsReplyAtOnce zone t name (outcome_of zone.sets low f) reply) (sym c.in-NoName.is)
    (of_no_name zone t name reply w.0 (subst (λ (o : Option Records). IfSome o (λ rs. rs ≡ denial_soa zone)) w.1 soa) w.2)
