use Rattle.std.proofs.Common.{◌≡◌, false, true, refl, sym, ap, subst, ◌∙◌}
use Rattle.std.proofs.lemmas.Bool.{false≢true}
use Rattle.zone_replies.proofs.lemmas.replies.Handling.{from_lower, in_lower, into_zone, out_of_zone}
use Rattle.zone_answers.specs.Chains.{IsIn}
use Rattle.zone_replies.specs.Handled.{question}
use Rattle.zone_replies.specs.Replies.{IsReplied, RepliesTo, refuses, replies, as_zone}
use Rattle.zone_replies.proofs.answers.reply_to.Goals as goal

pub returns-then-not-is_in : goal.returns-then-not-is_in
returns-then-not-is_in c =
    let zone = c.args.zone.now in
    let f : c.is_in.result ≡ false = c.if-not-is_in.true in
    subst (RepliesTo (as_zone zone) (question c.args.name.now c.args.record_type)) (sym c.refused-reply.ensures)
    (refuses (λ own. false≢true (sym f ∙ (c.is_in.ensures zone.sets).1 (out_of_zone zone c.origin.result.now c.args.name.now c.args.name.now c.origin.ensures refl (from_lower (as_zone zone) c.args.name.now own.within)))))

pub put_within-requires-clause-within : goal.put_within-requires-clause-within
put_within-requires-clause-within c =
    let zone = c.args.zone.now in
    let e : c.is_in.result ≡ true = c.if-not-is_in.false in
    subst (IsIn (as_zone zone)) (sym (ap (λ k. k.name) c.new-first.ensures ∙ c.in_ok-clone.ensures.cases))
    (into_zone zone c.origin.result.now c.args.name.now c.args.name.now c.origin.ensures refl ((c.is_in.ensures zone.sets).0 e))

pub returns : goal.returns
returns c =
    let zone = c.args.zone.now in
    let e : c.is_in.result ≡ true = c.if-not-is_in.false in
    let reply = c.put_within.new.reply in
    replies (record {
      within = in_lower (as_zone zone) c.args.name.now (into_zone zone c.origin.result.now c.args.name.now c.args.name.now c.origin.ensures refl ((c.is_in.ensures zone.sets).0 e));
      class = refl;
    })
    (subst (λ n. IsReplied (as_zone zone) n c.args.record_type reply) c.as_name-name.ensures.name c.in_ok-put_within.ensures)
