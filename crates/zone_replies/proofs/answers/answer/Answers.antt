use Rattle.std.proofs.Common.{◌≡◌, false, true, sym, ap, subst, ◌∙◌}
use Rattle.std.proofs.lemmas.Bool.{false≢true}
use Rattle.wire_names.specs.rr.domain.NameOrder.{lower_name}
use Rattle.zone_replies.proofs.lemmas.replies.Handling.{into_zone, out_of_zone}
use Rattle.zone_answers.specs.Chains.{IsIn}
use Rattle.zone_replies.specs.Replies.{IsReplied, RepliesTo, in_class, is_class, refuses, replies, as_zone}
use Rattle.zone_replies.proofs.answers.answer.Goals as goal
use Rattle.zone_replies.proofs.answers.answer.Goals.{then-not-is_class-via-then-not-is_class, then-not-is_class-via-else-not-is_class+then-not-is_in}

pub returns-then-not-is_class : goal.returns-then-not-is_class
returns-then-not-is_class c =
    let zone = c.args.zone.now in
    subst (RepliesTo (as_zone zone) c.args.query.now) (sym c.refused.ensures)
    (refuses (λ own. elim c.then-not-is_class.branch [
      | then-not-is_class-via-then-not-is_class w ↦
          let f : c.is_class.result ≡ false = w.if-not-is_class.true in
          false≢true (sym f ∙ c.is_class.ensures ∙ ap is_class c.query_class.ensures ∙ own.class)
      | then-not-is_class-via-else-not-is_class+then-not-is_in w ↦
          let f : w.is_in.result ≡ false = w.if-not-is_in.true in
          false≢true (sym f ∙ (w.is_in.ensures zone.sets).1 (out_of_zone zone w.origin.result.now w.name.result.now (lower_name c.args.query.now.name) w.origin.ensures w.name.ensures own.within))
    ]))

pub put_within-requires-clause-within : goal.put_within-requires-clause-within
put_within-requires-clause-within c =
    let zone = c.args.zone.now in
    let e : c.is_in.result ≡ true = c.if-not-is_in.false in
    subst (λ k. IsIn (as_zone zone) k.name) (sym c.first_key.ensures)
    (into_zone zone c.origin.result.now c.name.result.now (lower_name c.args.query.now.name) c.origin.ensures c.name.ensures ((c.is_in.ensures zone.sets).0 e))

pub returns : goal.returns
returns c =
    let zone = c.args.zone.now in
    let e : c.is_in.result ≡ true = c.if-not-is_in.false in
    let f : c.is_class.result ≡ true = c.if-not-is_class.false in
    let reply = c.put_within.new.reply in
    let own : IsReplied (as_zone zone) c.args.query.now.name c.args.query.now.query_type reply =
    subst (λ t. IsReplied (as_zone zone) c.args.query.now.name t reply) c.query_type.ensures (subst (λ q. IsReplied (as_zone zone) q.name c.query_type.result reply) c.original.ensures c.in_ok-put_within.ensures) in
    subst (RepliesTo (as_zone zone) c.args.query.now) (sym (c.put_class.ensures ∙ ap (λ class. in_class class reply) c.query_class-2.ensures))
    (replies (record {
      within = into_zone zone c.origin.result.now c.name.result.now (lower_name c.args.query.now.name) c.origin.ensures c.name.ensures ((c.is_in.ensures zone.sets).0 e);
      class = ap is_class (sym c.query_class.ensures) ∙ sym c.is_class.ensures ∙ f;
    })
    own)
