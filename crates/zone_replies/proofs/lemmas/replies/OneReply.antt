-- A question has one reply.
use Rattle.std.proofs.Common.{◌≡◌, ℕ, [], ◌++◌, None, Some, refl, sym, ap, subst, ◌∙◌}
use Rattle.std.proofs.lemmas.Bool.{false≢true}
use Rattle.wire_names.specs.rr.domain.DomainName.{DomainName}
use Rattle.wire_names.specs.rr.domain.NameOrder.{lower_name}
use Rattle.wire_messages.specs.Numbers.{type_a, type_aaaa}
use Rattle.wire_messages.specs.declared.op.query.Query.{Query}
use Rattle.wire_messages.specs.declared.rr.rdata.RData.{RData}
use Rattle.hickory_base.specs.declared.zone_store.lookup.WholeReply.{WholeReply}
use Rattle.zone_replies.proofs.lemmas.replies.OneChain.{chain_once}
use Rattle.zone_answers.proofs.lemmas.zones.Unique.{once}
use Rattle.zone_answers.specs.declared.additionals.Source.{Source}
use Rattle.zone_answers.specs.declared.additionals.Source.TheVariants as source
use Rattle.zone_answers.specs.Additionals.{AreAdditionals, Gains, GainsFor, IsAnswered, IsHad, glue_of, host, inside, is_added, no_host, no_record, outside, record_by, records_in, source_of, stands_already}
use Rattle.zone_answers.specs.Endings.{Ending}
use Rattle.zone_answers.specs.Endings as ended
use Rattle.zone_replies.specs.Replies.{EndsIn, IsCompleted, RepliesTo, in_class, refuses, replies, reply_of}
use Rattle.zone_answers.specs.Zones.{Records, Zone}

module _ (zone : Zone) where
  answered_once : (glue : Records) (name : DomainName) (t : ℕ) (one other : Records) → IsAnswered glue zone name t one → IsAnswered glue zone name t other → one ≡ other
  answered_once glue name t one other (outside a) (outside b) = refl
  answered_once glue name t one other (outside a) (inside i b) = absurd (a i)
  answered_once glue name t one other (inside i a) (outside b) = absurd (b i)
  answered_once glue name t one other (inside {outcome = o} i a) (inside {outcome = p} j b) = ap (records_in glue name) (once zone name t o p a b)

  had_once : (from : Source) (name : DomainName) (t : ℕ) (one other : Records) → IsHad from zone name t one → IsHad from zone name t other → one ≡ other
  had_once source.Answer name t one other a b = answered_once [] name t one other a b
  had_once source.AnswerOrGlue name t one other a b = answered_once (glue_of source.AnswerOrGlue zone name t) name t one other a b
  had_once source.Glue name t one other a b = a ∙ sym b

  gains_once : (from : Source) (present : Records) (name : DomainName) (t : ℕ) (one other : Records) → Gains from zone present name t one → Gains from zone present name t other → one ≡ other
  gains_once from present name t one other (stands_already a) (stands_already b) = refl
  gains_once from present name t one other (stands_already a) (is_added b h) = absurd (false≢true (sym b ∙ a))
  gains_once from present name t one other (is_added a g) (stands_already b) = absurd (false≢true (sym a ∙ b))
  gains_once from present name t one other (is_added a g) (is_added b h) = had_once from name t one other g h

  gains_for_once : (from : Source) (present : Records) (content : RData) (one other : Records) → GainsFor from zone present content one → GainsFor from zone present content other → one ≡ other
  gains_for_once from present content one other (no_host a) (no_host b) = refl
  gains_for_once from present content one other (no_host a) (host {name = named} says hf hs) = absurd (let none : None ≡ Some named = sym a ∙ says in cc)
  gains_for_once from present content one other (host {name = named} says gf gs) (no_host b) = absurd (let none : None ≡ Some named = sym b ∙ says in cc)
  gains_for_once from present content one other (host {four = four} {six = six} {name = named} says gf gs) (host {four = four'} {six = six'} {name = named'} said hf hs) =
      let own : named ≡ named' = let both : Some named ≡ Some named' = sym says ∙ said in cc in
      let s : Source = source_of from content in
      let ef : four ≡ four' = gains_once s present (lower_name named) type_a four four' gf (subst (λ (n : DomainName). Gains s zone present (lower_name n) type_a four') (sym own) hf) in
      let es : six ≡ six' = gains_once s (present ++ four) (lower_name named) type_aaaa six six' gs
      (subst (λ (rs : Records). Gains s zone (present ++ rs) (lower_name named) type_aaaa six') (sym ef) (subst (λ (n : DomainName). Gains s zone (present ++ four') (lower_name n) type_aaaa six') (sym own) hs)) in
      ap (λ rs. rs ++ six) ef ∙ ap (λ rs. four' ++ rs) es

  additionals_once : (from : Source) (present naming : Records) (one other : Records) → AreAdditionals from zone present naming one → AreAdditionals from zone present naming other → one ≡ other
  additionals_once from present naming one other no_record no_record = refl
  additionals_once from present naming one other (record_by {gained = gained} {rest = rest} {naming = more} {r = r} g a) (record_by {gained = gained'} {rest = rest'} h b) =
      let eg : gained ≡ gained' = gains_for_once from present r.rdata gained gained' g h in
      let er : rest ≡ rest' = additionals_once from (present ++ gained) more rest rest' a (subst (λ (rs : Records). AreAdditionals from zone (present ++ rs) more rest') (sym eg) b) in
      ap (λ rs. rs ++ rest) eg ∙ ap (λ rs. gained' ++ rs) er

  completed_once : (chain : Records) (ending : Ending) (one other : Records) → IsCompleted zone chain ending one → IsCompleted zone chain ending other → one ≡ other
  completed_once chain ended.answer one other a b = additionals_once source.Answer chain chain one other a b
  completed_once chain (ended.referral servers) one other a b = additionals_once source.Glue chain servers one other a b
  completed_once chain ended.no_data one other a b = a ∙ sym b
  completed_once chain ended.no_name one other a b = a ∙ sym b
  completed_once chain ended.name_too_long one other a b = a ∙ sym b
  completed_once chain ended.left_open one other a b = a ∙ sym b

  ends_once : (chain : Records) (ending : Ending) (one other : WholeReply) → EndsIn zone chain ending one → EndsIn zone chain ending other → one ≡ other
  ends_once chain ending one other a b = a.is ∙ ap (reply_of zone chain ending) (completed_once chain ending a.additionals b.additionals a.completed b.completed) ∙ sym b.is

  pub reply_once : (query : Query) (one other : WholeReply) → RepliesTo zone query one → RepliesTo zone query other → one ≡ other
  reply_once query one other (refuses a) (refuses b) = refl
  reply_once query one other (refuses a) (replies own s) = absurd (a own)
  reply_once query one other (replies own r) (refuses b) = absurd (b own)
  reply_once query _ _ (replies {reply = one} own r) (replies {reply = other} same s) =
      let c = chain_once zone query.query_type 8 [] query.name r.chain s.chain r.ending s.ending r.chases s.chases in
      ap (in_class query.query_class) (ends_once r.chain r.ending one other r.ends_in (subst (λ (e : Ending). EndsIn zone r.chain e other) (sym c.1) (subst (λ (rs : Records). EndsIn zone rs s.ending other) (sym c.0) s.ends_in)))
