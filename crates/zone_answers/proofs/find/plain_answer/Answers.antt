use Rattle.std.proofs.Common.{◌≡◌, ◌∙◌, ℕ, Bor, zero, suc, false, Option, None, Some, arith, ap, refl, subst, sym}
use Rattle.std.specs.Option.{option_copied}
use Rattle.std.specs.Prelude.{◌≢◌, IfSome, is_some}
use Rattle.std.proofs.lemmas.Bool.{false≢true}
use Rattle.wire_names.specs.rr.domain.DomainName.{DomainName}
use Rattle.wire_messages.specs.Numbers.{type_any}
use Rattle.zone_answers.proofs.lemmas.zones.Outcomes.{at_one, owns}
use Rattle.zone_answers.specs.representation.FoundRecords.{CutAbove}
use Rattle.zone_answers.specs.Zones.{Answers, AnswersDirectly, HasDname, IsCut, Records, Zone, ancestor, answer, at_node, direct, matched, of_sets, rrset}
use Rattle.zone_answers.proofs.find.plain_answer.Goals as goal

module _ (zone : Zone) (name : DomainName) (above : CutAbove zone name None) (own : None ≡ rrset zone.sets name 2) where
  -- a name without NS records below no cut
  uncut : (k : ℕ) → ¬ (IsCut zone (ancestor name k))
  uncut zero c = false≢true (ap is_some own ∙ c.servers)
  uncut (suc k) c = above (suc k) (omega arith) c

  -- what such a name owns is answered where nothing redirects it
  owned : (t : ℕ) (found : Option (Bor Records)) → ((n : DomainName) → ¬ (HasDname zone n)) → t ≢ type_any → option_copied found ≡ rrset zone.sets name t → IfSome found (λ rs. Answers zone name t (answer rs.now))
  owned t None none one is = tt
  owned t (Some rs) none one is =
      let node : answer rs.now ≡ at_node zone.sets name t = ap (λ (o : Option Records). of_sets o (rrset zone.sets name 5)) is ∙ sym (at_one zone.sets name t one) in
      direct (λ k r. none (ancestor name k) r.owner) (subst (AnswersDirectly zone name t) (sym node) (matched uncut (owns zone.sets name t (sym (ap is_some is)))))

none_of : (o : Option (Bor Records)) → is_some o ≡ false → option_copied o ≡ None
none_of None h = refl
none_of (Some rs) h = absurd cc

pub returns : goal.returns
returns c = λ zone name features above own servers.
    let not_above : is_some c.args.above ≡ false = sym c.is_some.ensures ∙ c.if-is_some.false in
    let no_servers : is_some c.args.node.now.servers ≡ false = sym c.is_some-else-is_some.ensures ∙ c.if-is_some-2.false in
    let other : c.is_any.result ≡ false = c.if-is_any.false in
    owned zone name (subst (CutAbove zone name) (none_of c.args.above not_above) above) (sym (none_of c.args.node.now.servers no_servers) ∙ servers) c.args.record_type c.args.node.now.wanted
    (features.dnames c.if-has.false) (λ any. false≢true (sym other ∙ c.is_any.ensures.1 any)) own
