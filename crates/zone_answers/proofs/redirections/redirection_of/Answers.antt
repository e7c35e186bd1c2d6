use Rattle.std.proofs.Common.{◌≡◌, ◌∙◌, false, sym, ap, subst}
use Rattle.std.proofs.lemmas.Bool.{false≢true}
use Rattle.hickory_base.specs.zone_store.ZoneSets.{sets_of}
use Rattle.wire_names.specs.rr.domain.NameOrder.{Encloses}
use Rattle.zone_answers.specs.Zones.{Zone, ancestor}
use Rattle.zone_answers.proofs.lemmas.zones.Cuts.{parent_within}
use Rattle.zone_answers.proofs.lemmas.zones.Redirected.{apex_direct, from_parent}
use Rattle.zone_answers.proofs.redirections.redirection_of.Goals as goal

pub returns-then-zone_of : goal.returns-then-zone_of
returns-then-zone_of c =
    let zone : Zone = record { origin = c.args.zone.origin.now; sets = sets_of c.args.zone.sets.now } in
    apex_direct zone c.args.name.now (c.zone_of.ensures.0 c.if-zone_of.true)

pub top_dname-requires-clause-within : goal.top_dname-requires-clause-within
top_dname-requires-clause-within c =
    let f : c.zone_of.result ≡ false = c.if-zone_of.false in
    let above : c.remove_first_label.new.self ≡ ancestor c.args.name.now 1 = c.remove_first_label.ensures ∙ ap (λ d. ancestor d 1) c.in_ok-parent.ensures.cases in
    subst (λ d. Encloses c.args.zone.origin.now.labels d.labels) (sym above)
    (parent_within c.args.zone.origin.now.labels c.args.name.now.labels c.requires.within (λ x. false≢true (sym f ∙ c.zone_of.ensures.1 x)))

pub returns : goal.returns
returns c =
    let zone : Zone = record { origin = c.args.zone.origin.now; sets = sets_of c.args.zone.sets.now } in
    let f : c.zone_of.result ≡ false = c.if-zone_of.false in
    let above : c.remove_first_label.new.self ≡ ancestor c.args.name.now 1 = c.remove_first_label.ensures ∙ ap (λ d. ancestor d 1) c.in_ok-parent.ensures.cases in
    from_parent zone c.args.name.now c.remove_first_label.new.self c.top_dname.result above (λ x. false≢true (sym f ∙ c.zone_of.ensures.1 x)) c.top_dname.ensures
