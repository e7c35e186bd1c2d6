use Rattle.std.proofs.Common.{◌≡◌, false, sym, ap, ◌∙◌}
use Rattle.std.specs.Option.{option_copied}
use Rattle.std.proofs.lemmas.Bool.{false≢true}
use Rattle.hickory_base.specs.zone_store.ZoneSets.{sets_of}
use Rattle.zone_answers.proofs.lemmas.zones.Outcomes.{at_any, at_one}
use Rattle.zone_answers.specs.Zones.{of_sets, rrset, by_wildcard}
use Rattle.zone_answers.proofs.find.find_at_wildcard.Goals as goal

pub returns-then-is_any : goal.returns-then-is_any
returns-then-is_any c =
    λ sets behind wanted alias name. c.find_wild_any.ensures sets behind name ∙ ap by_wildcard (at_any (sets_of sets) c.args.first.now.name c.args.record_type (c.is_any.ensures.0 c.if-is_any.true))

pub returns-else-is_any : goal.returns-else-is_any
returns-else-is_any c =
    let first = c.args.first.now in
    let t = c.args.record_type in
    let f : c.is_any.result ≡ false = c.if-is_any.false in
    λ sets behind wanted alias name.
    c.found_wild.ensures (sets_of sets) name
    ∙ ap by_wildcard
    (ap (λ w. of_sets w (option_copied c.args.node.alias)) wanted ∙ ap (of_sets (rrset (sets_of sets) first.name t)) alias ∙ sym (at_one (sets_of sets) first.name t (λ e. false≢true (sym f ∙ c.is_any.ensures.1 e))))
