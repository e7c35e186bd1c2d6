use Rattle.std.proofs.Common.{◌≡◌, false, sym, ap, ◌∙◌}
use Rattle.std.specs.Option.{option_copied}
use Rattle.std.proofs.lemmas.Bool.{false≢true}
use Rattle.zone_answers.proofs.lemmas.zones.Outcomes.{at_any, at_one}
use Rattle.zone_answers.specs.Zones.{of_sets, rrset}
use Rattle.zone_answers.proofs.find.found_at_existing.Goals as goal

pub returns-then-is_any : goal.returns-then-is_any
returns-then-is_any c = λ sets name wanted alias. at_any sets name c.args.record_type (c.is_any.ensures.0 c.if-is_any.true)

pub returns-else-is_any : goal.returns-else-is_any
returns-else-is_any c =
    let f : c.is_any.result ≡ false = c.if-is_any.false in
    λ sets name wanted alias.
    c.found_at.ensures sets name ∙ ap (λ w. of_sets w (option_copied c.args.node.alias)) wanted ∙ ap (of_sets (rrset sets name c.args.record_type)) alias
    ∙ sym (at_one sets name c.args.record_type (λ e. false≢true (sym f ∙ c.is_any.ensures.1 e)))
