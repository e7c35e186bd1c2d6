use Rattle.std.proofs.Common.{sym, ap, subst, ◌∙◌}
use Rattle.std.specs.Option.{option_copied}
use Rattle.zone_answers.proofs.lemmas.zones.Every.{none_of_another, none_there, same_records}
use Rattle.zone_answers.specs.representation.KeysBeside.{StandsBehind}
use Rattle.zone_answers.specs.Zones.{any_of, by_wildcard}
use Rattle.zone_answers.proofs.find.find_wild_any.Goals as goal

pub returns-in-None : goal.returns-in-None
returns-in-None c =
    let first = c.args.first.now in
    λ sets behind name. ap (λ rs. by_wildcard (any_of rs)) (sym (none_there sets first c.requires (subst (λ o. StandsBehind sets first (option_copied o)) c.in-None.is behind)))

pub returns-then-is_of : goal.returns-then-is_of
returns-then-is_of c =
    let first = c.args.first.now in
    λ sets behind name. ap (λ rs. by_wildcard (any_of rs)) (sym (same_records sets first c.in-Some.key.now (sym c.is_of.ensures ∙ c.if-is_of.true)))

pub returns-else-is_of : goal.returns-else-is_of
returns-else-is_of c =
    let first = c.args.first.now in
    λ sets behind name. ap (λ rs. by_wildcard (any_of rs))
    (sym (none_of_another sets first c.requires c.in-Some.key.now (subst (λ o. StandsBehind sets first (option_copied o)) c.in-Some.is behind) (sym c.is_of.ensures ∙ c.if-is_of.false)))
