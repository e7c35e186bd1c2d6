use Rattle.std.proofs.Common.{rules, refl}
use Rattle.update_policy.specs.RuleTexts.{below, one}
use Rattle.update_policy.proofs.Words.{two_first}
use Rattle.update_policy.proofs.rule_text.read_scope.Goals as goal

pub returns-in_ok-read_name-in-subdomain : goal.returns-in_ok-read_name-in-subdomain
returns-in_ok-read_name-in-subdomain c =
    below (two_first c.args.words.now _ _ (search rules) c.in-subdomain.is-subdomain) c.in_ok-read_name-in-subdomain.ensures refl

pub returns-in_ok-read_name-in-name : goal.returns-in_ok-read_name-in-name
returns-in_ok-read_name-in-name c = one (two_first c.args.words.now _ _ (search rules) c.in-name.is-name) c.in_ok-read_name-in-name.ensures refl
