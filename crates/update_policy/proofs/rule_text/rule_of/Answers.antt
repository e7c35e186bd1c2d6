use Rattle.update_policy.proofs.Words.{one_first}
use Rattle.update_policy.proofs.rule_text.rule_of.Goals as goal

pub returns : goal.returns
returns c = record {
  key = _;
  rest = _;
  types = _;
  are = one_first c.args.words.now _ c.in-len1-up.len_at_least;
  key_is = c.in_ok-key.ensures;
  scope_is = c.in_ok-scope.ensures;
  types_are = c.in_ok-types.ensures;
}
