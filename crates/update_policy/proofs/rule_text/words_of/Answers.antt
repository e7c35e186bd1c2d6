use Rattle.std.proofs.lemmas.Result.{IfOk-weaker}
use Rattle.update_policy.proofs.Words.{all_words}
use Rattle.update_policy.proofs.rule_text.words_of.Goals as goal

pub returns : goal.returns
returns c =
    IfOk-weaker c.collect.result _ _ (λ words ran. all_words c.args.text.now c.split_whitespace.result words.items ran.0 tt c.split_whitespace.ensures.rest ran.2.0 ran.1) c.collect.ensures.ran
