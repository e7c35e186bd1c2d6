-- There is the one judgement that the steps tell.
use Rattle.std.proofs.Common.{sym, ◌∙◌}
use Rattle.tsig.specs.JudgingSteps.{judgement_of}
use Rattle.tsig.proofs.Judgements.{judged, only_judged}
use Rattle.tsig.proofs.judging.one_judgement.Goals as goal

pub returns-clause-same : goal.returns-clause-same
returns-clause-same c = λ keys bytes now a b are x y. sym (only_judged keys bytes now a are x) ∙ only_judged keys bytes now b are y

pub returns-clause-some : goal.returns-clause-some
returns-clause-some c = λ keys bytes now are. (judgement_of keys bytes now, judged keys bytes now are)
