-- The steps tell the judgement.
use Rattle.std.proofs.Common.{◌≡◌, arith, sym, subst, ◌∙◌}
use Rattle.tsig.specs.Judging.{Judged}
use Rattle.tsig.specs.declared.judgement.Judgement.{Judgement}
use Rattle.tsig.proofs.Judgements.{judged, only_judged}
use Rattle.tsig.proofs.judging.judge.Goals as goal

pub returns-clause-judged : goal.returns-clause-judged
returns-clause-judged c =
    subst (λ (j : Judgement). Judged c.args.keys.now c.args.bytes.now c.args.now j) (sym c.in_ok-judgement.ensures)
    (judged c.args.keys.now c.args.bytes.now c.args.now (λ k. omega (arith, c.type_inv.bytes k)))

pub returns-clause-only : goal.returns-clause-only
returns-clause-only c =
    λ j h. c.in_ok-judgement.ensures ∙ only_judged c.args.keys.now c.args.bytes.now c.args.now j (λ k. omega (arith, c.type_inv.bytes k)) h
