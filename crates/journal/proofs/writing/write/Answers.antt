-- A journal's file is left by each of the two.
use Rattle.journal.proofs.writing.write.Goals as goal

pub returns-in_err-stage-clause-journal : goal.returns-in_err-stage-clause-journal
returns-in_err-stage-clause-journal g c = λ mixes entries first others small s are. c.stage.ensures.journal entries s

pub returns-in_err-open_gate-clause-journal : goal.returns-in_err-open_gate-clause-journal
returns-in_err-open_gate-clause-journal g c = λ mixes entries first others small s are.
    c.open_gate.ensures.journal mixes entries first others small (c.in_ok-stage.ensures.staged entries first others s are)

pub returns-clause-journal : goal.returns-clause-journal
returns-clause-journal g c = λ mixes entries first others small s are.
    c.open_gate.ensures.journal mixes entries first others small (c.in_ok-stage.ensures.staged entries first others s are)
