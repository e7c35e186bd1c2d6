use Rattle.zone_serve.proofs.groups.answer_line.Goals as goal

pub returns-clause-served : goal.returns-clause-served
returns-clause-served g c =
    let (message, came, answered) = c.in_ok-answer.ensures.answered in
    (c.in-Some.message, rw c.in-Some.is at c.in_ok-message.ensures, message, came, c.in_ok-answer.answer, answered, c.in_ok-told-2.ensures)
