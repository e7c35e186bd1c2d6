use Rattle.std.proofs.Common.{refl}
use Rattle.std.specs.List.{concat}
use Rattle.zone_serve.proofs.Results.{on_ok}
use Rattle.zone_serve.proofs.serving.serve_datagram.Goals as goal

pub returns-clause-served : goal.returns-clause-served
returns-clause-served g c =
    let (message, came, answered) = c.in_ok-answer_now.ensures.answered in
    let replies = c.in_ok-replies.replies in
    on_ok c.write_datagrams.result _ _
    (λ appends. (
      c.in_ok-datagram.field-0.items,
      concat replies,
      record { message = message; came = came; replies = replies; answered = rw c.in_ok-replies.ensures at answered; written_is = refl },
      c.in_ok-datagram.ensures.0,
      c.in_ok-datagram.ensures.1,
      appends,
    ))
    (rw c.as_slice.ensures at c.write_datagrams.ensures)
