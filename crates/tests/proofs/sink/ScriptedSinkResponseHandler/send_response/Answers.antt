use Rattle.std.proofs.Common.{rules}
use Rattle.tests.proofs.sink.ScriptedSinkResponseHandler.send_response.Goals as goal

pub returns-clause-ok : goal.returns-clause-ok
returns-clause-ok g c =
    let w = c.in-Ok.ensures.kept in
    (w.0, w.2, record { entry = w.1; is_held = (tt, tt); grew = search rules })
