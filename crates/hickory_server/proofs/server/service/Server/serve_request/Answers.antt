-- What is sent to the request is sent to its message.
use Rattle.hickory_base.proofs.lemmas.ResultMaps.{if_ok_map}
use Rattle.hickory_server.proofs.lemmas.server.BytesServed.{left, read_as, served}
use Rattle.hickory_server.proofs.lemmas.server.Results.{if_err_map}
use Rattle.hickory_server.proofs.server.service.Server.serve_request.Goals as goal

pub returns-clause-ok : goal.returns-clause-ok
returns-clause-ok g c =
    let r = c.args.self.now.request in
    if_ok_map c.answered.result _ _ c.answered.ensures.ok (λ sent served_so message is.
    served message is r c.args.self.now.rules _ c.requires.allowed (read_as message is r c.requires.read) sent _ c.requires.whole c.requires.no_response served_so)

pub returns-clause-err : goal.returns-clause-err
returns-clause-err g c =
    let r = c.args.self.now.request in
    if_err_map c.answered.result _ _ c.answered.ensures.err (λ e t message is.
    let (sink, leaves) = t in
    left message is r c.args.self.now.rules _ c.requires.allowed (read_as message is r c.requires.read) sink e _ leaves)
