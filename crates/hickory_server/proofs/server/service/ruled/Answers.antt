use Rattle.hickory_catalog.specs.requests.Server.{server_of}
use Rattle.hickory_server.proofs.lemmas.server.Results.{leaves_all}
use Rattle.hickory_server.proofs.server.service.ruled.Goals as goal

pub returns-in-Refuse-clause-err : goal.returns-in-Refuse-clause-err
returns-in-Refuse-clause-err g c =
    leaves_all (server_of g.H.ZoneHandler g.S.ReplySigner.signature_for c.args.catalog.now) c.args.request.now c.args.now c.unhandled.result c.unhandled.ensures.err

pub returns-in-Truncate-clause-err : goal.returns-in-Truncate-clause-err
returns-in-Truncate-clause-err g c =
    leaves_all (server_of g.H.ZoneHandler g.S.ReplySigner.signature_for c.args.catalog.now) c.args.request.now c.args.now c.unhandled-in-Truncate.result
    c.unhandled-in-Truncate.ensures.err

pub returns-in-Transfer-clause-err : goal.returns-in-Transfer-clause-err
returns-in-Transfer-clause-err g c =
    leaves_all (server_of g.H.ZoneHandler g.S.ReplySigner.signature_for c.args.catalog.now) c.args.request.now c.args.now c.unhandled-in-Transfer.result
    c.unhandled-in-Transfer.ensures.err
