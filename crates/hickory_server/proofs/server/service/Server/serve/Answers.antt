use Rattle.hickory_server.proofs.server.service.Server.serve.Goals as goal

pub returns : goal.returns
returns g c = c.serve_reusing.ensures
