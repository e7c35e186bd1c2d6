use Rattle.signed_server.proofs.service.SignedServer.serve.Goals as goal

pub returns : goal.returns
returns g c = c.serve_reusing.ensures
