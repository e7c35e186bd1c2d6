use Rattle.hickory_catalog.specs.requests.Server.{server_of}
use Rattle.hickory_catalog.proofs.lemmas.queries.OneReply.{query_once}
use Rattle.hickory_catalog.proofs.laws.one_reply.Goals as goal

pub returns : goal.returns
returns g c = λ catalog once signs sorted request edns now one other r s.
    query_once (server_of g.H.ZoneHandler g.S.ReplySigner.signature_for catalog) once signs request edns now one other sorted r s
