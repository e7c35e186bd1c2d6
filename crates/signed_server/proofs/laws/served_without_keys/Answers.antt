use Rattle.hickory_catalog.specs.requests.Server.{server_of}
use Rattle.signed_server.proofs.Keyless.{as_served, by_nobody}
use Rattle.signed_server.proofs.laws.served_without_keys.Goals as goal

pub returns : goal.returns
returns g c = λ catalog names rules came answer zones.
    let server = server_of g.H.ZoneHandler g.S.ReplySigner.signature_for catalog in
    (as_served server names rules came answer zones, by_nobody server names rules came answer zones)
