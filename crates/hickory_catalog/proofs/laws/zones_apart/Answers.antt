use Rattle.hickory_catalog.specs.requests.Server.{server_of}
use Rattle.hickory_catalog.proofs.lemmas.zones.Alone.{chain_alone, request_alone, request_apexes, request_stays, transfer_alone}
use Rattle.hickory_catalog.proofs.lemmas.zones.RequestsToZones.{of_zone_decided}
use Rattle.hickory_catalog.proofs.lemmas.zones.OneAnswer.{one_at, one_nearest}
use Rattle.hickory_catalog.proofs.laws.zones_apart.Goals as goal

pub returns-clause-alone : goal.returns-clause-alone
returns-clause-alone g c = λ catalog request now replies after zone sorted of answered.
    request_alone (server_of g.H.ZoneHandler g.S.ReplySigner.signature_for catalog) zone.0 zone.1 sorted request of.query of.asks of.nearest now replies after answered

pub returns-clause-others : goal.returns-clause-others
returns-clause-others g c = λ catalog request now replies after zone among other answered.
    request_stays (server_of g.H.ZoneHandler g.S.ReplySigner.signature_for catalog) request now replies after zone among other answered

pub returns-clause-apexes : goal.returns-clause-apexes
returns-clause-apexes g c = λ catalog request now replies after answered.
    request_apexes (server_of g.H.ZoneHandler g.S.ReplySigner.signature_for catalog) request now replies after answered

pub returns-clause-one_chain : goal.returns-clause-one_chain
returns-clause-one_chain g c = one_at

pub returns-clause-decided : goal.returns-clause-decided
returns-clause-decided g c = of_zone_decided

pub returns-clause-transfers : goal.returns-clause-transfers
returns-clause-transfers g c = λ catalog request edns now replies zone sorted of.
    transfer_alone (server_of g.H.ZoneHandler g.S.ReplySigner.signature_for catalog) zone.0 zone.1 sorted request of.query of.asks of.nearest now edns replies

pub returns-clause-chains : goal.returns-clause-chains
returns-clause-chains g c = λ catalog request query edns now replies zone is may.
    chain_alone (server_of g.H.ZoneHandler g.S.ReplySigner.signature_for catalog) zone request query edns now replies is may

pub returns-clause-nearest : goal.returns-clause-nearest
returns-clause-nearest g c = one_nearest
