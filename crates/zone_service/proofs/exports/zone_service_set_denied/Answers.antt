use Rattle.server.specs.Networks.{InsertsText}
use Rattle.server.specs.Settings.{rules_of}
use Rattle.server.specs.declared.service.Service.{Service}
use Rattle.server.proofs.Results.{holds}
use Rattle.zone_service.proofs.exports.zone_service_set_denied.Goals as goal

pub returns-clause-made : goal.returns-clause-made
returns-clause-made c done =
    let before : Service = c.service-service.result.now in
    let after : Service = c.deny.new.self in
    rw c.service-service.ensures.value at (holds c.deny.result (InsertsText c.args.network.now (rules_of before).access.deny (rules_of after).access.deny) (c.told.ensures.done.0 done) c.deny.ensures.ok)

pub returns-clause-allowed : goal.returns-clause-allowed
returns-clause-allowed c = rw c.service-service.ensures.value at c.deny.ensures.allowed
