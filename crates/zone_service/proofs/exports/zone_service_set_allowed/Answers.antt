use Rattle.server.specs.Networks.{AllowsText}
use Rattle.server.specs.Settings.{rules_of}
use Rattle.server.specs.declared.service.Service.{Service}
use Rattle.server.proofs.Results.{holds}
use Rattle.zone_service.proofs.exports.zone_service_set_allowed.Goals as goal

pub returns-clause-made : goal.returns-clause-made
returns-clause-made c done =
    let before : Service = c.service-service.result.now in
    let after : Service = c.allow.new.self in
    rw c.service-service.ensures.value at (holds c.allow.result (AllowsText c.args.network.now (rules_of before).access (rules_of after).access) (c.told.ensures.done.0 done) c.allow.ensures.ok)
