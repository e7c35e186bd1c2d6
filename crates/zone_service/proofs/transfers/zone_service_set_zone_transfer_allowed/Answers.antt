use Rattle.server.specs.Settings.{rules_of}
use Rattle.server.specs.Transfers.{Allows, GetsRule}
use Rattle.server.specs.declared.service.Service.{Service}
use Rattle.server.proofs.Results.{holds}
use Rattle.zone_service.proofs.transfers.zone_service_set_zone_transfer_allowed.Goals as goal

pub returns-clause-made : goal.returns-clause-made
returns-clause-made c done =
    let before : Service = c.service-service.result.now in
    let after : Service = c.allow_zone_transfer.new.self in
    rw c.service-service.ensures.value at (holds c.allow_zone_transfer.result (GetsRule (Allows c.args.network.now) c.args.zone.now before.apexes.items (rules_of before).zones.items (rules_of after).zones.items) (c.told.ensures.done.0 done) c.allow_zone_transfer.ensures.ok)
