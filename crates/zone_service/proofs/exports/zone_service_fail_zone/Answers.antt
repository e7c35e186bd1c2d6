use Rattle.std.proofs.Common.{◌≡◌, ◌++◌, ◌∷◌, [], None, Some}
use Rattle.hickory_catalog.specs.zones.Zones.{ChangesAt}
use Rattle.served_zones.specs.ServedZones.{IsApexText}
use Rattle.wire_names.specs.rr.domain.DomainName.{DomainName}
use Rattle.wire_names.specs.rr.domain.NameOrder.{lower_name}
use Rattle.server.specs.Settings.{zones_of}
use Rattle.server.specs.declared.service.Service.{Service}
use Rattle.server.proofs.Results.{holds}
use Rattle.zone_service.proofs.exports.zone_service_fail_zone.Goals as goal

pub returns-clause-made : goal.returns-clause-made
returns-clause-made c done =
    let before : Service = c.service-service.result.now in
    let after : Service = c.fail_zone.new.self in
    rw c.service-service.ensures.value at (holds c.fail_zone.result
    ((apex : DomainName) × IsApexText c.args.name.now apex × (after.apexes.items ≡ before.apexes.items ++ apex ∷ [])
    × ChangesAt (zones_of before) (lower_name apex) None (Some []) (zones_of after)) (c.told.ensures.done.0 done) c.fail_zone.ensures.ok)
