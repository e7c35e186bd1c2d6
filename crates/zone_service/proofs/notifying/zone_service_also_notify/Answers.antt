use Rattle.std.proofs.Common.{◌≡◌, ◌++◌, ◌∷◌, [], None}
use Rattle.served_notices.specs.declared.notifying.Secondary.{Secondary}
use Rattle.server.specs.Notices.{IsOfZones, IsSecondaryText}
use Rattle.server.specs.declared.service.Service.{Service}
use Rattle.server.proofs.Results.{holds}
use Rattle.zone_service.proofs.notifying.zone_service_also_notify.Goals as goal

pub returns-clause-made : goal.returns-clause-made
returns-clause-made c done =
    let before : Service = c.service-service.result.now in
    let after : Service = c.also_notify-set.new.self in
    let set = holds c.also_notify-set.result
    ((it : Secondary) × IsSecondaryText None c.args.text.now it × IsOfZones before.apexes.items it.apex × (after.notifying.secondaries.items ≡ before.notifying.secondaries.items ++ it ∷ []))
    (c.told.ensures.done.0 done) c.also_notify-set.ensures.ok in
    let made : (it : Secondary) × IsSecondaryText None c.args.text.now it × (after.notifying.secondaries.items ≡ before.notifying.secondaries.items ++ it ∷ []) = (set.0, set.1, set.3) in
    rw c.service-service.ensures.value at made
