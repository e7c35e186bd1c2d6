use Rattle.std.proofs.Common.{◌≡◌, ◌++◌, ◌∷◌, []}
use Rattle.served_keys.specs.ServedKeys.{IsKeyNamed}
use Rattle.wire_names.specs.rr.domain.DomainName.{DomainName}
use Rattle.server.specs.declared.service.Service.{Service}
use Rattle.server.proofs.Results.{holds}
use Rattle.zone_service.proofs.exports.zone_service_allow_transfer_key.Goals as goal

pub returns-clause-made : goal.returns-clause-made
returns-clause-made c done =
    let before : Service = c.service-service.result.now in
    let after : Service = c.allow_transfer_key.new.self in
    rw c.service-service.ensures.value at (holds c.allow_transfer_key.result
    ((key : DomainName) × IsKeyNamed before.answering.server.keys c.args.name.now key × (after.answering.server.transfer_keys.items ≡ before.answering.server.transfer_keys.items ++ key ∷ [])) (c.told.ensures.done.0 done) c.allow_transfer_key.ensures.ok)
