use Rattle.std.proofs.Common.{refl}
use Rattle.server.proofs.settings.zone_if_any.Goals as goal

pub returns-in_ok-zone_name-in-Some : goal.returns-in_ok-zone_name-in-Some
returns-in_ok-zone_name-in-Some c = rw c.in-Some.is (c.in_ok-zone_name-in-Some.field-0, c.in_ok-zone_name-in-Some.ensures, refl)
