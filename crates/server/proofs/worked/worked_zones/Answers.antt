use Rattle.server.specs.Run.{goes_on, starts}
use Rattle.server.proofs.worked.worked_zones.Goals as goal

pub returns : goal.returns
returns c =
    let (apex, apexes, loads) = c.in_ok-add_zone.ensures.ok in (
      apex,
      goes_on
          (goes_on
          (goes_on (goes_on (starts c.in_ok-service.ensures) (loads, apexes, c.in_ok-add_zone.ensures.others)) (c.in_ok-set_keys.ensures.ok, c.in_ok-set_keys.ensures.others))
          (c.in_ok-allow_update.ensures.ok, c.in_ok-allow_update.ensures.others))
          (c.in_ok-serve_zones.ensures.ok, c.in_ok-serve_zones.ensures.others),
    )
