use Rattle.server.specs.Run.{goes_on}
use Rattle.server.proofs.WorkedRuns.{then_ok}
use Rattle.server.proofs.worked.worked_failed_zone.Goals as goal

pub returns : goal.returns
returns c = then_ok c.fail_zone.result c.fail_zone.ensures.ok (λ made. (
  made.0,
  λ events run.
      goes_on
      (goes_on run ((_, c.in_ok-set_blocklist.ensures.list), c.in_ok-set_blocklist.ensures.others))
      (made.1, made.3, made.2, c.fail_zone.ensures.others),
))
