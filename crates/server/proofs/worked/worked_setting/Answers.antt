use Rattle.std.proofs.Common.{ap}
use Rattle.server.specs.Run.{goes_on}
use Rattle.server.specs.Settings.{zones_of}
use Rattle.server.specs.declared.service.Service.{Service}
use Rattle.server.proofs.WorkedRuns.{on_ok}
use Rattle.server.proofs.worked.worked_setting.Goals as goal

pub returns : goal.returns
returns c =
    let others = c.allow_transfer_key.ensures.others in
    on_ok c.allow_transfer_key.result (λ events run. goes_on run (record {
      zones = ap zones_of others;
      apexes = ap (λ (s : Service). s.apexes) others;
      keys = ap (λ (s : Service). s.answering.server.keys) others;
      grants = ap (λ (s : Service). s.grants) others;
      list = ap (λ (s : Service). s.list) others;
    }))
