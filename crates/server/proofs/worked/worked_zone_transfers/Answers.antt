use Rattle.std.proofs.Common.{◌≡◌, ap}
use Rattle.server.specs.Run.{AreKept, goes_on}
use Rattle.server.specs.Settings.{rules_of, with_rules, zones_of}
use Rattle.server.specs.declared.service.Service.{Service}
use Rattle.server.proofs.WorkedRuns.{on_ok}
use Rattle.server.proofs.worked.worked_zone_transfers.Goals as goal

only_rules : (old new : Service) → new ≡ with_rules old (record (rules_of old) { zones = (rules_of new).zones }) → AreKept old new
only_rules old new others = record {
  zones = ap zones_of others;
  apexes = ap (λ (s : Service). s.apexes) others;
  keys = ap (λ (s : Service). s.answering.server.keys) others;
  grants = ap (λ (s : Service). s.grants) others;
  list = ap (λ (s : Service). s.list) others;
}

pub returns : goal.returns
returns c =
    let first : Service = c.allow_zone_transfer.new.self in
    let second : Service = c.deny_zone_transfer.new.self in
    let third : Service = c.allow_zone_transfer_key.new.self in
    on_ok c.allow_zone_transfer_key.result (λ events run.
    goes_on (goes_on (goes_on run (only_rules c.args.service.now first c.in_ok-allow_zone_transfer.ensures.others)) (only_rules first second c.in_ok-deny_zone_transfer.ensures.others))
    (only_rules second third c.allow_zone_transfer_key.ensures.others))
