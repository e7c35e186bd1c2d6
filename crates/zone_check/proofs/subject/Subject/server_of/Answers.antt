use Rattle.std.proofs.Common.{◌∙◌, ap}
use Rattle.std.specs.List.{find}
use Rattle.zone_check.specs.CheckedZones.{is_server_of}
use Rattle.zone_check.proofs.SameNames.{server_lower}
use Rattle.zone_check.proofs.subject.Subject.server_of.Goals as goal

pub returns : goal.returns
returns c = c.server_under.ensures ∙ ap (λ n. find (is_server_of n) c.args.self.now.records) c.in_ok-lowered.ensures ∙ server_lower c.args.self.now.records c.args.name.now
