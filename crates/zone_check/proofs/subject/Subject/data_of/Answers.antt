use Rattle.std.proofs.Common.{◌∙◌, ap}
use Rattle.std.specs.List.{find}
use Rattle.zone_check.specs.CheckedZones.{is_data_of}
use Rattle.zone_check.proofs.SameNames.{data_lower}
use Rattle.zone_check.proofs.subject.Subject.data_of.Goals as goal

pub returns : goal.returns
returns c = c.data_under.ensures ∙ ap (λ n. find (is_data_of n) c.args.self.now.records) c.in_ok-lowered.ensures ∙ data_lower c.args.self.now.records c.args.name.now
