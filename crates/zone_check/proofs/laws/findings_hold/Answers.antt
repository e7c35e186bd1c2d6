use Rattle.std.proofs.Common.{length}
use Rattle.zone_check.specs.Findings.{all_findings}
use Rattle.zone_check.proofs.Selections.{sound, complete}
use Rattle.zone_check.proofs.laws.findings_hold.Goals as goal

pub returns : goal.returns
returns c = record {
  sound = λ zone findings finding are within. sound zone (all_findings (length zone.records)) findings finding are within;
  complete = λ zone findings finding are within is. complete zone (all_findings (length zone.records)) findings finding are within is;
}
