use Rattle.std.proofs.Common.{◌≡◌, ◌↔◌, Some, IsTrue, subst}
use Rattle.std.specs.List.{slice_get}
use Rattle.wire_messages.specs.declared.rr.rdata.RData.{RData}
use Rattle.wire_messages.specs.declared.rr.record.Record.{Record}
use Rattle.zone_check.specs.CheckedZones.{CheckedZone}
use Rattle.zone_check.specs.Findings.{IsRepeated}
use Rattle.zone_check.proofs.subject.Subject.is_repeated.Goals as goal

pub returns : goal.returns
returns c = subst (λ (zone : CheckedZone). (r : Record RData) → slice_get zone.records c.args.place ≡ Some r → (IsTrue c.stands_before.result ↔ IsRepeated zone.records c.args.place r)) c.self.view_is c.stands_before.ensures
