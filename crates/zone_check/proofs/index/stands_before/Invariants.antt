use Rattle.std.proofs.Common.{◌≡◌, ◌≤◌, Some}
use Rattle.std.specs.List.{slice_get}
use Rattle.wire_messages.specs.declared.rr.rdata.RData.{RData}
use Rattle.wire_messages.specs.declared.rr.record.Record.{Record}
use Rattle.zone_check.proofs.Earlier.{Walked}
use Rattle.zone_check.proofs.index.stands_before.Given as goal

abbrev pub invariant-earlier : goal.invariant-earlier
invariant-earlier l = record { on : l.at ≤ l.place; walked : (r : Record RData) → slice_get l.records l.place ≡ Some r → Walked l.records l.place r l.at }

abbrev pub decreases-earlier : goal.decreases-earlier
decreases-earlier l = l.at
