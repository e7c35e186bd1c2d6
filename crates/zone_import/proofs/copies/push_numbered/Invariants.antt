-- Copies of the records so far stand behind what was there.
use Rattle.std.proofs.Common.{◌≡◌, ◌++◌, map, take}
use Rattle.zone_import.specs.Imports.{numbered}
use Rattle.zone_import.proofs.copies.push_numbered.Given as goal

abbrev pub invariant-loop-record : goal.invariant-loop-record
invariant-loop-record l = l.all.items ≡ l.fn.all.items ++ map (numbered l.serial) (take l.record-index l.records)
