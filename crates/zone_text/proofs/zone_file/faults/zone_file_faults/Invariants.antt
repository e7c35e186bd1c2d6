use Rattle.std.proofs.Common.{◌-◌, ◌≤◌, length, All}
use Rattle.zone_text.specs.ZoneFaults.{AreTaken}
use Rattle.zone_text.specs.ZoneFiles.{IsZoneRecord}
use Rattle.zone_text.proofs.zone_file.faults.zone_file_faults.Given as goal

abbrev pub invariant-entries : goal.invariant-entries
invariant-entries l = record {
  taken : AreTaken l.origin l.text l.place l.before l.faults.items;
  records : All IsZoneRecord l.before.records;
  most : length l.faults.items ≤ 10;
}

abbrev pub decreases-entries : goal.decreases-entries
decreases-entries l = length l.text - l.place
