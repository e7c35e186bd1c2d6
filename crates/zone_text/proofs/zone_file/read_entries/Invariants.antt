use Rattle.std.proofs.Common.{◌-◌, length, All}
use Rattle.zone_text.specs.ZoneFiles.{IsFront, IsZoneRecord}
use Rattle.zone_text.proofs.zone_file.read_entries.Given as goal

abbrev pub invariant-entries : goal.invariant-entries
invariant-entries l = record {
  front : IsFront l.origin l.text l.place l.before;
  records : All IsZoneRecord l.before.records;
}

abbrev pub decreases-entries : goal.decreases-entries
decreases-entries l = length l.text - l.place
