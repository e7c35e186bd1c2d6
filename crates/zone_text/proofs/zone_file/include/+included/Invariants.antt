use Rattle.std.proofs.Common.{◌-◌, ◌+◌, ◌*◌, length, All}
use Rattle.zone_text.specs.Included.{IsFrontWithFiles}
use Rattle.zone_text.specs.ZoneFiles.{IsZoneRecord}
use Rattle.zone_text.proofs.zone_file.include.+included.Given as goal

abbrev pub invariant-read_text-entries : goal.invariant-read_text-entries
invariant-read_text-entries g l = record {
  front : IsFrontWithFiles (g.O.FileOpener.opens l.files) l.levels l.text l.fn.before l.place l.before;
  records : All IsZoneRecord l.before.records;
}

abbrev pub decreases-read_text-entries : goal.decreases-read_text-entries
decreases-read_text-entries g l = length l.text - l.place

abbrev pub decreases-take_file : goal.decreases-take_file
decreases-take_file g l = 3 * l.levels

abbrev pub decreases-take_next : goal.decreases-take_next
decreases-take_next g l = 3 * l.levels + 1

abbrev pub decreases-read_text : goal.decreases-read_text
decreases-read_text g l = 3 * l.levels + 2
