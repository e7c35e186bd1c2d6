use Rattle.std.proofs.Common.{◌-◌, ◌+◌, ◌*◌, length}
use Rattle.check_zone.proofs.places.+walking.Given as goal

abbrev pub decreases-walk_text-entries : goal.decreases-walk_text-entries
decreases-walk_text-entries g l = length l.text - l.place

abbrev pub decreases-walk_file : goal.decreases-walk_file
decreases-walk_file g l = 2 * l.levels

abbrev pub decreases-walk_text : goal.decreases-walk_text
decreases-walk_text g l = 2 * l.levels + 1
