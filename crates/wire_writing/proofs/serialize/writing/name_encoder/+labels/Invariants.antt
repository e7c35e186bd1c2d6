use Rattle.std.proofs.Common.{◌+◌, ◌*◌, length}
use Rattle.wire_writing.proofs.serialize.writing.name_encoder.+labels.Given as goal

abbrev pub decreases-write_labels : goal.decreases-write_labels
decreases-write_labels l = 2 * length l.wire.now + 1

abbrev pub decreases-write_new_labels : goal.decreases-write_new_labels
decreases-write_new_labels l = 2 * length l.wire.now
