use Rattle.std.proofs.Common.{◌≡◌, ◌+◌, length, take}
use Rattle.std.specs.List.{flat_map}
use Rattle.wire_messages.specs.rr.RecordData.{option_octets}
use Rattle.wire_messages.proofs.serialize.writing.record_room.left_by_options.Given as goal

-- what is left, and the octets of those that were counted, make the room
abbrev pub invariant-loop-option : goal.invariant-loop-option
invariant-loop-option l = l.left + length (flat_map option_octets (take l.option-index l.options)) ≡ l.room
