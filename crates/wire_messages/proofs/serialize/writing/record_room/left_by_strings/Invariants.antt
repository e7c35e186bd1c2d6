use Rattle.std.proofs.Common.{◌≡◌, ◌+◌, length, take}
use Rattle.std.specs.List.{flat_map}
use Rattle.wire_messages.specs.rr.RecordData.{character_string}
use Rattle.wire_messages.proofs.serialize.writing.record_room.left_by_strings.Given as goal

-- what is left, and the octets of those that were counted, make the room
abbrev pub invariant-loop-text : goal.invariant-loop-text
invariant-loop-text l = l.left + length (flat_map character_string (take l.text-index l.strings)) ≡ l.room
