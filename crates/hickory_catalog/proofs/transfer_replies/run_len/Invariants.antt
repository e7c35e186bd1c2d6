use Rattle.std.proofs.Common.{◌≡◌, ◌+◌, take}
use Rattle.std.specs.List.{sum_by}
use Rattle.wire_messages.specs.serialize.writing.RecordSize.{full_size}
use Rattle.hickory_catalog.proofs.transfer_replies.run_len.Given as goal

-- what is left, and the sizes of those that were counted, make the room
abbrev pub invariant-loop-place : goal.invariant-loop-place
invariant-loop-place l = l.left + sum_by full_size (take l.place l.records) ≡ l.room
