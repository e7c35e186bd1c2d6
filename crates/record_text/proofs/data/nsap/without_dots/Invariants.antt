use Rattle.std.proofs.Common.{◌≡◌, take}
use Rattle.record_text.specs.Groups.{without_dots}
use Rattle.record_text.proofs.data.nsap.without_dots.Given as goal

abbrev pub invariant-loop-byte : goal.invariant-loop-byte
invariant-loop-byte l = l.digits.items ≡ without_dots (take l.byte-index l.text)
