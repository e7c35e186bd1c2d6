use Rattle.std.proofs.Common.{◌≡◌, take}
use Rattle.std.specs.List.{flat_map}
use Rattle.wire_names.specs.HexLines.{hex_line}
use Rattle.wire_names.proofs.hex_lines.lines_of.Given as goal

-- the lines so far
abbrev pub invariant-loop-bytes : goal.invariant-loop-bytes
invariant-loop-bytes l = l.lines.items ≡ flat_map hex_line (take l.bytes-index l.texts)
