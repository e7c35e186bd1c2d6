use Rattle.std.proofs.Common.{◌≡◌, ◌≤◌, map, string_bytes, take}
use Rattle.server_settings.specs.Settings.{ended_strings}
use Rattle.server_settings.proofs.names.names_of.Given as goal

abbrev pub invariant-loop-i : goal.invariant-loop-i
invariant-loop-i l = (ended_strings (map string_bytes l.names.items) ≡ take l.start l.fn.bytes) × (l.start ≤ l.i)
