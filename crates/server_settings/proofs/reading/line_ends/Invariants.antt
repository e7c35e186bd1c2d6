use Rattle.std.proofs.Common.{◌≡◌, ◌≤◌, take}
use Rattle.server_settings.specs.Settings.{line_ends}
use Rattle.server_settings.proofs.reading.line_ends.Given as goal

abbrev pub invariant-loop-i : goal.invariant-loop-i
invariant-loop-i l = (l.ends ≡ line_ends (take l.i l.fn.text)) × (l.ends ≤ l.i)
