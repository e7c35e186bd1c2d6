use Rattle.std.proofs.Common.{◌≡◌, ◌++◌, map, take}
use Rattle.server_settings.specs.Settings.{said, strings_of}
use Rattle.server_settings.proofs.writing.put_settings.Given as goal

abbrev pub invariant-loop-i : goal.invariant-loop-i
invariant-loop-i l = l.written.items ≡ l.fn.written.items ++ strings_of (map said (take l.i l.fn.all))
