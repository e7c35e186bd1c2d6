use Rattle.std.proofs.Common.{◌≡◌, ◌++◌}
use Rattle.record_text.specs.TypeBitmaps.{windows}
use Rattle.record_text.proofs.data.types.put_windows.Given as goal

abbrev pub invariant-loop-window : goal.invariant-loop-window
invariant-loop-window l = l.«data».items ≡ l.initial.«data».items ++ windows l.types l.window
