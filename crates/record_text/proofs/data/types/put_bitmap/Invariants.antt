use Rattle.std.proofs.Common.{◌≡◌, ◌++◌}
use Rattle.record_text.specs.TypeBitmaps.{bitmap}
use Rattle.record_text.proofs.data.types.put_bitmap.Given as goal

abbrev pub invariant-loop-octet : goal.invariant-loop-octet
invariant-loop-octet l = l.«data».items ≡ l.initial.«data».items ++ bitmap l.types l.first l.octet
