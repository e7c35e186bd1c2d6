use Rattle.server_settings.specs.Settings.{NoneRefusedBefore}
use Rattle.server_settings.proofs.reading.first_fault.Given as goal

abbrev pub invariant-loop-i : goal.invariant-loop-i
invariant-loop-i l = NoneRefusedBefore l.fn.options l.fn.text l.i
