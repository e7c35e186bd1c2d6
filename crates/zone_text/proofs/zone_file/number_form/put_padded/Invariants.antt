use Rattle.std.proofs.Common.{◌≡◌, ◌++◌, replicate}
use Rattle.zone_text.proofs.zone_file.number_form.put_padded.Given as goal

abbrev pub invariant-zeros : goal.invariant-zeros
invariant-zeros l = l.bytes.items ≡ l.fn.bytes.items ++ replicate l.counter 48
