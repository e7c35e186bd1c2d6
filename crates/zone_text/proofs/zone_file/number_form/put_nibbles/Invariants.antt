use Rattle.std.proofs.Common.{◌≡◌, ◌++◌}
use Rattle.zone_text.specs.Numbered.{nibbles}
use Rattle.zone_text.proofs.zone_file.number_form.put_nibbles.Given as goal

abbrev pub invariant-digits : goal.invariant-digits
invariant-digits l = l.bytes.items ++ nibbles l.upper l.left l.rest ≡ l.fn.bytes.items ++ nibbles l.upper l.len l.number

abbrev pub decreases-digits : goal.decreases-digits
decreases-digits l = l.left
