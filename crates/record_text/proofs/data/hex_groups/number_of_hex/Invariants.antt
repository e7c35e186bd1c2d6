use Rattle.std.proofs.Common.{◌≡◌, take}
use Rattle.std.specs.Str.Parse.{AllDigits, digits_value}
use Rattle.record_text.proofs.data.hex_groups.number_of_hex.Given as goal

abbrev pub invariant-loop-digit : goal.invariant-loop-digit
invariant-loop-digit l = record {
  digits : AllDigits 16 (take l.digit-index l.digits);
  value : digits_value 16 (take l.digit-index l.digits) ≡ l.number;
}
