use Rattle.std.proofs.Common.{◌≡◌, take}
use Rattle.std.specs.Str.Parse.{AllDigits, digits_value}
use Rattle.record_text.proofs.data.hashes.number_of_group.Given as goal

abbrev pub invariant-loop-digit : goal.invariant-loop-digit
invariant-loop-digit l = record {
  digits : AllDigits 32 (take l.digit-index l.digits);
  value : digits_value 32 (take l.digit-index l.digits) ≡ l.number;
}
