use Rattle.std.proofs.Common.{◌≡◌, ◌/◌, ◌^◌, ◌<◌, ◌≤◌, ◌⊎◌}
use Rattle.text_data.proofs.sizes.size_octet.Given as goal

abbrev pub invariant-loop-exponent : goal.invariant-loop-exponent
invariant-loop-exponent l = record {
  first : l.base ≡ l.cents / 10 ^ l.exponent;
  some : (l.exponent ≡ 0) ⊎ (0 < l.base);
  small : l.base ≤ 9000000000;
}
