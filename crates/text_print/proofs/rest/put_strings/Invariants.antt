use Rattle.std.proofs.Common.{◌≤◌, ◌-◌, length, take, string_bytes}
use Rattle.text_print.proofs.Behind.{StringsTo}
use Rattle.text_print.proofs.rest.put_strings.Given as goal

abbrev pub invariant-strings : goal.invariant-strings
invariant-strings l = record {
  within : l.place ≤ length l.«data»;
  put : StringsTo (take l.place l.«data») (string_bytes l.fn.out) (string_bytes l.out);
}

abbrev pub decreases-strings : goal.decreases-strings
decreases-strings l = length l.«data» - l.place
