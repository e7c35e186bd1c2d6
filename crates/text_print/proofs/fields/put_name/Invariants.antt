use Rattle.std.proofs.Common.{◌≤◌, ◌-◌, length, take, string_bytes}
use Rattle.text_print.proofs.Names.{NamedTo}
use Rattle.text_print.proofs.fields.put_name.Given as goal

abbrev pub invariant-labels : goal.invariant-labels
invariant-labels l = record {
  within : l.place ≤ length l.«data»;
  few : l.place ≤ 254;
  named : NamedTo (take l.place l.«data») (string_bytes l.fn.out) (string_bytes l.out);
}

abbrev pub decreases-labels : goal.decreases-labels
decreases-labels l = length l.«data» - l.place
