use Rattle.std.proofs.Common.{◌≡◌, ◌≤◌, take}
use Rattle.record_text.specs.Prefixes.{trimmed}
use Rattle.record_text.proofs.data.prefixes.trimmed_len.Given as goal

abbrev pub invariant-loop-place : goal.invariant-loop-place
invariant-loop-place l = record {
  within : l.len ≤ l.place;
  rest : take l.len l.octets ≡ trimmed (take l.place l.octets);
}
