use Rattle.std.proofs.Common.{◌≢◌, ℕ, ◌≤◌, ◌<◌, ◌-◌, get_or, length}
use Rattle.zone_text.proofs.zone_file.faults.line_end.Given as goal

abbrev pub invariant-bytes : goal.invariant-bytes
invariant-bytes l = record {
  on : l.start ≤ l.place;
  within : l.place ≤ length l.text;
  one_line : (i : ℕ) → l.start ≤ i → i < l.place → get_or l.text i 0 ≢ 10;
}

abbrev pub decreases-bytes : goal.decreases-bytes
decreases-bytes l = length l.text - l.place
