use Rattle.std.proofs.Common.{◌≡◌, ◌≢◌, ◌+◌, ◌-◌, ◌<◌, ◌≤◌, ℕ, take, get_or}
use Rattle.std.specs.Prelude.{count_by}
use Rattle.zone_text.specs.ZoneFaults.{is_line_feed}
use Rattle.zone_text.proofs.zone_file.fault.line_and_column.Given as goal

abbrev pub invariant-loop-at : goal.invariant-loop-at
invariant-loop-at l = record {
  on : l.start ≤ l.at;
  begins : 0 < l.start → get_or l.text (l.start - 1) 0 ≡ 10;
  one_line : (i : ℕ) → l.start ≤ i → i < l.at → get_or l.text i 0 ≢ 10;
  lines : l.line ≡ count_by is_line_feed (take l.at l.text) + 1;
  small : l.line ≤ l.at + 1;
}
