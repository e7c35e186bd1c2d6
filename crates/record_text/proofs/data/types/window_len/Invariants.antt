use Rattle.std.proofs.Common.{◌≡◌, ◌≤◌, take}
use Rattle.record_text.specs.TypeBitmaps.{window_len}
use Rattle.record_text.proofs.data.types.window_len.Given as goal

abbrev pub invariant-loop-number : goal.invariant-loop-number
invariant-loop-number l = record {
  value : l.len ≡ window_len (take l.number-index l.types) l.window;
  small : l.len ≤ 32;
}
