use Rattle.std.proofs.Common.{◌≡◌, ◌≤◌, take}
use Rattle.record_text.specs.TypeBitmaps.{bitmap_len}
use Rattle.record_text.proofs.data.types.bitmap_len.Given as goal

abbrev pub invariant-loop-number : goal.invariant-loop-number
invariant-loop-number l = record {
  value : l.len ≡ bitmap_len (take l.number-index l.numbers);
  small : l.len ≤ 8192;
}
