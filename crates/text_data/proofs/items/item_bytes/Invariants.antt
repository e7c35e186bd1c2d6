use Rattle.std.proofs.Common.{◌≡◌, false, drop}
use Rattle.text_data.specs.ServiceText.{bytes_before, item_bytes}
use Rattle.text_data.proofs.items.item_bytes.Given as goal

abbrev pub invariant-loop-byte : goal.invariant-loop-byte
invariant-loop-byte l = bytes_before l.bytes.items (item_bytes l.is_escaped (drop l.byte-index l.text)) ≡ item_bytes false l.text
