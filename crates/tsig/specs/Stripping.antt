-- A message without the TSIG record that it ends in.
use Rattle.std.specs.Prelude.{◌≡◌, ℕ, ◌-◌, List, ◌++◌, slice_range, take}
use Rattle.std.specs.Int.{w16, to_be_bytes}
use Rattle.wire_messages.specs.declared.rr.record.Record.{Record}
use Rattle.wire_messages.specs.declared.rr.tsig.TSIG.{TSIG}
use Rattle.tsig.specs.Standing.{SignedAt}

-- the message with one additional record less, and without the last record, which begins at this place
abbrev pub without_last : List ℕ → ℕ → ℕ → List ℕ
without_last bytes additionals place = take 10 bytes ++ to_be_bytes w16 (additionals - 1) ++ slice_range bytes 12 place

-- The message without its TSIG record, where it has one that is its last record (RFC 8945 section 5.1); and else the
-- message.
pub data IsStripped (bytes stripped : List ℕ) : Type 0 where
  signed : (additionals place stop : ℕ) (s : Record TSIG) → SignedAt bytes additionals place s stop → stripped ≡ without_last bytes additionals place → IsStripped bytes stripped
  other : ((additionals place stop : ℕ) (s : Record TSIG) → SignedAt bytes additionals place s stop → ⊥) → stripped ≡ bytes → IsStripped bytes stripped
