use Rattle.std.proofs.Common.{take}
use Rattle.std.specs.Fmt.{HasWritten, IsPlainFormatter}
use Rattle.wire_names.specs.text.TextForm.{bytes_text}
use Rattle.wire_names.proofs.rr.domain.name_display.TextBytesDisplay.fmt.Given as goal

abbrev pub invariant-loop-byte : goal.invariant-loop-byte
invariant-loop-byte g l =
    IsPlainFormatter l.initial.f
    → HasWritten g.W.Write.write_str_gives l.initial.f (bytes_text l.self.quoted (take l.byte-index l.self.bytes.now)) l.f
