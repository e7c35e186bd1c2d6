-- What is put so far, and what is left, are the whole.
use Rattle.std.proofs.Common.{◌≡◌, ◌++◌, ◌+◌, drop}
use Rattle.server_reports.specs.QueryLines.{labels_len, labels_text}
use Rattle.server_reports.proofs.names.put_labels.Given as goal

abbrev pub invariant-loop-i : goal.invariant-loop-i
invariant-loop-i l = (l.line.items ++ labels_text l.left (drop l.i l.bytes) ≡ l.fn.line.items ++ labels_text 0 l.bytes)
    × (l.i + labels_len l.left (drop l.i l.bytes) ≡ labels_len 0 l.bytes)
