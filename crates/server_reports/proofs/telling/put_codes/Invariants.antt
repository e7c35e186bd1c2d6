-- The lines of the codes so far are put.
use Rattle.std.proofs.Common.{◌≡◌, ◌++◌, string_bytes, take}
use Rattle.server_reports.specs.Exposition.{code_lines}
use Rattle.server_reports.proofs.telling.put_codes.Given as goal

abbrev pub invariant-loop-code : goal.invariant-loop-code
invariant-loop-code l = string_bytes l.text ≡ string_bytes l.fn.text ++ code_lines (take l.code l.codes)
