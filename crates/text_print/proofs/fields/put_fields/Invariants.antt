use Rattle.std.proofs.Common.{◌≤◌, length, take, string_bytes}
use Rattle.text_print.specs.PrintedData.{ArePrintedFields, PutsWords}
use Rattle.text_print.proofs.fields.put_fields.Given as goal

abbrev pub invariant-loop-field : goal.invariant-loop-field
invariant-loop-field l = record {
  within : l.place ≤ length l.«data»;
  put : PutsWords (λ printed. ArePrintedFields (take l.field-index l.fields) printed (take l.place l.«data»)) (string_bytes l.fn.out) (string_bytes l.out);
}
