use Rattle.std.proofs.Common.{◌∙◌, ap, sym, string_bytes}
use Rattle.std.specs.Option.{option_copied, option_map}
use Rattle.record_text.specs.RecordText.{row_view}
use Rattle.record_text.specs.TypeTable.{row_of}
use Rattle.text_print.proofs.PrintedFields.{if_some}
use Rattle.text_print.proofs.Wholes.{form_row}
use Rattle.text_print.proofs.data.form_text.Goals as goal

pub returns-then-branch : goal.returns-then-branch
returns-then-branch c =
    form_row c.args.record_type (row_view c.in-Some.row.now) c.args.data.now c.in-Some-2.len (string_bytes c.new-text.result) (string_bytes c.put_fields.new.out) (string_bytes c.put_rest.new.out)
    (ap row_of (sym c.value.ensures) ∙ sym c.row_of.ensures ∙ ap (λ r. option_map row_view (option_copied r)) c.in-Some.is) c.new-text.ensures.bytes
    (if_some _ c.in_ok-len.field-0 c.in-Some-2.len c.in-Some-2.is c.in_ok-len.ensures.put) (c.in_ok-put_rest.ensures c.if-branch.true)
