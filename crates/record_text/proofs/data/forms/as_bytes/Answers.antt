use Rattle.std.proofs.Common.{◌≡◌, ◌∙◌, Some, sym, ap, subst}
use Rattle.std.proofs.lemmas.Bool.{eqb-true}
use Rattle.std.proofs.lemmas.List.{nil_from_length}
use Rattle.std.proofs.lemmas.Result.{err_from_is_err_and}
use Rattle.std.specs.Option.{option_copied}
use Rattle.record_text.specs.RecordText.{IsData, row_view}
use Rattle.record_text.specs.TypeTable.{row_of}
use Rattle.record_text.proofs.NoRow.{no_row, none_of_fields, none_of_rest, none_of_row}
use Rattle.record_text.proofs.RowSteps.{of_row}
use Rattle.record_text.proofs.data.forms.as_bytes.Goals as goal

pub returns-clause-spelled : goal.returns-clause-spelled
returns-clause-spelled c =
    rw c.from_vec.ensures (of_row (option_copied c.args.origin) c.args.record_type (row_view c.in-Some.row.now) c.args.words.now c.in_ok-behind.behind.now c.new-bytes.result.items c.put_fields.new.data.items c.put_rest.new.data.items
    (ap row_of (sym c.value.ensures) ∙ sym c.in-Some.ensures) c.new-bytes.ensures.items c.in_ok-behind.ensures.put c.in_ok-put_rest.ensures.put)

pub returns-in_err-behind-clause-refused : goal.returns-in_err-behind-clause-refused
returns-in_err-behind-clause-refused c =
    let p = err_from_is_err_and c.from_residual.result c.from_residual.ensures.1 in
    let found : row_of c.args.record_type ≡ Some (row_view c.in-Some.row.now) = ap row_of (sym c.value.ensures) ∙ sym c.in-Some.ensures in
    rw (p.1, p.2) (λ other. none_of_row (option_copied c.args.origin) c.args.record_type (row_view c.in-Some.row.now) c.args.words.now found
    (none_of_fields (option_copied c.args.origin) (row_view c.in-Some.row.now) c.args.words.now (c.in_err-behind.ensures.refused other)))

pub returns-in_err-put_rest-clause-refused : goal.returns-in_err-put_rest-clause-refused
returns-in_err-put_rest-clause-refused c =
    let p = err_from_is_err_and c.from_residual-in_err-put_rest.result c.from_residual-in_err-put_rest.ensures.1 in
    let found : row_of c.args.record_type ≡ Some (row_view c.in-Some.row.now) = ap row_of (sym c.value.ensures) ∙ sym c.in-Some.ensures in
    rw (p.1, p.2) (λ other. none_of_row (option_copied c.args.origin) c.args.record_type (row_view c.in-Some.row.now) c.args.words.now found
    (none_of_rest (option_copied c.args.origin) (row_view c.in-Some.row.now) c.args.words.now c.in_ok-behind.behind.now c.in_ok-behind.ensures.put.0 c.in_ok-behind.ensures.put.2 (c.in_err-put_rest.ensures.refused other)))

pub returns-in_default-clause-refused : goal.returns-in_default-clause-refused
returns-in_default-clause-refused c = λ other. no_row (option_copied c.args.origin) c.args.record_type c.args.words.now (ap row_of (sym c.value.ensures) ∙ sym c.in_default.ensures)

pub returns-then-is_empty-clause-spelled : goal.returns-then-is_empty-clause-spelled
returns-then-is_empty-clause-spelled c =
    subst (IsData (option_copied c.args.origin) c.args.record_type c.args.words.now)
    (nil_from_length c.put_rest.new.data.items (sym c.put_rest.new.data.ok.0 ∙ eqb-true c.put_rest.new.data.len 0 (sym c.is_empty.ensures ∙ c.if-is_empty.true)))
    (of_row (option_copied c.args.origin) c.args.record_type (row_view c.in-Some.row.now) c.args.words.now c.in_ok-behind.behind.now c.new-bytes.result.items c.put_fields.new.data.items c.put_rest.new.data.items
    (ap row_of (sym c.value.ensures) ∙ sym c.in-Some.ensures) c.new-bytes.ensures.items c.in_ok-behind.ensures.put c.in_ok-put_rest.ensures.put)
