use Rattle.std.proofs.lemmas.Result.{err_from_is_err_and}
use Rattle.std.proofs.Common.{arith, List, [], ◌∷◌, ◌++◌, refl}
use Rattle.std.specs.Int.{w16, to_be_bytes}
use Rattle.std.specs.Option.{option_copied}
use Rattle.std.specs.Prelude.{codes}
use Rattle.wire_messages.specs.serialize.writing.FullForm.{name_octets}
use Rattle.record_text.specs.declared.data.field.Field.TheVariants.{Number16, Name}
use Rattle.record_text.specs.declared.data.field.Rest.TheVariants.{Nothing}
use Rattle.record_text.specs.RecordText.AreFields.{none, more}
use Rattle.record_text.specs.RecordText.IsField.{number16, name}
use Rattle.record_text.specs.TypeTable.{TypeRow, row}
use Rattle.text_words.specs.declared.words.Word.{Word}
use Rattle.record_text.proofs.NoField.{no_name, no_number16}
use Rattle.record_text.proofs.NoRow.{no_field}
use Rattle.record_text.proofs.RowSteps.{of_fields}
use Rattle.record_text.proofs.data.forms.mail_exchange.Goals as goal

pub returns-clause-spelled : goal.returns-clause-spelled
returns-clause-spelled c =
    of_fields (option_copied c.args.origin) 15 (row 15 (codes "MX") (Number16 ∷ Name ∷ []) Nothing) (c.args.preference.now ∷ c.args.exchange.now ∷ [])
    (to_be_bytes w16 c.in_ok-preference.preference ++ name_octets c.in_ok-exchange.exchange.labels) refl refl
    (more (more none (number16 c.in_ok-preference.ensures.spelled.0 c.in_ok-preference.ensures.spelled.1 c.in_ok-preference.ensures.spelled.2)) (name c.in_ok-exchange.ensures.plain c.in_ok-exchange.ensures.spelled c.in_ok-exchange.ensures.short))

abbrev mx_row : TypeRow
mx_row = row 15 (codes "MX") (Number16 ∷ Name ∷ []) Nothing

pub returns-in_err-preference-clause-refused : goal.returns-in_err-preference-clause-refused
returns-in_err-preference-clause-refused c =
    let p = err_from_is_err_and c.from_residual.result c.from_residual.ensures.1 in
    let words : List Word = c.args.preference.now ∷ c.args.exchange.now ∷ [] in
    rw p.1 (λ other. no_field (option_copied c.args.origin) 15 mx_row words 0 Name c.args.preference.now refl (omega arith) (no_number16 c.args.preference.now c.in_err-preference.ensures.refused (option_copied c.args.origin)))

pub returns-in_err-exchange-clause-refused : goal.returns-in_err-exchange-clause-refused
returns-in_err-exchange-clause-refused c =
    let p = err_from_is_err_and c.from_residual-in_err-exchange.result c.from_residual-in_err-exchange.ensures.1 in
    let words : List Word = c.args.preference.now ∷ c.args.exchange.now ∷ [] in
    rw (p.1, p.2) (λ other. no_field (option_copied c.args.origin) 15 mx_row words 1 Name c.args.exchange.now refl (omega arith) (no_name c.args.exchange.now (option_copied c.args.origin) (c.in_err-exchange.ensures.refused other)))
