use Rattle.std.proofs.Common.{◌≡◌, ℕ, List, [], ◌∷◌, ◌++◌, append_assoc}
use Rattle.std.proofs.lemmas.Result.{err_from_is_err_and}
use Rattle.wire_names.specs.rr.domain.DomainName.{wire_form}
use Rattle.wire_messages.specs.serialize.writing.FullForm.{name_octets}
use Rattle.record_text.specs.RecordText.IsField.{name}
use Rattle.std.specs.Option.{option_copied}
use Rattle.record_text.proofs.NoField.{no_name}
use Rattle.record_text.proofs.data.fields.put_name.Goals as goal

joined : (old wire after all form : List ℕ) → all ≡ after ++ 0 ∷ [] → after ≡ old ++ wire → wire ≡ form → all ≡ old ++ (form ++ 0 ∷ [])
joined old wire after all form e f g = rw (e, f, g, append_assoc old form (0 ∷ []))

pub returns-clause-put : goal.returns-clause-put
returns-clause-put c = (
  name_octets c.in_ok-name.name.labels,
  joined c.args.data.now.items c.as_wire.result.now _ _ (wire_form c.in_ok-name.name.labels) c.in_ok-push.ensures.items c.in_ok-extend_from_slice.ensures.items c.as_wire.ensures.labels,
  name c.in_ok-name.ensures.plain c.in_ok-name.ensures.spelled c.in_ok-name.ensures.short,
)

pub returns-in_err-name-clause-refused : goal.returns-in_err-name-clause-refused
returns-in_err-name-clause-refused c =
    let p = err_from_is_err_and c.from_residual.result c.from_residual.ensures.1 in
    rw (p.1, p.2) (λ other. no_name c.args.word.now (option_copied c.args.origin) (c.in_err-name.ensures.refused other))
