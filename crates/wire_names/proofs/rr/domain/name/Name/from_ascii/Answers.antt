use Rattle.std.proofs.Common.{◌≡◌, refl, Result, Ok, Err}
use Rattle.std.specs.Result.{IsErrAnd}
use Rattle.wire_names.specs.declared.error.NameError.{NameError}
use Rattle.wire_names.specs.declared.error.NameError.TheVariants.{Text, Memory}
use Rattle.wire_names.specs.rr.domain.DomainName.{DomainName}
use Rattle.wire_names.specs.rr.domain.NameText.{IsNameText}
use Rattle.wire_names.proofs.rr.domain.name.Name.from_ascii.Goals as goal

memory_is_not_text : {T : Type 0} (r : Result T NameError) → IsErrAnd r (λ e. e ≡ Memory) → r ≡ Err Text → ⊥
memory_is_not_text (Ok x) h e = cc
memory_is_not_text (Err f) h e = let k : f ≡ Text = cc in cc

pub returns-in_err-to_name-clause-text : goal.returns-in_err-to_name-clause-text
returns-in_err-to_name-clause-text c =
    let whole : DomainName = record { labels = c.read_text.new.labels; is_fqdn = c.in-Some.is_fqdn } in
    let is : IsNameText c.as_bytes.result.now whole = (c.in-Some.ensures whole).1 refl in
    (λ e n h. memory_is_not_text c.from_residual.result c.from_residual.ensures.1 e, λ h. absurd (h whole (rw c.as_bytes.ensures.value at is)))
