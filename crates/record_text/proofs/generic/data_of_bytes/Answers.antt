use Rattle.std.proofs.Common.{◌≡◌, ◌∙◌, ℕ, List, false, true, sym, subst}
use Rattle.std.proofs.lemmas.Result.{err_from_is_err_and}
use Rattle.wire_messages.specs.declared.rr.rdata.RData.{RData}
use Rattle.wire_messages.specs.rr.RecordData.{type_of}
use Rattle.wire_messages.specs.serialize.writing.FullForm.{data_octets}
use Rattle.record_text.specs.RecordText.{AreReadOf, HasNone}
use Rattle.record_text.proofs.generic.data_of_bytes.Goals as goal

pub returns-in_err-rdata-clause-refused : goal.returns-in_err-rdata-clause-refused
returns-in_err-rdata-clause-refused c =
    let p = err_from_is_err_and c.from_residual.result c.from_residual.ensures.1 in
    rw (p.1, p.2) (λ other rdata is. c.in_err-rdata.ensures.refused other rdata is.0)

-- the only data that are read of the octets have another form
other_form : (number : ℕ) (octets : List ℕ) (found : RData) → ((other : RData) → AreReadOf number octets other → other ≡ found) → ((type_of found ≡ number) × (data_octets found ≡ octets) → false ≡ true)
    → HasNone (λ (rdata : RData). AreReadOf number octets rdata × (type_of rdata ≡ number) × (data_octets rdata ≡ octets))
other_form number octets found only told rdata is =
    let same : rdata ≡ found = only rdata is.0 in
    let wrong : false ≡ true = told (subst (λ (r : RData). type_of r ≡ number) same is.1, subst (λ (r : RData). data_octets r ≡ octets) same is.2) in
    cc

pub returns-clause-refused : goal.returns-clause-refused
returns-clause-refused c = λ other. other_form c.args.record_type c.args.data.now c.in_ok-rdata.rdata c.in_ok-rdata.ensures.only (λ both. sym c.if-branch.false ∙ c.in_ok-is_form.ensures.1 both)
