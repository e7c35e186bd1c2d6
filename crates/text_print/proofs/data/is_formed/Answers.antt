use Rattle.std.proofs.Common.{◌≡◌, ◌∙◌, ◌==◌, ap, true, false, ℕ, length, refl, rules, sym, subst, []}
use Rattle.wire_messages.specs.declared.rr.rdata.RData.{RData}
use Rattle.wire_messages.specs.serialize.layout.RecordLayout.{IsFormed}
use Rattle.wire_messages.proofs.lemmas.serialize.layout.Ranges.{ipv6_in_range}
use Rattle.text_print.proofs.data.is_formed.Goals as goal

pub returns-in-AAAA-clause-formed : goal.returns-in-AAAA-clause-formed
returns-in-AAAA-clause-formed c = λ told.
    let size : length c.octets-in-AAAA.result ≡ 16 = search rules in
    subst (λ (r : RData). IsFormed r) (sym c.in-AAAA.is) (ipv6_in_range c.in-AAAA.address [] c.octets-in-AAAA.result c.octets-in-AAAA.result c.octets-in-AAAA.ensures size refl c.byte_count.ensures.bytes, tt)

not_other : (size n : ℕ) → n ≡ size → size ≡ 16 → (n == 16) ≡ false → ⊥
not_other size n e f told = let same : (n == 16) ≡ true = ap (λ (k : ℕ). k == 16) (e ∙ f) in let clash : true ≡ false = sym same ∙ told in cc

pub returns-in-AAAA-clause-other : goal.returns-in-AAAA-clause-other
returns-in-AAAA-clause-other c = λ told.
    let size : length c.octets-in-AAAA.result ≡ 16 = search rules in
    absurd (not_other (length c.octets-in-AAAA.result) c.byte_count.result c.byte_count.ensures.count size told)
