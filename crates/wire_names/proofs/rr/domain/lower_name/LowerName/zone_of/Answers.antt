use Rattle.std.proofs.Common.{◌↔◌, ◌≡◌, ◌∙◌, ℕ, false, length, take, ap, length-take, arith, subst}
use Rattle.std.specs.Bool.{IsTrue}
use Rattle.std.proofs.lemmas.Bool.{false≢true}
use Rattle.wire_names.specs.rr.domain.DomainName.{DomainName}
use Rattle.wire_names.specs.rr.domain.NameOrder.{Encloses}
use Rattle.wire_names.proofs.lemmas.rr.domain.OrderKeys.{key_encloses}
use Rattle.wire_names.proofs.rr.domain.lower_name.LowerName.zone_of.Goals as goal

pub returns : goal.returns
returns c =
    let inside : IsTrue c.are_same.result ↔ Encloses c.self.inside.name.labels c.other.inside.name.labels =
    key_encloses c.self.inside.name.labels c.other.inside.name.labels c.as_slice-own.result.now c.as_slice-all.result.now c.are_same.result c.self.invariant.0 c.other.invariant.0
    (c.as_slice-own.ensures ∙ c.self.invariant.1) (c.as_slice-all.ensures ∙ c.other.invariant.1) c.are_same.ensures in
    subst (λ (d : DomainName). IsTrue c.are_same.result ↔ Encloses d.labels c.args.other.now.labels) c.self.view_is
    (subst (λ (d : DomainName). IsTrue c.are_same.result ↔ Encloses c.self.inside.name.labels d.labels) c.other.view_is inside)

pub returns-then-own-all : goal.returns-then-own-all
returns-then-own-all c =
    let own = c.as_slice-own.result.now in
    let all = c.as_slice-all.result.now in
    let longer : IsTrue false ↔ (take (length own) all ≡ own) = (λ f. absurd (false≢true f), λ e. absurd (omega (arith, ap length e, length-take {A = ℕ}, c.if-own-all.true))) in
    let inside : IsTrue false ↔ Encloses c.self.inside.name.labels c.other.inside.name.labels =
    key_encloses c.self.inside.name.labels c.other.inside.name.labels own all false c.self.invariant.0 c.other.invariant.0
    (c.as_slice-own.ensures ∙ c.self.invariant.1) (c.as_slice-all.ensures ∙ c.other.invariant.1) longer in
    subst (λ (d : DomainName). IsTrue false ↔ Encloses d.labels c.args.other.now.labels) c.self.view_is
    (subst (λ (d : DomainName). IsTrue false ↔ Encloses c.self.inside.name.labels d.labels) c.other.view_is inside)
