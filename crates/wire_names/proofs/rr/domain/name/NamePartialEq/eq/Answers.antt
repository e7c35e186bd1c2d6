use Rattle.std.proofs.Common.{◌≡◌, ◌∙◌, ap, sym, subst, rules, map, List, ℕ}
use Rattle.std.specs.Str.{bytes_eq}
use Rattle.std.specs.Char.{to_ascii_lowercase}
use Rattle.wire_names.specs.rr.domain.DomainName.{DomainName, wire_form, AreLabels}
use Rattle.wire_names.proofs.lemmas.rr.domain.SameNames.{name_eq_flat, decided}
use Rattle.wire_names.proofs.rr.domain.name.NamePartialEq.eq.Goals as goal

pub returns-then-self-other : goal.returns-then-self-other
returns-then-self-other c =
    let labels = λ (d : DomainName). d.labels in
    let own : AreLabels c.args.self.now.labels = subst AreLabels (ap labels c.self.view_is) c.self.invariant.are in
    let others : AreLabels c.args.other.now.labels = subst AreLabels (ap labels c.other.view_is) c.other.invariant.are in
    let marks : c.args.self.now.is_fqdn ≡ c.args.other.now.is_fqdn =
    sym (ap (λ (d : DomainName). d.is_fqdn) c.self.view_is) ∙ search rules ∙ ap (λ (d : DomainName). d.is_fqdn) c.other.view_is in
    decided _ _ _ c.eq_ignore_ascii_case.ensures.test
    ∙ ap (λ (s : List ℕ). bytes_eq (map to_ascii_lowercase s) (map to_ascii_lowercase c.as_wire-then-self-other.result.now)) c.as_wire.ensures.labels
    ∙ ap (λ (s : List ℕ). bytes_eq (map to_ascii_lowercase (wire_form c.args.self.now.labels)) (map to_ascii_lowercase s)) c.as_wire-then-self-other.ensures.labels
    ∙ sym (name_eq_flat c.args.self.now c.args.other.now own others marks)
