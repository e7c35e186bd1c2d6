use Rattle.std.proofs.Common.{◌≡◌, ◌-◌, ◌∙◌, ℕ, List, length, drop, ap, sym, arith}
use Rattle.wire_names.specs.rr.domain.DomainName.{DomainName, wire_form, cut}
use Rattle.wire_names.specs.representation.NameBytes.{wire_bytes}
use Rattle.wire_names.proofs.lemmas.rr.domain.FirstLabel.{end_fits, end_wire, end_labels}
use Rattle.wire_names.proofs.rr.domain.name.Name.keep_last.Goals as goal

pub overflow_sub-front : goal.overflow_sub-front
overflow_sub-front c =
    let size : c.args.len ≡ length (wire_form (drop c.requires.0 (cut (wire_bytes c.self.inside.wire)))) = c.requires.1 ∙ ap (λ (d : DomainName). length (wire_form (drop c.requires.0 d.labels))) (sym c.self.view_is) in
    omega (arith, end_fits (wire_bytes c.self.inside.wire) c.args.len c.requires.0 c.self.invariant size, ap length c.as_slice.ensures)

pub invariant_of-self : goal.invariant_of-self
invariant_of-self c =
    let size : c.args.len ≡ length (wire_form (drop c.requires.0 (cut (wire_bytes c.self.inside.wire)))) = c.requires.1 ∙ ap (λ (d : DomainName). length (wire_form (drop c.requires.0 d.labels))) (sym c.self.view_is) in
    end_wire (wire_bytes c.self.inside.wire) _ c.args.len c.requires.0 c.self.invariant size (c.remove_front.ensures ∙ ap (λ (bytes : List ℕ). drop (length bytes - c.args.len) (wire_bytes c.self.inside.wire)) c.as_slice.ensures)

pub returns : goal.returns
returns c = λ n is.
    let size : c.args.len ≡ length (wire_form (drop n (cut (wire_bytes c.self.inside.wire)))) = is ∙ ap (λ (d : DomainName). length (wire_form (drop n d.labels))) (sym c.self.view_is) in
    ap (λ (ls : List (List ℕ)). let d : DomainName = record { labels = ls; is_fqdn = c.self.inside.is_fqdn } in d)
    (end_labels (wire_bytes c.self.inside.wire) _ c.args.len n c.self.invariant size (c.remove_front.ensures ∙ ap (λ (bytes : List ℕ). drop (length bytes - c.args.len) (wire_bytes c.self.inside.wire)) c.as_slice.ensures))
    ∙ ap (λ (name : DomainName). let d : DomainName = record { labels = drop n name.labels; is_fqdn = name.is_fqdn } in d) c.self.view_is
