use Rattle.std.proofs.Common.{◌≡◌, inl, inr, Some, sym, ap, ◌∙◌, lit<}
use Rattle.wire_names.specs.rr.domain.DomainName.{DomainName}
use Rattle.wire_names.specs.rr.domain.NameOrder.{lower_name, lower_labels, is_wildcard}
use Rattle.wire_names.specs.rr.domain.NameText.{IsNameText}
use Rattle.hickory_store.specs.blocklist.ListLines.{name_part, name_of}
use Rattle.hickory_store.proofs.lemmas.blocklist.KeptNames.{full}
use Rattle.hickory_store.proofs.lemmas.blocklist.ListedLines.{starts_with_star, lists_one, in_entry_form}
use Rattle.hickory_store.proofs.blocklist.lines.read_line.Goals as goal

pub returns : goal.returns
returns c =
    let text = c.in-Some.text.now in
    let written = c.in-Ok.name in
    let part : name_part c.args.line.now ≡ Some text = sym (c.in-Some.ensures ∙ ap name_of c.entry_of.ensures) in
    let only = λ (n : DomainName) (h : IsNameText text n). elim (c.in-Ok.ensures.only n h) as (λ _. n ≡ written) [ inl e ↦ cc | inr e ↦ absurd cc ] in
    let is : c.in_ok-new.field-0 ≡ full (lower_labels written.labels) = c.in_ok-new.ensures ∙ ap lower_name c.set_fqdn.ensures in
    let star = c.starts_with.ensures.byte (lit< tt) (lit< tt) (λ w o f. f) in (
      in_entry_form written.labels c.in_ok-new.field-0 is,
      star ∙ starts_with_star text written c.in-Ok.ensures.ok ∙ ap (λ (d : DomainName). is_wildcard d.labels) (sym is),
      lists_one c.args.line.now text written part c.in-Ok.ensures.ok only c.in_ok-new.field-0 is,
    )
