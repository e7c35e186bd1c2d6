use Rattle.std.proofs.Common.{◌≡◌, ◌∙◌, ℕ, Bool, List, sym, ap, reverse}
use Rattle.std.specs.declared.cmp.Ordering.{Ordering}
use Rattle.std.specs.Ordering.{nat_cmp, bool_cmp, ordering_then}
use Rattle.std.specs.Cmp.Lexicographic.{slice_cmp}
use Rattle.wire_names.specs.rr.domain.DomainName.{DomainName}
use Rattle.wire_names.specs.representation.NameBytes.{wire_bytes}
use Rattle.wire_names.specs.rr.domain.NameOrder.{label_cmp, name_cmp}
use Rattle.wire_names.proofs.lemmas.rr.domain.OrderKeys.{keys_of_names}
use Rattle.wire_names.proofs.lemmas.rr.domain.PaddedBytes.{decided}
use Rattle.wire_names.proofs.rr.domain.lower_name.LowerNameOrd.cmp.Goals as goal

pub returns-in-Equal : goal.returns-in-Equal
returns-in-Equal c =
    let labels : c.compare.result ≡ slice_cmp label_cmp (reverse c.self.inside.name.labels) (reverse c.other.inside.name.labels) =
    c.compare.ensures ∙ ap (λ (k : List ℕ). slice_cmp nat_cmp k (wire_bytes c.other.inside.key)) c.self.invariant.1
    ∙ ap (slice_cmp nat_cmp _) c.other.invariant.1
    ∙ keys_of_names _ _ c.self.invariant.0 c.other.invariant.0 in
    let marks : c.cmp.result ≡ bool_cmp c.self.inside.name.is_fqdn c.other.inside.name.is_fqdn =
    c.cmp.ensures ∙ ap (λ (m : Bool). bool_cmp m c.is_fqdn-in-Equal.result) c.is_fqdn.ensures ∙ ap (bool_cmp c.self.inside.name.is_fqdn) c.is_fqdn-in-Equal.ensures in
    marks ∙ ap (λ (o : Ordering). ordering_then o (bool_cmp c.self.inside.name.is_fqdn c.other.inside.name.is_fqdn)) (sym c.in-Equal.is ∙ labels)
    ∙ ap (λ (n : DomainName). name_cmp n c.other.inside.name) c.self.view_is ∙ ap (name_cmp c.args.self.now) c.other.view_is

pub returns-in_default : goal.returns-in_default
returns-in_default c =
    let labels : c.compare.result ≡ slice_cmp label_cmp (reverse c.self.inside.name.labels) (reverse c.other.inside.name.labels) =
    c.compare.ensures ∙ ap (λ (k : List ℕ). slice_cmp nat_cmp k (wire_bytes c.other.inside.key)) c.self.invariant.1
    ∙ ap (slice_cmp nat_cmp _) c.other.invariant.1
    ∙ keys_of_names _ _ c.self.invariant.0 c.other.invariant.0 in
    decided _ (bool_cmp c.self.inside.name.is_fqdn c.other.inside.name.is_fqdn) c.in_default.not-Equal
    ∙ ap (λ (o : Ordering). ordering_then o (bool_cmp c.self.inside.name.is_fqdn c.other.inside.name.is_fqdn)) labels
    ∙ ap (λ (n : DomainName). name_cmp n c.other.inside.name) c.self.view_is ∙ ap (name_cmp c.args.self.now) c.other.view_is
