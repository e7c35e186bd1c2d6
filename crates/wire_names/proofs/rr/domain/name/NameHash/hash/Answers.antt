use Rattle.std.proofs.Common.{◌≡◌, ◌∙◌, ap, arith, length, map, List, ℕ, Bool, cond, [], ◌∷◌}
use Rattle.std.proofs.lemmas.List.{length-take}
use Rattle.std.specs.Char.{to_ascii_lowercase}
use Rattle.wire_names.specs.rr.domain.DomainName.{DomainName, wire_form}
use Rattle.wire_names.specs.rr.domain.NameOrder.{lower_labels}
use Rattle.wire_names.proofs.lemmas.rr.domain.WireForm.{wire_short, are_labels_of}
use Rattle.wire_names.proofs.lemmas.rr.domain.SameNames.{lower-wire}
use Rattle.wire_names.proofs.rr.domain.name.NameHash.hash.Goals as goal

pub slice_bounds-buffer-end : goal.slice_bounds-buffer-end
slice_bounds-buffer-end g c =
    let short = wire_short _ c.as_wire-wire.ensures.is_wire.are in
    omega (arith, short, ap length c.as_wire-wire.ensures.is_wire.whole)

pub slice_bounds-lowered-end : goal.slice_bounds-lowered-end
slice_bounds-lowered-end g c =
    let short = wire_short _ c.as_wire-wire.ensures.is_wire.are in
    omega (arith, length-take {A = ℕ}, short, ap length c.as_wire-wire.ensures.is_wire.whole)

pub copy_from_slice-requires : goal.copy_from_slice-requires
copy_from_slice-requires g c =
    let short = wire_short _ c.as_wire-wire.ensures.is_wire.are in
    omega (arith, length-take {A = ℕ}, short, ap length c.as_wire-wire.ensures.is_wire.whole)

pub returns : goal.returns
returns g c =
    let ls : List (List ℕ) = c.args.self.now.labels in
    let own = are_labels_of c.as_wire-wire.result.now ls c.as_wire-wire.ensures.labels c.as_wire-wire.ensures.is_wire in
    let bytes : c.make_ascii_lowercase.new.self ≡ wire_form (lower_labels ls) =
    c.make_ascii_lowercase.ensures.after ∙ ap (map to_ascii_lowercase) (c.copy_from_slice.ensures.after ∙ c.as_wire-wire.ensures.labels) ∙ lower-wire ls own in
    let mark : c.self.inside.is_fqdn ≡ c.args.self.now.is_fqdn = ap (λ (d : DomainName). d.is_fqdn) c.self.view_is in
    c.hash.ensures
    ∙ ap (λ s. g.H.Hasher.write s (cond c.self.inside.is_fqdn 1 0 ∷ [])) (c.write.ensures ∙ ap (g.H.Hasher.write c.args.state.now) bytes)
    ∙ ap (λ (m : Bool). g.H.Hasher.write (g.H.Hasher.write c.args.state.now (wire_form (lower_labels ls))) (cond m 1 0 ∷ [])) mark
