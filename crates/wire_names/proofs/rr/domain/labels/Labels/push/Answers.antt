use Rattle.std.proofs.Common.{◌≡◌, ◌+◌, ◌-◌, ◌<◌, ◌∙◌, ℕ, List, [], ◌∷◌, ◌++◌, ap, arith, length, take, rules}
use Rattle.wire_names.specs.rr.domain.DomainName.{wire_form, cut}
use Rattle.wire_names.proofs.lemmas.rr.domain.WireForm.{pushed, wire-size, are-push, is_wire_of, cut_of}
use Rattle.wire_names.proofs.rr.domain.labels.Labels.push.Goals as goal

pub invariant_of-self : goal.invariant_of-self
invariant_of-self c =
    let bytes : List ℕ = c.self.inside.bytes in
    let n : ℕ = c.self.inside.len in
    let label : List ℕ = c.args.label.now in
    let long : length bytes ≡ 255 = c.self.told in
    let size : length (wire_form (cut (take n bytes))) ≡ n = wire-size bytes n c.self.invariant.1 (omega arith) in
    let fits : n + 1 + length label < 255 = omega (arith, size, ap (λ (ls : List (List ℕ)). length (wire_form ls)) c.self.view_is) in
    let same : c.copy_from_slice.new.self ≡ label = search rules in
    let e = pushed bytes label c.copy_from_slice.new.self n (n + 1 + length label - (n + 1)) same (omega arith) c.self.invariant.1 in
    (fits, is_wire_of _ _ e (are-push (cut (take n bytes)) label c.self.invariant.1.are c.requires.label (omega (arith, size))))

pub returns : goal.returns
returns c =
    let bytes : List ℕ = c.self.inside.bytes in
    let n : ℕ = c.self.inside.len in
    let label : List ℕ = c.args.label.now in
    let long : length bytes ≡ 255 = c.self.told in
    let size : length (wire_form (cut (take n bytes))) ≡ n = wire-size bytes n c.self.invariant.1 (omega arith) in
    let fits : n + 1 + length label < 255 = omega (arith, size, ap (λ (ls : List (List ℕ)). length (wire_form ls)) c.self.view_is) in
    let same : c.copy_from_slice.new.self ≡ label = search rules in
    let e = pushed bytes label c.copy_from_slice.new.self n (n + 1 + length label - (n + 1)) same (omega arith) c.self.invariant.1 in
    cut_of _ _ e ∙ ap (λ (ls : List (List ℕ)). ls ++ label ∷ []) c.self.view_is
