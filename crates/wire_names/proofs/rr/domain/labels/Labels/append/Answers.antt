use Rattle.std.proofs.Common.{◌≡◌, ◌+◌, ◌-◌, ◌<◌, ◌∙◌, ℕ, List, ◌++◌, ap, arith, length, take, rules}
use Rattle.wire_names.specs.rr.domain.DomainName.{wire_form, cut}
use Rattle.wire_names.proofs.lemmas.rr.domain.WireForm.{appended, wire-size, are-append, is_wire_of, cut_of}
use Rattle.wire_names.proofs.rr.domain.labels.Labels.append.Goals as goal

pub invariant_of-self : goal.invariant_of-self
invariant_of-self c =
    let bytes : List ℕ = c.self.inside.bytes in
    let n : ℕ = c.self.inside.len in
    let wire : List ℕ = c.args.wire.now in
    let long : length bytes ≡ 255 = c.self.told in
    let size : length (wire_form (cut (take n bytes))) ≡ n = wire-size bytes n c.self.invariant.1 (omega arith) in
    let fits : n + length wire < 255 = omega (arith, size, c.requires.fits, ap (λ (ls : List (List ℕ)). length (wire_form ls)) c.self.view_is) in
    let same : c.copy_from_slice.new.self ≡ wire = search rules in
    let e = appended bytes wire c.copy_from_slice.new.self n (n + length wire - n) same (omega arith) c.self.invariant.1 c.requires.wire in
    (fits, is_wire_of _ _ e (are-append (cut (take n bytes)) (cut wire) c.self.invariant.1.are c.requires.wire.are (omega (arith, size, ap length c.requires.wire.whole))))

pub returns : goal.returns
returns c =
    let bytes : List ℕ = c.self.inside.bytes in
    let n : ℕ = c.self.inside.len in
    let wire : List ℕ = c.args.wire.now in
    let long : length bytes ≡ 255 = c.self.told in
    let size : length (wire_form (cut (take n bytes))) ≡ n = wire-size bytes n c.self.invariant.1 (omega arith) in
    let fits : n + length wire < 255 = omega (arith, size, c.requires.fits, ap (λ (ls : List (List ℕ)). length (wire_form ls)) c.self.view_is) in
    let same : c.copy_from_slice.new.self ≡ wire = search rules in
    let e = appended bytes wire c.copy_from_slice.new.self n (n + length wire - n) same (omega arith) c.self.invariant.1 c.requires.wire in
    cut_of _ _ e ∙ ap (λ (ls : List (List ℕ)). ls ++ cut wire) c.self.view_is
