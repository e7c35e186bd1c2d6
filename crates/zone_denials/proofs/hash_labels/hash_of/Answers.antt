use Rattle.std.proofs.Common.{◌≡◌, ◌==◌, ◌∙◌, ◌++◌, Some, true, length, take, drop, refl, sym, ap, arith}
use Rattle.std.proofs.lemmas.Bool.Decides.{nat_tests}
use Rattle.zone_denials.specs.HashLabels.{group_in}
use Rattle.zone_denials.proofs.lemmas.HashGroups.{are_five, five}
use Rattle.zone_denials.proofs.hash_labels.hash_of.Goals as goal

pub returns : goal.returns
returns c =
    let label = c.args.label.now in
    let size : (length label == 32) ≡ true = grind (arith, nat_tests) in
    let a : Some c.in_ok-a.field-0 ≡ group_in (take 8 label) = sym c.in_ok-a.was ∙ c.group_of.ensures in
    let f : Some c.in_ok-f.field-0 ≡ group_in (take 8 (drop 8 label)) = sym c.in_ok-f.was ∙ c.group_of-2.ensures in
    let k : Some c.in_ok-k.field-0 ≡ group_in (take 8 (drop 16 label)) = sym c.in_ok-k.was ∙ c.group_of-3.ensures in
    let p : Some c.in_ok-p.field-0 ≡ group_in (take 8 (drop 24 label)) = sym c.in_ok-p.was ∙ c.group_of-4.ensures in
    let octets : five c.in_ok-a.field-0 ++ (five c.in_ok-f.field-0 ++ (five c.in_ok-k.field-0 ++ five c.in_ok-p.field-0)) ≡ c.in_ok-a.field-0 ++ (c.in_ok-f.field-0 ++ (c.in_ok-k.field-0 ++ c.in_ok-p.field-0)) =
    ap (λ xs. xs ++ (five c.in_ok-f.field-0 ++ (five c.in_ok-k.field-0 ++ five c.in_ok-p.field-0))) (are_five (take 8 label) c.in_ok-a.field-0 a)
    ∙ ap (λ xs. c.in_ok-a.field-0 ++ (xs ++ (five c.in_ok-k.field-0 ++ five c.in_ok-p.field-0))) (are_five (take 8 (drop 8 label)) c.in_ok-f.field-0 f)
    ∙ ap (λ xs. c.in_ok-a.field-0 ++ (c.in_ok-f.field-0 ++ (xs ++ five c.in_ok-p.field-0))) (are_five (take 8 (drop 16 label)) c.in_ok-k.field-0 k)
    ∙ ap (λ xs. c.in_ok-a.field-0 ++ (c.in_ok-f.field-0 ++ (c.in_ok-k.field-0 ++ xs))) (are_five (take 8 (drop 24 label)) c.in_ok-p.field-0 p) in
    ap Some octets ∙ rw size (rw (sym a) (rw (sym f) (rw (sym k) (rw (sym p) refl))))
