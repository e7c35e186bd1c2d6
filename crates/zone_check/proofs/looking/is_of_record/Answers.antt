use Rattle.std.proofs.Common.{◌≡◌, ◌↔◌, ◌∙◌, Bool, true, false, IfOk, IsTrue, sym, subst}
use Rattle.zone_check.specs.Findings.{IsFoundOfAny, IsFoundOfHashed, IsFoundOfSigned, OneOf, is_for_hashed, is_for_signed}
use Rattle.zone_check.proofs.looking.is_of_record.Goals as goal

pub returns-then-is_for_hashed : goal.returns-then-is_for_hashed
returns-then-is_for_hashed c =
    let zone = c.args.zone.now in
    let r = c.args.record.now in
    let k = c.args.kind in
    let hashed : is_for_hashed k ≡ true = sym c.is_for_hashed.ensures ∙ c.if-is_for_hashed.true in
    subst (λ (b : Bool). IfOk c.is_of_hashed.result (λ is. IsTrue is ↔ OneOf b (IsFoundOfHashed k zone r) (OneOf (is_for_signed k) (IsFoundOfSigned k zone r) (IsFoundOfAny k zone c.args.place r)))) (sym hashed) c.is_of_hashed.ensures

pub returns-then-is_for_signed : goal.returns-then-is_for_signed
returns-then-is_for_signed c =
    let zone = c.args.zone.now in
    let r = c.args.record.now in
    let k = c.args.kind in
    let hashed : is_for_hashed k ≡ false = sym c.is_for_hashed.ensures ∙ c.if-is_for_hashed.false in
    let signed : is_for_signed k ≡ true = sym c.is_for_signed.ensures ∙ c.if-is_for_signed.true in
    subst (λ (b : Bool). IfOk c.is_of_signed.result (λ is. IsTrue is ↔ OneOf b (IsFoundOfHashed k zone r) (OneOf (is_for_signed k) (IsFoundOfSigned k zone r) (IsFoundOfAny k zone c.args.place r)))) (sym hashed) (subst (λ (b : Bool). IfOk c.is_of_signed.result (λ is. IsTrue is ↔ OneOf false (IsFoundOfHashed k zone r) (OneOf b (IsFoundOfSigned k zone r) (IsFoundOfAny k zone c.args.place r)))) (sym signed) c.is_of_signed.ensures)

pub returns : goal.returns
returns c =
    let zone = c.args.zone.now in
    let r = c.args.record.now in
    let k = c.args.kind in
    let hashed : is_for_hashed k ≡ false = sym c.is_for_hashed.ensures ∙ c.if-is_for_hashed.false in
    let signed : is_for_signed k ≡ false = sym c.is_for_signed.ensures ∙ c.if-is_for_signed.false in
    subst (λ (b : Bool). IfOk c.is_of_any.result (λ is. IsTrue is ↔ OneOf b (IsFoundOfHashed k zone r) (OneOf (is_for_signed k) (IsFoundOfSigned k zone r) (IsFoundOfAny k zone c.args.place r)))) (sym hashed) (subst (λ (b : Bool). IfOk c.is_of_any.result (λ is. IsTrue is ↔ OneOf false (IsFoundOfHashed k zone r) (OneOf b (IsFoundOfSigned k zone r) (IsFoundOfAny k zone c.args.place r)))) (sym signed) c.is_of_any.ensures)
