use Rattle.std.proofs.Common.{◌≡◌, ◌^◌, ◌<◌, ◌≤◌, ℕ, List, [], ◌∷◌, length, arith}
use Rattle.record_text.specs.declared.data.hex_groups.Group.TheVariants as group
use Rattle.record_text.specs.Groups.{IsGroup, IsHex}
use Rattle.record_text.specs.Groups.IsGroup.{octet}
use Rattle.record_text.specs.RecordText.{HasNone}
use Rattle.record_text.proofs.Digits.{eight_bits, sixteen_bits}
use Rattle.record_text.proofs.data.hex_groups.put_octet.Goals as goal

no_number : (digits : List ℕ) → HasNone (λ n. IsHex digits n × (n < 2 ^ 16)) → HasNone (IsGroup group.Octet digits)
no_number digits none octets (octet {n = n} two is) = none n (is, sixteen_bits digits n (omega (arith, two)) is)

too_great : (digits : List ℕ) (number : ℕ) → length digits ≡ 2 → IsHex digits number → 256 ≤ number → HasNone (IsGroup group.Octet digits)
too_great digits number two is great octets other = absurd (omega (arith, eight_bits digits number two is, great))

pub returns-in_default-clause-refused : goal.returns-in_default-clause-refused
returns-in_default-clause-refused c = λ other. no_number c.args.digits.now c.in_default.ensures.none

pub returns-in_default-try_from-clause-refused : goal.returns-in_default-try_from-clause-refused
returns-in_default-try_from-clause-refused c = λ other. too_great c.args.digits.now c.in-Some.number (omega (arith, c.if-digits-ne2.false)) c.in-Some.ensures.value (omega (arith, c.in_default-try_from.ensures))

pub returns-clause-put : goal.returns-clause-put
returns-clause-put c =
    let two : length c.args.digits.now ≡ 2 = omega (arith, c.if-digits-ne2.false) in
    (c.in-Ok.octet ∷ [], c.in_ok-push.ensures.items, rw c.in-Ok.ensures.1 (octet two c.in-Some.ensures.value))
