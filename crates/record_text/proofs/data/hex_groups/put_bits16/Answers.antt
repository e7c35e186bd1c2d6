use Rattle.std.proofs.Common.{◌^◌, ◌<◌, ◌≤◌, ℕ, List, length, arith}
use Rattle.std.specs.Int.{w16, to_be_bytes}
use Rattle.record_text.specs.declared.data.hex_groups.Group.TheVariants as group
use Rattle.record_text.specs.Groups.{IsGroup, IsHex}
use Rattle.record_text.specs.Groups.IsGroup.{bits16}
use Rattle.record_text.specs.RecordText.{HasNone}
use Rattle.record_text.proofs.Digits.{sixteen_bits}
use Rattle.record_text.proofs.data.hex_groups.put_bits16.Goals as goal

no_number : (digits : List ℕ) → HasNone (λ n. IsHex digits n × (n < 2 ^ 16)) → HasNone (IsGroup group.Bits16 digits)
no_number digits none octets (bits16 {n = n} some few is) = none n (is, sixteen_bits digits n few is)

pub returns-in_default-clause-refused : goal.returns-in_default-clause-refused
returns-in_default-clause-refused c = λ other. no_number c.args.digits.now c.in_default.ensures.none

pub returns-clause-put : goal.returns-clause-put
returns-clause-put c =
    let some : 0 < length c.args.digits.now = omega arith in
    let few : length c.args.digits.now ≤ 4 = omega arith in
    (to_be_bytes w16 c.in-Some.number, rw c.to_be_bytes.ensures at c.in_ok-extend_from_slice.ensures.items, bits16 some few c.in-Some.ensures.value)
