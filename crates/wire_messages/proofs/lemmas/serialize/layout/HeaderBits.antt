-- The two bytes of flags keep each bit.
use Rattle.std.proofs.Common.{◌≡◌, ℕ, ◌+◌, ◌*◌, ◌/◌, ◌%◌, ◌^◌, ◌<◌, Bool, true, false, eqb, cond, refl, ap, ◌∙◌, arith}
use Rattle.wire_messages.specs.serialize.layout.HeaderLayout.{bit, flag, metadata_of, is_response, first_flags, second_flags}
use Rattle.wire_messages.specs.declared.op.header.MessageType.{MessageType}
use Rattle.wire_messages.specs.declared.op.header.MessageType.TheVariants as message_type
use Rattle.wire_messages.specs.declared.op.header.Metadata.{Metadata}

-- a bit as a number
value : Bool → ℕ
value true = 1
value false = 0

-- a bit's number tells the bit
value-is : (b : Bool) → eqb (value b) 1 ≡ b
unfolding value
value-is true = refl
value-is false = refl

value-small : (b : Bool) → value b < 2
unfolding value
value-small true = omega arith
value-small false = omega arith

-- a flag is its bit's number, shifted
flag-value : (b : Bool) (k : ℕ) → flag b k ≡ value b * 2 ^ k
unfolding value
flag-value true k = omega arith
flag-value false k = omega arith

-- what four bits and an opcode in a byte are
first_parts : (q o a t r one : ℕ) → q < 2 → o < 16 → a < 2 → t < 2 → r < 2 → one ≡ q * 2 ^ 7 + o * 8 + a * 2 ^ 2 + t * 2 ^ 1 + r * 2 ^ 0
    → (one / 2 ^ 7 % 2 ≡ q) × (one / 8 % 16 ≡ o) × (one / 2 ^ 2 % 2 ≡ a) × (one / 2 ^ 1 % 2 ≡ t) × (one / 2 ^ 0 % 2 ≡ r)
first_parts q o a t r one hq ho ha ht hr e = (omega arith, omega arith, omega arith, omega arith, omega arith)

-- what three bits and a low code in a byte are
second_parts : (r a c n two : ℕ) → r < 2 → a < 2 → c < 2 → n < 16 → two ≡ r * 2 ^ 7 + a * 2 ^ 5 + c * 2 ^ 4 + n
    → (two / 2 ^ 7 % 2 ≡ r) × (two / 2 ^ 5 % 2 ≡ a) × (two / 2 ^ 4 % 2 ≡ c) × (two % 16 ≡ n)
second_parts r a c n two hr ha hc hn e = (omega arith, omega arith, omega arith, omega arith)

-- the bit of a byte, by its number
bit-is : (b : Bool) (byte k : ℕ) → byte / 2 ^ k % 2 ≡ value b → bit byte k ≡ b
bit-is b byte k e = ap (λ n. eqb n 1) e ∙ value-is b

-- QR tells whether a message answers
kind-is : (kind : MessageType) → cond (is_response kind) message_type.Response message_type.Query ≡ kind
kind-is message_type.Response = refl
kind-is message_type.Query = refl

-- what was written in the two bytes is what they say, but for the high bits of the code
pub bits_kept : (m : Metadata) → m.op_code < 16 → metadata_of m.id (first_flags m) (second_flags m) ≡ record m { response_code = m.response_code % 16 }
bits_kept m small =
    let q = is_response m.message_type in
    let f : first_flags m ≡ value q * 2 ^ 7 + m.op_code * 8 + value m.authoritative * 2 ^ 2 + value m.truncation * 2 ^ 1 + value m.recursion_desired * 2 ^ 0 =
    omega (arith, flag-value q 7, flag-value m.authoritative 2, flag-value m.truncation 1, flag-value m.recursion_desired 0) in
    let s : second_flags m ≡ value m.recursion_available * 2 ^ 7 + value m.authentic_data * 2 ^ 5 + value m.checking_disabled * 2 ^ 4 + m.response_code % 16 =
    omega (arith, flag-value m.recursion_available 7, flag-value m.authentic_data 5, flag-value m.checking_disabled 4) in
    let p = first_parts (value q) m.op_code (value m.authoritative) (value m.truncation) (value m.recursion_desired) (first_flags m)
    (value-small q) small (value-small m.authoritative) (value-small m.truncation) (value-small m.recursion_desired) f in
    let r = second_parts (value m.recursion_available) (value m.authentic_data) (value m.checking_disabled) (m.response_code % 16) (second_flags m)
    (value-small m.recursion_available) (value-small m.authentic_data) (value-small m.checking_disabled) (omega arith) s in
    let kind : cond (bit (first_flags m) 7) message_type.Response message_type.Query ≡ m.message_type =
    ap (λ b. cond b message_type.Response message_type.Query) (bit-is q (first_flags m) 7 p.0) ∙ kind-is m.message_type in
    rw (
      kind,
      p.1,
      bit-is m.authoritative (first_flags m) 2 p.2,
      bit-is m.truncation (first_flags m) 1 p.3,
      bit-is m.recursion_desired (first_flags m) 0 p.4,
      bit-is m.recursion_available (second_flags m) 7 r.0,
      bit-is m.authentic_data (second_flags m) 5 r.1,
      bit-is m.checking_disabled (second_flags m) 4 r.2,
      r.3,
    ) refl
