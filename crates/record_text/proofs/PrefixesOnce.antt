-- A text is one address prefix at most.
use Rattle.std.proofs.Common.{◌≡◌, ◌∙◌, ◌<◌, ◌≤◌, ℕ, true, false, List, cond, sym, ap, subst, arith}
use Rattle.std.specs.Prelude.{◌==◌}
use Rattle.std.proofs.NetLemmas.Theorems.{IsIpv4Text_unique, IsIpv6Text_unique}
use Rattle.std.specs.Net.Addr.{ipv4_octets, ipv6_octets}
use Rattle.text_words.specs.Cuts.{before_byte, behind_byte}
use Rattle.text_words.specs.Spelling.{IsNoNumber, IsNumber}
use Rattle.record_text.specs.Prefixes.{IsAddressOf, IsPrefixOf, SpellsPrefix, address_bits, without_mark}
use Rattle.record_text.specs.Prefixes.IsAddressOf.{ipv4, ipv6}
use Rattle.record_text.specs.RecordText.{HasNone}

pub address_once : (n m : ℕ) (text a b : List ℕ) → n ≡ m → IsAddressOf n text a → IsAddressOf m text b → a ≡ b
address_once n m text a b e (ipv4 {address = x} i) (ipv4 {address = y} j) = ap ipv4_octets (IsIpv4Text_unique text x y i j)
address_once n m text a b e (ipv4 {address = x} i) (ipv6 {address = y} j) = absurd (omega (arith, e))
address_once n m text a b e (ipv6 {address = x} i) (ipv4 {address = y} j) = absurd (omega (arith, e))
address_once n m text a b e (ipv6 {address = x} i) (ipv6 {address = y} j) = ap ipv6_octets (IsIpv6Text_unique text x y i j)

pub prefix_once : (text a b : List ℕ) → SpellsPrefix text a → SpellsPrefix text b → a ≡ b
prefix_once text a b one two =
    let family : one.family ≡ two.family = sym one.parts.of_family.value ∙ two.parts.of_family.value in
    let address : one.address ≡ two.address = address_once one.family two.family (before_byte 47 (behind_byte 58 (without_mark text))) one.address two.address family one.parts.addressed two.parts.addressed in
    let bits : one.bits ≡ two.bits = sym one.parts.of_bits.value ∙ two.parts.of_bits.value in
    one.together ∙ rw (family, address, bits) (sym two.together)

few : (n : ℕ) → address_bits n ≤ 128
few n = elim (n == 1) as (λ b. cond b 32 128 ≤ 128) [ true ↦ omega arith | false ↦ omega arith ]

-- digits that are no number of bits
pub no_bits : (text digits : List ℕ) → digits ≡ behind_byte 47 (behind_byte 58 text) → IsNoNumber digits → (family bits : ℕ) → HasNone (IsPrefixOf text family bits)
no_bits text digits e none family bits address is =
    let short : address_bits family ≤ 128 = few family in
    none bits (subst (λ (t : List ℕ). IsNumber t bits) (sym e) is.of_bits) (omega (arith, is.small, short))

-- and more bits than the address has
pub too_many : (text front digits : List ℕ) (family bits : ℕ) → front ≡ before_byte 58 text → digits ≡ behind_byte 47 (behind_byte 58 text) → IsNumber front family → IsNumber digits bits → address_bits family < bits → (n m : ℕ) → HasNone (IsPrefixOf text n m)
too_many text front digits family bits e g of_family of_bits great n m other is =
    let family_same : family ≡ n = sym of_family.value ∙ (subst (λ (t : List ℕ). IsNumber t n) (sym e) is.of_family).value in
    let bits_same : bits ≡ m = sym of_bits.value ∙ (subst (λ (t : List ℕ). IsNumber t m) (sym g) is.of_bits).value in
    absurd (omega (arith, ap address_bits family_same, bits_same, great, is.small))
