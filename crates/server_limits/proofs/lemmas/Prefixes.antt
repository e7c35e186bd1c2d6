-- Networks in one another and in halves of one another, and the addresses that match them.
use Rattle.std.proofs.Common.{◌≡◌, ℕ, zero, suc, ◌+◌, ◌-◌, ◌*◌, ◌/◌, ◌%◌, ◌^◌, ◌<◌, ◌≤◌, refl, sym, ap, ◌∙◌, subst, arith, bit_and}
use Rattle.std.proofs.Math.Nat.{div-eq_of_lt, mod-eq_of_lt, mod-lt, mul-add-div_right}
use Rattle.std.proofs.Math.Pow.{mod-mod-pow}
use Rattle.std.proofs.lemmas.Nat.{shr-shr, mod-pow-add, pow_pos, and_mask}
use Rattle.server_limits.proofs.lemmas.NetworkText.{first_bits_fit}
use Rattle.server_limits.specs.declared.access_control.Address.{Address}
use Rattle.server_limits.specs.Access.{Network, Matches, width, first_bits}
use Rattle.server_limits.specs.Prefixes.{LiesIn, half, IsCommon}

-- a bit of the low 32 bits is that bit of the whole number
low_word : (n k : ℕ) → k < 32 → n % 2 ^ 32 / 2 ^ k % 2 ≡ n / 2 ^ k % 2
low_word n k h =
    let sum : ((31 - k) + 1) + k ≡ 32 = omega arith in
    let whole : n % 2 ^ 32 ≡ n / 2 ^ k % 2 ^ ((31 - k) + 1) * 2 ^ k + n % 2 ^ k = ap (λ w. n % 2 ^ w) (sym sum) ∙ mod-pow-add n ((31 - k) + 1) k in
    let rest : n % 2 ^ k / 2 ^ k ≡ 0 = div-eq_of_lt (mod-lt n (pow_pos k)) in
    let quotient : n % 2 ^ 32 / 2 ^ k ≡ n / 2 ^ k % 2 ^ ((31 - k) + 1) + n % 2 ^ k / 2 ^ k = ap (λ m. m / 2 ^ k) whole ∙ mul-add-div_right (pow_pos k) _ _ in
    let low : n % 2 ^ 32 / 2 ^ k ≡ n / 2 ^ k % 2 ^ ((31 - k) + 1) = omega (arith, quotient, rest) in
    ap (λ m. m % 2) low ∙ mod-mod-pow (n / 2 ^ k) (31 - k) 1

pub low_word_bit : (n k : ℕ) → k < 32 → bit_and (bit_and n 4294967295 / 2 ^ k) 1 ≡ n / 2 ^ k % 2
low_word_bit n k h = and_mask _ 1 ∙ ap (λ m. m / 2 ^ k % 2) (and_mask n 32) ∙ low_word n k h

-- the first bits of the first bits
first_of_first : (bits width long short : ℕ) → short ≤ long → long ≤ width → bits / 2 ^ (width - long) / 2 ^ (long - short) ≡ bits / 2 ^ (width - short)
first_of_first bits width long short h k =
    let sum : (width - long) + (long - short) ≡ width - short = omega arith in
    shr-shr bits (width - long) (long - short) ∙ ap (λ n. bits / 2 ^ n) sum

-- all bits but the last
all_but_last : (bits width short : ℕ) → short < width → bits / 2 ^ (width - (short + 1)) / 2 ≡ bits / 2 ^ (width - short)
all_but_last bits width short h =
    let sum : (width - (short + 1)) + 1 ≡ width - short = omega arith in
    shr-shr bits (width - (short + 1)) 1 ∙ ap (λ n. bits / 2 ^ n) sum

pub same_network : (one other : Network) → one.family ≡ other.family → one.prefix_length ≡ other.prefix_length → one.prefix ≡ other.prefix → one ≡ other
same_network one other f l p =
    let made : record { family = one.family; prefix_length = one.prefix_length; prefix = one.prefix } ≡ other = rw (f, l, p) refl in
    made

no_shift : (n k : ℕ) → k ≡ 0 → n / 2 ^ k ≡ n
no_shift n k h = rw h (omega arith)

pub LiesIn-itself : (network : Network) → network.prefix_length ≤ width network.family → LiesIn network network
LiesIn-itself network fits = record {
  family = refl;
  longer = omega arith;
  fits = fits;
  prefix = no_shift network.prefix (network.prefix_length - network.prefix_length) (omega arith);
}

pub same_from_LiesIn : (inner outer : Network) → LiesIn inner outer → inner.prefix_length ≤ outer.prefix_length → inner ≡ outer
same_from_LiesIn inner outer lies h =
    let short : inner.prefix_length - outer.prefix_length ≡ 0 = omega (arith, lies.longer) in
    let long : inner.prefix_length ≡ outer.prefix_length = omega (arith, lies.longer) in
    same_network inner outer lies.family long (sym (no_shift inner.prefix _ short) ∙ lies.prefix)

pub LiesIn-through : (inner middle outer : Network) → LiesIn inner middle → LiesIn middle outer → LiesIn inner outer
LiesIn-through inner middle outer in_middle in_outer = record {
  family = in_middle.family ∙ in_outer.family;
  longer = omega (arith, in_middle.longer, in_outer.longer);
  fits = in_middle.fits;
  prefix =
      sym (first_of_first inner.prefix inner.prefix_length middle.prefix_length outer.prefix_length in_outer.longer in_middle.longer)
      ∙ ap (λ n. n / 2 ^ (middle.prefix_length - outer.prefix_length)) in_middle.prefix
      ∙ in_outer.prefix;
}

pub LiesIn-whole : (inner outer : Network) (bit : ℕ) → bit < 2 → LiesIn inner (half outer bit) → LiesIn inner outer
LiesIn-whole inner outer bit small lies =
    let shorter : outer.prefix_length < inner.prefix_length = omega (arith, lies.longer) in
    let rest : inner.prefix / 2 ^ (inner.prefix_length - outer.prefix_length) ≡ (outer.prefix * 2 + bit) / 2 =
    sym (all_but_last inner.prefix inner.prefix_length outer.prefix_length shorter) ∙ ap (λ n. n / 2) lies.prefix in
    record {
      family = lies.family;
      longer = omega arith;
      fits = lies.fits;
      prefix = omega (arith, rest);
    }

pub LiesIn-half : (inner outer : Network) (bit : ℕ) → LiesIn inner outer → outer.prefix_length < inner.prefix_length
    → inner.prefix / 2 ^ (inner.prefix_length - (outer.prefix_length + 1)) % 2 ≡ bit → LiesIn inner (half outer bit)
LiesIn-half inner outer bit lies shorter is =
    let rest : inner.prefix / 2 ^ (inner.prefix_length - (outer.prefix_length + 1)) / 2 ≡ outer.prefix =
    all_but_last inner.prefix inner.prefix_length outer.prefix_length shorter ∙ lies.prefix in
    record {
      family = lies.family;
      longer = omega arith;
      fits = lies.fits;
      prefix = omega (arith, rest, is);
    }

pub Matches-outer : (address : Address) (inner outer : Network) → LiesIn inner outer → Matches address inner → Matches address outer
Matches-outer address inner outer lies matches =
    let fits : inner.prefix_length ≤ width address.family = subst (λ f. inner.prefix_length ≤ width f) matches.family lies.fits in
    record {
      family = sym lies.family ∙ matches.family;
      prefix =
          sym lies.prefix
          ∙ ap (λ n. n / 2 ^ (inner.prefix_length - outer.prefix_length)) matches.prefix
          ∙ first_of_first address.bits (width address.family) inner.prefix_length outer.prefix_length lies.longer fits;
    }

-- the bit of an address that matches a network in one half, at an index that lies in the address therefore
pub matched_bit : (address : Address) (inner outer : Network) (bit : ℕ) → bit < 2 → LiesIn inner (half outer bit) → Matches address inner
    → first_bits address (outer.prefix_length % width address.family + 1) % 2 ≡ bit
matched_bit address inner outer bit small lies matches =
    let begins = (Matches-outer address inner (half outer bit) lies matches).prefix in
    let fits : inner.prefix_length ≤ width address.family = subst (λ f. inner.prefix_length ≤ width f) matches.family lies.fits in
    let index : outer.prefix_length % width address.family ≡ outer.prefix_length = mod-eq_of_lt (omega (arith, lies.longer, fits)) in
    rw index (omega (arith, begins))

-- ---- the loop that looks for the longest network in which two lie
pub record AgreesBelow (one other : Network) (count : ℕ) : Type 0 where
  pub in_one : count ≤ one.prefix_length
  pub in_other : count ≤ other.prefix_length
  pub parts : count < one.prefix_length → count < other.prefix_length
      → ¬ (one.prefix / 2 ^ (one.prefix_length - (count + 1)) ≡ other.prefix / 2 ^ (other.prefix_length - (count + 1)))

-- ---- the loop that looks for the longest network in which two lie
pub record PartsBehind (one other : Network) (count : ℕ) : Type 0 where
  pub in_one : count ≤ one.prefix_length
  pub in_other : count ≤ other.prefix_length
  pub parts : count < one.prefix_length → count < other.prefix_length
      → ¬ (one.prefix / 2 ^ (one.prefix_length - (count + 1)) ≡ other.prefix / 2 ^ (other.prefix_length - (count + 1)))

-- no bits agree
pub apart_somewhere : (one other : Network) (count : ℕ) → one.prefix < 2 ^ one.prefix_length → other.prefix < 2 ^ other.prefix_length
    → ¬ (one.prefix / 2 ^ (one.prefix_length - count) ≡ other.prefix / 2 ^ (other.prefix_length - count)) → 1 ≤ count
apart_somewhere one other zero one_fits other_fits apart =
    let a : one.prefix / 2 ^ (one.prefix_length - 0) < 1 = first_bits_fit one.prefix one.prefix_length 0 one_fits (omega arith) in
    let b : other.prefix / 2 ^ (other.prefix_length - 0) < 1 = first_bits_fit other.prefix other.prefix_length 0 other_fits (omega arith) in
    absurd (apart (omega arith))
apart_somewhere one other (suc count) one_fits other_fits apart = omega arith

-- what holds of each network that a program has
abbrev pub Fits : Network → Type 0
Fits network = (network.prefix_length ≤ width network.family) × (network.prefix < 2 ^ network.prefix_length)

pub parts_behind : (one other : Network) (count : ℕ) → PartsBehind one other count → 1 ≤ count
    → ¬ (one.prefix / 2 ^ (one.prefix_length - count) ≡ other.prefix / 2 ^ (other.prefix_length - count)) → PartsBehind one other (count - 1)
parts_behind one other count h more apart =
    let next : (count - 1) + 1 ≡ count = omega arith in
    record {
      in_one = omega (arith, h.in_one);
      in_other = omega (arith, h.in_other);
      parts = λ _ _ same. apart (subst (λ k. one.prefix / 2 ^ (one.prefix_length - k) ≡ other.prefix / 2 ^ (other.prefix_length - k)) next same);
    }

pub common_found : (one other common : Network) → Fits one → Fits other → one.family ≡ other.family → common.family ≡ one.family
    → PartsBehind one other common.prefix_length
    → common.prefix ≡ one.prefix / 2 ^ (one.prefix_length - common.prefix_length)
    → common.prefix ≡ other.prefix / 2 ^ (other.prefix_length - common.prefix_length) → IsCommon one other common
common_found one other common one_fits other_fits same family behind first second = record {
  one_lies = record { family = sym family; longer = behind.in_one; fits = one_fits.0; prefix = sym first };
  other_lies = record { family = sym same ∙ sym family; longer = behind.in_other; fits = other_fits.0; prefix = sym second };
  parts = behind.parts;
}

-- where two networks part, the other one lies in the other half
pub other_half : (one other common : Network) (bit : ℕ) → IsCommon one other common → common.prefix_length < one.prefix_length → common.prefix_length < other.prefix_length
    → bit < 2 → one.prefix / 2 ^ (one.prefix_length - (common.prefix_length + 1)) % 2 ≡ bit → LiesIn other (half common (1 - bit))
other_half one other common bit h one_longer other_longer small is =
    let one_rest : one.prefix / 2 ^ (one.prefix_length - (common.prefix_length + 1)) / 2 ≡ common.prefix =
    all_but_last one.prefix one.prefix_length common.prefix_length one_longer ∙ h.one_lies.prefix in
    let other_rest : other.prefix / 2 ^ (other.prefix_length - (common.prefix_length + 1)) / 2 ≡ common.prefix =
    all_but_last other.prefix other.prefix_length common.prefix_length other_longer ∙ h.other_lies.prefix in
    let apart = h.parts one_longer other_longer in
    record {
      family = h.other_lies.family;
      longer = omega arith;
      fits = h.other_lies.fits;
      prefix = omega (arith, one_rest, other_rest, apart, is);
    }
