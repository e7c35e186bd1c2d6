-- Bytes that stand for themselves in a word: those of addresses, mnemonics, hexadecimal digits and base 64.
use Rattle.std.proofs.Common.{◌≡◌, ℕ, zero, suc, ◌+◌, ◌-◌, ◌/◌, ◌%◌, ◌*◌, ◌^◌, ◌<◌, ◌==◌, ◌&&◌, inl, inr, Bool, true, false, not, List, [], ◌∷◌, ◌++◌, length, get_or, take, drop, replicate, codes, decimal, sym, ap, subst, refl, arith, length-append}
use Rattle.std.specs.Prelude.{bytes_eq, if◌then◌else◌}
use Rattle.std.specs.List.{slice_index}
use Rattle.std.specs.Net.Addr.{octets_of, segments_of}
use Rattle.std.specs.Net.Grammar.{IsColonHex, IsDotted, IsGroupsAfter}
use Rattle.std.specs.Net.Text.{dotted_text, hex_groups_text, ipv4_text, ipv6_text}
use Rattle.std.proofs.NetLemmas.Alphabet.{All-hex_groups_text, All-ipv4_text, IsDigitOrDot, IsHexOrColon}
use Rattle.std.proofs.NetLemmas.Texts.{AllSegments, AllSegments-drop}
use Rattle.std.proofs.lemmas.Bool.{and_parts}
use Rattle.std.proofs.lemmas.Bool.Decides.{nat_tests}
use Rattle.std.proofs.lemmas.Fmt.{decimal_is_IsNumeral}
use Rattle.base64.specs.Engines.{standard}
use Rattle.base64.specs.GeneralPurpose.{encode_of}
use Rattle.base64.specs.Rfc4648.{encode_symbols, padding_len}
use Rattle.hex.specs.Hex.{encode_upper, encode_with, upper_digits}
use Rattle.text_words.specs.declared.words.TextKind.TheVariants.{ZoneFile}
use Rattle.text_words.specs.Words.{ends_word}
use Rattle.text_print.proofs.Spelled.{AllSimple, IsSimple, range_simple, simple_append, simple_from}

-- the test of a byte, and of bytes, which computes
abbrev pub is_simple : ℕ → Bool
is_simple b = not (b == 92) && not (b == 34) && not (ends_word ZoneFile b)

abbrev pub are_simple : List ℕ → Bool
are_simple [] = true
are_simple (b ∷ bytes) = is_simple b && are_simple bytes

pub simple_if : (b : ℕ) → is_simple b ≡ true → IsSimple b
simple_if b h = (λ e. grind (arith, nat_tests), λ e. grind (arith, nat_tests), grind (arith, nat_tests))

pub simple_all : (bytes : List ℕ) → are_simple bytes ≡ true → AllSimple bytes
simple_all [] h = tt
simple_all (b ∷ bytes) h = let parts = and_parts (is_simple b) (are_simple bytes) h in (simple_if b parts.0, simple_all bytes parts.1)

-- what a table of such bytes gives, within it or not
table_simple : (t : List ℕ) → AllSimple t → (k : ℕ) → IsSimple (slice_index t k)
table_simple [] h k = simple_if 0 refl
table_simple (x ∷ t) h zero = h.0
table_simple (x ∷ t) h (suc k) = table_simple t h.1 k

upper_at : (k : ℕ) → IsSimple (slice_index upper_digits k)
upper_at k = table_simple upper_digits (simple_all upper_digits refl) k

pub upper_simple : (bytes : List ℕ) → AllSimple (encode_upper bytes)
unfolding encode_with
upper_simple [] = tt
upper_simple (b ∷ bytes) = (upper_at (b / 16), (upper_at (b % 16), upper_simple bytes))

symbol_at : (k : ℕ) → IsSimple (slice_index standard.encode_table k)
symbol_at k = table_simple standard.encode_table (simple_all standard.encode_table refl) k

symbols_simple : (bytes : List ℕ) → AllSimple (encode_symbols standard.encode_table bytes)
unfolding encode_symbols
symbols_simple [] = tt
symbols_simple (a ∷ []) = (symbol_at (a / 4), (symbol_at (a % 4 * 16), tt))
symbols_simple (a ∷ b ∷ []) = (symbol_at (a / 4), (symbol_at (a % 4 * 16 + b / 16), (symbol_at (b % 16 * 4), tt)))
symbols_simple (a ∷ b ∷ c ∷ rest) = (symbol_at (a / 4), (symbol_at (a % 4 * 16 + b / 16), (symbol_at (b % 16 * 4 + c / 64), (symbol_at (c % 64), symbols_simple rest))))

pads_simple : (n : ℕ) → AllSimple (replicate n 61)
pads_simple zero = tt
pads_simple (suc n) = (simple_if 61 refl, pads_simple n)

pub base64_simple : (bytes : List ℕ) → AllSimple (encode_of standard bytes)
base64_simple bytes = simple_append (encode_symbols standard.encode_table bytes) (replicate (padding_len (length bytes)) 61) (symbols_simple bytes) (pads_simple (padding_len (length bytes)))

pub base64_some : (bytes : List ℕ) → 0 < length bytes → 0 < length (encode_of standard bytes)
unfolding encode_symbols
base64_some [] some = absurd (omega (arith, some))
base64_some (a ∷ []) some = omega arith
base64_some (a ∷ b ∷ []) some = omega arith
base64_some (a ∷ b ∷ c ∷ rest) some = omega arith

-- addresses
dot_simple : (b : ℕ) → IsDigitOrDot b → IsSimple b
dot_simple b (inl h) = range_simple b (inl (inl (omega (arith, h.0), omega (arith, h.1))))
dot_simple b (inr h) = range_simple b (inr (inl h))

colon_simple : (b : ℕ) → IsHexOrColon b → IsSimple b
colon_simple b h = range_simple b (inl h)

pub ipv4_simple : (o : List ℕ) → ((k : ℕ) → get_or o k 0 < 2 ^ 8) → AllSimple (ipv4_text o)
ipv4_simple o fits = simple_from IsDigitOrDot (ipv4_text o) dot_simple (All-ipv4_text o fits)

longer : (x y : List ℕ) → 0 < length x → 0 < length (x ++ y)
longer x y some = omega (arith, length-append x y, some)

dotted_some : (a b c d : ℕ) → a < 256 → 0 < length (dotted_text a b c d)
dotted_some a b c d small =
    let first : 0 < length (decimal a) = (decimal_is_IsNumeral a (omega (arith, small))).0.0 in
    longer _ (decimal d) (longer _ (codes ".") (longer _ (decimal c) (longer _ (codes ".") (longer _ (decimal b) (longer (decimal a) (codes ".") first)))))

pub ipv4_some : (text octets : List ℕ) → IsDotted text octets → 0 < length text
ipv4_some text octets is = subst (λ (t : List ℕ). 0 < length t) (sym is.spelled) (dotted_some is.a is.b is.c is.d is.fit.0)

groups_some : (lead text : List ℕ) (segments : List ℕ) → 0 < length segments → IsGroupsAfter true lead text segments → 0 < length text
groups_some lead text [] some h = absurd (omega (arith, some))
groups_some lead text (s ∷ segments) some (inl (group, rest, is, one, others)) =
    omega (arith, ap length is, length-append (lead ++ group) rest, length-append lead group, one.0.0.0)
groups_some lead text (s ∷ segments) some (inr (last, octets, under, is, dotted, value)) = omega (arith, ap length is, length-append lead last, ipv4_some last octets dotted)

pub ipv6_some : (text segments : List ℕ) → length segments ≡ 8 → IsColonHex text segments → 0 < length text
ipv6_some text segments eight (inl groups) = groups_some [] text segments (omega (arith, eight)) groups.0
ipv6_some text segments eight (inr elided) = omega (arith, ap length elided.spelled, length-append (elided.head_text ++ codes "::") elided.tail_text, length-append elided.head_text (codes "::"))

octets_small : (xs : List ℕ) → AllSegments xs → (k : ℕ) → get_or (octets_of xs) k 0 < 2 ^ 8
octets_small [] h k = omega arith
octets_small (s ∷ xs) h zero = let one : s < 2 ^ 16 = h 0 in omega (arith, one)
octets_small (s ∷ xs) h (suc zero) = omega arith
octets_small (s ∷ xs) h (suc (suc k)) = octets_small xs (λ j. h (suc j)) k

pub ipv6_simple : (xs : List ℕ) → AllSegments xs → AllSimple (ipv6_text xs)
unfolding ipv6_text
ipv6_simple xs fits = at (bytes_eq (take 6 xs) (0 ∷ 0 ∷ 0 ∷ 0 ∷ 0 ∷ 0xffff ∷ [])) where
  at : (b : Bool) → AllSimple (if b then codes "::ffff:" ++ ipv4_text (octets_of (drop 6 xs)) else hex_groups_text xs)
  at true = simple_append (codes "::ffff:") (ipv4_text (octets_of (drop 6 xs))) (simple_all (codes "::ffff:") refl) (ipv4_simple (octets_of (drop 6 xs)) (octets_small (drop 6 xs) (AllSegments-drop 6 xs fits)))
  at false = simple_from IsHexOrColon (hex_groups_text xs) colon_simple (All-hex_groups_text xs fits)

pub octets_of-segments_of : (n : ℕ) (xs : List ℕ) → length xs ≡ 2 * n → ((k : ℕ) → get_or xs k 0 < 256) → octets_of (segments_of xs) ≡ xs
octets_of-segments_of n [] even small = refl
octets_of-segments_of n (a ∷ []) even small = absurd (omega arith)
octets_of-segments_of n (a ∷ b ∷ xs) even small =
    let low : b < 256 = small 1 in
    let high : (a * 256 + b) / 256 ≡ a = omega arith in
    let rest : (a * 256 + b) % 256 ≡ b = omega arith in
    λ i. high i ∷ rest i ∷ octets_of-segments_of (n - 1) xs (omega arith) (λ k. small (suc (suc k))) i

pub segments_small : (xs : List ℕ) → ((k : ℕ) → get_or xs k 0 < 256) → AllSegments (segments_of xs)
segments_small [] h k = omega arith
segments_small (a ∷ []) h k = omega arith
segments_small (a ∷ b ∷ xs) h zero = let one : a < 256 = h 0 in let two : b < 256 = h 1 in omega (arith, one, two)
segments_small (a ∷ b ∷ xs) h (suc k) = segments_small xs (λ j. h (suc (suc j))) k

pub length-segments : (n : ℕ) (xs : List ℕ) → length xs ≡ 2 * n → length (segments_of xs) ≡ n
length-segments n [] even = omega (arith, even)
length-segments n (a ∷ []) even = absurd (omega (arith, even))
length-segments n (a ∷ b ∷ xs) even = let rest : length (segments_of xs) ≡ n - 1 = length-segments (n - 1) xs (omega (arith, even)) in omega (arith, rest, even)
