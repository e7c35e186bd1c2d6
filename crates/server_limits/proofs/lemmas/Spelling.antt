-- Digits, and addresses, which have no slash.
use Rattle.std.proofs.Common.{◌≡◌, ◌≢◌, ◌<◌, ◌≤◌, ◌+◌, ◌^◌, ◌++◌, ◌==◌, ◌&&◌, [], ◌∷◌, ℕ, suc, Bool, true, false, List, length, length-append, get_or, take, drop, ne_eqb, eqb-true, add-one, arith, ap, refl, sym, subst, ◌∙◌, inl, inr, Result, Ok, Err, IfErr}
use Rattle.std.proofs.NetLemmas.Theorems.{IsIpText_unique}
use Rattle.std.proofs.lemmas.Grind.{common_steps}
use Rattle.std.proofs.lemmas.Fmt.{decimal_is_IsNumeral}
use Rattle.std.proofs.lemmas.Str.Parse.{IsNumeralModel, numerals_by_value, parse_digits, tells_all_ascii_digits}
use Rattle.std.specs.Prelude.{codes}
use Rattle.std.specs.Fmt.{decimal}
use Rattle.std.specs.Char.{digit_value, is_ascii_digit}
use Rattle.std.specs.List.{list_all, position_or_len}
use Rattle.std.specs.Net.Addr.{ipv4_octets, ipv6_segments}
use Rattle.std.specs.Net.Grammar.{IsColonHex, IsDotted, IsElided, IsGroupsAfter, IsIpText, IsNumber, Parses}
use Rattle.std.specs.Str.{all_ascii_digits}
use Rattle.std.specs.Str.Parse.{AllDigits, IsNumeral, ParsesUnsigned, digits_value}
use Rattle.std.specs.declared.net.ip_addr.IpAddr.{IpAddr}
use Rattle.std.specs.declared.net.ip_addr.IpAddr.TheVariants.{V4, V6}
use Rattle.server_limits.specs.Access.{Network, address_of, network_of, width}
use Rattle.server_limits.specs.NetworkTexts.{HasSlash, IsHostText, IsNetworkText, IsNoAddress, IsPartsFault, IsPrefixText, IsTextFault, before_slash, behind_slash, host, parts, prefix, whole}
use Rattle.server_limits.specs.declared.access_control.text.IpNetTextError.{IpNetTextError}
use Rattle.server_limits.specs.declared.access_control.text.IpNetTextError.TheVariants.{Address}

pub own : IsNumeralModel (λ (ds : List ℕ). all_ascii_digits ds ≡ true) (digits_value 10)
own = numerals_by_value _ tells_all_ascii_digits

pub same_test : (text : List ℕ) → list_all is_ascii_digit text ≡ all_ascii_digits text
same_test [] = refl
same_test (b ∷ text) = ap (λ (rest : Bool). is_ascii_digit b && rest) (same_test text)

-- a test of digits that fails
pub no_numeral : (text : List ℕ) (test : Bool) → test ≡ list_all is_ascii_digit text → test ≡ false → ¬ (IsNumeral 10 text)
no_numeral text test is fails numeral = let all = own.from text numeral.1 in absurd (cc (same_test text))

not_less : {n : ℕ} → ¬ (n < 2 ^ 8) → 128 < n
not_less h = omega (arith, h)

-- digits that spell no number of eight bits spell a greater one
pub too_long : {E : Type 0} (text : List ℕ) (e : E) (test : Bool) → test ≡ list_all is_ascii_digit text → test ≡ true → 0 < length text → ParsesUnsigned 8 10 text (Err e)
    → IsNumeral 10 text × (128 < digits_value 10 text)
too_long text e test is passes some parsed =
    let all : all_ascii_digits text ≡ true = sym (same_test text) ∙ sym is ∙ passes in
    let least = parse_digits own 8 text (Err e) parsed all in
    ((some, own.to text all), not_less (λ low. least (some, low)))

-- none of the bytes is a slash, 47
abbrev pub NoSlash : List ℕ → Type 0
NoSlash [] = Unit {0}
NoSlash (b ∷ text) = (b ≢ 47) × NoSlash text

plain_of : (text : List ℕ) → ((i : ℕ) → i < length text → get_or text i 0 ≢ 47) → NoSlash text
plain_of [] none = tt
plain_of (b ∷ text) none = (none 0 (omega arith), plain_of text (λ i inside. none (suc i) (omega arith)))

-- the first slash of a text
place : (front back : List ℕ) → NoSlash front → position_or_len (λ (b : ℕ). b == 47) (front ++ 47 ∷ back) ≡ length front
place [] back plain = refl
place (b ∷ front) back plain = rw (ne_eqb b 47 plain.0) (omega (arith, place front back plain.1))

no_place : (text : List ℕ) → NoSlash text → position_or_len (λ (b : ℕ). b == 47) text ≡ length text
no_place [] plain = refl
no_place (b ∷ text) plain = rw (ne_eqb b 47 plain.0) (omega (arith, no_place text plain.1))

-- a text has one first slash
one_split : (a x b y : List ℕ) → NoSlash a → NoSlash b → a ++ 47 ∷ x ≡ b ++ 47 ∷ y → (a ≡ b) × (x ≡ y)
one_split [] x [] y p q e = (refl, cc)
one_split [] x (c ∷ b) y p q e = let same : c ≡ 47 = cc in absurd (q.0 same)
one_split (c ∷ a) x [] y p q e = let same : c ≡ 47 = cc in absurd (p.0 same)
one_split (c ∷ a) x (d ∷ b) y p q e =
    let tails : a ++ 47 ∷ x ≡ b ++ 47 ∷ y = cc in
    let heads : c ≡ d = cc in
    let (same, last) = one_split a x b y p.1 q.1 tails in (rw (heads, same) refl, last)

drop_past : (front back : List ℕ) → drop (suc (length front)) (front ++ 47 ∷ back) ≡ back
drop_past [] back = refl
drop_past (b ∷ front) back = drop_past front back

has_one : (front back : List ℕ) → ¬ (NoSlash (front ++ 47 ∷ back))
has_one [] back plain = plain.0 refl
has_one (b ∷ front) back plain = has_one front back plain.1

join : (front back : List ℕ) → NoSlash front → NoSlash back → NoSlash (front ++ back)
join [] back one other = other
join (b ∷ front) back one other = (one.0, join front back one.1 other)

digits_plain : (radix : ℕ) (text : List ℕ) → radix ≤ 36 → AllDigits radix text → NoSlash text
digits_plain radix [] most all = tt
digits_plain radix (b ∷ text) most all = ((λ slash. absurd (omega (arith, subst (λ (c : ℕ). digit_value c < radix) slash all.0))), digits_plain radix text most all.1)

decimal_plain : (n : ℕ) → n < 256 → NoSlash (decimal n)
decimal_plain n low = digits_plain 10 (decimal n) (omega arith) (decimal_is_IsNumeral n (omega arith)).0.1

dot : NoSlash (codes ".")
dot = ((λ e. absurd (omega arith)), tt)

colon : NoSlash (codes ":")
colon = ((λ e. absurd (omega arith)), tt)

colons : NoSlash (codes "::")
colons = ((λ e. absurd (omega arith)), ((λ e. absurd (omega arith)), tt))

dotted_plain : (text octets : List ℕ) → IsDotted text octets → NoSlash text
dotted_plain text octets is =
    subst NoSlash (sym is.spelled)
    (join _ _ (join _ _ (join _ _ (join _ _ (join _ _ (join _ _ (decimal_plain is.a is.fit.0) dot) (decimal_plain is.b is.fit.1)) dot) (decimal_plain is.c is.fit.2)) dot)
    (decimal_plain is.d is.fit.3))

groups_plain : (ipv4 : Bool) (lead text segments : List ℕ) → NoSlash lead → IsGroupsAfter ipv4 lead text segments → NoSlash text
groups_plain ipv4 lead text [] plain is = subst NoSlash (sym is) tt
groups_plain ipv4 lead text (s ∷ segments) plain (inl (group, rest, spelled, written, more)) =
    subst NoSlash (sym spelled)
    (join (lead ++ group) rest (join lead group plain (digits_plain 16 group (omega arith) written.0.0.1)) (groups_plain ipv4 (codes ":") rest segments colon more))
groups_plain ipv4 lead text (s ∷ segments) plain (inr (last, octets, allowed, spelled, dotted, value)) =
    subst NoSlash (sym spelled) (join lead last plain (dotted_plain last octets dotted))

elided_plain : (text segments : List ℕ) → IsElided text segments → NoSlash text
elided_plain text segments is =
    subst NoSlash (sym is.spelled)
    (join (is.head_text ++ codes "::") is.tail_text (join is.head_text (codes "::") (groups_plain false [] is.head_text is.head tt is.head_groups) colons)
    (groups_plain true [] is.tail_text is.tail tt is.tail_groups))

colon_hex_plain : (text segments : List ℕ) → IsColonHex text segments → NoSlash text
colon_hex_plain text segments (inl all) = groups_plain true [] text segments tt all.0
colon_hex_plain text segments (inr elided) = elided_plain text segments elided

-- the text of an address has no slash
pub address_plain : (text : List ℕ) (address : IpAddr) → IsIpText text address → NoSlash text
address_plain text (V4 address) is = dotted_plain text (ipv4_octets address) is
address_plain text (V6 address) is = colon_hex_plain text (ipv6_segments address) is

-- a length that is greater than the address has bits is that of no network
pub none_so_long : (written digits : List ℕ) (address : IpAddr) (count : ℕ) → IsIpText written address → IsNumber 10 digits count → ¬ (count ≤ width (address_of address).family)
    → (network : Network) → ¬ (IsPrefixText written digits network)
none_so_long written digits address count spelled counted long network is =
    let same : is.address ≡ address = IsIpText_unique written is.address address is.spelled spelled in
    let number : network.prefix_length ≡ count = sym is.counted.1 ∙ counted.1 in
    long (subst (λ (n : ℕ). n ≤ width (address_of address).family) number (subst (λ (a : IpAddr). network.prefix_length ≤ width (address_of a).family) same is.fits))

-- a test of an empty text
pub none_empty : (text : List ℕ) (test : Bool) → test ≡ (length text == 0) → test ≡ true → ¬ (IsNumeral 10 text)
none_empty [] test is empty numeral = omega (arith, numeral.0)
none_empty (b ∷ text) test is empty numeral = omega (arith, eqb-true (length (b ∷ text)) 0 (sym is ∙ empty))

pub some_digits : (text : List ℕ) (test : Bool) → test ≡ (length text == 0) → test ≡ false → 0 < length text
some_digits [] test is some = absurd cc
some_digits (b ∷ text) test is some = omega arith

-- What the parts round the first slash of a text spell, the text does, and nothing else.
module _ (text written digits : List ℕ) (split : text ≡ written ++ 47 ∷ digits) (first : (i : ℕ) → i < length written → get_or written i 0 ≢ 47) where
  at_slash : position_or_len (λ (b : ℕ). b == 47) text ≡ length written
  at_slash = subst (λ (t : List ℕ). position_or_len (λ (b : ℕ). b == 47) t ≡ length written) (sym split) (place written digits (plain_of written first))

  has_slash : HasSlash text
  has_slash = let size : length text ≡ length written + suc (length digits) = ap length split ∙ length-append written (47 ∷ digits) in omega (arith, at_slash)

  before_is : before_slash text ≡ written
  before_is = ap (λ (n : ℕ). take n text) at_slash ∙ ap (take (length written)) split ∙ grind (arith, common_steps)

  behind_is : behind_slash text ≡ digits
  behind_is = ap (λ (n : ℕ). drop (n + 1) text) at_slash ∙ ap (drop (length written + 1)) split ∙ ap (λ (n : ℕ). drop n (written ++ 47 ∷ digits)) (add-one (length written)) ∙ drop_past written digits

  none_else : (network : Network) → ¬ (IsPrefixText written digits network) → ¬ (IsNetworkText text network)
  none_else network none (prefix other rest is spells) =
      let (same, last) = one_split other rest written digits (address_plain other spells.address spells.spelled) (plain_of written first) (sym is ∙ split) in
      none (subst (λ (w : List ℕ). IsPrefixText w digits network) same (subst (λ (d : List ℕ). IsPrefixText other d network) last spells))
  none_else network none (host (address, spelled, is)) = has_one written digits (subst NoSlash split (address_plain text address spelled))

  pub parts_spell : (r : Result Network IpNetTextError)
      → Parses (IsPrefixText written) digits r → IfErr r (IsPartsFault written digits)
      → Parses IsNetworkText text r × IfErr r (IsTextFault text)
  parts_spell (Ok network) spelled fault = (prefix written digits split spelled, tt)
  parts_spell (Err e) spelled fault = (
    (λ network. none_else network (spelled network)),
    parts has_slash (subst (λ (w : List ℕ). IsPartsFault w (behind_slash text) e) (sym before_is) (subst (λ (d : List ℕ). IsPartsFault written d e) (sym behind_is) fault)),
  )

-- Of a text without a slash the whole has to be an address.
module _ (text : List ℕ) (none : (i : ℕ) → i < length text → get_or text i 0 ≢ 47) where
  no_slash : ¬ (HasSlash text)
  no_slash has = omega (arith, no_place text (plain_of text none))

  only_host : (network : Network) → ¬ (IsHostText text network) → ¬ (IsNetworkText text network)
  only_host network no_host (prefix other rest is spells) = has_one other rest (subst NoSlash is (plain_of text none))
  only_host network no_host (host spelled) = no_host spelled

  pub whole_spells : (r : Result Network IpNetTextError) → Parses IsHostText text r → IfErr r (λ (fault : IpNetTextError). (fault ≡ Address) × IsNoAddress text)
      → Parses IsNetworkText text r × IfErr r (IsTextFault text)
  whole_spells (Ok network) spelled fault = (host spelled, tt)
  whole_spells (Err e) spelled fault = ((λ network. only_host network (spelled network)), whole no_slash fault.0 fault.1)

-- A text spells one network.
alike : (written other digits : List ℕ) (a b : Network) → other ≡ written → IsPrefixText written digits a → IsPrefixText other digits b → a ≡ b
alike written other digits a b same one two =
    let address : two.address ≡ one.address = IsIpText_unique written two.address one.address (subst (λ (w : List ℕ). IsIpText w two.address) same two.spelled) one.spelled in
    let count : a.prefix_length ≡ b.prefix_length = sym one.counted.1 ∙ two.counted.1 in
    one.network_is ∙ ap (λ (n : ℕ). network_of (address_of one.address) n) count ∙ ap (λ (x : IpAddr). network_of (address_of x) b.prefix_length) (sym address) ∙ sym two.network_is

pub one_network : (text : List ℕ) (a b : Network) → IsNetworkText text a → IsNetworkText text b → a ≡ b
one_network text a b (prefix written digits is one) (prefix other rest same two) =
    let (front, back) = one_split other rest written digits (address_plain other two.address two.spelled) (address_plain written one.address one.spelled) (sym same ∙ is) in
    alike written other digits a b front one (subst (λ (d : List ℕ). IsPrefixText other d b) back two)
one_network text a b (prefix written digits is one) (host two) = absurd (has_one written digits (subst NoSlash is (address_plain text two.0 two.1)))
one_network text a b (host one) (prefix other rest is two) = absurd (has_one other rest (subst NoSlash is (address_plain text one.0 one.1)))
one_network text a b (host one) (host two) =
    let address : one.0 ≡ two.0 = IsIpText_unique text one.0 two.0 one.1 two.1 in
    one.2 ∙ ap (λ (x : IpAddr). network_of (address_of x) (width (address_of x).family)) address ∙ sym two.2
