-- Addresses as they are printed (RFC 1035 section 3.4.1, RFC 3596 section 2.2).
use Rattle.std.proofs.Common.{◌≡◌, ◌∙◌, ℕ, ◌^◌, ◌<◌, List, ◌∷◌, ◌++◌, length, get_or, Option, sym, ap, subst}
use Rattle.std.specs.declared.net.ipv4_addr.Ipv4Addr.{Ipv4Addr}
use Rattle.std.specs.declared.net.ipv6_addr.Ipv6Addr.{Ipv6Addr}
use Rattle.std.specs.Net.Addr.{ipv4_octets, ipv6_octets, ipv6_segments, octets_of, segments_of}
use Rattle.std.specs.Net.Grammar.{IsColonHex, IsDotted, IsIpv4Text, IsIpv6Text}
use Rattle.std.specs.Net.Text.{ipv4_text, ipv6_text}
use Rattle.std.proofs.NetLemmas.Texts.{AllSegments, IsColonHex-ipv6_text, IsDotted-ipv4_text}
use Rattle.std.proofs.NetLemmas.Theorems.{IsIpv4Text_unique, IsIpv6Text_unique}
use Rattle.wire_names.specs.rr.domain.DomainName.{DomainName}
use Rattle.text_words.specs.declared.words.Word.{Word}
use Rattle.record_text.specs.declared.data.field.Field.TheVariants as field
use Rattle.record_text.specs.RecordText.{IsField}
use Rattle.record_text.specs.RecordText.IsField.{ipv4, ipv6, in_digits}
use Rattle.text_print.specs.Printed.Printed.{plain}
use Rattle.text_print.specs.PrintedData.{IsPrintedField, PutsField}
use Rattle.text_print.proofs.PrintedFields.{plain_word}
use Rattle.text_print.proofs.Simple.{ipv4_simple, ipv4_some, ipv6_simple, ipv6_some, length-segments, octets_of-segments_of, segments_small}
use Rattle.text_print.proofs.Spelled.{simple_plain}

only_ipv4 : (origin : Option DomainName) (w : Word) (others : List ℕ) (address : Ipv4Addr) → IsIpv4Text w.bytes.now address → IsField origin field.Ipv4 w others → others ≡ ipv4_octets address
only_ipv4 origin w others address is (ipv4 {address = b} p i) = ap (λ (x : Ipv4Addr). ipv4_octets x) (IsIpv4Text_unique w.bytes.now b address i is)
only_ipv4 origin w others address is (in_digits p i) = elim i [ ]

pub put_ipv4_field : (address : Ipv4Addr) (octets before after : List ℕ) → length octets ≡ 4 → ((k : ℕ) → get_or octets k 0 < 256) → ipv4_octets address ≡ octets → after ≡ before ++ 32 ∷ ipv4_text (ipv4_octets address) → PutsField field.Ipv4 octets before after
put_ipv4_field address octets before after four small is put =
    let fits : (k : ℕ) → get_or (ipv4_octets address) k 0 < 2 ^ 8 = subst (λ (o : List ℕ). (k : ℕ) → get_or o k 0 < 2 ^ 8) (sym is) small in
    let dotted : IsDotted (ipv4_text (ipv4_octets address)) (ipv4_octets address) = IsDotted-ipv4_text (ipv4_octets address) (ap length is ∙ four) fits in
    let text : List ℕ = ipv4_text (ipv4_octets address) in (
      plain text,
      put,
      plain_word text (simple_plain text (ipv4_simple (ipv4_octets address) fits) (ipv4_some text (ipv4_octets address) dotted)),
      subst (λ (o : List ℕ). IsPrintedField field.Ipv4 (plain text) o) is (record {
        is = λ origin w p. ipv4 p.0 (subst (λ (t : List ℕ). IsIpv4Text t address) (sym p.1) dotted);
        only = λ origin w others p f. only_ipv4 origin w others address (subst (λ (t : List ℕ). IsIpv4Text t address) (sym p.1) dotted) f;
      }),
    )

only_ipv6 : (origin : Option DomainName) (w : Word) (others : List ℕ) (address : Ipv6Addr) → IsIpv6Text w.bytes.now address → IsField origin field.Ipv6 w others → others ≡ ipv6_octets address
only_ipv6 origin w others address is (ipv6 {address = b} p i) = ap (λ (x : Ipv6Addr). ipv6_octets x) (IsIpv6Text_unique w.bytes.now b address i is)
only_ipv6 origin w others address is (in_digits p i) = elim i [ ]

pub put_ipv6_field : (address : Ipv6Addr) (octets before after : List ℕ) → length octets ≡ 16 → ((k : ℕ) → get_or octets k 0 < 256) → ipv6_segments address ≡ segments_of octets → after ≡ before ++ 32 ∷ ipv6_text (ipv6_segments address) → PutsField field.Ipv6 octets before after
put_ipv6_field address octets before after long small is put =
    let fits : AllSegments (ipv6_segments address) = subst (λ (s : List ℕ). AllSegments s) (sym is) (segments_small octets small) in
    let eight : length (ipv6_segments address) ≡ 8 = ap length is ∙ length-segments 8 octets long in
    let colons : IsColonHex (ipv6_text (ipv6_segments address)) (ipv6_segments address) = IsColonHex-ipv6_text (ipv6_segments address) eight fits in
    let text : List ℕ = ipv6_text (ipv6_segments address) in
    let own : ipv6_octets address ≡ octets = ap octets_of is ∙ octets_of-segments_of 8 octets long small in (
      plain text,
      put,
      plain_word text (simple_plain text (ipv6_simple (ipv6_segments address) fits) (ipv6_some text (ipv6_segments address) eight colons)),
      subst (λ (o : List ℕ). IsPrintedField field.Ipv6 (plain text) o) own (record {
        is = λ origin w p. ipv6 p.0 (subst (λ (t : List ℕ). IsIpv6Text t address) (sym p.1) colons);
        only = λ origin w others p f. only_ipv6 origin w others address (subst (λ (t : List ℕ). IsIpv6Text t address) (sym p.1) colons) f;
      }),
    )
