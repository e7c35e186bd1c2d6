-- Words that are no data in the form that is one for all types.
use Rattle.std.proofs.Common.{◌≡◌, ◌∙◌, ◌^◌, ◌<◌, ◌≤◌, ℕ, false, List, Result, Ok, Err, length, sym, ap, subst, arith}
use Rattle.std.specs.Prelude.{◌≢◌, IfErr, IfOk}
use Rattle.hex.specs.Hex.{decode_of}
use Rattle.wire_messages.specs.declared.rr.rdata.RData.{RData}
use Rattle.wire_messages.specs.rr.RecordData.{type_of}
use Rattle.wire_messages.specs.serialize.writing.FullForm.{data_octets}
use Rattle.wire_messages.specs.serialize.writing.RecordSize.{data_len}
use Rattle.text_words.specs.declared.error.TextError.{TextError}
use Rattle.text_words.specs.declared.error.TextError.TheVariants.{Memory}
use Rattle.text_words.specs.declared.words.Word.{Word}
use Rattle.text_words.specs.Spelling.{IsNoNumberWord, IsNumber}
use Rattle.record_text.specs.RecordText.{AreReadOf, ArePlain, HasNone, IsGenericData, bytes_of}
use Rattle.record_text.proofs.DataLen.{FullSizes, full_len}

pub read : (number n : ℕ) (size : Word) (digits : List Word) (octets : List ℕ) (r : Result RData TextError) → size.quoted ≡ false → IsNumber size.bytes.now n → n ≡ length octets → n < 2 ^ 16 → ArePlain digits → decode_of (bytes_of digits) ≡ Ok octets
    → IfOk r (AreReadOf number octets) → IfOk r (λ rdata. type_of rdata ≡ number) → IfOk r (λ rdata. data_octets rdata ≡ octets) → IfOk r (IsGenericData number size digits)
read number n size digits octets (Ok rdata) unquoted is same small plain spelled h typed full = record {
  octets = octets;
  unquoted = unquoted;
  counted = subst (IsNumber size.bytes.now) same is;
  short = omega (arith, same, small);
  plain = plain;
  spelled = spelled;
  read = h;
  typed = typed;
  in_full = full;
}
read number n size digits octets (Err e) unquoted is same small plain spelled h typed full = h

pub fits : FullSizes → (octets : List ℕ) (r : Result RData TextError) → length octets < 2 ^ 16 → IfOk r (λ rdata. data_octets rdata ≡ octets) → IfOk r (λ rdata. data_len rdata ≤ 65535)
fits sizes octets (Ok rdata) short full = omega (arith, full_len sizes rdata, ap length full, short)
fits sizes octets (Err e) short full = full

pub no_size : (number : ℕ) (size : Word) (digits : List Word) → IsNoNumberWord size → HasNone (IsGenericData number size digits)
no_size number size digits none rdata is = none (length is.octets) is.unquoted is.counted (omega (arith, is.short))

pub great_size : (number n : ℕ) (size : Word) (digits : List Word) → IsNumber size.bytes.now n → 2 ^ 16 ≤ n → HasNone (IsGenericData number size digits)
great_size number n size digits told great rdata is =
    let same : n ≡ length is.octets = sym told.value ∙ is.counted.value in
    absurd (omega (arith, same, great, is.short))

pub no_bytes : (number : ℕ) (size : Word) (digits : List Word) → HasNone (λ octets. ArePlain digits × (decode_of (bytes_of digits) ≡ Ok octets)) → HasNone (IsGenericData number size digits)
no_bytes number size digits none rdata is = none is.octets (is.plain, is.spelled)

same_octets : (number : ℕ) (size : Word) (digits : List Word) (octets : List ℕ) (rdata : RData) → decode_of (bytes_of digits) ≡ Ok octets → (is : IsGenericData number size digits rdata) → is.octets ≡ octets
same_octets number size digits octets rdata spelled is = let other : decode_of (bytes_of digits) ≡ Ok is.octets = is.spelled in cc

pub wrong_size : (number n : ℕ) (size : Word) (digits : List Word) (octets : List ℕ) → IsNumber size.bytes.now n → decode_of (bytes_of digits) ≡ Ok octets → n ≢ length octets → HasNone (IsGenericData number size digits)
wrong_size number n size digits octets told spelled differ rdata is =
    differ (sym told.value ∙ is.counted.value ∙ ap length (same_octets number size digits octets rdata spelled is))

pub no_data : (number : ℕ) (size : Word) (digits : List Word) (octets : List ℕ) (r : Result RData TextError) → decode_of (bytes_of digits) ≡ Ok octets
    → IfErr r (λ e. e ≢ Memory → HasNone (λ (rdata : RData). AreReadOf number octets rdata × (type_of rdata ≡ number) × (data_octets rdata ≡ octets))) → IfErr r (λ e. e ≢ Memory → HasNone (IsGenericData number size digits))
no_data number size digits octets (Ok found) spelled h = h
no_data number size digits octets (Err e) spelled h = λ no_want rdata is.
    let same : is.octets ≡ octets = same_octets number size digits octets rdata spelled is in
    h no_want rdata (subst (λ (o : List ℕ). AreReadOf number o rdata) same is.read, is.typed, is.in_full ∙ same)
