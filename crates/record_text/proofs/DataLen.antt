-- How long data are in full; and of words that are data of one length at most.
use Rattle.std.proofs.Common.{◌≡◌, ◌∙◌, ◌+◌, ◌<◌, ◌≤◌, ℕ, true, List, [], ◌++◌, length, Option, Ok, refl, rules, ap, arith, length-append}
use Rattle.base64.proofs.EngineFacts.{decode_of-encode_of}
use Rattle.base64.specs.Engines.{standard}
use Rattle.base64.specs.GeneralPurpose.{IsConsistent, decode_of, encode_of}
use Rattle.wire_names.specs.rr.domain.DomainName.{DomainName}
use Rattle.wire_messages.specs.declared.rr.rdata.RData.{RData}
use Rattle.wire_messages.specs.declared.rr.record.Proof.TheVariants.{Indeterminate}
use Rattle.wire_messages.specs.declared.rr.record.Record.{Record}
use Rattle.wire_messages.specs.serialize.layout.RecordLayout.{fixed_fields}
use Rattle.wire_messages.specs.serialize.writing.FullForm.{data_octets, name_octets, record_octets}
use Rattle.wire_messages.specs.serialize.writing.RecordSize.{data_len, full_size}
use Rattle.record_text.specs.RecordText.{HasNone, IsData}
use Rattle.record_text.proofs.OneLength.{Base64Once, data_length}
use Rattle.record_text.proofs.TypesOnce.{types_once}
use Rattle.text_data.specs.ServiceText.{ParametersOnce}
use Rattle.text_words.specs.declared.words.Word.{Word}
use Rattle.text_words.specs.Spelling.{BytesSpelledOnce, NamesSpelledOnce, StringsSpelledOnce}

abbrev pub FullSizes : Type 0
FullSizes = (r : Record RData) → length (record_octets r) ≡ full_size r

abbrev root_of : RData → Record RData
root_of rdata = record { name = record { labels = []; is_fqdn = true }; dns_class = 1; ttl = 0; rdata = rdata; proof = Indeterminate }

pub full_len : FullSizes → (rdata : RData) → length (data_octets rdata) ≡ data_len rdata
full_len sizes rdata =
    let size : length (record_octets (root_of rdata)) ≡ full_size (root_of rdata) = sizes (root_of rdata) in
    let front : List ℕ = name_octets [] ++ fixed_fields (root_of rdata) (data_len rdata) in
    let eleven : length front ≡ 11 = refl in
    let parts : length (front ++ data_octets rdata) ≡ length front + length (data_octets rdata) = length-append front (data_octets rdata) in
    omega (arith, size, eleven, parts)

base64_once : Base64Once
base64_once a b one two same =
    let consistent : IsConsistent standard = search rules in
    let left : decode_of standard (encode_of standard a) ≡ Ok a = decode_of-encode_of standard a consistent one in
    let right : decode_of standard (encode_of standard b) ≡ Ok b = decode_of-encode_of standard b consistent two in
    let moved : decode_of standard (encode_of standard a) ≡ Ok b = ap (decode_of standard) same ∙ right in
    cc

-- Words that are data of more bytes than their length can tell are no shorter data.
pub too_long : FullSizes → BytesSpelledOnce → StringsSpelledOnce → NamesSpelledOnce → ParametersOnce → (origin : Option DomainName) (number : ℕ) (words : List Word) (rdata : RData) → IsData origin number words (data_octets rdata) → 65535 < data_len rdata
    → HasNone (λ (other : RData). IsData origin number words (data_octets other) × (data_len other ≤ 65535))
too_long sizes bytes strings names service origin number words rdata is long other (is', short) =
    let same : length (data_octets rdata) ≡ length (data_octets other) = data_length bytes strings names types_once service base64_once origin number words (data_octets rdata) (data_octets other) is is' in
    omega (arith, same, full_len sizes rdata, full_len sizes other, long, short)
