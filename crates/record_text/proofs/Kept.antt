-- Octets are the data only of a type that has no form of its own.
use Rattle.std.proofs.Common.{◌≡◌, ◌+◌, ◌<◌, ℕ, Bool, true, false, nat_lt, List, [], ◌∷◌, ◌++◌, length, Option, Some, Result, Ok, Err, sym, ap, subst, refl, arith, length-append, ltb-true, ltb-false}
use Rattle.std.specs.Prelude.{◌≢◌, IfOk, codes}
use Rattle.std.specs.List.{flat_map}
use Rattle.wire_names.specs.rr.domain.DomainName.{DomainName}
use Rattle.wire_messages.specs.rr.RecordData.{character_string, type_of}
use Rattle.wire_messages.specs.declared.rr.rdata.RData.{RData}
use Rattle.wire_messages.specs.declared.rr.rdata.RData.TheVariants.{A, AAAA, NS, CNAME, PTR, MX, SOA, TXT, OPT, TSIG, NULL, Update0, Unknown}
use Rattle.wire_messages.specs.serialize.layout.FieldRanges.{IsInRange, IsReadAsItsType}
use Rattle.wire_messages.specs.serialize.layout.RecordLayout.{IsFormed}
use Rattle.wire_messages.specs.serialize.writing.FullForm.{data_octets}
use Rattle.record_text.specs.declared.data.field.Rest.{Rest}
use Rattle.record_text.specs.declared.data.field.Rest.TheVariants as kind
use Rattle.text_words.specs.declared.error.TextError.{TextError}
use Rattle.text_words.specs.declared.words.Word.{Word}
use Rattle.record_text.specs.RecordText.{AreOctetsOf, AreStrings, HasNone, IsData, IsRest, IsRow}
use Rattle.record_text.specs.RecordText.AreStrings.{none as no_words, more as one_string}
use Rattle.record_text.specs.RecordText.IsData.{in_form}
use Rattle.record_text.specs.RecordText.IsRest.{nothing, strings}
use Rattle.record_text.specs.TypeTable.{TypeRow, row, row_of}
use Rattle.record_text.proofs.NoRow.{fields_len, not_generic}

nil_behind : {origin : Option DomainName} {words : List Word} {octets : List ℕ} → IsRest origin kind.Nothing words octets → words ≡ []
nil_behind nothing = refl

in_row : (origin : Option DomainName) (number : ℕ) (row : TypeRow) (words : List Word) (octets : List ℕ) → row_of number ≡ Some row → IsData origin number words octets → IsRow origin row words octets
in_row origin number row words octets found (in_form {row = other} found' is) =
    let same : other ≡ row = cc in
    subst (λ (r : TypeRow). IsRow origin r words octets) same is

-- data of fields have as many words as these
pub fields_alone : (origin : Option DomainName) (number : ℕ) (row : TypeRow) (words : List Word) (octets : List ℕ) → row_of number ≡ Some row → row.rest ≡ kind.Nothing → IsData origin number words octets → length words ≡ length row.fields
fields_alone origin number row words octets found none_left is =
    let at : IsRow origin row words octets = in_row origin number row words octets found is in
    let empty : at.behind ≡ [] = nil_behind (subst (λ (r : Rest). IsRest origin r at.behind at.behind_octets) none_left at.rest) in
    let len : length at.front ≡ length row.fields = fields_len at.fields in
    omega (arith, ap length at.in_order, length-append at.front at.behind, ap length empty, len)

-- fewer words, or more
pub few_words : (origin : Option DomainName) (k number : ℕ) (row : TypeRow) (words : List Word) → row_of k ≡ Some row → row.rest ≡ kind.Nothing → number ≡ k → nat_lt (length words) (length row.fields) ≡ true → HasNone (IsData origin number words)
few_words origin k number row words found none_left same few octets is =
    let len : length words ≡ length row.fields = fields_alone origin k row words octets found none_left (subst (λ (n : ℕ). IsData origin n words octets) same is) in
    omega (arith, len, ltb-true (length words) (length row.fields) few)

pub more_words : (origin : Option DomainName) (k number : ℕ) (row : TypeRow) (words : List Word) → row_of k ≡ Some row → row.rest ≡ kind.Nothing → number ≡ k → nat_lt (length words) (length row.fields + 1) ≡ false → HasNone (IsData origin number words)
more_words origin k number row words found none_left same more octets is =
    let len : length words ≡ length row.fields = fields_alone origin k row words octets found none_left (subst (λ (n : ℕ). IsData origin n words octets) same is) in
    omega (arith, len, ltb-false (length words) (length row.fields + 1) more)

abbrev text_row : TypeRow
text_row = row 16 (codes "TXT") [] kind.Strings

some_strings : {origin : Option DomainName} {words : List Word} {octets : List ℕ} → IsRest origin kind.Strings words octets → words ≢ []
some_strings (strings some are) = some

-- no character string
pub no_text : (origin : Option DomainName) (number : ℕ) (words : List Word) → number ≡ 16 → nat_lt (length words) 1 ≡ true → HasNone (IsData origin number words)
no_text origin number words same few octets is =
    let at : IsRow origin text_row words octets = in_row origin 16 text_row words octets refl (subst (λ (n : ℕ). IsData origin n words octets) same is) in
    some_strings at.rest (empty at.behind (omega (arith, ap length at.in_order, length-append at.front at.behind, ltb-true (length words) 1 few)))
  where
    empty : (ws : List Word) → length ws ≡ 0 → ws ≡ []
    empty [] e = refl
    empty (w ∷ ws) e = absurd (omega (arith, e))

-- a type that no words have a form for
no_form : (origin : Option DomainName) (k number : ℕ) (row : TypeRow) (words : List Word) (octets : List ℕ) → row_of k ≡ Some row → row.rest ≡ kind.Generic → IsData origin number words octets → number ≢ k
no_form origin k number row words octets found none is = λ same.
    let at : IsRow origin row words octets = in_row origin k row words octets found (subst (λ (n : ℕ). IsData origin n words octets) same is) in
    not_generic at.rest none

-- what words are data that are no data
pub of_none : (origin : Option DomainName) (number : ℕ) (words : List Word) (r : Result RData TextError) → HasNone (IsData origin number words) → IfOk r (λ rdata. IsData origin number words (data_octets rdata)) → IfOk r IsFormed
of_none origin number words (Ok rdata) none is = absurd (none (data_octets rdata) is)
of_none origin number words (Err e) none is = is

-- the types that have a form of their own, beside those that no words have a form for
pub record HasNoOwnForm (number : ℕ) : Type 0 where
  pub a : number ≢ 1
  pub ns : number ≢ 2
  pub cname : number ≢ 5
  pub soa : number ≢ 6
  pub ptr : number ≢ 12
  pub mx : number ≢ 15
  pub txt : number ≢ 16
  pub aaaa : number ≢ 28

kept : (origin : Option DomainName) (number : ℕ) (words : List Word) (rdata : RData) → HasNoOwnForm number → AreOctetsOf number rdata → IsInRange rdata → IsData origin number words (data_octets rdata) → IsFormed rdata
kept origin number words (Update0 code) other same small is =
    let opt : number ≢ 41 = no_form origin 41 number (row 41 (codes "OPT") [] kind.Generic) words [] refl refl is in
    let tsig : number ≢ 250 = no_form origin 250 number (row 250 (codes "TSIG") [] kind.Generic) words [] refl refl is in
    (small, subst (λ (n : ℕ). IsReadAsItsType (Update0 n)) (sym same) (opt, tsig))
kept origin number words (Unknown code octets) other (same, some) small is =
    let null : number ≢ 10 = no_form origin 10 number (row 10 (codes "NULL") [] kind.Generic) words octets refl refl is in
    let opt : number ≢ 41 = no_form origin 41 number (row 41 (codes "OPT") [] kind.Generic) words octets refl refl is in
    let tsig : number ≢ 250 = no_form origin 250 number (row 250 (codes "TSIG") [] kind.Generic) words octets refl refl is in
    (small, subst (λ (n : ℕ). IsReadAsItsType (Unknown n octets)) (sym same) (some, other.a, other.ns, other.cname, other.soa, null, other.ptr, other.mx, other.txt, other.aaaa, opt, tsig))
kept origin number words (A x) other same small is = absurd same
kept origin number words (AAAA x) other same small is = absurd same
kept origin number words (NS x) other same small is = absurd same
kept origin number words (CNAME x) other same small is = absurd same
kept origin number words (PTR x) other same small is = absurd same
kept origin number words (MX x) other same small is = absurd same
kept origin number words (SOA x) other same small is = absurd same
kept origin number words (TXT x) other same small is = absurd same
kept origin number words (OPT x) other same small is = absurd same
kept origin number words (TSIG x) other same small is = absurd same
kept origin number words (NULL x) other same small is = absurd same

pub of_octets : (origin : Option DomainName) (number : ℕ) (words : List Word) (r : Result RData TextError) → HasNoOwnForm number → IfOk r (AreOctetsOf number) → IfOk r IsInRange → IfOk r (λ rdata. IsData origin number words (data_octets rdata)) → IfOk r IsFormed
of_octets origin number words (Ok rdata) other kept_so small is = kept origin number words rdata other kept_so small is
of_octets origin number words (Err e) other kept_so small is = is

type_is : (number : ℕ) (rdata : RData) → AreOctetsOf number rdata → type_of rdata ≡ number
type_is number (Update0 code) same = same
type_is number (Unknown code octets) same = same.0
type_is number (A x) same = absurd same
type_is number (AAAA x) same = absurd same
type_is number (NS x) same = absurd same
type_is number (CNAME x) same = absurd same
type_is number (PTR x) same = absurd same
type_is number (MX x) same = absurd same
type_is number (SOA x) same = absurd same
type_is number (TXT x) same = absurd same
type_is number (OPT x) same = absurd same
type_is number (TSIG x) same = absurd same
type_is number (NULL x) same = absurd same

pub of_type : (number : ℕ) (r : Result RData TextError) → IfOk r (AreOctetsOf number) → IfOk r (λ rdata. type_of rdata ≡ number)
of_type number (Ok rdata) is = type_is number rdata is
of_type number (Err e) is = is

-- the character strings of words, at least one
no_strings : {words : List Word} {octets : List ℕ} → AreStrings words octets → octets ≡ [] → words ≡ []
no_strings no_words e = refl
no_strings (one_string {octets = octets} {own = own} before one) e = absurd (omega (arith, length-append octets own, ap length e, ap length one.counted))

pub some_texts : (words : List Word) (texts : List (List ℕ)) → words ≢ [] → AreStrings words (flat_map character_string texts) → texts ≢ []
some_texts words texts some are = λ e. some (no_strings are (ap (flat_map character_string) e))
