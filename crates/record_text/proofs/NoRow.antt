-- Where a word of a row stands for nothing that the row needs, the words are no data of the row.
use Rattle.std.proofs.Common.{◌≡◌, ◌∙◌, ◌<◌, ℕ, false, List, [], ◌∷◌, ◌++◌, length, get_or, drop, Option, Some, None, Ok, sym, ap, subst, refl, inl, inr, arith}
use Rattle.std.specs.Prelude.{◌≢◌}
use Rattle.std.proofs.lemmas.Bool.{cases_lt}
use Rattle.std.proofs.lemmas.List.{length_push, get_or_push, get_or_append_left, drop_at, length-append}
use Rattle.hex.specs.Hex.{decode_of}
use Rattle.wire_names.specs.rr.domain.DomainName.{DomainName}
use Rattle.record_text.specs.declared.data.field.Field.{Field}
use Rattle.record_text.specs.declared.data.field.Field.TheVariants as field
use Rattle.record_text.specs.declared.data.field.Rest.{Rest}
use Rattle.record_text.specs.declared.data.field.Rest.TheVariants as kind
use Rattle.text_data.specs.LocationText.{IsLocation}
use Rattle.text_data.specs.ServiceText.{AreServiceParameters}
use Rattle.text_words.specs.declared.words.Word.{Word}
use Rattle.text_words.specs.Spelling.{IsString}
use Rattle.record_text.specs.RecordText.{AreFields, AreFieldsBefore, AreLowTypes, AreNames, ArePlain, ArePortBits, ArePorts, AreStrings, AreTypes, HasNone, IsBase64, IsData, IsField, IsGateway, IsLowTypeSet, IsRest, IsRow, IsTypeSet, SpellsLowType, SpellsPort, SpellsType, bytes_of}
use Rattle.record_text.specs.RecordText.AreNames.{none as no_servers, more as one_server}
use Rattle.record_text.specs.RecordText.ArePorts.{none as no_ports_here, more as one_port}
use Rattle.record_text.specs.RecordText.AreLowTypes.{none as no_low_here, more as one_low}
use Rattle.record_text.specs.RecordText.AreFields.{none as no_fields, more as one_field}
use Rattle.record_text.specs.RecordText.AreStrings.{none as no_words, more as one_string}
use Rattle.record_text.specs.RecordText.AreTypes.{none as no_names, more as one_type}
use Rattle.record_text.specs.RecordText.IsData.{in_form}
use Rattle.record_text.specs.RecordText.IsRest.{nothing, strings, hex, base64, types, service, ports, prefixes, gateway, low_types, location, relay, host}
use Rattle.record_text.specs.Prefixes.{ArePrefixes, SpellsPrefix}
use Rattle.record_text.specs.Prefixes.ArePrefixes.{none as no_prefixes_here, more as one_prefix}
use Rattle.record_text.specs.TypeTable.{TypeRow, row_of}

pub fields_len : {origin : Option DomainName} {fields : List Field} {words : List Word} {octets : List ℕ} → AreFields origin fields words octets → length words ≡ length fields
fields_len no_fields = refl
fields_len (one_field {fields = fs} {words = ws} {field = f} {word = w} before one) =
    let e : length ws ≡ length fs = fields_len before in
    omega (arith, length_push fs f, length_push ws w)

-- the word of a field
pub field_at : {origin : Option DomainName} {fields : List Field} {words : List Word} {octets : List ℕ} → AreFields origin fields words octets → (i : ℕ) (e : Field) (d : Word) → i < length fields
    → (own : List ℕ) × IsField origin (get_or fields i e) (get_or words i d) own
field_at no_fields i e d below = absurd (omega arith)
field_at {origin = origin} (one_field {fields = fs} {words = ws} {field = f} {word = w} {own = own} before one) i e d below =
    let len : length ws ≡ length fs = fields_len before in
    elim (cases_lt i (length fs)) [
      | inl h ↦
          let at : (o : List ℕ) × IsField origin (get_or fs i e) (get_or ws i d) o = field_at before i e d h in (
            at.0,
            subst (λ (x : Field). IsField origin x (get_or (ws ++ w ∷ []) i d) at.0) (sym (get_or_append_left fs (f ∷ []) e i h))
                (subst (λ (x : Word). IsField origin (get_or fs i e) x at.0) (sym (get_or_append_left ws (w ∷ []) d i (omega (arith, len, h)))) at.1),
          )
      | inr h ↦
          let last : length fs ≡ i = omega (arith, length_push fs f, below, h) in (
            own,
            subst (λ (x : Field). IsField origin x (get_or (ws ++ w ∷ []) i d) own) (sym (get_or_push fs f e i last))
                (subst (λ (x : Word). IsField origin f x own) (sym (get_or_push ws w d i (len ∙ last))) one),
          )
    ]

-- A field's word stands for nothing of it.
pub none_at : (origin : Option DomainName) (fields : List Field) (words : List Word) (i : ℕ) (e : Field) (d : Word) → i < length fields → HasNone (IsField origin (get_or fields i e) (get_or words i d))
    → (behind : List Word) → HasNone (AreFieldsBefore origin fields words behind)
none_at origin fields words i e d below none behind octets (front, split, are) =
    let at : (own : List ℕ) × IsField origin (get_or fields i e) (get_or front i d) own = field_at are i e d below in
    let len : length front ≡ length fields = fields_len are in
    none at.0 (subst (λ (w : Word). IsField origin (get_or fields i e) w at.0) (sym (ap (λ (ws : List Word). get_or ws i d) split ∙ get_or_append_left front behind d i (omega (arith, len, below)))) at.1)

-- There are fewer words than fields.
pub too_few : (origin : Option DomainName) (fields : List Field) (words : List Word) → length words < length fields → (behind : List Word) → HasNone (AreFieldsBefore origin fields words behind)
too_few origin fields words few behind octets (front, split, are) =
    let len : length front ≡ length fields = fields_len are in
    absurd (omega (arith, length-append front behind, ap length split, len, few))

pub none_of_fields : (origin : Option DomainName) (row : TypeRow) (words : List Word) → ((behind : List Word) → HasNone (AreFieldsBefore origin row.fields words behind)) → HasNone (IsRow origin row words)
none_of_fields origin row words none octets is = none is.behind is.front_octets (is.front, is.in_order, is.fields)

pub none_of_rest : (origin : Option DomainName) (row : TypeRow) (words behind : List Word) (octets : List ℕ) → AreFieldsBefore origin row.fields words behind octets → HasNone (IsRest origin row.rest behind) → HasNone (IsRow origin row words)
none_of_rest origin row words behind octets (front, split, are) none all is =
    let one : length front ≡ length row.fields = fields_len are in
    let two : length is.front ≡ length row.fields = fields_len is.fields in
    let same : behind ≡ is.behind = sym (drop_at front behind (length row.fields) one) ∙ ap (λ (ws : List Word). drop (length row.fields) ws) (sym split ∙ is.in_order) ∙ drop_at is.front is.behind (length row.fields) two in
    none is.behind_octets (subst (λ (ws : List Word). IsRest origin row.rest ws is.behind_octets) (sym same) is.rest)

pub none_of_row : (origin : Option DomainName) (number : ℕ) (row : TypeRow) (words : List Word) → row_of number ≡ Some row → HasNone (IsRow origin row words) → HasNone (IsData origin number words)
none_of_row origin number row words found none octets (in_form {row = other} found' is) =
    let same : other ≡ row = cc in
    none octets (subst (λ (r : TypeRow). IsRow origin r words octets) same is)

pub string_at : {words : List Word} {octets : List ℕ} → AreStrings words octets → (i : ℕ) (d : Word) → i < length words → (own : List ℕ) × IsString (get_or words i d) own
string_at no_words i d below = absurd (omega arith)
string_at (one_string {words = ws} {own = own} {word = w} before one) i d below = elim (cases_lt i (length ws)) [
  | inl h ↦
      let at : (o : List ℕ) × IsString (get_or ws i d) o = string_at before i d h in
      (at.0, subst (λ (x : Word). IsString x at.0) (sym (get_or_append_left ws (w ∷ []) d i h)) at.1)
  | inr h ↦ (own, subst (λ (x : Word). IsString x own) (sym (get_or_push ws w d i (omega (arith, length_push ws w, below, h)))) one)
]

pub no_string_at : (words : List Word) (i : ℕ) (d : Word) → i < length words → HasNone (IsString (get_or words i d)) → HasNone (AreStrings words)
no_string_at words i d below none octets are = let at : (own : List ℕ) × IsString (get_or words i d) own = string_at are i d below in none at.0 at.1

pub type_at : {words : List Word} {numbers : List ℕ} → AreTypes words numbers → (i : ℕ) (d : Word) → i < length words → (number : ℕ) × ((get_or words i d).quoted ≡ false) × SpellsType (get_or words i d).bytes.now number
type_at no_names i d below = absurd (omega arith)
type_at (one_type {words = ws} {number = number} w before plain is) i d below = elim (cases_lt i (length ws)) [
  | inl h ↦
      let at : (n : ℕ) × ((get_or ws i d).quoted ≡ false) × SpellsType (get_or ws i d).bytes.now n = type_at before i d h in
      subst (λ (x : Word). (n : ℕ) × (x.quoted ≡ false) × SpellsType x.bytes.now n) (sym (get_or_append_left ws (w ∷ []) d i h)) at
  | inr h ↦ subst (λ (x : Word). (n : ℕ) × (x.quoted ≡ false) × SpellsType x.bytes.now n) (sym (get_or_push ws w d i (omega (arith, length_push ws w, below, h)))) (number, plain, is)
]

pub no_type_at : (words : List Word) (i : ℕ) (d : Word) → i < length words → ((number : ℕ) → (get_or words i d).quoted ≡ false → SpellsType (get_or words i d).bytes.now number → ⊥) → HasNone (AreTypes words)
no_type_at words i d below none numbers are =
    let at : (n : ℕ) × ((get_or words i d).quoted ≡ false) × SpellsType (get_or words i d).bytes.now n = type_at are i d below in
    none at.0 at.1 at.2

pub no_nothing : (origin : Option DomainName) (words : List Word) → words ≢ [] → HasNone (IsRest origin kind.Nothing words)
no_nothing origin words some octets nothing = some refl

pub no_strings : (origin : Option DomainName) (words : List Word) → HasNone (AreStrings words) → HasNone (IsRest origin kind.Strings words)
no_strings origin words none octets (strings some are) = none octets are

pub no_hex : (origin : Option DomainName) (words : List Word) → HasNone (λ octets. ArePlain words × (decode_of (bytes_of words) ≡ Ok octets)) → HasNone (IsRest origin kind.Hex words)
no_hex origin words none octets (hex some plain is) = none octets (plain, is)

pub no_base64 : (origin : Option DomainName) (words : List Word) → HasNone (IsBase64 words) → HasNone (IsRest origin kind.Base64 words)
no_base64 origin words none octets (base64 is) = none octets is

pub no_types : (origin : Option DomainName) (words : List Word) → HasNone (IsTypeSet words) → HasNone (IsRest origin kind.Types words)
no_types origin words none octets (types is) = none octets is

pub no_service : (origin : Option DomainName) (words : List Word) → HasNone (AreServiceParameters words) → HasNone (IsRest origin kind.ServiceParameters words)
no_service origin words none octets (service is) = none octets is

pub no_ports : (origin : Option DomainName) (words : List Word) → HasNone (ArePortBits words) → HasNone (IsRest origin kind.Services words)
no_ports origin words none octets (ports is) = none octets is

pub no_prefixes : (origin : Option DomainName) (words : List Word) → HasNone (ArePrefixes words) → HasNone (IsRest origin kind.Prefixes words)
no_prefixes origin words none octets (prefixes is) = none octets is

pub no_gateway : (origin : Option DomainName) (words : List Word) → HasNone (IsGateway origin words) → HasNone (IsRest origin kind.Gateway words)
no_gateway origin words none octets (gateway is) = none octets is

pub no_low : (origin : Option DomainName) (words : List Word) → HasNone (IsLowTypeSet words) → HasNone (IsRest origin kind.LowTypes words)
no_low origin words none octets (low_types is) = none octets is

pub no_location : (origin : Option DomainName) (words : List Word) → HasNone (IsLocation words) → HasNone (IsRest origin kind.Location words)
no_location origin words none octets (location is) = none octets is

-- a type from 1 to 127
abbrev pub IsLow : Word → ℕ → Type 0
IsLow word number = (word.quoted ≡ false) × SpellsLowType word.bytes.now number × (0 < number) × (number < 128)

pub low_at : {words : List Word} {numbers : List ℕ} → AreLowTypes words numbers → (i : ℕ) (d : Word) → i < length words → (number : ℕ) × IsLow (get_or words i d) number
low_at no_low_here i d below = absurd (omega arith)
low_at (one_low {words = ws} {number = number} w before plain is some small) i d below = elim (cases_lt i (length ws)) [
  | inl h ↦
      let at : (n : ℕ) × IsLow (get_or ws i d) n = low_at before i d h in
      subst (λ (x : Word). (n : ℕ) × IsLow x n) (sym (get_or_append_left ws (w ∷ []) d i h)) at
  | inr h ↦ subst (λ (x : Word). (n : ℕ) × IsLow x n) (sym (get_or_push ws w d i (omega (arith, length_push ws w, below, h)))) (number, (plain, is, some, small))
]

pub no_low_at : (words : List Word) (i : ℕ) (d : Word) → i < length words → HasNone (IsLow (get_or words i d)) → HasNone (AreLowTypes words)
no_low_at words i d below none numbers are = let at : (n : ℕ) × IsLow (get_or words i d) n = low_at are i d below in none at.0 at.1

-- no words stand there in a form of the type, where it has none, or without words, where it needs some
pub not_generic : {origin : Option DomainName} {rest : Rest} {words : List Word} {octets : List ℕ} → IsRest origin rest words octets → rest ≢ kind.Generic
not_generic nothing e = absurd (cc)
not_generic (strings some are) e = absurd (cc)
not_generic (hex some plain is) e = absurd (cc)
not_generic (base64 is) e = absurd (cc)
not_generic (types is) e = absurd (cc)
not_generic (service is) e = absurd (cc)
not_generic (ports is) e = absurd (cc)
not_generic (prefixes is) e = absurd (cc)
not_generic (gateway is) e = absurd (cc)
not_generic (host is) e = absurd (cc)
not_generic (low_types is) e = absurd (cc)
not_generic (location is) e = absurd (cc)
not_generic (relay is) e = absurd (cc)

pub some_strings : (origin : Option DomainName) (words : List Word) → words ≡ [] → HasNone (IsRest origin kind.Strings words)
some_strings origin words empty octets (strings some are) = some empty

pub some_hex : (origin : Option DomainName) (words : List Word) → words ≡ [] → HasNone (IsRest origin kind.Hex words)
some_hex origin words empty octets (hex some plain is) = some empty

-- the names of servers, and the ports of services
pub name_at : {origin : Option DomainName} {words : List Word} {octets : List ℕ} → AreNames origin words octets → (i : ℕ) (d : Word) → i < length words → (own : List ℕ) × IsField origin field.Name (get_or words i d) own
name_at no_servers i d below = absurd (omega arith)
name_at {origin = origin} (one_server {words = ws} {own = own} {word = w} before one) i d below = elim (cases_lt i (length ws)) [
  | inl h ↦
      let at : (o : List ℕ) × IsField origin field.Name (get_or ws i d) o = name_at before i d h in
      (at.0, subst (λ (x : Word). IsField origin field.Name x at.0) (sym (get_or_append_left ws (w ∷ []) d i h)) at.1)
  | inr h ↦ (own, subst (λ (x : Word). IsField origin field.Name x own) (sym (get_or_push ws w d i (omega (arith, length_push ws w, below, h)))) one)
]

pub no_name_at : (origin : Option DomainName) (words : List Word) (i : ℕ) (d : Word) → i < length words → HasNone (IsField origin field.Name (get_or words i d)) → HasNone (AreNames origin words)
no_name_at origin words i d below none octets are = let at : (own : List ℕ) × IsField origin field.Name (get_or words i d) own = name_at are i d below in none at.0 at.1

pub port_at : {words : List Word} {numbers : List ℕ} → ArePorts words numbers → (i : ℕ) (d : Word) → i < length words → (port : ℕ) × ((get_or words i d).quoted ≡ false) × SpellsPort (get_or words i d).bytes.now port
port_at no_ports_here i d below = absurd (omega arith)
port_at (one_port {words = ws} {port = number} w before plain is) i d below = elim (cases_lt i (length ws)) [
  | inl h ↦
      let at : (n : ℕ) × ((get_or ws i d).quoted ≡ false) × SpellsPort (get_or ws i d).bytes.now n = port_at before i d h in
      subst (λ (x : Word). (n : ℕ) × (x.quoted ≡ false) × SpellsPort x.bytes.now n) (sym (get_or_append_left ws (w ∷ []) d i h)) at
  | inr h ↦ subst (λ (x : Word). (n : ℕ) × (x.quoted ≡ false) × SpellsPort x.bytes.now n) (sym (get_or_push ws w d i (omega (arith, length_push ws w, below, h)))) (number, plain, is)
]

pub no_port_at : (words : List Word) (i : ℕ) (d : Word) → i < length words → HasNone (λ port. ((get_or words i d).quoted ≡ false) × SpellsPort (get_or words i d).bytes.now port) → HasNone (ArePorts words)
no_port_at words i d below none numbers are =
    let at : (n : ℕ) × ((get_or words i d).quoted ≡ false) × SpellsPort (get_or words i d).bytes.now n = port_at are i d below in
    none at.0 (at.1, at.2)

pub prefix_at : {words : List Word} {octets : List ℕ} → ArePrefixes words octets → (i : ℕ) (d : Word) → i < length words → (own : List ℕ) × ((get_or words i d).quoted ≡ false) × SpellsPrefix (get_or words i d).bytes.now own
prefix_at no_prefixes_here i d below = absurd (omega arith)
prefix_at (one_prefix {words = ws} {own = own} w before plain is) i d below = elim (cases_lt i (length ws)) [
  | inl h ↦
      let at : (o : List ℕ) × ((get_or ws i d).quoted ≡ false) × SpellsPrefix (get_or ws i d).bytes.now o = prefix_at before i d h in
      subst (λ (x : Word). (o : List ℕ) × (x.quoted ≡ false) × SpellsPrefix x.bytes.now o) (sym (get_or_append_left ws (w ∷ []) d i h)) at
  | inr h ↦ subst (λ (x : Word). (o : List ℕ) × (x.quoted ≡ false) × SpellsPrefix x.bytes.now o) (sym (get_or_push ws w d i (omega (arith, length_push ws w, below, h)))) (own, plain, is)
]

pub no_prefix_at : (words : List Word) (i : ℕ) (d : Word) → i < length words → ((get_or words i d).quoted ≡ false → HasNone (SpellsPrefix (get_or words i d).bytes.now)) → HasNone (ArePrefixes words)
no_prefix_at words i d below none octets are =
    let at : (o : List ℕ) × ((get_or words i d).quoted ≡ false) × SpellsPrefix (get_or words i d).bytes.now o = prefix_at are i d below in
    none at.1 at.0 at.2

-- words of which one stands for nothing of its field
pub no_field : (origin : Option DomainName) (number : ℕ) (row : TypeRow) (words : List Word) (i : ℕ) (e : Field) (d : Word) → row_of number ≡ Some row → i < length row.fields → HasNone (IsField origin (get_or row.fields i e) (get_or words i d))
    → HasNone (IsData origin number words)
no_field origin number row words i e d found below none = none_of_row origin number row words found (none_of_fields origin row words (none_at origin row.fields words i e d below none))

-- words that are nothing that stands behind no fields
pub no_rest : (origin : Option DomainName) (number : ℕ) (row : TypeRow) (words : List Word) → row_of number ≡ Some row → row.fields ≡ [] → HasNone (IsRest origin row.rest words) → HasNone (IsData origin number words)
no_rest origin number row words found no_fields_before none =
    none_of_row origin number row words found (none_of_rest origin row words words [] ([], refl, subst (λ (fs : List Field). AreFields origin fs [] []) (sym no_fields_before) no_fields) none)

-- a type without a row has no data in a form
pub no_row : (origin : Option DomainName) (number : ℕ) (words : List Word) → row_of number ≡ None → HasNone (IsData origin number words)
no_row origin number words missing octets (in_form {row = row} found is) = absurd (cc)
