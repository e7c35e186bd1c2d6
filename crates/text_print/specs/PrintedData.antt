-- Words that are printed for the data of records, each of which spells its octets and no others (RFC 1035 section 5.1,
-- RFC 3597 section 5).
use Rattle.std.specs.Prelude.{◌≡◌, ◌≢◌, ◌⊎◌, ℕ, ◌<◌, ◌≤◌, ◌==◌, if◌then◌else◌, codes, List, [], ◌∷◌, ◌++◌, length, take, All, Option, Some, Ok, IfSome, decimal}
use Rattle.std.specs.Int.{IsInRange}
use Rattle.hex.specs.Hex.{decode_of}
use Rattle.wire_names.specs.rr.domain.DomainName.{DomainName}
use Rattle.wire_messages.specs.rr.RecordData.{type_of}
use Rattle.wire_messages.specs.declared.rr.rdata.RData.{RData}
use Rattle.wire_messages.specs.declared.rr.record.Record.{Record}
use Rattle.wire_messages.specs.serialize.writing.FullForm.{data_octets}
use Rattle.wire_names.specs.text.TextForm.{spelled_name}
use Rattle.text_words.specs.declared.words.TextKind.{TextKind}
use Rattle.text_words.specs.declared.words.Word.{Word}
use Rattle.text_words.specs.Words.{words_left}
use Rattle.record_text.specs.declared.data.field.Field.{Field}
use Rattle.record_text.specs.declared.data.field.Rest.{Rest}
use Rattle.record_text.specs.RecordText.{HasData, IsField, IsRest, SpellsType}
use Rattle.record_text.specs.TypeTable.{TypeRow, row_of}
use Rattle.text_print.specs.Printed.{ArePrinted, EndsHere, IsPrinted, IsSound, Printed, line_of, text_of}
use Rattle.text_print.specs.Printed.Printed.{plain}

-- A printed word stands for these octets of a field, and for no others.
pub record IsPrintedField (field : Field) (p : Printed) (octets : List ℕ) : Type 0 where
  pub is : (origin : Option DomainName) (word : Word) → IsPrinted p word → IsField origin field word octets
  pub only : (origin : Option DomainName) (word : Word) (others : List ℕ) → IsPrinted p word → IsField origin field word others → others ≡ octets

-- a word that is read as it is, and is not `\#`, which begins the form that is one for all types
pub record IsFormWord (p : Printed) : Type 0 where
  pub sound : IsSound p
  pub unmarked : p ≢ plain (92 ∷ 35 ∷ [])

-- words for the fields, one for each, and their octets one behind the other
pub data ArePrintedFields : List Field → List Printed → List ℕ → Type 0 where
  none : ArePrintedFields [] [] []
  more : {fields : List Field} {printed : List Printed} {octets : List ℕ} {field : Field} {p : Printed} {own : List ℕ} → ArePrintedFields fields printed octets → IsFormWord p → IsPrintedField field p own
      → ArePrintedFields (fields ++ field ∷ []) (printed ++ p ∷ []) (octets ++ own)

-- Printed words stand for these octets behind the fields, and for no others.
pub record IsPrintedRest (rest : Rest) (printed : List Printed) (octets : List ℕ) : Type 0 where
  pub words : All IsFormWord printed
  pub is : (origin : Option DomainName) (words : List Word) → ArePrinted printed words → IsRest origin rest words octets
  pub only : (origin : Option DomainName) (words : List Word) (others : List ℕ) → ArePrinted printed words → IsRest origin rest words others → others ≡ octets

-- printed words for data in the form of a row of the table of types
pub record IsPrintedRow (row : TypeRow) (printed : List Printed) (octets : List ℕ) : Type 0 where
  pub front : List Printed
  pub behind : List Printed
  pub front_octets : List ℕ
  pub behind_octets : List ℕ
  pub in_order : printed ≡ front ++ behind
  pub together : octets ≡ front_octets ++ behind_octets
  pub fields : ArePrintedFields row.fields front front_octets
  pub rest : IsPrintedRest row.rest behind behind_octets

-- words of hexadecimal digits for octets: one, or none where there are no octets
pub data AreDigits : List Printed → List ℕ → Type 0 where
  none : AreDigits [] []
  digits : {text octets : List ℕ} → IsSound (plain text) → decode_of text ≡ Ok octets → AreDigits (plain text ∷ []) octets

-- Printed words for data of a type: in the form of its row, or in the form that is one for all, `\#`, how many octets
-- there are, and their digits.
pub data ArePrintedData (number : ℕ) : List Printed → List ℕ → Type 0 where
  in_form : {row : TypeRow} {printed : List Printed} {octets : List ℕ} → row_of number ≡ Some row → IsPrintedRow row printed octets → ArePrintedData number printed octets
  generic : {digits : List Printed} {octets : List ℕ} → AreDigits digits octets → ArePrintedData number (plain (92 ∷ 35 ∷ []) ∷ plain (decimal (length octets)) ∷ digits) octets

-- Text stands behind other text, and is such as a fact says of its words.
abbrev pub PutsWords : (List Printed → Type 0) → List ℕ → List ℕ → Type 0
PutsWords Are before after = (printed : List Printed) × (after ≡ before ++ line_of printed) × Are printed

abbrev pub PutsText : (List ℕ → Type 0) → List ℕ → List ℕ → Type 0
PutsText Is before after = (text : List ℕ) × (after ≡ before ++ text) × Is text

abbrev pub PutsField : Field → List ℕ → List ℕ → List ℕ → Type 0
PutsField field octets before after = (p : Printed) × (after ≡ before ++ text_of p) × IsFormWord p × IsPrintedField field p octets

-- A number below a limit stands at the front of data in this form, and is printed: a field of so many octets.
pub record PutsNumber (form : ℕ → List ℕ) (limit : ℕ) (octets before after : List ℕ) (len : ℕ) : Type 0 where
  pub number : ℕ
  pub within : len ≤ length octets
  pub is : take len octets ≡ form number
  pub small : number < limit
  pub put : after ≡ before ++ 32 ∷ decimal number

-- a letter or a digit
abbrev pub IsWordByte : ℕ → Type 0
IsWordByte b = IsInRange 48 57 b ⊎ (IsInRange 65 90 b ⊎ IsInRange 97 122 b)

-- Data begin with a field of so many octets, which is printed.
abbrev pub TakesField : Field → List ℕ → List ℕ → List ℕ → Option ℕ → Type 0
TakesField field octets before after len = IfSome len (λ n. (n ≤ length octets) × PutsField field (take n octets) before after)

-- Data begin with fields of so many octets, which are printed.
abbrev pub TakesFields : List Field → List ℕ → List ℕ → List ℕ → Option ℕ → Type 0
TakesFields fields octets before after len = IfSome len (λ n. PutsWords (λ printed. ArePrintedFields fields printed (take n octets)) before after)

-- a type of which data are bytes alone in `RData`
abbrev pub HasNoForm : ℕ → Type 0
HasNoForm code = (code ≢ 1) × (code ≢ 2) × (code ≢ 5) × (code ≢ 6) × (code ≢ 10) × (code ≢ 12) × (code ≢ 15) × (code ≢ 16) × (code ≢ 28) × (code ≢ 41) × (code ≢ 250)

-- a type, printed
abbrev pub PutsType : ℕ → List ℕ → List ℕ → Type 0
PutsType number before after = (text : List ℕ) × (after ≡ before ++ 32 ∷ text) × IsFormWord (plain text) × SpellsType text number

-- a class, printed: `IN`, or CLASS and its number (RFC 3597 section 5)
abbrev pub class_text : ℕ → List ℕ
class_text number = if number == 1 then codes "IN" else codes "CLASS" ++ decimal number

abbrev pub PutsClass : ℕ → List ℕ → List ℕ → Type 0
PutsClass number before after = after ≡ before ++ 32 ∷ class_text number

-- The text of data: behind whatever text it stands, in a line or at the end of a line of a zone file, and whatever the
-- origin, the words there to the end are these data, and no other data of their type than such of the same octets.
pub record IsTextOf (rdata : RData) (text : List ℕ) : Type 0 where
  pub stands : (origin : Option DomainName) (kind : TextKind) (before behind : List ℕ) → EndsHere kind behind → HasData origin (type_of rdata) (words_left kind (before ++ text ++ behind) (length before) 0) rdata
  pub only : (origin : Option DomainName) (kind : TextKind) (before behind : List ℕ) (other : RData) → EndsHere kind behind → HasData origin (type_of rdata) (words_left kind (before ++ text ++ behind) (length before) 0) other
      → data_octets other ≡ data_octets rdata

-- The text of a record as a line of a zone file: its owner name, its TTL, its class, its type and its data.
pub record IsLineOf (r : Record RData) (text : List ℕ) : Type 0 where
  pub type : List ℕ
  pub content : List ℕ
  pub in_order : text ≡ spelled_name r.name ++ 32 ∷ (decimal r.ttl ++ 32 ∷ (class_text r.dns_class ++ 32 ∷ (type ++ content)))
  pub typed : SpellsType type (type_of r.rdata)
  pub told : IsTextOf r.rdata content
