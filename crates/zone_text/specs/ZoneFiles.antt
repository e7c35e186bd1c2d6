-- The records of a zone file (RFC 1035 section 5.1).
use Rattle.std.specs.Prelude.{◌≡◌, ℕ, ◌+◌, ◌*◌, ◌-◌, ◌<◌, ◌≤◌, ◌^◌, ◌==◌, ◌⊎◌, ◌++◌, List, [], ◌∷◌, if◌then◌else◌, Bool, true, false, length, take, get_or, slice_get, codes, Option, Some, None}
use Rattle.std.specs.Option.{option_map}
use Rattle.wire_messages.specs.declared.rr.rdata.RData.{RData}
use Rattle.wire_messages.specs.declared.rr.rdata.RData.TheVariants as rdata
use Rattle.wire_messages.specs.declared.rr.record.Record.{Record}
use Rattle.wire_messages.specs.declared.rr.record.Proof.TheVariants.{Indeterminate}
use Rattle.wire_messages.specs.rr.RecordData.{type_of}
use Rattle.wire_names.specs.rr.domain.DomainName.{DomainName, name_len}
use Rattle.hickory_wire.specs.serialize.writing.ReadingBack.{ReadsBack}
use Rattle.wire_messages.specs.serialize.writing.RecordSize.{data_len}
use Rattle.text_words.specs.declared.words.TextKind.TheVariants.{ZoneFile}
use Rattle.text_words.specs.declared.words.Word.{Word}
use Rattle.zone_text.specs.declared.zone_file.entry.Before.{Before}
use Rattle.zone_text.specs.declared.zone_file.entry.Entry.{Entry}
use Rattle.zone_text.specs.declared.zone_file.entry.Entry.TheVariants.{Blank, Origin, DefaultTtl, Record as RecordOf, Generated}
use Rattle.zone_text.specs.declared.zone_file.number_range.NumberRange.{NumberRange}
use Rattle.zone_text.specs.Numbered.{IsNumbered, IsRange, Reaches}
use Rattle.record_text.specs.RecordText.{SameLetters, SpellsData, SpellsType}
use Rattle.text_words.specs.Spelling.{IsNumber, SpellsName, SpellsTime}
use Rattle.text_words.specs.Words.{AreWordsTo, is_blank}

-- a type of which zones have records: none that stands in messages alone, which are OPT, 41, and from 128 to 255, and
-- not 0, which no record has (RFC 6895 section 3.1)
pub record IsZoneType (number : ℕ) : Type 0 where
  pub not_zero : 0 < number
  pub not_opt : ¬ (number ≡ 41)
  pub not_meta : (number < 128) ⊎ (255 < number)

-- What every record of a zone file is: its owner name is fully qualified, its class IN, which is 1 (RFC 1035 section
-- 3.2.4), its type one of zones, its data no longer than their length can tell (RFC 1035 section 3.2.1), and of its
-- proof nothing is known. It reads back as itself.
pub record IsZoneRecord (r : Record RData) : Type 0 where
  pub qualified : r.name.is_fqdn ≡ true
  pub class_in : r.dns_class ≡ 1
  pub stored : IsZoneType (type_of r.rdata)
  pub fits : data_len r.rdata ≤ 65535
  pub unproved : r.proof ≡ Indeterminate
  pub read_back : ReadsBack r

-- the last record, if there is one
abbrev pub last_record : List (Record RData) → Option (Record RData)
last_record records = slice_get records (length records - 1)

-- the last number of a zone's start, whose type is 6 (RFC 1035 section 3.3.13), and 0 where its data stand as octets
-- with no numbers of their own
abbrev pub zone_minimum : RData → Option ℕ
zone_minimum (rdata.SOA soa) = Some soa.minimum
zone_minimum content = if type_of content == 6 then Some 0 else None

-- The TTL of a record that has this one or none of its own: its own, else that of the last $TTL (RFC 2308 section 4),
-- else that of the record before (RFC 1035 section 5.1), else the minimum of a zone's start (RFC 2308 section 4), else
-- none.
abbrev pub ttl_in_force : Option ℕ → Option ℕ → Option ℕ → Option ℕ → Option ℕ
ttl_in_force (Some own) default last minimum = Some own
ttl_in_force None (Some default) last minimum = Some default
ttl_in_force None None (Some last) minimum = Some last
ttl_in_force None None None minimum = minimum

-- a word in no quotes that is a text, letter case aside
pub record IsKeyword (keyword : List ℕ) (word : Word) : Type 0 where
  pub unquoted : word.quoted ≡ false
  pub same : SameLetters keyword word.bytes.now

-- a word in no quotes that begins with a dollar sign, as directives do
pub record IsDirective (word : Word) : Type 0 where
  pub unquoted : word.quoted ≡ false
  pub dollar : get_or word.bytes.now 0 0 ≡ 36

-- the word is a name, relative to an origin where no dot ends it, of at most 255 bytes in wire form (RFC 1035 section
-- 2.3.4)
pub record IsName (origin : DomainName) (word : Word) (name : DomainName) : Type 0 where
  pub unquoted : word.quoted ≡ false
  pub spelled : SpellsName (Some origin) word.bytes.now name.labels
  pub qualified : name.is_fqdn ≡ true
  pub short : name_len name.labels ≤ 255

-- the word is a TTL: a time of 32 bits in seconds
pub record IsTtl (word : Word) (seconds : ℕ) : Type 0 where
  pub unquoted : word.quoted ≡ false
  pub spelled : SpellsTime word.bytes.now seconds
  pub short : seconds < 2 ^ 32

-- CLASS, in any letter case, and the number of the class IN, which is 1 (RFC 3597 section 5)
pub record IsClass1 (text : List ℕ) : Type 0 where
  pub front : List ℕ
  pub digits : List ℕ
  pub in_order : text ≡ front ++ digits
  pub letters : SameLetters (codes "CLASS") front
  pub spelled : IsNumber digits 1

-- the word is the class IN, in any letter case, or CLASS and its number
pub data IsClassIn (word : Word) : Type 0 where
  mnemonic : IsKeyword (codes "IN") word → IsClassIn word
  numbered : word.quoted ≡ false → IsClass1 word.bytes.now → IsClassIn word

-- the word is a type
pub record IsTypeWord (number : ℕ) (word : Word) : Type 0 where
  pub unquoted : word.quoted ≡ false
  pub spelled : SpellsType word.bytes.now number

-- The first of some words is such as a fact says, and these stand behind it.
abbrev pub BeginsWith : (Word → Type 0) → List Word → List Word → Type 0
BeginsWith Is words behind = (word : Word) × (words ≡ word ∷ behind) × Is word

-- The first of some words is this TTL, and these stand behind it, or none is taken.
abbrev pub MayBeginWithTtl : List Word → Option ℕ → List Word → Type 0
MayBeginWithTtl words (Some seconds) behind = BeginsWith (λ word. IsTtl word seconds) words behind
MayBeginWithTtl words None behind = words ≡ behind

-- TTL and class, in either order and either left out, and the TTL, if there is one
pub data AreTtlAndClass : List Word → Option ℕ → Type 0 where
  neither : AreTtlAndClass [] None
  class : {word : Word} → IsClassIn word → AreTtlAndClass (word ∷ []) None
  ttl : {word : Word} {seconds : ℕ} → IsTtl word seconds → AreTtlAndClass (word ∷ []) (Some seconds)
  class_ttl : {first second : Word} {seconds : ℕ} → IsClassIn first → IsTtl second seconds → AreTtlAndClass (first ∷ second ∷ []) (Some seconds)
  ttl_class : {first second : Word} {seconds : ℕ} → IsTtl first seconds → IsClassIn second → AreTtlAndClass (first ∷ second ∷ []) (Some seconds)

-- the TTL and the owner name of the last record
abbrev pub last_ttl : List (Record RData) → Option ℕ
last_ttl records = option_map (λ r. r.ttl) (last_record records)

abbrev pub last_owner : List (Record RData) → Option DomainName
last_owner records = option_map (λ r. r.name) (last_record records)

-- TTL and class, then a type, and the words behind it
pub record IsFrontOf (words : List Word) (own : Option ℕ) (number : ℕ) (behind : List Word) : Type 0 where
  pub front : List Word
  pub rest : List Word
  pub in_order : words ≡ front ++ rest
  pub timed : AreTtlAndClass front own
  pub typed : BeginsWith (IsTypeWord number) rest behind

-- Types whose data are never no octets: A, NS, CNAME, SOA, PTR, MX, TXT and AAAA (RFC 1035 sections 3.3 and 3.4, RFC
-- 3596 section 2.2)
abbrev pub has_octets : ℕ → Bool
has_octets number = if number == 1 then true else if number == 2 then true else if number == 5 then true else if number == 6 then true else if number == 12 then true else if number == 15 then true else if number == 16 then true else number == 28

-- `\#` and a length, with no octets behind (RFC 3597 section 5)
abbrev pub AreNoOctets : List Word → Type 0
AreNoOctets (mark ∷ size ∷ []) = (mark.quoted ≡ false) × (mark.bytes.now ≡ 92 ∷ 35 ∷ [])
AreNoOctets words = ⊥

-- Data of a type whose data are never no octets are not written as none.
abbrev pub MayBeData : ℕ → List Word → Type 0
MayBeData number words = has_octets number ≡ true → AreNoOctets words → ⊥

-- What a TTL, if one is written, a type and data behind it make, where this is left by the entries before. Where no TTL
-- is written, that is in force which they leave.
pub record IsTyped (before : Before) (own : Option ℕ) (number : ℕ) (fields : List Word) (r : Record RData) : Type 0 where
  pub typed : type_of r.rdata ≡ number
  pub in_force : ttl_in_force own before.default_ttl (last_ttl before.records) (zone_minimum r.rdata) ≡ Some r.ttl
  pub spelled : SpellsData (Some before.origin) number fields r.rdata
  pub some : MayBeData number fields
  pub kept : IsZoneRecord r

-- What stands behind the owner name of a record: TTL and class, the type, and the data.
pub record IsBehindOwner (before : Before) (words : List Word) (r : Record RData) : Type 0 where
  pub own : Option ℕ
  pub number : ℕ
  pub behind : List Word
  pub front : IsFrontOf words own number behind
  pub is : IsTyped before own number behind r

-- A record: where its line begins with a blank, it has the owner name in force; otherwise the first word is the owner
-- name, and no directive.
pub data IsRecordEntry (before : Before) : Bool → List Word → Record RData → Type 0 where
  repeated : {words : List Word} {r : Record RData} → last_owner (take before.owned before.records) ≡ Some r.name → IsBehindOwner before words r → IsRecordEntry before true words r
  named : {owner : Word} {words : List Word} {r : Record RData} → (IsDirective owner → ⊥) → IsName before.origin owner r.name → IsBehindOwner before words r → IsRecordEntry before false (owner ∷ words) r

-- a word in no quotes that is a range
pub record IsRangeWord (word : Word) (range : NumberRange) : Type 0 where
  pub unquoted : word.quoted ≡ false
  pub is : IsRange word.bytes.now range

-- the words of a text that is all of an entry
abbrev pub HasWordsOf : List ℕ → List Word → Type 0
HasWordsOf text words = AreWordsTo ZoneFile text 0 0 words (length text)

-- a word in no quotes that is a name, with a number for its dollar signs
pub record IsNumberedOwner (origin : DomainName) (word : Word) (number : ℕ) (name : DomainName) : Type 0 where
  pub text : List ℕ
  pub unquoted : word.quoted ≡ false
  pub numbered : IsNumbered word.quoted number word.bytes.now text
  pub spelled : SpellsName (Some origin) text name.labels
  pub qualified : name.is_fqdn ≡ true
  pub short : name_len name.labels ≤ 255

-- What a $GENERATE directive has of each of its records: the owner name and the data, both with dollar signs, a TTL, if
-- there is one, and the type.
pub record Template : Type 0 where
  pub lhs : Word
  pub own : Option ℕ
  pub type : ℕ
  pub rhs : Word

abbrev pub template : Word → Option ℕ → ℕ → Word → Template
template lhs own type rhs = record { lhs = lhs; own = own; type = type; rhs = rhs }

-- The record that a $GENERATE directive makes of a number: that of the entry with its owner name, its TTL, if it has
-- one, its type and its data, where the number stands for the dollar signs in the owner name and in the data, which are
-- words once it does.
pub record IsNumberedRecord (before : Before) (given : Template) (number : ℕ) (r : Record RData) : Type 0 where
  pub owner : IsNumberedOwner before.origin given.lhs number r.name
  pub text : List ℕ
  pub words : List Word
  pub numbered : IsNumbered given.rhs.quoted number given.rhs.bytes.now text
  pub stand : HasWordsOf text words
  pub is : IsTyped before given.own given.type words r

-- records for the numbers from 0 up to a count
pub data AreEach (Is : ℕ → Record RData → Type 0) : ℕ → List (Record RData) → Type 0 where
  none : AreEach Is 0 []
  more : {count : ℕ} {records : List (Record RData)} {r : Record RData} → AreEach Is count records → Is count r → AreEach Is (count + 1) (records ++ r ∷ [])

-- What stands behind `$GENERATE`: a range, an owner name, TTL and class in either order and either left out, a type,
-- and one word for the data; and the records of all numbers of the range (BIND 9 Administrator Reference Manual, the
-- $GENERATE directive).
pub record IsGenerated (before : Before) (words : List Word) (records : List (Record RData)) : Type 0 where
  pub range_word : Word
  pub lhs : Word
  pub rhs : Word
  pub fields : List Word
  pub in_order : words ≡ range_word ∷ lhs ∷ fields
  pub range : NumberRange
  pub ranged : IsRangeWord range_word range
  pub own : Option ℕ
  pub type : ℕ
  pub front : IsFrontOf fields own type (rhs ∷ [])
  pub stored : IsZoneType type
  pub count : ℕ
  pub reached : Reaches range count
  pub each : AreEach (λ k. IsNumberedRecord before (template lhs own type rhs) (range.first + k * range.step)) count records

-- The words of an entry, whose line begins with a blank or does not, behind what the entries before leave: a blank
-- line, a directive that is one of three (RFC 1035 section 5.1, RFC 2308 section 4, and $GENERATE of BIND), or a
-- record.
pub data IsEntry (before : Before) : Bool → List Word → Entry → Type 0 where
  blank : {begins_blank : Bool} → IsEntry before begins_blank [] Blank
  origin_of : {directive word : Word} {name : DomainName} → IsKeyword (codes "$ORIGIN") directive → IsName before.origin word name → IsEntry before false (directive ∷ word ∷ []) (Origin name)
  default_ttl_of : {directive word : Word} {seconds : ℕ} → IsKeyword (codes "$TTL") directive → IsTtl word seconds → IsEntry before false (directive ∷ word ∷ []) (DefaultTtl seconds)
  generated_of : {directive : Word} {words : List Word} {records : List (Record RData)} → IsKeyword (codes "$GENERATE") directive → IsGenerated before words records → IsEntry before false (directive ∷ words) (Generated records)
  record_of : {begins_blank : Bool} {words : List Word} {r : Record RData} → IsRecordEntry before begins_blank words r → IsEntry before begins_blank words (RecordOf r)

-- What is left to the entry behind. Behind a $GENERATE directive the owner name in force is that of before.
abbrev pub after : Before → Entry → Before
after before Blank = before
after before (Origin name) = record before { origin = name }
after before (DefaultTtl seconds) = record before { default_ttl = Some seconds }
after before (RecordOf r) = record before { records = before.records ++ r ∷ []; owned = length before.records + 1 }
after before (Generated records) = record before { records = before.records ++ records }

-- From a place of a text on an entry stands, to its end.
pub record IsEntryFrom (text : List ℕ) (place : ℕ) (before : Before) (entry : Entry) (end : ℕ) : Type 0 where
  pub words : List Word
  pub stand : AreWordsTo ZoneFile text place 0 words end
  pub is : IsEntry before (is_blank (get_or text place 0)) words entry

-- Entries of a text, one behind the line feed that ends the one before, and what each leaves to the next.
pub data AreEntries (text : List ℕ) (first : ℕ) (start : Before) : ℕ → Before → Type 0 where
  none : AreEntries text first start first start
  more : {place end : ℕ} {before : Before} {entry : Entry} → AreEntries text first start place before → place < length text → IsEntryFrom text place before entry end → AreEntries text first start (end + 1) (after before entry)

-- Where the first entry begins: behind a byte order mark, if there is one (RFC 3629 section 6).
abbrev pub first_entry : List ℕ → ℕ
first_entry (a ∷ b ∷ c ∷ text) = if a == 239 then (if b == 187 then (if c == 191 then 3 else 0) else 0) else 0
first_entry text = 0

-- what is left to the first entry
abbrev pub start_of : DomainName → Before
start_of origin = record { origin = origin; default_ttl = None; owned = 0; records = [] }

-- The entries of a text up to a place, from the first on, and what they leave.
abbrev pub IsFront : DomainName → List ℕ → ℕ → Before → Type 0
IsFront origin text place before = AreEntries text (first_entry text) (start_of origin) place before

-- A text is the zone file of these records: its entries, to the end of the text, leave them.
pub record IsZoneFile (origin : DomainName) (text : List ℕ) (records : List (Record RData)) : Type 0 where
  pub end : ℕ
  pub last : Before
  pub entries : IsFront origin text end last
  pub whole : length text ≤ end
  pub left : records ≡ last.records
