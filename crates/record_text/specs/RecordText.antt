-- The data of a record as the words of a zone's text, and the octets that they stand for (RFC 1035 section 5.1, RFC
-- 3597 section 5).
use Rattle.std.specs.Prelude.{◌≡◌, ◌≢◌, ℕ, ◌+◌, ◌*◌, ◌^◌, ◌<◌, ◌≤◌, ◌==◌, if◌then◌else◌, false, List, [], ◌∷◌, ◌++◌, length, map, codes, Any, All, Option, Some, None, Ok}
use Rattle.std.specs.Char.{to_ascii_lowercase}
use Rattle.std.specs.Int.{w16, w32, to_be_bytes}
use Rattle.std.specs.List.{flat_map}
use Rattle.std.specs.Net.Addr.{ipv4_octets, ipv6_octets}
use Rattle.std.specs.Net.Grammar.{IsIpv4Text, IsIpv6Text}
use Rattle.std.specs.declared.net.ipv4_addr.Ipv4Addr.{Ipv4Addr}
use Rattle.std.specs.declared.net.ipv6_addr.Ipv6Addr.{Ipv6Addr}
use Rattle.base64.specs.Engines.{standard}
use Rattle.base64.specs.GeneralPurpose.{IsBytes, encode_of}
use Rattle.hex.specs.Hex.{decode_of}
use Rattle.wire_names.specs.rr.domain.DomainName.{DomainName, name_len}
use Rattle.wire_messages.specs.rr.RecordData.{character_string, type_of}
use Rattle.wire_messages.specs.declared.rr.rdata.RData.{RData}
use Rattle.wire_messages.specs.declared.rr.rdata.RData.TheVariants as content
use Rattle.wire_messages.specs.declared.rr.record.Record.{Record}
use Rattle.wire_messages.specs.serialize.layout.RecordLayout.{IsFormed, RecordAt}
use Rattle.wire_messages.specs.serialize.writing.FullForm.{data_octets, name_octets}
use Rattle.wire_messages.specs.serialize.writing.RecordSize.{data_len}
use Rattle.record_text.specs.declared.data.field.Field.{Field}
use Rattle.record_text.specs.declared.data.field.Field.TheVariants as field
use Rattle.record_text.specs.declared.data.field.Names.{Names}
use Rattle.record_text.specs.declared.data.field.Names.TheVariants as names
use Rattle.record_text.specs.declared.data.mnemonics.Mnemonic.{Mnemonic}
use Rattle.record_text.specs.Mnemonics.{NamedNumber, mnemonics}
use Rattle.record_text.specs.declared.data.field.Rest.{Rest}
use Rattle.record_text.specs.declared.data.field.Rest.TheVariants as rest
use Rattle.record_text.specs.declared.data.field.Row.{Row}
use Rattle.text_data.specs.LocationText.{IsLocation}
use Rattle.text_data.specs.ServiceText.{AreServiceParameters}
use Rattle.text_words.specs.declared.words.Word.{Word}
use Rattle.record_text.specs.Moments.{SpellsMoment}
use Rattle.record_text.specs.declared.data.hex_groups.Group.TheVariants as group
use Rattle.record_text.specs.Groups.{SpellsBase32, SpellsHexGroups, SpellsNsap}
use Rattle.text_words.specs.Spelling.{IsNumber, IsString, Spells, any_byte, SpellsName, SpellsTime}
use Rattle.record_text.specs.Prefixes.{ArePrefixes}
use Rattle.record_text.specs.TypeBitmaps.{bitmap, bitmap_len, windows}
use Rattle.record_text.specs.TypeTable.{TypeRow, rows, row_of}
use Rattle.text_words.specs.Words.{AreWordsTo, WordsLeft}

-- Nothing is such as a fact says.
abbrev pub HasNone : {A : Type 0} → (A → Type 0) → Type 0
HasNone {A} Is = (it : A) → Is it → ⊥

-- a row of the table as the code has it
abbrev pub row_view : Row → TypeRow
row_view row = record { number = row.number; mnemonic = row.mnemonic.now; fields = row.fields.now; rest = row.rest }

-- the same text, letter case aside
abbrev pub SameLetters : List ℕ → List ℕ → Type 0
SameLetters a b = map to_ascii_lowercase a ≡ map to_ascii_lowercase b

-- a mnemonic of a type, in any letter case
abbrev pub SpellsMnemonic : List ℕ → ℕ → Type 0
SpellsMnemonic text number = Any (λ row. (row.number ≡ number) × SameLetters row.mnemonic text) rows

-- a mnemonic of a number as the code has it
abbrev pub mnemonic_view : Mnemonic → NamedNumber
mnemonic_view m = record { number = m.number; letters = m.letters.now }

-- a mnemonic of a number, in any letter case
abbrev pub IsNamed : Names → List ℕ → ℕ → Type 0
IsNamed names text number = Any (λ m. (m.number ≡ number) × SameLetters m.letters text) (mnemonics names)

-- TYPE, in any letter case, and a number of 16 bits (RFC 3597 section 5)
pub record IsTypeNumber (text : List ℕ) (number : ℕ) : Type 0 where
  pub front : List ℕ
  pub digits : List ℕ
  pub in_order : text ≡ front ++ digits
  pub letters : SameLetters (codes "TYPE") front
  pub spelled : IsNumber digits number
  pub small : number < 2 ^ 16

-- A type: its mnemonic, or TYPE and its number, in any letter case.
pub data SpellsType : List ℕ → ℕ → Type 0 where
  mnemonic : {text : List ℕ} {number : ℕ} → SpellsMnemonic text number → SpellsType text number
  numbered : {text : List ℕ} {number : ℕ} → IsTypeNumber text number → SpellsType text number

-- A text that spells the octets of a field in digits, of base 16 or, where it is a hash, 32; `-` is a salt of none
-- (RFC 5155 section 3.3).
pub data SpellsOctets : Field → List ℕ → List ℕ → Type 0 where
  no_salt : {text : List ℕ} → text ≡ 45 ∷ [] → SpellsOctets field.Salt text (0 ∷ [])
  salt : {text octets : List ℕ} → text ≢ 45 ∷ [] → decode_of text ≡ Ok octets → length octets < 256 → SpellsOctets field.Salt text (character_string octets)
  hash : {text octets : List ℕ} → SpellsBase32 text octets → length octets < 256 → SpellsOctets field.Hash text (character_string octets)
  eui48 : {text octets : List ℕ} → SpellsHexGroups 45 group.Octet 6 text octets → SpellsOctets field.Eui48 text octets
  eui64 : {text octets : List ℕ} → SpellsHexGroups 45 group.Octet 8 text octets → SpellsOctets field.Eui64 text octets
  locator64 : {text octets : List ℕ} → SpellsHexGroups 58 group.Bits16 4 text octets → SpellsOctets field.Locator64 text octets
  nsap : {text octets : List ℕ} → SpellsNsap text octets → SpellsOctets field.Nsap text octets

-- A word as it stands for a field's octets. Names have at most 255 (RFC 1035 section 2.3.4).
pub data IsField (origin : Option DomainName) : Field → Word → List ℕ → Type 0 where
  number8 : {w : Word} {n : ℕ} → w.quoted ≡ false → IsNumber w.bytes.now n → n < 2 ^ 8 → IsField origin field.Number8 w (n ∷ [])
  number16 : {w : Word} {n : ℕ} → w.quoted ≡ false → IsNumber w.bytes.now n → n < 2 ^ 16 → IsField origin field.Number16 w (to_be_bytes w16 n)
  number32 : {w : Word} {n : ℕ} → w.quoted ≡ false → IsNumber w.bytes.now n → n < 2 ^ 32 → IsField origin field.Number32 w (to_be_bytes w32 n)
  named8 : {names : Names} {w : Word} {n : ℕ} → w.quoted ≡ false → IsNamed names w.bytes.now n → IsField origin (field.Named8 names) w (n ∷ [])
  unnamed8 : {names : Names} {w : Word} {n : ℕ} → w.quoted ≡ false → IsNumber w.bytes.now n → n < 2 ^ 8 → IsField origin (field.Named8 names) w (n ∷ [])
  named16 : {names : Names} {w : Word} {n : ℕ} → w.quoted ≡ false → IsNamed names w.bytes.now n → IsField origin (field.Named16 names) w (to_be_bytes w16 n)
  unnamed16 : {names : Names} {w : Word} {n : ℕ} → w.quoted ≡ false → IsNumber w.bytes.now n → n < 2 ^ 16 → IsField origin (field.Named16 names) w (to_be_bytes w16 n)
  time : {w : Word} {n : ℕ} → w.quoted ≡ false → SpellsTime w.bytes.now n → n < 2 ^ 32 → IsField origin field.Time w (to_be_bytes w32 n)
  name : {w : Word} {labels : List (List ℕ)} → w.quoted ≡ false → SpellsName origin w.bytes.now labels → name_len labels ≤ 255 → IsField origin field.Name w (name_octets labels)
  string : {w : Word} {octets : List ℕ} → IsString w octets → IsField origin field.String w octets
  text : {w : Word} {bytes : List ℕ} → Spells any_byte w.bytes.now bytes → IsField origin field.Text w bytes
  ipv4 : {w : Word} {address : Ipv4Addr} → w.quoted ≡ false → IsIpv4Text w.bytes.now address → IsField origin field.Ipv4 w (ipv4_octets address)
  ipv6 : {w : Word} {address : Ipv6Addr} → w.quoted ≡ false → IsIpv6Text w.bytes.now address → IsField origin field.Ipv6 w (ipv6_octets address)
  type : {w : Word} {number : ℕ} → w.quoted ≡ false → SpellsType w.bytes.now number → IsField origin field.RecordType w (to_be_bytes w16 number)
  moment : {w : Word} {n : ℕ} → w.quoted ≡ false → SpellsMoment w.bytes.now n → IsField origin field.Moment w (to_be_bytes w32 n)
  no_gateway : {w : Word} → w.quoted ≡ false → w.bytes.now ≡ 46 ∷ [] → IsField origin field.NoGateway w []
  in_digits : {field : Field} {w : Word} {octets : List ℕ} → w.quoted ≡ false → SpellsOctets field w.bytes.now octets → IsField origin field w octets

-- words for the fields, one for each, and their octets one behind the other
pub data AreFields (origin : Option DomainName) : List Field → List Word → List ℕ → Type 0 where
  none : AreFields origin [] [] []
  more : {fields : List Field} {words : List Word} {octets : List ℕ} {field : Field} {word : Word} {own : List ℕ} → AreFields origin fields words octets → IsField origin field word own → AreFields origin (fields ++ field ∷ []) (words ++ word ∷ []) (octets ++ own)

-- words for the fields, and the words behind them
abbrev pub AreFieldsBefore : Option DomainName → List Field → List Word → List Word → List ℕ → Type 0
AreFieldsBefore origin fields words behind octets = (front : List Word) × (words ≡ front ++ behind) × AreFields origin fields front octets

-- character strings, one a word
pub data AreStrings : List Word → List ℕ → Type 0 where
  none : AreStrings [] []
  more : {words : List Word} {octets own : List ℕ} {word : Word} → AreStrings words octets → IsString word own → AreStrings (words ++ word ∷ []) (octets ++ own)

-- types, one a word
pub data AreTypes : List Word → List ℕ → Type 0 where
  none : AreTypes [] []
  more : {words : List Word} {numbers : List ℕ} {number : ℕ} (word : Word) → AreTypes words numbers → word.quoted ≡ false → SpellsType word.bytes.now number → AreTypes (words ++ word ∷ []) (numbers ++ number ∷ [])

-- a set of types as octets (RFC 4034 section 4.1.2)
pub record IsTypeSet (words : List Word) (octets : List ℕ) : Type 0 where
  pub types : List ℕ
  pub spelled : AreTypes words types
  pub written : octets ≡ windows types 256

-- A type of such a set: as a type is spelled, or else its number alone.
pub data SpellsLowType : List ℕ → ℕ → Type 0 where
  named : {text : List ℕ} {number : ℕ} → SpellsType text number → SpellsLowType text number
  numbered : {text : List ℕ} {number : ℕ} → HasNone (SpellsType text) → IsNumber text number → SpellsLowType text number

-- types from 1 to 127, one a word
pub data AreLowTypes : List Word → List ℕ → Type 0 where
  none : AreLowTypes [] []
  more : {words : List Word} {numbers : List ℕ} {number : ℕ} (word : Word) → AreLowTypes words numbers → word.quoted ≡ false → SpellsLowType word.bytes.now number → 0 < number → number < 128 → AreLowTypes (words ++ word ∷ []) (numbers ++ number ∷ [])

-- a set of such types as octets: a bitmap, in which the first bit is type 0, up to the octet of the greatest (RFC 2535
-- section 5.2)
pub record IsLowTypeSet (words : List Word) (octets : List ℕ) : Type 0 where
  pub types : List ℕ
  pub spelled : AreLowTypes words types
  pub written : octets ≡ bitmap types 0 (bitmap_len types)

-- the bytes of words, one behind the other
abbrev pub bytes_of : List Word → List ℕ
bytes_of words = flat_map (λ word. word.bytes.now) words

-- words in no quotes
abbrev pub ArePlain : List Word → Type 0
ArePlain words = All (λ word. word.quoted ≡ false) words

-- words in no quotes for the encoding of octets in base 64
pub record IsBase64 (words : List Word) (octets : List ℕ) : Type 0 where
  pub some : words ≢ []
  pub plain : ArePlain words
  pub bytes : IsBytes octets
  pub encoded : bytes_of words ≡ encode_of standard octets

-- A port: the mnemonic of a service, or else a number of 16 bits.
pub data SpellsPort : List ℕ → ℕ → Type 0 where
  named : {text : List ℕ} {port : ℕ} → IsNamed names.Services text port → SpellsPort text port
  numbered : {text : List ℕ} {port : ℕ} → HasNone (IsNamed names.Services text) → IsNumber text port → port < 2 ^ 16 → SpellsPort text port

-- ports, one a word
pub data ArePorts : List Word → List ℕ → Type 0 where
  none : ArePorts [] []
  more : {words : List Word} {ports : List ℕ} {port : ℕ} (word : Word) → ArePorts words ports → word.quoted ≡ false → SpellsPort word.bytes.now port → ArePorts (words ++ word ∷ []) (ports ++ port ∷ [])

-- the ports of services as octets: a bitmap, in which the first bit is port 0, up to the octet of the greatest (RFC
-- 1035 section 3.4.2)
pub record ArePortBits (words : List Word) (octets : List ℕ) : Type 0 where
  pub ports : List ℕ
  pub spelled : ArePorts words ports
  pub written : octets ≡ bitmap ports 0 (bitmap_len ports)

-- the fields by the type of a gateway: that type, an algorithm, and `.` for no gateway, an IPv4 address, an IPv6
-- address, or a name (RFC 4025 section 2.3)
abbrev pub gateway_fields : ℕ → Option (List Field)
gateway_fields kind =
    if kind == 0 then Some (field.Number8 ∷ field.Number8 ∷ field.NoGateway ∷ [])
    else if kind == 1 then Some (field.Number8 ∷ field.Number8 ∷ field.Ipv4 ∷ [])
    else if kind == 2 then Some (field.Number8 ∷ field.Number8 ∷ field.Ipv6 ∷ [])
    else if kind == 3 then Some (field.Number8 ∷ field.Number8 ∷ field.Name ∷ [])
    else None

-- a gateway and the key to it (RFC 4025 section 2): what the fields are, tells the first of them; behind them stands
-- the key
pub record IsGateway (origin : Option DomainName) (words : List Word) (octets : List ℕ) : Type 0 where
  pub first : Word
  pub kind : ℕ
  pub fields : List Field
  pub key : List Word
  pub gateway_octets : List ℕ
  pub key_octets : List ℕ
  pub plain : first.quoted ≡ false
  pub typed : IsNumber first.bytes.now kind
  pub told : gateway_fields kind ≡ Some fields
  pub begins : (others : List Word) × (words ≡ first ∷ others)
  pub gateway : AreFieldsBefore origin fields words key gateway_octets
  pub keyed : IsBase64 key key_octets
  pub together : octets ≡ gateway_octets ++ key_octets

-- names, one a word
pub data AreNames (origin : Option DomainName) : List Word → List ℕ → Type 0 where
  none : AreNames origin [] []
  more : {words : List Word} {octets own : List ℕ} {word : Word} → AreNames origin words octets → IsField origin field.Name word own → AreNames origin (words ++ word ∷ []) (octets ++ own)

-- a tag in hexadecimal digits, and a key in base 64
pub record IsTag (word : Word) (tag : List ℕ) : Type 0 where
  pub plain : word.quoted ≡ false
  pub spelled : decode_of word.bytes.now ≡ Ok tag
  pub some : 0 < length tag
  pub short : length tag < 2 ^ 8

pub record IsKey (word : Word) (key : List ℕ) : Type 0 where
  pub plain : word.quoted ≡ false
  pub bytes : IsBytes key
  pub encoded : word.bytes.now ≡ encode_of standard key
  pub some : 0 < length key
  pub short : length key < 2 ^ 16

-- The identity of a host (RFC 8005 sections 5 and 6): the words are an algorithm, a tag, a public key, and the names of
-- servers. The octets are the length of the tag, the algorithm, the length of the key, and then these.
pub record IsIdentity (origin : Option DomainName) (first second third : Word) (servers : List Word) (octets : List ℕ) : Type 0 where
  pub algorithm : ℕ
  pub tag : List ℕ
  pub key : List ℕ
  pub named : List ℕ
  pub coded : (first.quoted ≡ false) × IsNumber first.bytes.now algorithm × (algorithm < 2 ^ 8)
  pub tagged : IsTag second tag
  pub keyed : IsKey third key
  pub met : AreNames origin servers named
  pub together : octets ≡ length tag ∷ algorithm ∷ (to_be_bytes w16 (length key) ++ tag ++ key ++ named)

-- the field of a relay by its type: `.` for none, an IPv4 address, an IPv6 address, or a name (RFC 8777 section 4.2.3)
abbrev pub relay_field : ℕ → Option Field
relay_field kind = if kind == 0 then Some field.NoGateway else if kind == 1 then Some field.Ipv4 else if kind == 2 then Some field.Ipv6 else if kind == 3 then Some field.Name else None

-- Whether a relay may be asked at once, 0 or 1, its type, and the relay (RFC 8777 sections 4.2 and 4.3): the first
-- octet has the one in its high bit, and the type in the others.
pub record IsRelay (origin : Option DomainName) (first second third : Word) (octets : List ℕ) : Type 0 where
  pub discovery : ℕ
  pub kind : ℕ
  pub field : Field
  pub own : List ℕ
  pub optional : (first.quoted ≡ false) × IsNumber first.bytes.now discovery × (discovery < 2)
  pub typed : (second.quoted ≡ false) × IsNumber second.bytes.now kind
  pub told : relay_field kind ≡ Some field
  pub is : IsField origin field third own
  pub together : octets ≡ (128 * discovery + kind) ∷ own

-- What the words behind the fields stand for: none is left; character strings; hexadecimal digits; the encoding of
-- octets in base 64; a set of types; the parameters of a service; the ports of services; address
-- prefixes; a gateway with its key; the identity of a host; a set of types below 128; a location; or a relay.
pub data IsRest (origin : Option DomainName) : Rest → List Word → List ℕ → Type 0 where
  nothing : IsRest origin rest.Nothing [] []
  strings : {words : List Word} {octets : List ℕ} → words ≢ [] → AreStrings words octets → IsRest origin rest.Strings words octets
  hex : {words : List Word} {octets : List ℕ} → words ≢ [] → ArePlain words → decode_of (bytes_of words) ≡ Ok octets → IsRest origin rest.Hex words octets
  base64 : {words : List Word} {octets : List ℕ} → IsBase64 words octets → IsRest origin rest.Base64 words octets
  types : {words : List Word} {octets : List ℕ} → IsTypeSet words octets → IsRest origin rest.Types words octets
  service : {words : List Word} {octets : List ℕ} → AreServiceParameters words octets → IsRest origin rest.ServiceParameters words octets
  ports : {words : List Word} {octets : List ℕ} → ArePortBits words octets → IsRest origin rest.Services words octets
  prefixes : {words : List Word} {octets : List ℕ} → ArePrefixes words octets → IsRest origin rest.Prefixes words octets
  gateway : {words : List Word} {octets : List ℕ} → IsGateway origin words octets → IsRest origin rest.Gateway words octets
  low_types : {words : List Word} {octets : List ℕ} → IsLowTypeSet words octets → IsRest origin rest.LowTypes words octets
  location : {words : List Word} {octets : List ℕ} → IsLocation words octets → IsRest origin rest.Location words octets
  relay : {first second third : Word} {octets : List ℕ} → IsRelay origin first second third octets → IsRest origin rest.Relay (first ∷ second ∷ third ∷ []) octets
  host : {first second third : Word} {servers : List Word} {octets : List ℕ} → IsIdentity origin first second third servers octets → IsRest origin rest.HostIdentity (first ∷ second ∷ third ∷ servers) octets

-- words for the data of a row: its fields, and what stands behind them
pub record IsRow (origin : Option DomainName) (row : TypeRow) (words : List Word) (octets : List ℕ) : Type 0 where
  pub front : List Word
  pub behind : List Word
  pub front_octets : List ℕ
  pub behind_octets : List ℕ
  pub in_order : words ≡ front ++ behind
  pub together : octets ≡ front_octets ++ behind_octets
  pub fields : AreFields origin row.fields front front_octets
  pub rest : IsRest origin row.rest behind behind_octets

-- The words are data of a type in its form, and these are their octets.
pub data IsData (origin : Option DomainName) (number : ℕ) : List Word → List ℕ → Type 0 where
  in_form : {row : TypeRow} {words : List Word} {octets : List ℕ} → row_of number ≡ Some row → IsRow origin row words octets → IsData origin number words octets

-- Data of a type that have no form of their own here: its octets, which may be none.
abbrev pub AreOctetsOf : ℕ → RData → Type 0
AreOctetsOf number (content.Update0 code) = code ≡ number
AreOctetsOf number (content.Unknown code octets) = (code ≡ number) × (octets ≢ [])
AreOctetsOf number rdata = ⊥

-- the record of the root with these data, in bytes: its name, type, class IN, TTL 0, and the data behind their length
-- (RFC 1035 section 4.1.3)
abbrev pub root_record : ℕ → List ℕ → List ℕ
root_record number octets = (0 ∷ to_be_bytes w16 number) ++ (0 ∷ 1 ∷ 0 ∷ 0 ∷ 0 ∷ 0 ∷ []) ++ to_be_bytes w16 (length octets) ++ octets

-- data that are read of these octets as a record has them
abbrev pub AreReadOf : ℕ → List ℕ → RData → Type 0
AreReadOf number octets rdata = (r : Record RData) × (next : ℕ) × RecordAt (root_record number octets) 0 r next × (rdata ≡ r.rdata)

-- The form that is one for all types (RFC 3597 section 5): behind `\#` stand the length of the data, which has 16 bits
-- (RFC 1035 section 3.2.1), and their octets in hexadecimal digits. The data are those of the type that are read of
-- them, and no name in them is compressed: in full they take just these octets.
pub record IsGenericData (number : ℕ) (size : Word) (digits : List Word) (rdata : RData) : Type 0 where
  pub octets : List ℕ
  pub unquoted : size.quoted ≡ false
  pub counted : IsNumber size.bytes.now (length octets)
  pub short : length octets < 2 ^ 16
  pub plain : ArePlain digits
  pub spelled : decode_of (bytes_of digits) ≡ Ok octets
  pub read : AreReadOf number octets rdata
  pub typed : type_of rdata ≡ number
  pub in_full : data_octets rdata ≡ octets

-- Words begin in the form that is one for all types: `\#`, and at least one word behind it.
abbrev pub BeginGeneric : List Word → Type 0
BeginGeneric (mark ∷ size ∷ digits) = (mark.quoted ≡ false) × (mark.bytes.now ≡ 92 ∷ 35 ∷ [])
BeginGeneric words = ⊥

-- The words are data of a type, and these are the data: in the form of the type, or, if they begin so, in the form that
-- is one for all. The data are kept in the form of their type, and not as octets that have none, if the type has one.
-- Data have at most 65,535 octets, as many as their length can say (RFC 1035 section 3.2.1).
pub data SpellsData (origin : Option DomainName) (number : ℕ) : List Word → RData → Type 0 where
  in_form : {words : List Word} {rdata : RData} → ¬ (BeginGeneric words) → IsData origin number words (data_octets rdata) → type_of rdata ≡ number → IsFormed rdata → data_len rdata ≤ 65535 → SpellsData origin number words rdata
  generic : {mark size : Word} {digits : List Word} {rdata : RData} → mark.quoted ≡ false → mark.bytes.now ≡ 92 ∷ 35 ∷ [] → IsGenericData number size digits rdata → SpellsData origin number (mark ∷ size ∷ digits) rdata

-- The words of what is left of a text, to the end, are data of a type, and these are the data.
pub record HasData (origin : Option DomainName) (number : ℕ) (left : WordsLeft) (rdata : RData) : Type 0 where
  pub words : List Word
  pub end : ℕ
  pub stand : AreWordsTo left.kind left.text left.place left.depth words end
  pub spelled : SpellsData origin number words rdata
