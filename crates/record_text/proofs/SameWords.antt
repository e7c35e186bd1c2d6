-- The same words at the same places are the same data.
use Rattle.std.proofs.Common.{◌≡◌, ◌∙◌, ℕ, false, List, [], ◌∷◌, ◌++◌, length, Option, Ok, sym, ap, subst, refl}
use Rattle.std.proofs.lemmas.List.Elements.{All-cons, All-head, All-nil, All-tail}
use Rattle.std.specs.Prelude.{◌≢◌}
use Rattle.std.specs.Net.Grammar.{IsIpv4Text, IsIpv6Text}
use Rattle.hex.specs.Hex.{decode_of}
use Rattle.wire_names.specs.rr.domain.DomainName.{DomainName}
use Rattle.wire_messages.specs.declared.rr.rdata.RData.{RData}
use Rattle.record_text.specs.declared.data.field.Field.{Field}
use Rattle.record_text.specs.declared.data.field.Field.TheVariants as field
use Rattle.record_text.specs.declared.data.field.Rest.{Rest}
use Rattle.record_text.specs.declared.data.field.Rest.TheVariants as kind
use Rattle.record_text.specs.declared.data.hex_groups.Group.TheVariants as group
use Rattle.record_text.specs.Groups.{SpellsBase32, SpellsHexGroups, SpellsNsap}
use Rattle.record_text.specs.Moments.{SpellsMoment}
use Rattle.record_text.specs.RecordText.{AreFields, AreLowTypes, AreNames, ArePlain, ArePorts, AreStrings, AreTypes, BeginGeneric, IsBase64, IsData, IsField, IsGateway, IsGenericData, IsIdentity, IsKey, IsNamed, IsRelay, IsRest, IsRow, IsTag, SpellsData, SpellsLowType, SpellsPort, SpellsType, bytes_of}
use Rattle.record_text.specs.RecordText.AreNames.{none as no_servers, more as one_server}
use Rattle.record_text.specs.RecordText.AreLowTypes.{none as no_low_types, more as one_low}
use Rattle.record_text.specs.RecordText.ArePorts.{none as no_ports, more as one_port}
use Rattle.record_text.specs.RecordText.IsField.{number8, number16, number32, named8, unnamed8, named16, unnamed16, time, name, string, text, ipv4, ipv6, type, moment, no_gateway, in_digits}
use Rattle.record_text.specs.RecordText.SpellsOctets.{no_salt, salt, hash, eui48, eui64, locator64, nsap}
use Rattle.record_text.specs.RecordText.AreFields.{none as no_fields, more as one_field}
use Rattle.record_text.specs.RecordText.AreStrings.{none as no_words, more as one_string}
use Rattle.record_text.specs.RecordText.AreTypes.{none as no_names, more as one_type}
use Rattle.record_text.specs.RecordText.IsData.{in_form as of_row}
use Rattle.record_text.specs.RecordText.IsRest.{nothing, strings, hex, base64, types, service, ports, prefixes, gateway, low_types, location, relay, host}
use Rattle.record_text.specs.RecordText.SpellsData.{in_form, generic}
use Rattle.record_text.specs.Prefixes.{ArePrefixes, SpellsPrefix}
use Rattle.record_text.specs.Prefixes.ArePrefixes.{none as no_prefixes, more as one_prefix}
use Rattle.record_text.specs.TypeTable.{TypeRow}
use Rattle.text_data.proofs.SameLocation.{same_location}
use Rattle.text_data.specs.ServiceText.{ParametersOfWords}
use Rattle.text_words.specs.declared.words.Word.{Word}
use Rattle.text_words.specs.Spelling.{IsNumber, IsString, Spells, SpellsName, SpellsTime, any_byte}
use Rattle.text_words.specs.Words.{AreSameWords, SameWord}

same_string : (a b : Word) (octets : List ℕ) → SameWord a b → IsString a octets → IsString b octets
same_string a b octets s is = record {
  bytes = is.bytes;
  spelled = subst (λ (t : List ℕ). Spells any_byte t is.bytes) s.bytes is.spelled;
  short = is.short;
  counted = is.counted;
}

pub same_field : (origin : Option DomainName) (field : Field) (a b : Word) (octets : List ℕ) → SameWord a b → IsField origin field a octets → IsField origin field b octets
same_field origin field a b octets s (number8 {n = n} plain is small) = number8 (sym s.quoted ∙ plain) (subst (λ (t : List ℕ). IsNumber t n) s.bytes is) small
same_field origin field a b octets s (number16 {n = n} plain is small) = number16 (sym s.quoted ∙ plain) (subst (λ (t : List ℕ). IsNumber t n) s.bytes is) small
same_field origin field a b octets s (number32 {n = n} plain is small) = number32 (sym s.quoted ∙ plain) (subst (λ (t : List ℕ). IsNumber t n) s.bytes is) small
same_field origin field a b octets s (named8 {names = names} {n = n} plain is) = named8 (sym s.quoted ∙ plain) (subst (λ (t : List ℕ). IsNamed names t n) s.bytes is)
same_field origin field a b octets s (unnamed8 {n = n} plain is small) = unnamed8 (sym s.quoted ∙ plain) (subst (λ (t : List ℕ). IsNumber t n) s.bytes is) small
same_field origin field a b octets s (named16 {names = names} {n = n} plain is) = named16 (sym s.quoted ∙ plain) (subst (λ (t : List ℕ). IsNamed names t n) s.bytes is)
same_field origin field a b octets s (unnamed16 {n = n} plain is small) = unnamed16 (sym s.quoted ∙ plain) (subst (λ (t : List ℕ). IsNumber t n) s.bytes is) small
same_field origin field a b octets s (time {n = n} plain is small) = time (sym s.quoted ∙ plain) (subst (λ (t : List ℕ). SpellsTime t n) s.bytes is) small
same_field origin field a b octets s (name {labels = labels} plain is short) = name (sym s.quoted ∙ plain) (subst (λ (t : List ℕ). SpellsName origin t labels) s.bytes is) short
same_field origin field a b octets s (string is) = string (same_string a b octets s is)
same_field origin field a b octets s (text is) = text (subst (λ (t : List ℕ). Spells any_byte t octets) s.bytes is)
same_field origin field a b octets s (ipv4 {address = address} plain is) = ipv4 (sym s.quoted ∙ plain) (subst (λ (t : List ℕ). IsIpv4Text t address) s.bytes is)
same_field origin field a b octets s (ipv6 {address = address} plain is) = ipv6 (sym s.quoted ∙ plain) (subst (λ (t : List ℕ). IsIpv6Text t address) s.bytes is)
same_field origin field a b octets s (type {number = number} plain is) = type (sym s.quoted ∙ plain) (subst (λ (t : List ℕ). SpellsType t number) s.bytes is)
same_field origin field a b octets s (moment {n = n} plain is) = moment (sym s.quoted ∙ plain) (subst (λ (t : List ℕ). SpellsMoment t n) s.bytes is)
same_field origin field a b octets s (in_digits plain (no_salt is)) = in_digits (sym s.quoted ∙ plain) (no_salt (sym s.bytes ∙ is))
same_field origin field a b octets s (in_digits plain (salt {octets = own} other is short)) = in_digits (sym s.quoted ∙ plain) (salt (λ e. other (s.bytes ∙ e)) (subst (λ (t : List ℕ). decode_of t ≡ Ok own) s.bytes is) short)
same_field origin field a b octets s (in_digits plain (hash {octets = own} is short)) = in_digits (sym s.quoted ∙ plain) (hash (subst (λ (t : List ℕ). SpellsBase32 t own) s.bytes is) short)
same_field origin field a b octets s (in_digits plain (eui48 is)) = in_digits (sym s.quoted ∙ plain) (eui48 (subst (λ (t : List ℕ). SpellsHexGroups 45 group.Octet 6 t octets) s.bytes is))
same_field origin field a b octets s (in_digits plain (eui64 is)) = in_digits (sym s.quoted ∙ plain) (eui64 (subst (λ (t : List ℕ). SpellsHexGroups 45 group.Octet 8 t octets) s.bytes is))
same_field origin field a b octets s (in_digits plain (locator64 is)) = in_digits (sym s.quoted ∙ plain) (locator64 (subst (λ (t : List ℕ). SpellsHexGroups 58 group.Bits16 4 t octets) s.bytes is))
same_field origin field a b octets s (no_gateway plain is) = no_gateway (sym s.quoted ∙ plain) (sym s.bytes ∙ is)
same_field origin field a b octets s (in_digits plain (nsap is)) = in_digits (sym s.quoted ∙ plain) (nsap (subst (λ (t : List ℕ). SpellsNsap t octets) s.bytes is))

-- the same words, cut where the others are
pub record Cut (front behind others : List Word) : Type 0 where
  pub first : List Word
  pub last : List Word
  pub whole : others ≡ first ++ last
  pub firsts : AreSameWords front first
  pub lasts : AreSameWords behind last

cut : (front behind others : List Word) → AreSameWords (front ++ behind) others → Cut front behind others
cut [] behind others h = record { first = []; last = others; whole = refl; firsts = tt; lasts = h }
cut (w ∷ front) behind [] h = absurd h
cut (w ∷ front) behind (o ∷ others) h =
    let rest : Cut front behind others = cut front behind others h.1 in
    record { first = o ∷ rest.first; last = rest.last; whole = ap (λ (ws : List Word). o ∷ ws) rest.whole; firsts = (h.0, rest.firsts); lasts = rest.lasts }

single : (w : Word) (others : List Word) → AreSameWords (w ∷ []) others → (last : Word) × (others ≡ last ∷ []) × SameWord w last
single w [] h = absurd h
single w (o ∷ []) h = (o, refl, h.0)
single w (o ∷ p ∷ others) h = absurd h.1

-- the same, where one word is behind others
pub record CutLast (front : List Word) (w : Word) (others : List Word) : Type 0 where
  pub first : List Word
  pub last : Word
  pub whole : others ≡ first ++ last ∷ []
  pub firsts : AreSameWords front first
  pub lasts : SameWord w last

cut_last : (front : List Word) (w : Word) (others : List Word) → AreSameWords (front ++ w ∷ []) others → CutLast front w others
cut_last front w others h =
    let parts : Cut front (w ∷ []) others = cut front (w ∷ []) others h in
    let one : (last : Word) × (parts.last ≡ last ∷ []) × SameWord w last = single w parts.last parts.lasts in
    record { first = parts.first; last = one.0; whole = parts.whole ∙ ap (λ (ws : List Word). parts.first ++ ws) one.1; firsts = parts.firsts; lasts = one.2 }

none_left : (others : List Word) → AreSameWords [] others → [] ≡ others
none_left [] h = refl
none_left (o ∷ others) h = absurd h

pub same_fields : {origin : Option DomainName} {fields : List Field} {words : List Word} {octets : List ℕ} → AreFields origin fields words octets → (others : List Word) → AreSameWords words others → AreFields origin fields others octets
same_fields {origin = origin} no_fields others h = subst (λ (ws : List Word). AreFields origin [] ws []) (none_left others h) no_fields
same_fields {origin = origin} (one_field {fields = fields} {words = ws} {octets = octets} {field = field} {word = w} {own = own} before one) others h =
    let parts : CutLast ws w others = cut_last ws w others h in
    subst (λ (os : List Word). AreFields origin (fields ++ field ∷ []) os (octets ++ own)) (sym parts.whole) (one_field (same_fields before parts.first parts.firsts) (same_field origin field w parts.last own parts.lasts one))

same_strings : {words : List Word} {octets : List ℕ} → AreStrings words octets → (others : List Word) → AreSameWords words others → AreStrings others octets
same_strings no_words others h = subst (λ (ws : List Word). AreStrings ws []) (none_left others h) no_words
same_strings (one_string {words = ws} {octets = octets} {own = own} {word = w} before one) others h =
    let parts : CutLast ws w others = cut_last ws w others h in
    subst (λ (os : List Word). AreStrings os (octets ++ own)) (sym parts.whole) (one_string (same_strings before parts.first parts.firsts) (same_string w parts.last own parts.lasts one))

same_types : {words : List Word} {numbers : List ℕ} → AreTypes words numbers → (others : List Word) → AreSameWords words others → AreTypes others numbers
same_types no_names others h = subst (λ (ws : List Word). AreTypes ws []) (none_left others h) no_names
same_types (one_type {words = ws} {numbers = numbers} {number = number} w before plain is) others h =
    let parts : CutLast ws w others = cut_last ws w others h in
    subst (λ (os : List Word). AreTypes os (numbers ++ number ∷ [])) (sym parts.whole)
    (one_type parts.last (same_types before parts.first parts.firsts) (sym parts.lasts.quoted ∙ plain) (subst (λ (t : List ℕ). SpellsType t number) parts.lasts.bytes is))

same_bytes : (words others : List Word) → AreSameWords words others → bytes_of words ≡ bytes_of others
same_bytes [] [] h = refl
same_bytes [] (o ∷ others) h = absurd h
same_bytes (w ∷ words) [] h = absurd h
same_bytes (w ∷ words) (o ∷ others) h = ap (λ (t : List ℕ). t ++ bytes_of words) h.0.bytes ∙ ap (λ (t : List ℕ). o.bytes.now ++ t) (same_bytes words others h.1)

same_plain : (words others : List Word) → AreSameWords words others → ArePlain words → ArePlain others
same_plain [] [] h plain = All-nil (λ (w : Word). w.quoted ≡ false)
same_plain [] (o ∷ others) h plain = absurd h
same_plain (w ∷ words) [] h plain = absurd h
same_plain (w ∷ words) (o ∷ others) h plain =
    All-cons (λ (x : Word). x.quoted ≡ false) o others (sym h.0.quoted ∙ All-head (λ (x : Word). x.quoted ≡ false) w words plain) (same_plain words others h.1 (All-tail (λ (x : Word). x.quoted ≡ false) w words plain))

not_nil : (words others : List Word) → AreSameWords words others → words ≢ [] → others ≢ []
not_nil [] others h some e = some refl
not_nil (w ∷ words) [] h some e = absurd h
not_nil (w ∷ words) (o ∷ others) h some e = absurd (cc)

same_names : {origin : Option DomainName} {words : List Word} {octets : List ℕ} → AreNames origin words octets → (others : List Word) → AreSameWords words others → AreNames origin others octets
same_names {origin = origin} no_servers others h = subst (λ (ws : List Word). AreNames origin ws []) (none_left others h) no_servers
same_names {origin = origin} (one_server {words = ws} {octets = octets} {own = own} {word = w} before one) others h =
    let parts : CutLast ws w others = cut_last ws w others h in
    subst (λ (os : List Word). AreNames origin os (octets ++ own)) (sym parts.whole) (one_server (same_names before parts.first parts.firsts) (same_field origin field.Name w parts.last own parts.lasts one))

same_ports : {words : List Word} {numbers : List ℕ} → ArePorts words numbers → (others : List Word) → AreSameWords words others → ArePorts others numbers
same_ports no_ports others h = subst (λ (ws : List Word). ArePorts ws []) (none_left others h) no_ports
same_ports (one_port {words = ws} {ports = numbers} {port = number} w before plain is) others h =
    let parts : CutLast ws w others = cut_last ws w others h in
    subst (λ (os : List Word). ArePorts os (numbers ++ number ∷ [])) (sym parts.whole)
    (one_port parts.last (same_ports before parts.first parts.firsts) (sym parts.lasts.quoted ∙ plain) (subst (λ (t : List ℕ). SpellsPort t number) parts.lasts.bytes is))

same_low : {words : List Word} {numbers : List ℕ} → AreLowTypes words numbers → (others : List Word) → AreSameWords words others → AreLowTypes others numbers
same_low no_low_types others h = subst (λ (ws : List Word). AreLowTypes ws []) (none_left others h) no_low_types
same_low (one_low {words = ws} {numbers = numbers} {number = number} w before plain is some small) others h =
    let parts : CutLast ws w others = cut_last ws w others h in
    subst (λ (os : List Word). AreLowTypes os (numbers ++ number ∷ [])) (sym parts.whole)
    (one_low parts.last (same_low before parts.first parts.firsts) (sym parts.lasts.quoted ∙ plain) (subst (λ (t : List ℕ). SpellsLowType t number) parts.lasts.bytes is) some small)

same_prefixes : {words : List Word} {octets : List ℕ} → ArePrefixes words octets → (others : List Word) → AreSameWords words others → ArePrefixes others octets
same_prefixes no_prefixes others h = subst (λ (ws : List Word). ArePrefixes ws []) (none_left others h) no_prefixes
same_prefixes (one_prefix {words = ws} {octets = octets} {own = own} w before plain is) others h =
    let parts : CutLast ws w others = cut_last ws w others h in
    subst (λ (os : List Word). ArePrefixes os (octets ++ own)) (sym parts.whole)
    (one_prefix parts.last (same_prefixes before parts.first parts.firsts) (sym parts.lasts.quoted ∙ plain) (subst (λ (t : List ℕ). SpellsPrefix t own) parts.lasts.bytes is))

same_base64 : (words others : List Word) (octets : List ℕ) → AreSameWords words others → IsBase64 words octets → IsBase64 others octets
same_base64 words others octets h is = record {
  some = not_nil words others h is.some;
  plain = same_plain words others h is.plain;
  bytes = is.bytes;
  encoded = sym (same_bytes words others h) ∙ is.encoded;
}

-- the first of the same words
pub record FirstOf (w : Word) (others : List Word) : Type 0 where
  pub first : Word
  pub behind : List Word
  pub whole : others ≡ first ∷ behind
  pub same : SameWord w first

first_of : (w : Word) (words others : List Word) → AreSameWords (w ∷ words) others → FirstOf w others
first_of w words [] h = absurd h
first_of w words (o ∷ others) h = record { first = o; behind = others; whole = refl; same = h.0 }

same_gateway : (origin : Option DomainName) (words others : List Word) (octets : List ℕ) → AreSameWords words others → IsGateway origin words octets → IsGateway origin others octets
same_gateway origin words others octets h is =
    let parts : Cut is.gateway.0 is.key others = cut is.gateway.0 is.key others (subst (λ (ws : List Word). AreSameWords ws others) is.gateway.1 h) in
    let begin : FirstOf is.first others = first_of is.first is.begins.0 others (subst (λ (ws : List Word). AreSameWords ws others) is.begins.1 h) in
    record {
      first = begin.first;
      kind = is.kind;
      fields = is.fields;
      key = parts.last;
      gateway_octets = is.gateway_octets;
      key_octets = is.key_octets;
      plain = sym begin.same.quoted ∙ is.plain;
      typed = subst (λ (t : List ℕ). IsNumber t is.kind) begin.same.bytes is.typed;
      told = is.told;
      begins = (begin.behind, begin.whole);
      gateway = (parts.first, parts.whole, same_fields is.gateway.2 parts.first parts.firsts);
      keyed = same_base64 is.key parts.last is.key_octets parts.lasts is.keyed;
      together = is.together;
    }

same_tag : (a b : Word) (tag : List ℕ) → SameWord a b → IsTag a tag → IsTag b tag
same_tag a b tag s is = record { plain = sym s.quoted ∙ is.plain; spelled = subst (λ (t : List ℕ). decode_of t ≡ Ok tag) s.bytes is.spelled; some = is.some; short = is.short }

same_key : (a b : Word) (key : List ℕ) → SameWord a b → IsKey a key → IsKey b key
same_key a b key s is = record { plain = sym s.quoted ∙ is.plain; bytes = is.bytes; encoded = sym s.bytes ∙ is.encoded; some = is.some; short = is.short }

same_identity : (origin : Option DomainName) (a b c d e f : Word) (servers others : List Word) (octets : List ℕ) → SameWord a d → SameWord b e → SameWord c f → AreSameWords servers others → IsIdentity origin a b c servers octets → IsIdentity origin d e f others octets
same_identity origin a b c d e f servers others octets s t u h is = record {
  algorithm = is.algorithm;
  tag = is.tag;
  key = is.key;
  named = is.named;
  coded = (sym s.quoted ∙ is.coded.0, subst (λ (x : List ℕ). IsNumber x is.algorithm) s.bytes is.coded.1, is.coded.2);
  tagged = same_tag b e is.tag t is.tagged;
  keyed = same_key c f is.key u is.keyed;
  met = same_names is.met others h;
  together = is.together;
}

same_host : (origin : Option DomainName) (a b c : Word) (servers others : List Word) (octets : List ℕ) → AreSameWords (a ∷ b ∷ c ∷ servers) others → IsIdentity origin a b c servers octets → IsRest origin kind.HostIdentity others octets
same_host origin a b c servers [] octets h is = absurd h
same_host origin a b c servers (d ∷ []) octets h is = absurd h.1
same_host origin a b c servers (d ∷ e ∷ []) octets h is = absurd h.1.1
same_host origin a b c servers (d ∷ e ∷ f ∷ others) octets h is = host (same_identity origin a b c d e f servers others octets h.0 h.1.0 h.1.1.0 h.1.1.1 is)

same_parts : (origin : Option DomainName) (a b c d e f : Word) (octets : List ℕ) → SameWord a d → SameWord b e → SameWord c f → IsRelay origin a b c octets → IsRelay origin d e f octets
same_parts origin a b c d e f octets s t u is = record {
  discovery = is.discovery;
  kind = is.kind;
  field = is.field;
  own = is.own;
  optional = (sym s.quoted ∙ is.optional.0, subst (λ (x : List ℕ). IsNumber x is.discovery) s.bytes is.optional.1, is.optional.2);
  typed = (sym t.quoted ∙ is.typed.0, subst (λ (x : List ℕ). IsNumber x is.kind) t.bytes is.typed.1);
  told = is.told;
  is = same_field origin is.field c f is.own u is.is;
  together = is.together;
}

same_relay : (origin : Option DomainName) (a b c : Word) (others : List Word) (octets : List ℕ) → AreSameWords (a ∷ b ∷ c ∷ []) others → IsRelay origin a b c octets → IsRest origin kind.Relay others octets
same_relay origin a b c [] octets h is = absurd h
same_relay origin a b c (d ∷ []) octets h is = absurd h.1
same_relay origin a b c (d ∷ e ∷ []) octets h is = absurd h.1.1
same_relay origin a b c (d ∷ e ∷ f ∷ []) octets h is = relay (same_parts origin a b c d e f octets h.0 h.1.0 h.1.1.0 is)
same_relay origin a b c (d ∷ e ∷ f ∷ g ∷ others) octets h is = absurd h.1.1.1

module _ (service_same : ParametersOfWords) where
  same_rest : {origin : Option DomainName} {rest : Rest} {words : List Word} {octets : List ℕ} → IsRest origin rest words octets → (others : List Word) → AreSameWords words others → IsRest origin rest others octets
  same_rest {origin = origin} {rest = rest} nothing others h = subst (λ (ws : List Word). IsRest origin rest ws []) (none_left others h) nothing
  same_rest {words = words} (strings some are) others h = strings (not_nil words others h some) (same_strings are others h)
  same_rest {words = words} (hex {octets = octets} some plain is) others h = hex (not_nil words others h some) (same_plain words others h plain) (subst (λ (t : List ℕ). decode_of t ≡ Ok octets) (same_bytes words others h) is)
  same_rest (base64 {words = words} is) others h = base64 (same_base64 words others _ h is)
  same_rest (types is) others h = types (record { types = is.types; spelled = same_types is.spelled others h; written = is.written })
  same_rest (service {words = words} is) others h = service (service_same words others _ is h)
  same_rest (ports is) others h = ports (record { ports = is.ports; spelled = same_ports is.spelled others h; written = is.written })
  same_rest (prefixes is) others h = prefixes (same_prefixes is others h)
  same_rest {origin = origin} (gateway {words = words} is) others h = gateway (same_gateway origin words others _ h is)
  same_rest (low_types is) others h = low_types (record { types = is.types; spelled = same_low is.spelled others h; written = is.written })
  same_rest (location {words = words} is) others h = location (same_location words others _ is h)
  same_rest {origin = origin} (relay {first = a} {second = b} {third = c} is) others h = same_relay origin a b c others _ h is
  same_rest {origin = origin} (host {first = a} {second = b} {third = c} {servers = ws} is) others h = same_host origin a b c ws others _ h is

  same_row : (origin : Option DomainName) (row : TypeRow) (words : List Word) (octets : List ℕ) → IsRow origin row words octets → (others : List Word) → AreSameWords words others → IsRow origin row others octets
  same_row origin row words octets is others h =
      let parts : Cut is.front is.behind others = cut is.front is.behind others (subst (λ (ws : List Word). AreSameWords ws others) is.in_order h) in
      record {
        front = parts.first;
        behind = parts.last;
        front_octets = is.front_octets;
        behind_octets = is.behind_octets;
        in_order = parts.whole;
        together = is.together;
        fields = same_fields is.fields parts.first parts.firsts;
        rest = same_rest is.rest parts.last parts.lasts;
      }

  pub same_data : (origin : Option DomainName) (number : ℕ) (words : List Word) (octets : List ℕ) → IsData origin number words octets → (others : List Word) → AreSameWords words others → IsData origin number others octets
  same_data origin number words octets (of_row {row = row} found is) others h = of_row found (same_row origin row words octets is others h)

begins : (words others : List Word) → AreSameWords words others → BeginGeneric others → BeginGeneric words
begins words [] h begin = absurd begin
begins words (o ∷ []) h begin = absurd begin
begins [] (o ∷ p ∷ others) h begin = absurd h
begins (w ∷ []) (o ∷ p ∷ others) h begin = absurd h.1
begins (w ∷ v ∷ words) (o ∷ p ∷ others) h begin = (h.0.quoted ∙ begin.0, h.0.bytes ∙ begin.1)

same_generic : (number : ℕ) (size other : Word) (digits others : List Word) (rdata : RData) → SameWord size other → AreSameWords digits others → IsGenericData number size digits rdata → IsGenericData number other others rdata
same_generic number size other digits others rdata s h is = record {
  octets = is.octets;
  unquoted = sym s.quoted ∙ is.unquoted;
  counted = subst (λ (t : List ℕ). IsNumber t (length is.octets)) s.bytes is.counted;
  short = is.short;
  plain = same_plain digits others h is.plain;
  spelled = subst (λ (t : List ℕ). decode_of t ≡ Ok is.octets) (same_bytes digits others h) is.spelled;
  read = is.read;
  typed = is.typed;
  in_full = is.in_full;
}

pub same_spelled : ParametersOfWords → (origin : Option DomainName) (number : ℕ) (words : List Word) (rdata : RData) → SpellsData origin number words rdata → (others : List Word) → AreSameWords words others → SpellsData origin number others rdata
same_spelled same_parameters origin number words rdata (in_form other is typed formed short) others h = in_form (λ begin. other (begins words others h begin)) (same_data same_parameters origin number words _ is others h) typed formed short
same_spelled same_parameters origin number words rdata (generic {mark = mark} {size = size} {digits = digits} plain is written) [] h = absurd h
same_spelled same_parameters origin number words rdata (generic {mark = mark} {size = size} {digits = digits} plain is written) (o ∷ []) h = absurd h.1
same_spelled same_parameters origin number words rdata (generic {mark = mark} {size = size} {digits = digits} plain is written) (o ∷ p ∷ others) h =
    generic (sym h.0.quoted ∙ plain) (sym h.0.bytes ∙ is) (same_generic number size p digits others rdata h.1.0 h.1.1 written)
