-- Words are data of one length at most, whichever octets they stand for.
use Rattle.std.proofs.Common.{◌≡◌, ◌∙◌, ◌+◌, ◌*◌, ℕ, List, [], ◌∷◌, ◌++◌, length, Option, Ok, Result, sym, ap, subst, refl, arith, length-append}
use Rattle.std.proofs.NetLemmas.Theorems.{IsIpv4Text_unique, IsIpv6Text_unique}
use Rattle.std.proofs.lemmas.List.{drop_at, take_at, same_from_push}
use Rattle.std.specs.Net.Addr.{ipv4_octets, ipv6_octets}
use Rattle.std.specs.Prelude.{drop, take}
use Rattle.std.specs.Int.{w16, to_be_bytes}
use Rattle.base64.specs.Engines.{standard}
use Rattle.base64.specs.GeneralPurpose.{IsBytes, encode_of}
use Rattle.hex.specs.Hex.{decode_of}
use Rattle.hex.specs.declared.error.FromHexError.{FromHexError}
use Rattle.wire_names.specs.rr.domain.DomainName.{DomainName}
use Rattle.wire_messages.specs.rr.RecordData.{character_string}
use Rattle.wire_messages.specs.serialize.writing.FullForm.{name_octets}
use Rattle.record_text.specs.declared.data.field.Field.{Field}
use Rattle.record_text.specs.declared.data.field.Field.TheVariants as field
use Rattle.record_text.specs.declared.data.field.Rest.{Rest}
use Rattle.record_text.specs.declared.data.hex_groups.Group.{Group}
use Rattle.record_text.specs.declared.data.hex_groups.Group.TheVariants as group
use Rattle.record_text.specs.Groups.{IsGroup, SpellsHexGroups, SpellsNsap, without_dots}
use Rattle.record_text.specs.Groups.IsGroup.{octet, bits16}
use Rattle.record_text.specs.Groups.SpellsHexGroups.{first, more as one_group}
use Rattle.record_text.specs.RecordText.{AreFields, AreLowTypes, AreNames, ArePorts, AreStrings, AreTypes, IsBase64, IsData, IsField, IsGateway, IsIdentity, IsRelay, IsRest, IsRow, SpellsLowType, SpellsPort, SpellsType, bytes_of}
use Rattle.record_text.specs.RecordText.AreNames.{none as no_servers, more as one_server}
use Rattle.record_text.specs.RecordText.AreLowTypes.{none as no_low_types, more as one_low}
use Rattle.record_text.specs.RecordText.SpellsLowType.{named as low_named, numbered as low_numbered}
use Rattle.record_text.specs.RecordText.ArePorts.{none as no_ports, more as one_port}
use Rattle.record_text.proofs.PortsOnce.{port_once}
use Rattle.record_text.proofs.PrefixesOnce.{prefix_once}
use Rattle.record_text.specs.RecordText.IsField.{number8, number16, number32, named8, unnamed8, named16, unnamed16, time, name, string, text, ipv4, ipv6, type, moment, no_gateway, in_digits}
use Rattle.record_text.specs.RecordText.SpellsOctets.{no_salt, salt, hash, eui48, eui64, locator64, nsap}
use Rattle.record_text.specs.RecordText.AreFields.{none as no_fields, more as one_field}
use Rattle.record_text.specs.RecordText.AreStrings.{none as no_words, more as one_string}
use Rattle.record_text.specs.RecordText.AreTypes.{none as no_names, more as one_type}
use Rattle.record_text.specs.RecordText.IsData.{in_form}
use Rattle.record_text.specs.RecordText.IsRest.{nothing, strings, hex, base64, types, service, ports, prefixes, gateway, low_types, location, relay, host}
use Rattle.record_text.specs.Prefixes.{ArePrefixes, SpellsPrefix}
use Rattle.record_text.specs.Prefixes.ArePrefixes.{none as no_prefixes, more as one_prefix}
use Rattle.record_text.specs.TypeBitmaps.{bitmap, bitmap_len, windows}
use Rattle.record_text.specs.TypeTable.{TypeRow}
use Rattle.record_text.proofs.Digits.{base32_len}
use Rattle.record_text.proofs.Relays.{relay_told}
use Rattle.record_text.proofs.Gateways.{before_key, behind_fields, told_of}
use Rattle.record_text.proofs.NoRow.{fields_len}
use Rattle.text_data.proofs.SameLocation.{location_len}
use Rattle.text_data.specs.ServiceText.{ParametersOnce}
use Rattle.text_words.specs.declared.words.Word.{Word}
use Rattle.text_words.specs.Spelling.{BytesSpelledOnce, IsString, NamesSpelledOnce, StringsSpelledOnce}

-- how many octets a group is
abbrev width : Group → ℕ
width group.Octet = 1
width group.Bits16 = 2

group_len : (kind : Group) (digits octets : List ℕ) → IsGroup kind digits octets → length octets ≡ width kind
group_len kind digits octets (octet two is) = refl
group_len kind digits octets (bits16 some few is) = refl

groups_len : (between : ℕ) (kind : Group) (count : ℕ) (whole octets : List ℕ) → SpellsHexGroups between kind count whole octets → length octets ≡ count * width kind
groups_len between kind count whole octets (first {text = t} is) = omega (arith, group_len kind t octets is)
groups_len between kind count whole octets (one_group {count = n} {text = t} {octets = front} {piece = piece} {own = own} before is) =
    let rest : length front ≡ n * width kind = groups_len between kind n t front before in
    omega (arith, length-append front own, rest, group_len kind piece own is, product n)
  where
    product : (n : ℕ) → (n + 1) * width kind ≡ n * width kind + width kind
    product n = elim kind as (λ k. (n + 1) * width k ≡ n * width k + width k) [ group.Octet ↦ omega arith | group.Bits16 ↦ omega arith ]

decoded_once : (r : Result (List ℕ) FromHexError) (a b : List ℕ) → r ≡ Ok a → r ≡ Ok b → a ≡ b
decoded_once r a b one two = cc

nsap_once : (t a b : List ℕ) → SpellsNsap t a → SpellsNsap t b → a ≡ b
nsap_once t a b one two = decoded_once (decode_of (without_dots (drop 2 t))) a b one.spelled two.spelled

-- types are spelled once
abbrev pub TypesOnce : Type 0
TypesOnce = (word : List ℕ) (n m : ℕ) → SpellsType word n → SpellsType word m → n ≡ m

-- so are those from 1 to 127
pub low_type_once : TypesOnce → (word : List ℕ) (n m : ℕ) → SpellsLowType word n → SpellsLowType word m → n ≡ m
low_type_once types_once word n m (low_named a) (low_named b) = types_once word n m a b
low_type_once types_once word n m (low_named a) (low_numbered none b) = absurd (none n a)
low_type_once types_once word n m (low_numbered none a) (low_named b) = absurd (none m b)
low_type_once types_once word n m (low_numbered none a) (low_numbered none' b) = sym a.value ∙ b.value

-- octets are encoded in one way
abbrev pub Base64Once : Type 0
Base64Once = (a b : List ℕ) → IsBytes a → IsBytes b → encode_of standard a ≡ encode_of standard b → a ≡ b

host_len : (algorithm : ℕ) (tag key named : List ℕ) → length (length tag ∷ algorithm ∷ (to_be_bytes w16 (length key) ++ tag ++ key ++ named)) ≡ 4 + length tag + length key + length named
host_len algorithm tag key named =
    let two : length (to_be_bytes w16 (length key)) ≡ 2 = refl in
    omega (arith, length-append (to_be_bytes w16 (length key) ++ tag ++ key) named, length-append (to_be_bytes w16 (length key) ++ tag) key, length-append (to_be_bytes w16 (length key)) tag, two)

module _ (bytes_once : BytesSpelledOnce) (strings_once : StringsSpelledOnce) (names_once : NamesSpelledOnce) (types_once : TypesOnce) (service_once : ParametersOnce) where
  field_len : (origin : Option DomainName) (field : Field) (w : Word) (a b : List ℕ) → IsField origin field w a → IsField origin field w b → length a ≡ length b
  field_len origin field w a b (number8 p i s) (number8 q j t) = refl
  field_len origin field w a b (number8 p i s) (in_digits q j) = elim j [ ]
  field_len origin field w a b (number16 p i s) (number16 q j t) = refl
  field_len origin field w a b (number16 p i s) (in_digits q j) = elim j [ ]
  field_len origin field w a b (number32 p i s) (number32 q j t) = refl
  field_len origin field w a b (number32 p i s) (in_digits q j) = elim j [ ]
  field_len origin field w a b (named8 p i) (named8 q j) = refl
  field_len origin field w a b (named8 p i) (unnamed8 q j t) = refl
  field_len origin field w a b (named8 p i) (in_digits q j) = elim j [ ]
  field_len origin field w a b (unnamed8 p i s) (named8 q j) = refl
  field_len origin field w a b (unnamed8 p i s) (unnamed8 q j t) = refl
  field_len origin field w a b (unnamed8 p i s) (in_digits q j) = elim j [ ]
  field_len origin field w a b (named16 p i) (named16 q j) = refl
  field_len origin field w a b (named16 p i) (unnamed16 q j t) = refl
  field_len origin field w a b (named16 p i) (in_digits q j) = elim j [ ]
  field_len origin field w a b (unnamed16 p i s) (named16 q j) = refl
  field_len origin field w a b (unnamed16 p i s) (unnamed16 q j t) = refl
  field_len origin field w a b (unnamed16 p i s) (in_digits q j) = elim j [ ]
  field_len origin field w a b (time p i s) (time q j t) = refl
  field_len origin field w a b (time p i s) (in_digits q j) = elim j [ ]
  field_len origin field w a b (name {labels = ls} p i s) (name {labels = ms} q j t) = ap (λ (l : List (List ℕ)). length (name_octets l)) (names_once origin w.bytes.now ls ms i j)
  field_len origin field w a b (name p i s) (in_digits q j) = elim j [ ]
  field_len origin field w a b (string i) (string j) = ap length (strings_once w a b i j)
  field_len origin field w a b (string i) (in_digits q j) = elim j [ ]
  field_len origin field w a b (text i) (text j) = ap length (bytes_once w.bytes.now a b i j)
  field_len origin field w a b (text i) (in_digits q j) = elim j [ ]
  field_len origin field w a b (ipv4 {address = x} p i) (ipv4 {address = y} q j) = ap (λ x. length (ipv4_octets x)) (IsIpv4Text_unique w.bytes.now x y i j)
  field_len origin field w a b (ipv4 p i) (in_digits q j) = elim j [ ]
  field_len origin field w a b (ipv6 {address = x} p i) (ipv6 {address = y} q j) = ap (λ x. length (ipv6_octets x)) (IsIpv6Text_unique w.bytes.now x y i j)
  field_len origin field w a b (ipv6 p i) (in_digits q j) = elim j [ ]
  field_len origin field w a b (type p i) (type q j) = refl
  field_len origin field w a b (type p i) (in_digits q j) = elim j [ ]
  field_len origin field w a b (moment p i) (moment q j) = refl
  field_len origin field w a b (moment p i) (in_digits q j) = elim j [ ]
  field_len origin field w a b (in_digits p (no_salt i)) (in_digits q (no_salt j)) = refl
  field_len origin field w a b (in_digits p (no_salt i)) (in_digits q (salt other j short)) = absurd (other i)
  field_len origin field w a b (in_digits p (salt other i short)) (in_digits q (no_salt j)) = absurd (other j)
  field_len origin field w a b (in_digits p (salt {octets = x} other i short)) (in_digits q (salt {octets = y} another j small)) = ap (λ (o : List ℕ). length (character_string o)) (decoded_once (decode_of w.bytes.now) x y i j)
  field_len origin field w a b (in_digits p (hash {octets = x} i short)) (in_digits q (hash {octets = y} j small)) = omega (arith, base32_len i, base32_len j)
  field_len origin field w a b (in_digits p (eui48 i)) (in_digits q (eui48 j)) = groups_len 45 group.Octet 6 w.bytes.now a i ∙ sym (groups_len 45 group.Octet 6 w.bytes.now b j)
  field_len origin field w a b (in_digits p (eui64 i)) (in_digits q (eui64 j)) = groups_len 45 group.Octet 8 w.bytes.now a i ∙ sym (groups_len 45 group.Octet 8 w.bytes.now b j)
  field_len origin field w a b (in_digits p (locator64 i)) (in_digits q (locator64 j)) = groups_len 58 group.Bits16 4 w.bytes.now a i ∙ sym (groups_len 58 group.Bits16 4 w.bytes.now b j)
  field_len origin field w a b (no_gateway p i) (no_gateway q j) = refl
  field_len origin field w a b (no_gateway p i) (in_digits q j) = elim j [ ]
  field_len origin field w a b (in_digits p (nsap i)) (in_digits q (nsap j)) = ap length (nsap_once w.bytes.now a b i j)

  no_push : {X : Type 0} (xs : List X) (x : X) → [] ≡ xs ++ x ∷ [] → ⊥
  no_push [] x e = cc
  no_push (y ∷ xs) x e = cc

  fields_one : {origin : Option DomainName} {fields others : List Field} {words ws : List Word} {a b : List ℕ} → AreFields origin fields words a → AreFields origin others ws b → fields ≡ others → words ≡ ws → length a ≡ length b
  fields_one no_fields no_fields e f = refl
  fields_one no_fields (one_field {fields = fs} {field = g} before one) e f = absurd (no_push fs g e)
  fields_one (one_field {fields = fs} {field = g} before one) no_fields e f = absurd (no_push fs g (sym e))
  fields_one {origin = origin} (one_field {fields = fs} {words = ws} {octets = a} {field = g} {word = w} {own = x} before one) (one_field {fields = fs'} {words = ws'} {octets = b} {field = g'} {word = w'} {own = y} before' one') e f =
      let fields_same = same_from_push fs fs' g g' e in
      let words_same = same_from_push ws ws' w w' f in
      let front : length a ≡ length b = fields_one before before' fields_same.0 words_same.0 in
      let moved : IsField origin g w y = subst (λ (v : Word). IsField origin g v y) (sym words_same.1) (subst (λ (h : Field). IsField origin h w' y) (sym fields_same.1) one') in
      let last : length x ≡ length y = field_len origin g w x y one moved in
      omega (arith, length-append a x, length-append b y)

  strings_one : {words ws : List Word} {a b : List ℕ} → AreStrings words a → AreStrings ws b → words ≡ ws → a ≡ b
  strings_one no_words no_words e = refl
  strings_one no_words (one_string {words = ws} {word = w} before one) e = absurd (no_push ws w e)
  strings_one (one_string {words = ws} {word = w} before one) no_words e = absurd (no_push ws w (sym e))
  strings_one (one_string {words = ws} {octets = a} {own = x} {word = w} before one) (one_string {words = ws'} {octets = b} {own = y} {word = w'} before' one') e =
      let same = same_from_push ws ws' w w' e in
      let front : a ≡ b = strings_one before before' same.0 in
      let last : x ≡ y = strings_once w x y one (subst (λ (v : Word). IsString v y) (sym same.1) one') in
      rw (front, last) refl

  types_one : {words ws : List Word} {a b : List ℕ} → AreTypes words a → AreTypes ws b → words ≡ ws → a ≡ b
  types_one no_names no_names e = refl
  types_one no_names (one_type {words = ws} w before plain is) e = absurd (no_push ws w e)
  types_one (one_type {words = ws} w before plain is) no_names e = absurd (no_push ws w (sym e))
  types_one (one_type {words = ws} {numbers = a} {number = n} w before plain is) (one_type {words = ws'} {numbers = b} {number = m} w' before' plain' is') e =
      let same = same_from_push ws ws' w w' e in
      let front : a ≡ b = types_one before before' same.0 in
      let last : n ≡ m = types_once w.bytes.now n m is (subst (λ (v : Word). SpellsType v.bytes.now m) (sym same.1) is') in
      rw (front, last) refl

  names_one : {origin : Option DomainName} {words ws : List Word} {a b : List ℕ} → AreNames origin words a → AreNames origin ws b → words ≡ ws → length a ≡ length b
  names_one no_servers no_servers e = refl
  names_one no_servers (one_server {words = ws} {word = w} before one) e = absurd (no_push ws w e)
  names_one (one_server {words = ws} {word = w} before one) no_servers e = absurd (no_push ws w (sym e))
  names_one {origin = origin} (one_server {words = ws} {octets = a} {own = x} {word = w} before one) (one_server {words = ws'} {octets = b} {own = y} {word = w'} before' one') e =
      let same = same_from_push ws ws' w w' e in
      let front : length a ≡ length b = names_one before before' same.0 in
      let last : length x ≡ length y = field_len origin field.Name w x y one (subst (λ (v : Word). IsField origin field.Name v y) (sym same.1) one') in
      omega (arith, length-append a x, length-append b y)

  ports_one : {words ws : List Word} {a b : List ℕ} → ArePorts words a → ArePorts ws b → words ≡ ws → a ≡ b
  ports_one no_ports no_ports e = refl
  ports_one no_ports (one_port {words = ws} w before plain is) e = absurd (no_push ws w e)
  ports_one (one_port {words = ws} w before plain is) no_ports e = absurd (no_push ws w (sym e))
  ports_one (one_port {words = ws} {ports = a} {port = n} w before plain is) (one_port {words = ws'} {ports = b} {port = m} w' before' plain' is') e =
      let same = same_from_push ws ws' w w' e in
      let front : a ≡ b = ports_one before before' same.0 in
      let last : n ≡ m = port_once w.bytes.now n m is (subst (λ (v : Word). SpellsPort v.bytes.now m) (sym same.1) is') in
      rw (front, last) refl

  low_one : {words ws : List Word} {a b : List ℕ} → AreLowTypes words a → AreLowTypes ws b → words ≡ ws → a ≡ b
  low_one no_low_types no_low_types e = refl
  low_one no_low_types (one_low {words = ws} w before plain is some small) e = absurd (no_push ws w e)
  low_one (one_low {words = ws} w before plain is some small) no_low_types e = absurd (no_push ws w (sym e))
  low_one (one_low {words = ws} {numbers = a} {number = n} w before plain is some small) (one_low {words = ws'} {numbers = b} {number = m} w' before' plain' is' some' small') e =
      let same = same_from_push ws ws' w w' e in
      let front : a ≡ b = low_one before before' same.0 in
      let last : n ≡ m = low_type_once types_once w.bytes.now n m is (subst (λ (v : Word). SpellsLowType v.bytes.now m) (sym same.1) is') in
      rw (front, last) refl

  prefixes_one : {words ws : List Word} {a b : List ℕ} → ArePrefixes words a → ArePrefixes ws b → words ≡ ws → a ≡ b
  prefixes_one no_prefixes no_prefixes e = refl
  prefixes_one no_prefixes (one_prefix {words = ws} w before plain is) e = absurd (no_push ws w e)
  prefixes_one (one_prefix {words = ws} w before plain is) no_prefixes e = absurd (no_push ws w (sym e))
  prefixes_one (one_prefix {words = ws} {octets = a} {own = x} w before plain is) (one_prefix {words = ws'} {octets = b} {own = y} w' before' plain' is') e =
      let same = same_from_push ws ws' w w' e in
      let front : a ≡ b = prefixes_one before before' same.0 in
      let last : x ≡ y = prefix_once w.bytes.now x y is (subst (λ (v : Word). SpellsPrefix v.bytes.now y) (sym same.1) is') in
      rw (front, last) refl

  base64_len : (base64_once : Base64Once) (words : List Word) (a b : List ℕ) → IsBase64 words a → IsBase64 words b → a ≡ b
  base64_len base64_once words a b one two = base64_once a b one.bytes two.bytes (sym one.encoded ∙ two.encoded)

  -- the octets of a gateway and its key
  gateway_len : (base64_once : Base64Once) (origin : Option DomainName) (words : List Word) (a b : List ℕ) → IsGateway origin words a → IsGateway origin words b → length a ≡ length b
  gateway_len base64_once origin words a b one two =
      let fields : two.fields ≡ one.fields = told_of one.first one.begins.0 one.kind one.fields one.begins.1 one.typed one.told two in
      let fronts : one.gateway.0 ≡ two.gateway.0 = before_key one.gateway two.gateway (sym fields) in
      let keys : one.key ≡ two.key = behind_fields one.gateway two.gateway (sym fields) in
      let own : length one.gateway_octets ≡ length two.gateway_octets = fields_one one.gateway.2 two.gateway.2 (sym fields) fronts in
      let keyed : one.key_octets ≡ two.key_octets = base64_len base64_once one.key one.key_octets two.key_octets one.keyed (subst (λ (ws : List Word). IsBase64 ws two.key_octets) (sym keys) two.keyed) in
      omega (arith, ap length one.together, ap length two.together, length-append one.gateway_octets one.key_octets, length-append two.gateway_octets two.key_octets, own, ap length keyed)

  -- the octets of a host
  identity_len : (base64_once : Base64Once) (origin : Option DomainName) (w1 w2 w3 : Word) (servers : List Word) (a b : List ℕ) → IsIdentity origin w1 w2 w3 servers a → IsIdentity origin w1 w2 w3 servers b → length a ≡ length b
  identity_len base64_once origin w1 w2 w3 servers a b one two =
      let tags : length one.tag ≡ length two.tag = ap length (decoded_once (decode_of w2.bytes.now) one.tag two.tag one.tagged.spelled two.tagged.spelled) in
      let keys : length one.key ≡ length two.key = ap length (base64_once one.key two.key one.keyed.bytes two.keyed.bytes (sym one.keyed.encoded ∙ two.keyed.encoded)) in
      let names : length one.named ≡ length two.named = names_one one.met two.met refl in
      omega (arith, ap length one.together, ap length two.together, host_len one.algorithm one.tag one.key one.named, host_len two.algorithm two.tag two.key two.named, tags, keys, names)

  -- the octets of a relay
  relay_len : (origin : Option DomainName) (w1 w2 w3 : Word) (a b : List ℕ) → IsRelay origin w1 w2 w3 a → IsRelay origin w1 w2 w3 b → length a ≡ length b
  relay_len origin w1 w2 w3 a b one two =
      let kinds : two.kind ≡ one.kind = sym two.typed.1.value ∙ one.typed.1.value in
      let fields : two.field ≡ one.field = relay_told two.kind one.kind two.field one.field kinds two.told one.told in
      let own : length one.own ≡ length two.own = field_len origin one.field w3 one.own two.own one.is (subst (λ (f : Field). IsField origin f w3 two.own) fields two.is) in
      omega (arith, ap length one.together, ap length two.together, own)

  rest_len : (base64_once : Base64Once) (origin : Option DomainName) (rest : Rest) (words : List Word) (a b : List ℕ) → IsRest origin rest words a → IsRest origin rest words b → length a ≡ length b
  rest_len base64_once origin rest words a b nothing nothing = refl
  rest_len base64_once origin rest words a b (strings some is) (strings some' is') = ap length (strings_one is is' refl)
  rest_len base64_once origin rest words a b (hex some plain is) (hex some' plain' is') = ap length (decoded_once (decode_of (bytes_of words)) a b is is')
  rest_len base64_once origin rest words a b (base64 is) (base64 is') = ap length (base64_len base64_once words a b is is')
  rest_len base64_once origin rest words a b (types is) (types is') = ap length (is.written ∙ ap (λ (ts : List ℕ). windows ts 256) (types_one is.spelled is'.spelled refl) ∙ sym is'.written)
  rest_len base64_once origin rest words a b (service is) (service is') = ap length (service_once words a b is is')
  rest_len base64_once origin rest words a b (ports is) (ports is') = ap length (is.written ∙ ap (λ (ps : List ℕ). bitmap ps 0 (bitmap_len ps)) (ports_one is.spelled is'.spelled refl) ∙ sym is'.written)
  rest_len base64_once origin rest words a b (prefixes is) (prefixes is') = ap length (prefixes_one is is' refl)
  rest_len base64_once origin rest words a b (gateway is) (gateway is') = gateway_len base64_once origin words a b is is'
  rest_len base64_once origin rest words a b (low_types is) (low_types is') = ap length (is.written ∙ ap (λ (ts : List ℕ). bitmap ts 0 (bitmap_len ts)) (low_one is.spelled is'.spelled refl) ∙ sym is'.written)
  rest_len base64_once origin rest words a b (location is) (location is') = location_len words a is ∙ sym (location_len words b is')
  rest_len base64_once origin rest words a b (relay {first = f} {second = g} {third = h} is) (relay is') = relay_len origin f g h a b is is'
  rest_len base64_once origin rest words a b (host {first = f} {second = g} {third = h} {servers = ws} is) (host is') = identity_len base64_once origin f g h ws a b is is'

  row_len : (base64_once : Base64Once) (origin : Option DomainName) (row : TypeRow) (words : List Word) (a b : List ℕ) → IsRow origin row words a → IsRow origin row words b → length a ≡ length b
  row_len base64_once origin row words a b one two =
      let n : length one.front ≡ length row.fields = fields_len one.fields in
      let m : length two.front ≡ length row.fields = fields_len two.fields in
      let whole : one.front ++ one.behind ≡ two.front ++ two.behind = sym one.in_order ∙ two.in_order in
      let fronts : one.front ≡ two.front = sym (take_at one.front one.behind (length row.fields) n) ∙ ap (λ (ws : List Word). take (length row.fields) ws) whole ∙ take_at two.front two.behind (length row.fields) m in
      let behinds : one.behind ≡ two.behind = sym (drop_at one.front one.behind (length row.fields) n) ∙ ap (λ (ws : List Word). drop (length row.fields) ws) whole ∙ drop_at two.front two.behind (length row.fields) m in
      let front : length one.front_octets ≡ length two.front_octets = fields_one one.fields two.fields refl fronts in
      let behind : length one.behind_octets ≡ length two.behind_octets =
      rest_len base64_once origin row.rest one.behind one.behind_octets two.behind_octets one.rest (subst (λ (ws : List Word). IsRest origin row.rest ws two.behind_octets) (sym behinds) two.rest) in
      omega (arith, ap length one.together, ap length two.together, length-append one.front_octets one.behind_octets, length-append two.front_octets two.behind_octets)

  pub data_length : (base64_once : Base64Once) (origin : Option DomainName) (number : ℕ) (words : List Word) (a b : List ℕ) → IsData origin number words a → IsData origin number words b → length a ≡ length b
  data_length base64_once origin number words a b (in_form {row = r} found one) (in_form {row = s} found' two) =
      let same : s ≡ r = cc in
      row_len base64_once origin r words a b one (subst (λ (row : TypeRow). IsRow origin row words b) same two)
