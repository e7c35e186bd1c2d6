-- Words are service parameters in one way.
use Rattle.std.proofs.Common.{◌≡◌, ◌∙◌, ℕ, Bool, false, List, [], ◌∷◌, ◌++◌, Option, Some, None, Ok, drop, sym, ap, subst, refl, rules}
use Rattle.std.proofs.NetLemmas.Theorems.{IsIpv4Text_unique, IsIpv6Text_unique}
use Rattle.std.proofs.lemmas.List.{drop_at}
use Rattle.std.specs.Int.{w16, to_be_bytes}
use Rattle.std.specs.Net.Addr.{ipv4_octets, ipv6_octets}
use Rattle.std.specs.Prelude.{codes, if◌then◌else◌}
use Rattle.base64.proofs.EngineFacts.{decode_of-encode_of}
use Rattle.base64.specs.Engines.{standard}
use Rattle.base64.specs.GeneralPurpose.{IsBytes, IsConsistent, decode_of, encode_of}
use Rattle.wire_messages.specs.rr.RecordData.{character_string}
use Rattle.text_data.specs.declared.kinds.ItemKind.{ItemKind}
use Rattle.text_data.specs.declared.kinds.ItemKind.TheVariants as item
use Rattle.text_data.specs.declared.kinds.ValueKind.{ValueKind}
use Rattle.text_data.specs.ServiceText.{AreItems, AreKeys, AreParameters, AreServiceParameters, IsItem, IsKeyNumber, IsParameter, IsValue, ParameterText, SpellsKey, ascending, is_value, item_bytes, kind_of, list_items, listed_key, parameter_octets, parameter_texts, text_of_both, text_of_word, with_key}
use Rattle.text_data.specs.ServiceText.AreItems.{none as no_items, more as one_item}
use Rattle.text_data.specs.ServiceText.AreKeys.{none as no_keys, more as one_key}
use Rattle.text_data.specs.ServiceText.AreParameters.{none as no_texts, more as one_text}
use Rattle.text_data.specs.ServiceText.IsItem.{protocol, ipv4 as ipv4_item, ipv6 as ipv6_item}
use Rattle.text_data.specs.ServiceText.IsValue.{listed_keys, protocols, nothing, number16, ipv4, base64, ipv6, some_bytes, any_bytes}
use Rattle.text_data.specs.ServiceText.SpellsKey.{named, numbered}
use Rattle.text_words.specs.declared.words.Word.{Word}
use Rattle.text_words.specs.Spelling.{BytesSpelledOnce, IsNumber}
use Rattle.text_words.specs.Words.{AreSameWords, SameWord}

some_once : (o : Option ℕ) (a b : ℕ) → o ≡ Some a → o ≡ Some b → a ≡ b
some_once o a b one two = cc

some_bytes_once : (o : Option (List ℕ)) (a b : List ℕ) → o ≡ Some a → o ≡ Some b → a ≡ b
some_bytes_once o a b one two = cc

never : (o : Option ℕ) (a : ℕ) → o ≡ Some a → o ≡ None → ⊥
never o a one two = absurd (cc)

numbers_once : (text : List ℕ) (n m : ℕ) → IsKeyNumber text n → IsKeyNumber text m → n ≡ m
numbers_once text n m one two =
    let digits : one.digits ≡ two.digits = sym (drop_at (codes "key") one.digits 3 refl) ∙ ap (λ (t : List ℕ). drop 3 t) (sym one.in_order ∙ two.in_order) ∙ drop_at (codes "key") two.digits 3 refl in
    let same : IsNumber two.digits n = subst (λ (t : List ℕ). IsNumber t n) digits one.spelled in
    sym same.value ∙ two.spelled.value

pub key_once : (text : List ℕ) (n m : ℕ) → SpellsKey text n → SpellsKey text m → n ≡ m
key_once text n m (named a) (named b) = some_once _ n m a b
key_once text n m (named a) (numbered none b) = absurd (never _ n a none)
key_once text n m (numbered none a) (named b) = absurd (never _ m b none)
key_once text n m (numbered none a) (numbered none' b) = numbers_once text n m a b

item_once : (kind : ItemKind) (text a b : List ℕ) → IsItem kind text a → IsItem kind text b → a ≡ b
item_once kind text a b (protocol {bytes = x} is some short) (protocol {bytes = y} is' some' short') = ap character_string (some_bytes_once (item_bytes false text) x y is is')
item_once kind text a b (ipv4_item {address = x} is) (ipv4_item {address = y} is') = ap ipv4_octets (IsIpv4Text_unique text x y is is')
item_once kind text a b (ipv6_item {address = x} is) (ipv6_item {address = y} is') = ap ipv6_octets (IsIpv6Text_unique text x y is is')

items_once : (kind : ItemKind) (items : List (List ℕ)) (a b : List ℕ) → AreItems kind items a → AreItems kind items b → a ≡ b
items_once kind items a b no_items no_items = refl
items_once kind items a b (one_item {text = t} {own = x} {octets = xs} {items = ts} is are) (one_item {own = y} {octets = ys} is' are') =
    let first : x ≡ y = item_once kind t x y is is' in
    let rest : xs ≡ ys = items_once kind ts xs ys are are' in
    rw (first, rest) refl

pub keys_once : (items : List (List ℕ)) (a b : List ℕ) → AreKeys items a → AreKeys items b → a ≡ b
keys_once items a b no_keys no_keys = refl
keys_once items a b (one_key {text = t} {keys = xs} {key = x} {items = ts} is some are) (one_key {keys = ys} {key = y} is' some' are') =
    let first : x ≡ y = key_once t x y is is' in
    let rest : xs ≡ ys = keys_once ts xs ys are are' in
    rw (first, rest) refl

base64_once : (a b : List ℕ) → IsBytes a → IsBytes b → encode_of standard a ≡ encode_of standard b → a ≡ b
base64_once a b one two same =
    let consistent : IsConsistent standard = search rules in
    let left : decode_of standard (encode_of standard a) ≡ Ok a = decode_of-encode_of standard a consistent one in
    let right : decode_of standard (encode_of standard b) ≡ Ok b = decode_of-encode_of standard b consistent two in
    let moved : decode_of standard (encode_of standard a) ≡ Ok b = ap (decode_of standard) same ∙ right in
    cc

module _ (bytes_once : BytesSpelledOnce) where
  pub value_once : (kind : ValueKind) (text l m a b : List ℕ) → IsValue kind text l a → IsValue kind text m b → (l ≡ m) × (a ≡ b)
  value_once kind text l m a b (listed_keys is apart) (listed_keys is' apart') =
      let same : l ≡ m = keys_once (list_items false text) l m is is' in
      (same, ap (λ (ks : List ℕ). ascending (listed_key ks) 65536) same)
  value_once kind text l m a b (protocols {bytes = x} s is) (protocols {bytes = y} s' is') =
      let same : x ≡ y = bytes_once text x y s s' in
      (refl, items_once item.Protocol (list_items false x) a b is (subst (λ (t : List ℕ). AreItems item.Protocol (list_items false t) b) (sym same) is'))
  value_once kind text l m a b nothing nothing = (refl, refl)
  value_once kind text l m a b (number16 {n = x} is small) (number16 {n = y} is' small') = (refl, ap (to_be_bytes w16) (sym is.value ∙ is'.value))
  value_once kind text l m a b (ipv4 is) (ipv4 is') = (refl, items_once item.Ipv4 (list_items false text) a b is is')
  value_once kind text l m a b (ipv6 is) (ipv6 is') = (refl, items_once item.Ipv6 (list_items false text) a b is is')
  value_once kind text l m a b (base64 bytes is) (base64 bytes' is') = (refl, base64_once a b bytes bytes' (sym is ∙ is'))
  value_once kind text l m a b (some_bytes is some) (some_bytes is' some') = (refl, bytes_once text a b is is')
  value_once kind text l m a b (any_bytes is) (any_bytes is') = (refl, bytes_once text a b is is')

  parameter_once : (text : ParameterText) (key other : ℕ) (l m a b : List ℕ) → IsParameter text key l a → IsParameter text other m b → (key ≡ other) × (l ≡ m) × (a ≡ b)
  parameter_once text key other l m a b one two =
      let keys : key ≡ other = key_once text.key key other one.named two.named in
      let moved : IsValue (kind_of key) text.value m two.octets = subst (λ (k : ℕ). IsValue (kind_of k) text.value m two.octets) (sym keys) two.valued in
      let both = value_once (kind_of key) text.value l m one.octets two.octets one.valued moved in
      (keys, both.0, one.written ∙ ap (λ (k : ℕ). parameter_octets k one.octets) keys ∙ ap (parameter_octets other) both.1 ∙ sym two.written)

  pub all_once : (before : List ℕ) (texts : List ParameterText) (keys others l m : List ℕ) (a b : List (List ℕ)) → AreParameters before texts keys l a → AreParameters before texts others m b → (keys ≡ others) × (l ≡ m) × (a ≡ b)
  all_once before texts keys others l m a b no_texts no_texts = (refl, refl, refl)
  all_once before texts keys others l m a b (one_text {own = own} {wire = wire} {ks = ks} {ls = ls} {text = text} {texts = rest} {key = key} {wires = wires} is fresh are)
      (one_text {own = own'} {wire = wire'} {ks = ks'} {ls = ls'} {key = key'} {wires = wires'} is' fresh' are') =
      let first = parameter_once text key key' own own' wire wire' is is' in
      let moved : AreParameters (before ++ key ∷ []) rest ks' ls' wires' = subst (λ (k : ℕ). AreParameters (before ++ k ∷ []) rest ks' ls' wires') (sym first.0) are' in
      let behind = all_once (before ++ key ∷ []) rest ks ks' ls ls' wires wires' are moved in
      (rw (first.0, behind.0) refl, rw (first.1, behind.1) refl, rw (first.2, behind.2) refl)

  pub parameters_once : (words : List Word) (a b : List ℕ) → AreServiceParameters words a → AreServiceParameters words b → a ≡ b
  parameters_once words a b one two =
      let same = all_once [] (parameter_texts words) one.present two.present one.listed two.listed one.wires two.wires one.spelled two.spelled in
      one.written ∙ ap (λ (ks : List ℕ). ascending (with_key ks one.wires) 65536) same.0 ∙ ap (λ (ws : List (List ℕ)). ascending (with_key two.present ws) 65536) same.2 ∙ sym two.written

-- the same words have the same texts
same_word : (a b : Word) → SameWord a b → text_of_word a ≡ text_of_word b
same_word a b s = rw (s.bytes, s.quoted) refl

same_both : (a b c d : Word) → SameWord a b → SameWord c d → text_of_both a c ≡ text_of_both b d
same_both a b c d s t = rw (s.bytes, s.quoted, t.bytes) refl

same_value : (a b c d : Word) → SameWord a b → SameWord c d → is_value a c ≡ is_value b d
same_value a b c d s t = rw (s.bytes, s.start, t.quoted, t.start) refl

same_choice : (b c : Bool) (x y z w : List ParameterText) → b ≡ c → x ≡ y → z ≡ w → (if b then x else z) ≡ (if c then y else w)
same_choice b c x y z w e f g = rw (e, f, g) refl

same_cons : (a b : ParameterText) (xs ys : List ParameterText) → a ≡ b → xs ≡ ys → a ∷ xs ≡ b ∷ ys
same_cons a b xs ys e f = rw (e, f) refl

same_texts : (words others : List Word) → AreSameWords words others → parameter_texts words ≡ parameter_texts others
same_texts [] [] h = refl
same_texts [] (o ∷ others) h = absurd h
same_texts (w ∷ words) [] h = absurd h
same_texts (w ∷ []) (o ∷ []) h = ap (λ (t : ParameterText). t ∷ []) (same_word w o h.0)
same_texts (w ∷ []) (o ∷ p ∷ others) h = absurd h.1
same_texts (w ∷ v ∷ words) (o ∷ []) h = absurd h.1
same_texts (w ∷ v ∷ words) (o ∷ p ∷ others) h =
    same_choice (is_value w v) (is_value o p) (text_of_both w v ∷ parameter_texts words) (text_of_both o p ∷ parameter_texts others) (text_of_word w ∷ parameter_texts (v ∷ words)) (text_of_word o ∷ parameter_texts (p ∷ others)) (same_value w o v p h.0 h.1.0)
    (same_cons (text_of_both w v) (text_of_both o p) (parameter_texts words) (parameter_texts others) (same_both w o v p h.0 h.1.0) (same_texts words others h.1.1))
    (same_cons (text_of_word w) (text_of_word o) (parameter_texts (v ∷ words)) (parameter_texts (p ∷ others)) (same_word w o h.0) (same_texts (v ∷ words) (p ∷ others) h.1))

pub parameters_same : (words others : List Word) (octets : List ℕ) → AreServiceParameters words octets → AreSameWords words others → AreServiceParameters others octets
parameters_same words others octets is h = record {
  present = is.present;
  listed = is.listed;
  wires = is.wires;
  spelled = subst (λ (ts : List ParameterText). AreParameters [] ts is.present is.listed is.wires) (same_texts words others h) is.spelled;
  there = is.there;
  written = is.written;
}
