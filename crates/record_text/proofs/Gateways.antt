-- What the fields of a gateway are, and where its key begins.
use Rattle.std.proofs.Common.{◌≡◌, ◌∙◌, ℕ, List, [], ◌∷◌, length, take, drop, Option, Some, sym, ap}
use Rattle.std.proofs.lemmas.List.{drop_at, take_at}
use Rattle.std.specs.List.{slice_get}
use Rattle.std.specs.Str.Parse.{digits_value}
use Rattle.wire_names.specs.rr.domain.DomainName.{DomainName}
use Rattle.record_text.specs.declared.data.field.Field.{Field}
use Rattle.text_words.specs.declared.words.Word.{Word}
use Rattle.text_words.specs.Spelling.{IsNumber}
use Rattle.record_text.specs.RecordText.{AreFieldsBefore, IsGateway, gateway_fields}
use Rattle.record_text.proofs.NoRow.{fields_len}

first_word : (a b : Word) (xs ys : List Word) → a ∷ xs ≡ b ∷ ys → a ≡ b
first_word a b xs ys e = cc

same_told : (n m : ℕ) (fs gs : List Field) → n ≡ m → gateway_fields n ≡ Some fs → gateway_fields m ≡ Some gs → fs ≡ gs
same_told n m fs gs same one two =
    let moved : gateway_fields n ≡ Some gs = ap gateway_fields same ∙ two in
    cc

-- the fields that the first word tells
pub told_of : {origin : Option DomainName} {words : List Word} {octets : List ℕ} (first : Word) (others : List Word) (kind : ℕ) (fields : List Field) → words ≡ first ∷ others → IsNumber first.bytes.now kind → gateway_fields kind ≡ Some fields
    → (is : IsGateway origin words octets) → is.fields ≡ fields
told_of first others kind fields begins typed told is =
    let word : is.first ≡ first = first_word is.first first is.begins.0 others (sym is.begins.1 ∙ begins) in
    let kind_same : is.kind ≡ kind = sym is.typed.value ∙ ap (λ (w : Word). digits_value 10 w.bytes.now) word ∙ typed.value in
    same_told is.kind kind is.fields fields kind_same is.told told

-- what stands behind the same fields is the same
pub behind_fields : {origin : Option DomainName} {fields others : List Field} {words key last : List Word} {a b : List ℕ} → AreFieldsBefore origin fields words key a → AreFieldsBefore origin others words last b → fields ≡ others → key ≡ last
behind_fields {fields = fields} {others = others} {key = key} {last = last} one two same =
    let n : length one.0 ≡ length fields = fields_len one.2 in
    let m : length two.0 ≡ length fields = fields_len two.2 ∙ ap length (sym same) in
    sym (drop_at one.0 key (length fields) n) ∙ ap (λ (ws : List Word). drop (length fields) ws) (sym one.1 ∙ two.1) ∙ drop_at two.0 last (length fields) m

pub before_key : {origin : Option DomainName} {fields others : List Field} {words key last : List Word} {a b : List ℕ} → (one : AreFieldsBefore origin fields words key a) → (two : AreFieldsBefore origin others words last b) → fields ≡ others → one.0 ≡ two.0
before_key {fields = fields} {others = others} {key = key} {last = last} one two same =
    let n : length one.0 ≡ length fields = fields_len one.2 in
    let m : length two.0 ≡ length fields = fields_len two.2 ∙ ap length (sym same) in
    sym (take_at one.0 key (length fields) n) ∙ ap (λ (ws : List Word). take (length fields) ws) (sym one.1 ∙ two.1) ∙ take_at two.0 last (length fields) m

pub begins_with : (words : List Word) (first : Word) → Some first ≡ slice_get words 0 → (others : List Word) × (words ≡ first ∷ others)
begins_with [] first e = absurd (cc)
begins_with (w ∷ words) first e = let same : first ≡ w = cc in (words, ap (λ (x : Word). x ∷ words) (sym same))
