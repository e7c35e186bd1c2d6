-- What is told of the words behind an owner name.
use Rattle.std.proofs.Common.{◌≡◌, ◌∙◌, ℕ, List, ◌∷◌, ◌++◌, Option, Some, None, length, sym, ap, subst, arith}
use Rattle.wire_messages.specs.declared.rr.rdata.RData.{RData}
use Rattle.wire_messages.specs.declared.rr.record.Record.{Record}
use Rattle.wire_messages.specs.rr.RecordData.{type_of}
use Rattle.text_words.specs.declared.words.Word.{Word}
use Rattle.record_text.specs.RecordText.{HasNone, SpellsData}
use Rattle.record_text.proofs.TypesOnce.{types_once}
use Rattle.zone_text.specs.declared.zone_file.entry.Before.{Before}
use Rattle.zone_text.specs.ZoneFiles.{AreTtlAndClass, BeginsWith, IsBehindOwner, IsFrontOf, IsTyped, IsTypeWord, MayBeData, last_ttl, ttl_in_force, zone_minimum}
use Rattle.zone_text.proofs.Minimum.{no_ttl}

-- All that words may say of TTL, class and type is this TTL, with a type first of these words.
abbrev pub AllSay : List Word → Option ℕ → List Word → Type 0
AllSay words own fields = (other : Option ℕ) (number : ℕ) → (behind : List Word) → IsFrontOf words other number behind → (other ≡ own) × BeginsWith (IsTypeWord number) fields behind

heads : (a b : Word) (r s : List Word) → (a ∷ r) ≡ (b ∷ s) → (a ≡ b) × (r ≡ s)
heads a b r s e = (cc, cc)

module _ (words : List Word) (own : Option ℕ) (fields : List Word) (say : AllSay words own fields) where
  pub no_field : length fields ≡ 0 → (other : Option ℕ) (number : ℕ) (behind : List Word) → IsFrontOf words other number behind → ⊥
  no_field none other number behind front = let at = (say other number behind front).1 in omega (arith, none, ap length at.1)

  module _ (word : Word) (data_words : List Word) (parts : fields ≡ (word ∷ data_words)) where
    -- the first of these words is the type, and the others stand behind it
    pub type_here : (other : Option ℕ) (number : ℕ) (behind : List Word) → IsFrontOf words other number behind → IsTypeWord number word
    type_here other number behind front =
        let at = (say other number behind front).1 in
        subst (IsTypeWord number) (sym (heads word at.0 data_words behind (sym parts ∙ at.1)).0) at.2

    pub once : (type : ℕ) → IsTypeWord type word → (other : Option ℕ) (number : ℕ) (behind : List Word) → IsFrontOf words other number behind → (other ≡ own) × (number ≡ type) × (behind ≡ data_words)
    once type typed other number behind front =
        let at = say other number behind front in
        (at.0, types_once word.bytes.now number type (type_here other number behind front).spelled typed.spelled, sym (heads word at.1.0 data_words behind (sym parts ∙ at.1.1)).1)

-- TTL and class, then a type, and the words behind it
pub front_is : (words fields data_words : List Word) (own : Option ℕ) (type : ℕ) (word : Word) → (front : List Word) × (words ≡ front ++ fields) × AreTtlAndClass front own → fields ≡ (word ∷ data_words) → IsTypeWord type word → IsFrontOf words own type data_words
front_is words fields data_words own type word timed parts typed = record { front = timed.0; rest = fields; in_order = timed.1; timed = timed.2; typed = (word, parts, typed) }

-- what stands behind an owner name is of the type and the words that the front tells
abbrev pub IsOnce : List Word → Option ℕ → ℕ → List Word → Type 0
IsOnce words own type fields = (other : Option ℕ) (number : ℕ) (behind : List Word) → IsFrontOf words other number behind → (other ≡ own) × (number ≡ type) × (behind ≡ fields)

pub moved : (before : Before) (own other : Option ℕ) (type number : ℕ) (fields behind : List Word) (r : Record RData) → (other ≡ own) × (number ≡ type) × (behind ≡ fields) → IsTyped before other number behind r → IsTyped before own type fields r
moved before own other type number fields behind r same is =
    subst (λ (ws : List Word). IsTyped before own type ws r) same.2 (subst (λ (n : ℕ). IsTyped before own n behind r) same.1 (subst (λ (o : Option ℕ). IsTyped before o number behind r) same.0 is))

pub typed_of : (before : Before) (words : List Word) (own : Option ℕ) (type : ℕ) (fields : List Word) (r : Record RData) → IsOnce words own type fields → IsBehindOwner before words r → IsTyped before own type fields r
typed_of before words own type fields r only is = moved before own is.own type is.number fields is.behind r (only is.own is.number is.behind is.front) is.is

-- no record has data of a type, where none are spelled, and none a TTL, where none is in force
pub no_data : (before : Before) (own : Option ℕ) (number : ℕ) (fields : List Word) → ((rdata : RData) → SpellsData (Some before.origin) number fields rdata → MayBeData number fields → ⊥) → HasNone (IsTyped before own number fields)
no_data before own number fields none r is = none r.rdata is.spelled is.some

pub no_ttl_here : (before : Before) (own : Option ℕ) (number : ℕ) (fields : List Word) (rdata : RData) (default last : Option ℕ) → type_of rdata ≡ number → default ≡ before.default_ttl → last ≡ last_ttl before.records → ttl_in_force own default last (zone_minimum rdata) ≡ None
    → HasNone (IsTyped before own number fields)
no_ttl_here before own number fields rdata default last form is_default is_last none r is =
    let some : ttl_in_force own default last (zone_minimum r.rdata) ≡ Some r.ttl = rw (is_default, is_last) is.in_force in
    no_ttl rdata r.rdata own default last r.ttl (form ∙ sym is.typed) none some
