-- Words of which each is a field, as data of their type.
use Rattle.std.proofs.Common.{◌≡◌, ◌∙◌, ◌+◌, ◌<◌, ℕ, List, [], ◌∷◌, ◌++◌, length, take, get_or, Option, Some, sym, ap, subst, refl, append-nil, append_assoc, arith}
use Rattle.std.proofs.lemmas.List.{take_all, take_more}
use Rattle.wire_names.specs.rr.domain.DomainName.{DomainName}
use Rattle.record_text.specs.declared.data.field.Field.{Field}
use Rattle.record_text.specs.declared.data.field.Rest.{Rest}
use Rattle.record_text.specs.declared.data.field.Rest.TheVariants as kind
use Rattle.text_words.specs.declared.words.Word.{Word}
use Rattle.text_words.specs.Spelling.{Puts}
use Rattle.record_text.specs.RecordText.{AreFields, AreFieldsBefore, IsData, IsField, IsRest}
use Rattle.record_text.specs.RecordText.AreFields.{none, more}
use Rattle.record_text.specs.RecordText.IsData.{in_form}
use Rattle.record_text.specs.RecordText.IsRest.{nothing}
use Rattle.record_text.specs.TypeTable.{TypeRow, row_of}

-- one word more, for one field more
pub one_more : {origin : Option DomainName} {fields : List Field} {octets own : List ℕ} {field : Field} (words : List Word) (i : ℕ) (d : Word) → i < length words → AreFields origin fields (take i words) octets
    → IsField origin field (get_or words i d) own → AreFields origin (fields ++ field ∷ []) (take (i + 1) words) (octets ++ own)
one_more {origin} {fields} {octets} {own} {field} words i d below before one =
    subst (λ (ws : List Word). AreFields origin (fields ++ field ∷ []) ws (octets ++ own)) (sym (take_more words i d below)) (more before one)

pub of_fields : (origin : Option DomainName) (number : ℕ) (row : TypeRow) (words : List Word) (octets : List ℕ) → row_of number ≡ Some row → row.rest ≡ kind.Nothing → AreFields origin row.fields words octets → IsData origin number words octets
of_fields origin number row words octets is none_left fields = in_form is record {
  front = words;
  behind = [];
  front_octets = octets;
  behind_octets = [];
  in_order = sym (append-nil words);
  together = sym (append-nil octets);
  fields = fields;
  rest = subst (λ (r : Rest). IsRest origin r [] []) (sym none_left) nothing;
}

pub of_rest : (origin : Option DomainName) (number : ℕ) (row : TypeRow) (words : List Word) (octets : List ℕ) → row_of number ≡ Some row → row.fields ≡ [] → IsRest origin row.rest words octets → IsData origin number words octets
of_rest origin number row words octets is no_fields rest = in_form is record {
  front = [];
  behind = words;
  front_octets = [];
  behind_octets = octets;
  in_order = refl;
  together = refl;
  fields = subst (λ (fs : List Field). AreFields origin fs [] []) (sym no_fields) none;
  rest = rest;
}

-- the one word of data of one field
pub of_one : (origin : Option DomainName) (number n : ℕ) (row : TypeRow) (words : List Word) (d : Word) (octets : List ℕ) (field : Field) → n ≡ number → length words ≡ 1 → row_of n ≡ Some row → row.fields ≡ field ∷ [] → row.rest ≡ kind.Nothing
    → IsField origin field (get_or words 0 d) octets → IsData origin number words octets
of_one origin number n row words d octets field same one is fields none_left h =
    let below : 0 < length words = omega (arith, one) in
    let first : AreFields origin (field ∷ []) (take 1 words) octets = one_more words 0 d below none h in
    let whole : AreFields origin (field ∷ []) words octets = subst (λ (ws : List Word). AreFields origin (field ∷ []) ws octets) (take_all 1 words (omega (arith, one))) first in
    subst (λ (k : ℕ). IsData origin k words octets) same (of_fields origin n row words octets is none_left (subst (λ (fs : List Field). AreFields origin fs words octets) (sym fields) whole))

-- one field more of a list of them
pub more_fields : (origin : Option DomainName) (fields : List Field) (words : List Word) (i : ℕ) (d : Word) (e : Field) (field : Field) (word : Word) (old before after : List ℕ) → i < length fields → i < length words
    → field ≡ get_or fields i e → word ≡ get_or words i d → Puts (AreFields origin (take i fields) (take i words)) old before → Puts (IsField origin field word) before after
    → Puts (AreFields origin (take (i + 1) fields) (take (i + 1) words)) old after
more_fields origin fields words i d e field word old before after below within f w all one =
    let own : IsField origin (get_or fields i e) (get_or words i d) one.0 = subst (λ (x : Word). IsField origin (get_or fields i e) x one.0) w (subst (λ (x : Field). IsField origin x word one.0) f one.2) in (
      all.0 ++ one.0,
      one.1 ∙ ap (λ (xs : List ℕ). xs ++ one.0) all.1 ∙ append_assoc old all.0 one.0,
      subst (λ (fs : List Field). AreFields origin fs (take (i + 1) words) (all.0 ++ one.0)) (sym (take_more fields i e below)) (one_more words i d within all.2 own),
    )

-- what is put behind nothing by fields, and by what stands behind them, is a row's
pub of_row : (origin : Option DomainName) (number : ℕ) (row : TypeRow) (words behind : List Word) (start middle all : List ℕ) → row_of number ≡ Some row → start ≡ [] → Puts (AreFieldsBefore origin row.fields words behind) start middle
    → Puts (IsRest origin row.rest behind) middle all → IsData origin number words all
of_row origin number row words behind start middle all is empty front rest = in_form is record {
  front = front.2.0;
  behind = behind;
  front_octets = front.0;
  behind_octets = rest.0;
  in_order = front.2.1;
  together = rest.1 ∙ ap (λ (xs : List ℕ). xs ++ rest.0) (front.1 ∙ ap (λ (xs : List ℕ). xs ++ front.0) empty);
  fields = front.2.2;
  rest = rest.2;
}
