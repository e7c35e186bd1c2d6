-- What stands behind `$GENERATE` is told in one way.
use Rattle.std.proofs.Common.{◌≡◌, ◌≢◌, ◌∙◌, ℕ, ◌+◌, ◌*◌, ◌^◌, ◌<◌, List, [], ◌∷◌, Option, Some, Result, Ok, Err, All, length, sym, ap, subst, arith}
use Rattle.std.specs.Prelude.{IfErr, IfOk}
use Rattle.std.proofs.lemmas.List.Elements.{All-push}
use Rattle.wire_messages.specs.declared.rr.rdata.RData.{RData}
use Rattle.wire_messages.specs.declared.rr.record.Record.{Record}
use Rattle.text_words.specs.declared.words.TextKind.{TextKind}
use Rattle.text_words.specs.declared.words.TextKind.TheVariants.{ZoneFile}
use Rattle.text_words.specs.declared.words.Word.{Word}
use Rattle.text_words.specs.Words.{AreSameWords, AreWordsTo, HasNoWords, StandOnce, WordsLeft}
use Rattle.text_words.specs.declared.error.TextError.{TextError}
use Rattle.text_words.specs.declared.error.TextError.TheVariants as text
use Rattle.record_text.specs.RecordText.{HasNone}
use Rattle.text_data.specs.ServiceText.{ParametersOfWords}
use Rattle.record_text.proofs.SameWords.{same_spelled}
use Rattle.zone_text.specs.declared.zone_file.entry.Before.{Before}
use Rattle.zone_text.specs.declared.zone_file.fault.EntryError.{EntryError}
use Rattle.zone_text.specs.declared.zone_file.fault.EntryError.TheVariants.{At, Memory}
use Rattle.zone_text.specs.declared.zone_file.number_range.NumberRange.{NumberRange}
use Rattle.zone_text.specs.Numbered.{IsRange, Reaches, number_below, part_before, part_behind, step_of}
use Rattle.zone_text.specs.ZoneFaults.{IsMovedInto, error_of}
use Rattle.zone_text.specs.ZoneFiles.{AreEach, AreNoOctets, HasWordsOf, IsFrontOf, IsGenerated, IsNumberedRecord, IsRangeWord, IsTyped, IsZoneRecord, IsZoneType, template}
use Rattle.zone_text.specs.ZoneFiles.AreEach.{none as no_each, more as one_each}
use Rattle.zone_text.proofs.BehindOwner.{IsOnce}

some_inj : (a b : ℕ) → ◌≡◌ {A = Option ℕ} (Some a) (Some b) → a ≡ b
some_inj a b e = cc

some_text : (a b : List ℕ) → ◌≡◌ {A = Option (List ℕ)} (Some a) (Some b) → a ≡ b
some_text a b e = cc

pub range_once : (text : List ℕ) (a b : NumberRange) → IsRange text a → IsRange text b → a ≡ b
range_once text a b is other =
    let behind : is.behind ≡ other.behind = some_text is.behind other.behind (sym is.parted ∙ other.parted) in
    let first : a.first ≡ b.first = some_inj a.first b.first (sym is.first ∙ other.first) in
    let last : a.last ≡ b.last = some_inj a.last b.last (sym is.last ∙ ap (λ (t : List ℕ). number_below (2 ^ 31) (part_before 47 t)) behind ∙ other.last) in
    let step : a.step ≡ b.step = some_inj a.step b.step (sym is.step ∙ ap (λ (t : List ℕ). step_of (part_behind 47 t)) behind ∙ other.step) in
    λ i. record { first = first i; last = last i; step = step i }

-- the records of the numbers of a range
abbrev pub Each : Before → Word → Option ℕ → ℕ → Word → NumberRange → ℕ → List (Record RData) → Type 0
Each before lhs own type rhs range count records = AreEach (λ k. IsNumberedRecord before (template lhs own type rhs) (range.first + k * range.step)) count records

heads : (a b c d : Word) (r s : List Word) → (a ∷ b ∷ r) ≡ (c ∷ d ∷ s) → (a ≡ c) × (b ≡ d) × (r ≡ s)
heads a b c d r s e = (cc, cc, cc)

only : (a b : Word) → (a ∷ []) ≡ (b ∷ []) → a ≡ b
only a b e = cc

module _ (before : Before) (behind : List Word) (range lhs : Word) (fields : List Word) (parts : behind ≡ range ∷ lhs ∷ fields) where
  same : (records : List (Record RData)) → (is : IsGenerated before behind records) → (is.range_word ≡ range) × (is.lhs ≡ lhs) × (is.fields ≡ fields)
  same records is = heads is.range_word is.lhs range lhs is.fields fields (sym is.in_order ∙ parts)

  front_in : (records : List (Record RData)) → (is : IsGenerated before behind records) → IsFrontOf fields is.own is.type (is.rhs ∷ [])
  front_in records is = subst (λ (ws : List Word). IsFrontOf ws is.own is.type (is.rhs ∷ [])) (same records is).2 is.front

  pub no_front : ((own : Option ℕ) (number : ℕ) (more : List Word) → IsFrontOf fields own number more → IsZoneType number → ⊥) → HasNone (IsGenerated before behind)
  no_front none records is = none is.own is.type (is.rhs ∷ []) (front_in records is) is.stored

  pub no_rhs : (own : Option ℕ) (type : ℕ) (more : List Word) → IsOnce fields own type more → ((word : Word) → more ≡ word ∷ [] → ⊥) → HasNone (IsGenerated before behind)
  no_rhs own type more once none records is = none is.rhs (sym (once is.own is.type (is.rhs ∷ []) (front_in records is)).2)

  pub no_range : HasNone (IsRangeWord range) → HasNone (IsGenerated before behind)
  no_range none records is = none is.range (subst (λ (w : Word). IsRangeWord w is.range) (same records is).0 is.ranged)

  pub no_records : (own : Option ℕ) (type : ℕ) (more : List Word) (rhs : Word) (numbers : NumberRange) → IsOnce fields own type more → more ≡ rhs ∷ [] → IsRangeWord range numbers
      → ((count : ℕ) → Reaches numbers count → HasNone (Each before lhs own type rhs numbers count)) → HasNone (IsGenerated before behind)
  no_records own type more rhs numbers once last ranged none records is =
      let at = once is.own is.type (is.rhs ∷ []) (front_in records is) in
      let rhs_is : is.rhs ≡ rhs = only is.rhs rhs (at.2 ∙ last) in
      let ranged_too : IsRangeWord range is.range = subst (λ (w : Word). IsRangeWord w is.range) (same records is).0 is.ranged in
      let range_is : is.range ≡ numbers = range_once range.bytes.now is.range numbers ranged_too.is ranged.is in
      none is.count (subst (λ (r : NumberRange). Reaches r is.count) range_is is.reached) records
      (subst (λ (r : NumberRange). Each before lhs own type rhs r is.count records) range_is (subst (λ (w : Word). Each before lhs own type w is.range is.count records) rhs_is
      (subst (λ (n : ℕ). Each before lhs own n is.rhs is.range is.count records) at.1 (subst (λ (o : Option ℕ). Each before lhs o is.type is.rhs is.range is.count records) at.0
      (subst (λ (w : Word). Each before w is.own is.type is.rhs is.range is.count records) (same records is).1 is.each)))))

  pub refused : (own : Option ℕ) (type : ℕ) (more : List Word) (rhs : Word) (numbers : NumberRange) (r : Result (List (Record RData)) EntryError) → IsOnce fields own type more → more ≡ rhs ∷ [] → IsRangeWord range numbers
      → IfErr r (λ e. e ≢ Memory → (count : ℕ) → Reaches numbers count → HasNone (Each before lhs own type rhs numbers count)) → IfErr r (λ e. e ≢ Memory → HasNone (IsGenerated before behind))
  refused own type more rhs numbers (Ok records) once last ranged h = h
  refused own type more rhs numbers (Err e) once last ranged h = λ other. no_records own type more rhs numbers once last ranged (h other)

  pub generated : (own : Option ℕ) (type : ℕ) (more : List Word) (rhs : Word) (numbers : NumberRange) (r : Result (List (Record RData)) EntryError) → IsFrontOf fields own type more → more ≡ rhs ∷ [] → IsZoneType type → IsRangeWord range numbers
      → IfOk r (λ records. (count : ℕ) × Reaches numbers count × Each before lhs own type rhs numbers count records) → IfOk r (IsGenerated before behind)
  generated own type more rhs numbers (Ok records) front last stored ranged h = record {
    range_word = range;
    lhs = lhs;
    rhs = rhs;
    fields = fields;
    in_order = parts;
    range = numbers;
    ranged = ranged;
    own = own;
    type = type;
    front = subst (IsFrontOf fields own type) last front;
    stored = stored;
    count = h.0;
    reached = h.1;
    each = h.2;
  }
  generated own type more rhs numbers (Err e) front last stored ranged h = h

pub no_parts : (before : Before) (behind : List Word) → ((range owner : Word) (fields : List Word) → behind ≡ range ∷ owner ∷ fields → ⊥) → HasNone (IsGenerated before behind)
no_parts before behind none records is = none is.range_word is.lhs is.fields is.in_order

-- all records of a directive are such as a zone has
pub all_kept : (before : Before) (lhs : Word) (own : Option ℕ) (type : ℕ) (rhs : Word) (range : NumberRange) (count : ℕ) (records : List (Record RData)) → Each before lhs own type rhs range count records → All IsZoneRecord records
all_kept before lhs own type rhs range count records no_each = λ k d below. absurd (omega arith)
all_kept before lhs own type rhs range count records (one_each {count = c} {records = front} {r = r} h is) = All-push IsZoneRecord front r (all_kept before lhs own type rhs range c front h) is.is.kept

-- the same words are the same data
no_octets : (words others : List Word) → AreSameWords words others → AreNoOctets others → AreNoOctets words
no_octets [] [] s is = is
no_octets [] (o ∷ others) s is = absurd s
no_octets (a ∷ words) [] s is = absurd s
no_octets (a ∷ []) (o ∷ []) s is = is
no_octets (a ∷ []) (o ∷ p ∷ others) s is = absurd s.1
no_octets (a ∷ b ∷ words) (o ∷ []) s is = absurd s.1
no_octets (a ∷ b ∷ []) (o ∷ p ∷ []) s is = (s.0.quoted ∙ is.0, s.0.bytes ∙ is.1)
no_octets (a ∷ b ∷ c ∷ words) (o ∷ p ∷ []) s is = absurd s.1.1
no_octets (a ∷ b ∷ words) (o ∷ p ∷ q ∷ others) s is = absurd is

pub same_typed : ParametersOfWords → (before : Before) (own : Option ℕ) (type : ℕ) (words others : List Word) (r : Record RData) → AreSameWords words others → IsTyped before own type words r → IsTyped before own type others r
same_typed same before own type words others r s is = record {
  typed = is.typed;
  in_force = is.in_force;
  spelled = same_spelled same (Some before.origin) type words r.rdata is.spelled others s;
  some = λ has none. is.some has (no_octets words others s none);
  kept = is.kept;
}

-- a fault that is moved is for want of memory where it was before
pub not_moved : (start end : ℕ) (e moved : EntryError) → IsMovedInto start end e moved → moved ≢ Memory → e ≢ Memory
not_moved start end (At place fault) moved m other = λ e. cc
not_moved start end Memory (At place fault) m other = absurd m
not_moved start end Memory Memory m other = λ e. other e

pub not_told : (start end : ℕ) (e : TextError) (given moved : EntryError) → given ≡ error_of e → IsMovedInto start end given moved → moved ≢ Memory → e ≢ text.Memory
not_told start end (text.At column what) given moved is m other = λ e. cc
not_told start end text.Memory given moved is m other = λ e. not_moved start end given moved m other is

-- the words of an entry, and that it has none
module _ (w : WordsLeft) (bytes : List ℕ) (at : ℕ) (a : w.text ≡ bytes) (b : w.place ≡ at) (k : w.kind ≡ ZoneFile) (d : w.depth ≡ 0) where
  pub no_words_here : HasNoWords w.kind w.text w.place w.depth → HasNoWords ZoneFile bytes at 0
  no_words_here none = subst (λ (t : List ℕ). HasNoWords ZoneFile t at 0) a (subst (λ (p : ℕ). HasNoWords ZoneFile w.text p 0) b (subst (λ (x : TextKind). HasNoWords x w.text w.place 0) k (subst (λ (n : ℕ). HasNoWords w.kind w.text w.place n) d none)))

  pub words_here : (words : List Word) (end : ℕ) → AreWordsTo w.kind w.text w.place w.depth words end → AreWordsTo ZoneFile bytes at 0 words end
  words_here words end h =
      subst (λ (t : List ℕ). AreWordsTo ZoneFile t at 0 words end) a (subst (λ (p : ℕ). AreWordsTo ZoneFile w.text p 0 words end) b
      (subst (λ (x : TextKind). AreWordsTo x w.text w.place 0 words end) k (subst (λ (n : ℕ). AreWordsTo w.kind w.text w.place n words end) d h)))

pub short_end : StandOnce → (bytes : List ℕ) (words others : List Word) (end : ℕ) → AreWordsTo ZoneFile bytes 0 0 words end → end < length bytes → HasWordsOf bytes others → ⊥
short_end once bytes words others end stand short has = omega (arith, short, (once ZoneFile bytes 0 0 end (length bytes) words others stand has).1)

pub same_words : StandOnce → (bytes text : List ℕ) (words others : List Word) → text ≡ bytes → HasWordsOf text words → HasWordsOf bytes others → AreSameWords words others
same_words once bytes text words others same has stand =
    let here : HasWordsOf bytes words = subst (λ (t : List ℕ). HasWordsOf t words) same has in
    (once ZoneFile bytes 0 0 (length bytes) (length bytes) words others here stand).0
