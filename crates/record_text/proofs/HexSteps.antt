-- One step through groups of hexadecimal digits.
use Rattle.std.proofs.Common.{◌≡◌, ◌≢◌, ◌∙◌, ◌+◌, ◌-◌, ◌<◌, ◌≤◌, ℕ, List, [], ◌∷◌, ◌++◌, length, take, drop, get_or, sym, ap, subst, inl, inr, arith, append_assoc, length-drop}
use Rattle.std.proofs.Math.Seq.{take-add}
use Rattle.std.proofs.lemmas.List.{drop-drop, get_or-drop, take_all, take_more}
use Rattle.std.specs.Char.{digit_value}
use Rattle.text_words.specs.Spelling.{Puts}
use Rattle.record_text.specs.declared.data.hex_groups.Group.{Group}
use Rattle.record_text.specs.Groups.{IsGroup, SpellsHexGroups}
use Rattle.record_text.specs.RecordText.{HasNone}
use Rattle.record_text.proofs.HexGroups.{First, Front, Parts, closed, first_part, one as one_front, last as last_part, next as next_part}

-- the text of a group behind the text before it
up_to : (text : List ℕ) (place end : ℕ) → place ≤ end → take end text ≡ take place text ++ take (end - place) (drop place text)
up_to text place end on = ap (λ (n : ℕ). take n text) (omega (arith, on)) ∙ take-add place (end - place) text

-- words to the front of which a group was added
pub step_put : (between : ℕ) (kind : Group) (n : ℕ) (text : List ℕ) (place end : ℕ) (old before after : List ℕ) → place ≤ end → end < length text → get_or text end 0 ≡ between
    → Puts (Front between kind n (take place text)) old before → Puts (IsGroup kind (take (end - place) (drop place text))) before after → Puts (Front between kind (n + 1) (take (end + 1) text)) old after
step_put between kind n text place end old before after on below is all group =
    let piece : List ℕ = take (end - place) (drop place text) in
    let whole : take (end + 1) text ≡ take place text ++ piece ++ between ∷ [] = take_more text end 0 below ∙ ap (λ (t : List ℕ). t ++ get_or text end 0 ∷ []) (up_to text place end on) ∙ ap (λ (b : ℕ). take place text ++ piece ++ b ∷ []) is in (
      all.0 ++ group.0,
      group.1 ∙ ap (λ (xs : List ℕ). xs ++ group.0) all.1 ∙ append_assoc old all.0 group.0,
      subst (λ (t : List ℕ). Front between kind (n + 1) t (all.0 ++ group.0)) (sym whole) (one_front all.2 group.2),
    )

-- and the last group
pub end_put : (between : ℕ) (kind : Group) (n count : ℕ) (text : List ℕ) (place end : ℕ) (old before after : List ℕ) → place ≤ end → end ≡ length text → n + 1 ≡ count
    → Puts (Front between kind n (take place text)) old before → Puts (IsGroup kind (take (end - place) (drop place text))) before after → Puts (SpellsHexGroups between kind count text) old after
end_put between kind n count text place end old before after on at counted all group =
    let piece : List ℕ = take (end - place) (drop place text) in
    let whole : take place text ++ piece ≡ text = sym (up_to text place end on) ∙ take_all end text (omega (arith, at)) in (
      all.0 ++ group.0,
      group.1 ∙ ap (λ (xs : List ℕ). xs ++ group.0) all.1 ∙ append_assoc old all.0 group.0,
      subst (λ (k : ℕ). SpellsHexGroups between kind k text (all.0 ++ group.0)) counted (subst (λ (t : List ℕ). SpellsHexGroups between kind (n + 1) t (all.0 ++ group.0)) whole (closed between kind all.2 group.2)),
    )

-- what is left of the groups from a place on
abbrev pub Left : ℕ → Group → ℕ → ℕ → List ℕ → ℕ → Type 0
Left between kind count groups text place = (n : ℕ) × (groups + n ≡ count) × Parts between kind n (drop place text)

-- where a part ends
pub record PartTo (between : ℕ) (text : List ℕ) (place end : ℕ) : Type 0 where
  pub on : place ≤ end
  pub within : end ≤ length text
  pub apart : (i : ℕ) → place ≤ i → i < end → get_or text i 0 ≢ between
  pub last : end < length text → get_or text end 0 ≡ between

first_here : (between : ℕ) (kind : Group) (n : ℕ) (text : List ℕ) (place end : ℕ) → 16 ≤ digit_value between → PartTo between text place end → Parts between kind n (drop place text) → First between kind n (drop place text) (end - place)
first_here between kind n text place end no_digit part parts =
    let len : length (drop place text) ≡ length text - place = length-drop place text in
    first_part between kind no_digit parts (end - place) (omega (arith, len, part.within))
    (λ i below e. part.apart (place + i) (omega arith) (omega (arith, below, part.on)) (sym (get_or-drop place text i 0) ∙ e))
    (λ below. get_or-drop place text (end - place) 0 ∙ ap (λ (k : ℕ). get_or text k 0) (omega (arith, part.on)) ∙ part.last (omega (arith, below, len, part.on)))

some_part : (between : ℕ) (kind : Group) (n : ℕ) (text : List ℕ) → Parts between kind n text → 1 ≤ n
some_part between kind n text (last_part is) = omega arith
some_part between kind n text (next_part is others) = omega arith

pub no_group : (between : ℕ) (kind : Group) (count groups : ℕ) (text : List ℕ) (place end : ℕ) → 16 ≤ digit_value between → PartTo between text place end → HasNone (IsGroup kind (take (end - place) (drop place text)))
    → Left between kind count groups text place → ⊥
no_group between kind count groups text place end no_digit part none left =
    let here : First between kind left.0 (drop place text) (end - place) = first_here between kind left.0 text place end no_digit part left.2 in
    none here.own here.is

pub wrong_end : (between : ℕ) (kind : Group) (count groups : ℕ) (text : List ℕ) (place end : ℕ) → 16 ≤ digit_value between → PartTo between text place end → end ≡ length text → groups + 1 ≢ count → Left between kind count groups text place → ⊥
wrong_end between kind count groups text place end no_digit part at other left =
    let len : length (drop place text) ≡ length text - place = length-drop place text in
    let here : First between kind left.0 (drop place text) (end - place) = first_here between kind left.0 text place end no_digit part left.2 in
    elim here.rest [
      | inl whole ↦ other (omega (arith, whole.1, left.1))
      | inr more ↦ absurd (omega (arith, more.2, len, at))
    ]

pub too_many : (between : ℕ) (kind : Group) (count groups : ℕ) (text : List ℕ) (place end : ℕ) → 16 ≤ digit_value between → PartTo between text place end → end ≢ length text → groups + 1 ≡ count → Left between kind count groups text place → ⊥
too_many between kind count groups text place end no_digit part other counted left =
    let len : length (drop place text) ≡ length text - place = length-drop place text in
    let here : First between kind left.0 (drop place text) (end - place) = first_here between kind left.0 text place end no_digit part left.2 in
    elim here.rest [
      | inl whole ↦ other (omega (arith, whole.0, len, part.on, part.within))
      | inr more ↦ let some : 1 ≤ more.0 = some_part between kind more.0 (drop (end - place + 1) (drop place text)) more.3 in absurd (omega (arith, some, more.1, left.1, counted))
    ]

pub still_left : (between : ℕ) (kind : Group) (count groups : ℕ) (text : List ℕ) (place end : ℕ) → 16 ≤ digit_value between → PartTo between text place end → end ≢ length text → Left between kind count groups text place
    → Left between kind count (groups + 1) text (end + 1)
still_left between kind count groups text place end no_digit part other left =
    let len : length (drop place text) ≡ length text - place = length-drop place text in
    let here : First between kind left.0 (drop place text) (end - place) = first_here between kind left.0 text place end no_digit part left.2 in
    elim here.rest [
      | inl whole ↦ absurd (other (omega (arith, whole.0, len, part.on, part.within)))
      | inr more ↦ (
        more.0,
        omega (arith, more.1, left.1),
        subst (λ (t : List ℕ). Parts between kind more.0 t) (drop-drop (end - place + 1) place text ∙ ap (λ (k : ℕ). drop k text) (omega (arith, part.on))) more.3,
      )
    ]
