-- Text that is read byte by byte.
use Rattle.std.proofs.Common.{◌≡◌, ◌∙◌, ℕ, ◌+◌, ◌-◌, ◌<◌, ◌≤◌, ◌⊎◌, inl, inr, Bool, true, false, List, [], ◌∷◌, ◌++◌, length, take, drop, get_or, set, sym, ap, subst, arith}
use Rattle.std.proofs.Math.Seq.{take-add}
use Rattle.std.proofs.lemmas.List.{take_all, take_more, take_more_set, take_rest}
use Rattle.std.specs.Prelude.{IsTrue, ◌≢◌}
use Rattle.text_words.specs.Spelling.{Spells, SpellsByte, SpellsLabel, SpellsLabels, AreLabelsWithDot}
use Rattle.text_words.specs.Spelling.Spells.{more as one_more}
use Rattle.text_words.specs.Spelling.SpellsLabels.{more as label_more}
use Rattle.text_words.specs.Spelling.AreLabelsWithDot.{no_dot}

-- one byte more, spelled by what the text has from a place on
pub Spells-more : (may_be_bare : ℕ → Bool) (text bytes : List ℕ) (place len byte : ℕ) (is_bare : Bool)
    → Spells may_be_bare (take place text) bytes → SpellsByte (take len (take (length text - place) (drop place text))) byte is_bare → (IsTrue is_bare → IsTrue (may_be_bare byte))
    → Spells may_be_bare (take (place + len) text) (bytes ++ byte ∷ [])
Spells-more may_be_bare text bytes place len byte is_bare before piece bare =
    subst (λ (t : List ℕ). Spells may_be_bare t (bytes ++ byte ∷ [])) (sym (take-add place len text))
    (one_more before (subst (λ (t : List ℕ). SpellsByte (take len t) byte is_bare) (take_rest text place) piece) bare)

-- the same into an array
pub Spells-into : (may_be_bare : ℕ → Bool) (text bytes : List ℕ) (place len n byte : ℕ) (is_bare : Bool) → n < length bytes
    → Spells may_be_bare (take place text) (take n bytes) → SpellsByte (take len (take (length text - place) (drop place text))) byte is_bare → (IsTrue is_bare → IsTrue (may_be_bare byte))
    → Spells may_be_bare (take (place + len) text) (take (n + 1) (set bytes n byte))
Spells-into may_be_bare text bytes place len n byte is_bare room before piece bare =
    subst (Spells may_be_bare (take (place + len) text)) (sym (take_more_set bytes n byte room)) (Spells-more may_be_bare text (take n bytes) place len byte is_bare before piece bare)

-- the place stays within the text
pub within : (text : List ℕ) (place len : ℕ) → len ≤ length (take (length text - place) (drop place text)) → place ≤ length text → place + len ≤ length text
within text place len fits at = omega (arith, subst (λ (t : List ℕ). len ≤ length t) (take_rest text place) fits, Rattle.std.proofs.Common.length-drop place text)

-- a byte that may stand bare, where only others do not
pub bare_or_not : (is_bare may_be : Bool) → (is_bare ≡ false) ⊎ (may_be ≡ true) → IsTrue is_bare → IsTrue may_be
bare_or_not is_bare may_be (inl not_bare) bare = cc
bare_or_not is_bare may_be (inr may) bare = may

module _ (text : List ℕ) (place used : ℕ) where
  -- what follows a label that ends here
  ends_at : place + used ≡ length text → (take place text ++ take used (drop place text)) ≡ text
  ends_at end = sym (take-add place used text) ∙ take_all (place + used) text (omega arith)

  -- the last label, with no dot behind it
  pub last_label : (labels : List (List ℕ)) (label : List ℕ) → place + used ≡ length text → SpellsLabels (take place text) labels → SpellsLabel (take used (drop place text)) label
      → AreLabelsWithDot false text (labels ++ label ∷ [])
  last_label labels label end before piece = subst (λ (t : List ℕ). AreLabelsWithDot false t (labels ++ label ∷ [])) (ends_at end) (no_dot before piece)

  -- one label more, and the dot behind it
  pub label_with_dot : (labels : List (List ℕ)) (label : List ℕ) → place + used < length text → get_or text (place + used) 0 ≡ 46 → SpellsLabels (take place text) labels
      → SpellsLabel (take used (drop place text)) label → SpellsLabels (take (place + used + 1) text) (labels ++ label ∷ [])
  label_with_dot labels label below dot before piece =
      subst (λ (t : List ℕ). SpellsLabels t (labels ++ label ∷ []))
      (sym (take_more text (place + used) 0 below ∙ ap (λ (t : List ℕ). t ++ get_or text (place + used) 0 ∷ []) (take-add place used text) ∙ ap (λ (b : ℕ). (take place text ++ take used (drop place text)) ++ b ∷ []) dot))
      (label_more before piece)

pub push-not-nil : (labels : List (List ℕ)) (label : List ℕ) → (labels ++ label ∷ []) ≢ []
push-not-nil [] label e = cc
push-not-nil (l ∷ labels) label e = cc
