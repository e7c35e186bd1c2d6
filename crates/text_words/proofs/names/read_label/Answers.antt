use Rattle.std.proofs.Common.{◌≡◌, ◌≢◌, ◌∙◌, ◌⊎◌, inl, inr, ℕ, ◌+◌, ◌-◌, Bool, true, false, List, [], ◌∷◌, ◌++◌, length, take, drop, sym, subst, arith, length-append, length-set}
use Rattle.std.proofs.lemmas.List.{take_all}
use Rattle.text_words.specs.Spelling.{Spells, SpellsByte, bare_in_label}
use Rattle.text_words.specs.Spelling.Spells.{nothing}
use Rattle.text_words.proofs.NoLabels.{no_label_at, stuck_at_byte, stuck_at_none, too_long_label}
use Rattle.text_words.proofs.SpellingSteps.{Spells-into, Spells-more, bare_or_not, within}
use Rattle.text_words.proofs.names.read_label.Goals.{else-spelled-via-then-spelled+else-spelled-eq46, else-spelled-via-else-spelled, else-spelled-2-via-then-spelled-2+else-not-is_bare_in_label, else-spelled-2-via-else-spelled-2}
use Rattle.text_words.proofs.names.read_label.Goals as goal

pub bytes-init : goal.bytes-init
bytes-init c = record {
  short = omega arith;
  within = omega arith;
  sized = c.told-label;
  spelled = nothing;
}

pub bytes-preserved : goal.bytes-preserved
bytes-preserved c =
    let may : (c.in-Some.spelled.is_bare ≡ false) ⊎ (bare_in_label c.in-Some.spelled.byte ≡ true) = elim c.else-spelled-2.branch [
      | else-spelled-2-via-then-spelled-2+else-not-is_bare_in_label w ↦ inr (sym w.is_bare_in_label.ensures ∙ w.if-not-is_bare_in_label.false)
      | else-spelled-2-via-else-spelled-2 w ↦ inl w.if-spelled-2.false
    ] in
    record {
      short = omega arith;
      within = within c.args.text.now c.bytes.place c.in-Some.spelled.len c.in-Some.ensures.within c.bytes.invariant.within;
      sized = length-set c.bytes.label c.bytes.len c.in-Some.spelled.byte ∙ c.bytes.invariant.sized;
      spelled = Spells-into bare_in_label c.args.text.now c.bytes.label c.bytes.place c.in-Some.spelled.len c.bytes.len c.in-Some.spelled.byte c.in-Some.spelled.is_bare (omega arith) c.bytes.invariant.spelled c.in-Some.ensures.spelled (bare_or_not c.in-Some.spelled.is_bare (bare_in_label c.in-Some.spelled.byte) may);
    }

pub returns-in_default-clause-refused : goal.returns-in_default-clause-refused
returns-in_default-clause-refused c =
    no_label_at c.args.text.now (take c.bytes.len c.bytes.label) c.bytes.place (stuck_at_none c.args.text.now c.bytes.place c.bytes-test.true c.in_default.ensures.none) c.bytes.invariant.spelled

not_dot : (is_bare : Bool) (byte : ℕ) → ((is_bare ≡ false) ⊎ (byte ≢ 46)) → is_bare ≡ true → byte ≢ 46
not_dot is_bare byte (inl not_bare) bare = absurd (cc)
not_dot is_bare byte (inr other) bare = other

pub returns-then-not-is_bare_in_label-clause-refused : goal.returns-then-not-is_bare_in_label-clause-refused
returns-then-not-is_bare_in_label-clause-refused c =
    let text : List ℕ = c.args.text.now in
    let byte : ℕ = c.in-Some.spelled.byte in
    let other : (c.in-Some.spelled.is_bare ≡ false) ⊎ (byte ≢ 46) = elim c.else-spelled.branch [
      | else-spelled-via-then-spelled+else-spelled-eq46 w ↦ inr w.if-spelled-eq46.false
      | else-spelled-via-else-spelled w ↦ inl w.if-spelled.false
    ] in
    let piece : List ℕ = take c.in-Some.spelled.len (take (length text - c.bytes.place) (drop c.bytes.place text)) in
    let one : SpellsByte piece byte true = subst (λ (b : Bool). SpellsByte piece byte b) c.if-spelled-2.true c.in-Some.ensures.spelled in
    no_label_at text (take c.bytes.len c.bytes.label) c.bytes.place
    (stuck_at_byte text c.bytes.place c.in-Some.spelled.len byte one c.bytes-test.true (sym c.if-not-is_bare_in_label.ensures) (not_dot c.in-Some.spelled.is_bare byte other c.if-spelled-2.true))
    c.bytes.invariant.spelled

pub returns-then-len-eq-MAX_LABEL_LEN-clause-refused : goal.returns-then-len-eq-MAX_LABEL_LEN-clause-refused
returns-then-len-eq-MAX_LABEL_LEN-clause-refused c =
    let may : (c.in-Some.spelled.is_bare ≡ false) ⊎ (bare_in_label c.in-Some.spelled.byte ≡ true) = elim c.else-spelled-2.branch [
      | else-spelled-2-via-then-spelled-2+else-not-is_bare_in_label w ↦ inr (sym w.is_bare_in_label.ensures ∙ w.if-not-is_bare_in_label.false)
      | else-spelled-2-via-else-spelled-2 w ↦ inl w.if-spelled-2.false
    ] in
    let read : List ℕ = take c.bytes.len c.bytes.label in
    let all : Spells bare_in_label (take (c.bytes.place + c.in-Some.spelled.len) c.args.text.now) (read ++ c.in-Some.spelled.byte ∷ []) =
    Spells-more bare_in_label c.args.text.now read c.bytes.place c.in-Some.spelled.len c.in-Some.spelled.byte c.in-Some.spelled.is_bare c.bytes.invariant.spelled c.in-Some.ensures.spelled
    (bare_or_not c.in-Some.spelled.is_bare (bare_in_label c.in-Some.spelled.byte) may) in
    let full : length read ≡ 63 = rw (c.if-len-eq-MAX_LABEL_LEN.true, take_all 63 c.bytes.label (omega (arith, c.bytes.invariant.sized))) c.bytes.invariant.sized in
    too_long_label c.args.text.now (read ++ c.in-Some.spelled.byte ∷ []) (c.bytes.place + c.in-Some.spelled.len) (omega (arith, full, length-append read (c.in-Some.spelled.byte ∷ []))) all
