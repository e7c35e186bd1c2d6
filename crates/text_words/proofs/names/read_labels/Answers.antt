use Rattle.std.proofs.Common.{◌≡◌, ◌∙◌, ◌+◌, ◌-◌, ◌<◌, ◌≤◌, ℕ, List, [], ◌∷◌, ◌++◌, length, take, drop, get_or, sym, subst, arith, length-drop}
use Rattle.std.proofs.lemmas.List.{get_or-drop, take_rest, take_all}
use Rattle.text_words.specs.Spelling.{Spells, SpellsLabel, SpellsLabels, bare_in_label}
use Rattle.text_words.specs.Spelling.SpellsLabels.{nothing}
use Rattle.text_words.specs.Spelling.AreLabelsWithDot.{dot_last}
use Rattle.std.proofs.lemmas.Result.{err_from_is_err_and}
use Rattle.text_words.proofs.NoLabels.{all_left, empty_label, next_label, no_label_left, one_label_left, too_long_name}
use Rattle.text_words.proofs.SpellingSteps.{last_label, label_with_dot, push-not-nil, within}
use Rattle.text_words.proofs.names.read_labels.Goals as goal

label_of : (text label : List ℕ) (place used len : ℕ) → (len ≡ 0 → ⊥) → len ≤ 63 → length (take len label) ≡ len → Spells bare_in_label (take used (take (length text - place) (drop place text))) (take len label)
    → SpellsLabel (take used (drop place text)) (take len label)
label_of text label place used len some short sized spelled = record {
  spelled = subst (λ (t : List ℕ). Spells bare_in_label (take used t) (take len label)) (take_rest text place) spelled;
  sized = (omega (arith, sized, some), omega (arith, sized));
}

dot_at : (text : List ℕ) (place used : ℕ) → place + used < length text → (used < length (take (length text - place) (drop place text)) → get_or (take (length text - place) (drop place text)) used 0 ≡ 46)
    → get_or text (place + used) 0 ≡ 46
dot_at text place used below dot =
    let d : used < length (drop place text) → get_or (drop place text) used 0 ≡ 46 = subst (λ (t : List ℕ). used < length t → get_or t used 0 ≡ 46) (take_rest text place) dot in
    sym (get_or-drop place text used 0) ∙ d (omega (arith, length-drop place text))

pub labels-init : goal.labels-init
labels-init c = record {
  within = omega arith;
  spelled = subst (SpellsLabels []) (sym c.requires) nothing;
  left = all_left c.args.word.now.bytes.now c.args.labels.now c.requires;
}

pub returns-then-end-text-clause-labels : goal.returns-then-end-text-clause-labels
returns-then-end-text-clause-labels c =
    let text : List ℕ = c.args.word.now.bytes.now in
    let label : List ℕ = take c.in_ok-len.len c.read_label.new.label in
    let e = c.in_ok-len.ensures in
    rw c.push.ensures (last_label text c.labels.place c.in_ok-len.used c.labels.labels label c.if-end-text.true c.labels.invariant.spelled
    (label_of text c.read_label.new.label c.labels.place c.in_ok-len.used c.in_ok-len.len c.if-len-eq0.false e.within.0 e.sized e.spelled))

pub returns-then-place-text-clause-labels : goal.returns-then-place-text-clause-labels
returns-then-place-text-clause-labels c =
    let text : List ℕ = c.args.word.now.bytes.now in
    let place : ℕ = c.labels.place in
    let used : ℕ = c.in_ok-len.used in
    let label : List ℕ = take c.in_ok-len.len c.read_label.new.label in
    let e = c.in_ok-len.ensures in
    let below : place + used < length text = omega (arith, c.if-place-text.true) in
    let piece : SpellsLabel (take used (drop place text)) label = label_of text c.read_label.new.label place used c.in_ok-len.len c.if-len-eq0.false e.within.0 e.sized e.spelled in
    let all : SpellsLabels (take (place + used + 1) text) (c.labels.labels ++ label ∷ []) = label_with_dot text place used c.labels.labels label below (dot_at text place used below e.dot) c.labels.invariant.spelled piece in
    rw c.push.ensures (dot_last (subst (λ (t : List ℕ). SpellsLabels t (c.labels.labels ++ label ∷ [])) (take_all (place + used + 1) text (omega (arith, c.if-place-text.true))) all) (push-not-nil c.labels.labels label))

pub labels-preserved : goal.labels-preserved
labels-preserved c =
    let text : List ℕ = c.args.word.now.bytes.now in
    let place : ℕ = c.labels.place in
    let used : ℕ = c.in_ok-len.used in
    let label : List ℕ = take c.in_ok-len.len c.read_label.new.label in
    let e = c.in_ok-len.ensures in
    let inside : place + used ≤ length text = within text place used e.within.1 c.labels.invariant.within in
    let below : place + used < length text = omega (arith, inside, c.if-end-text.false) in
    let piece : SpellsLabel (take used (drop place text)) label = label_of text c.read_label.new.label place used c.in_ok-len.len c.if-len-eq0.false e.within.0 e.sized e.spelled in
    record {
      within = omega (arith, below);
      spelled = rw c.push.ensures (label_with_dot text place used c.labels.labels label below (dot_at text place used below e.dot) c.labels.invariant.spelled piece);
      left = λ dot all h.
          let left = c.labels.invariant.left dot all h in
          one_label_left text label place used c.labels.labels c.push.new.self dot all (omega (arith, below, c.if-place-text.false)) c.push.ensures left (next_label text label place used c.labels.labels dot all e.within.1 e.spelled e.dot left);
    }

pub returns-in_err-len-clause-refused : goal.returns-in_err-len-clause-refused
returns-in_err-len-clause-refused c =
    let p = err_from_is_err_and c.from_residual.result c.from_residual.ensures.1 in
    rw p.1 (no_label_left c.args.word.now.bytes.now c.labels.place c.labels.labels c.labels.invariant.left c.in_err-len.ensures.refused)

pub returns-then-len-eq0-clause-refused : goal.returns-then-len-eq0-clause-refused
returns-then-len-eq0-clause-refused c = λ dot all h short.
    let text : List ℕ = c.args.word.now.bytes.now in
    let label : List ℕ = take c.in_ok-len.len c.read_label.new.label in
    let e = c.in_ok-len.ensures in
    let left = c.labels.invariant.left dot all h in
    empty_label (drop c.labels.place text) c.in_ok-len.used dot label left.behind (omega (arith, e.sized, c.if-len-eq0.true)) (next_label text label c.labels.place c.in_ok-len.used c.labels.labels dot all e.within.1 e.spelled e.dot left)

pub returns-then-wire_len-len-gt-MAX_LABELS_LEN-clause-refused : goal.returns-then-wire_len-len-gt-MAX_LABELS_LEN-clause-refused
returns-then-wire_len-len-gt-MAX_LABELS_LEN-clause-refused c = λ dot all h short.
    let text : List ℕ = c.args.word.now.bytes.now in
    let label : List ℕ = take c.in_ok-len.len c.read_label.new.label in
    let e = c.in_ok-len.ensures in
    let left = c.labels.invariant.left dot all h in
    too_long_name (drop c.labels.place text) c.in_ok-len.used dot label c.labels.labels left.behind all (omega (arith, e.sized, c.wire_len.ensures.size, c.if-wire_len-len-gt-MAX_LABELS_LEN.true)) left.together
    (next_label text label c.labels.place c.in_ok-len.used c.labels.labels dot all e.within.1 e.spelled e.dot left) short
