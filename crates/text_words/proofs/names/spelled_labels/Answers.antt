use Rattle.std.proofs.Common.{◌≡◌, ◌∙◌, ◌≤◌, ℕ, Bool, List, [], ◌∷◌, Result, Ok, Err, sym, refl}
use Rattle.std.specs.Prelude.{IfOk, OnErr}
use Rattle.text_words.specs.declared.error.TextError.{TextError}
use Rattle.text_words.specs.Spelling.{AreLabelsWithDot, AreNameLabels, HasNoLabels, HasNoNameLabels}
use Rattle.text_words.specs.declared.words.Word.{Word}
use Rattle.wire_names.specs.rr.domain.DomainName.{name_len}
use Rattle.text_words.specs.Spelling.AreNameLabels.{root, origin, labels}
use Rattle.text_words.proofs.SameBytes.{same, different}
use Rattle.text_words.proofs.names.spelled_labels.Goals as goal

named : (text : List ℕ) (all : List (List ℕ)) (r : Result Bool TextError) → (text ≡ 46 ∷ [] → ⊥) → (text ≡ 64 ∷ [] → ⊥) → IfOk r (λ dot. AreLabelsWithDot dot text all) → IfOk r (λ is_fqdn. AreNameLabels is_fqdn text all)
named text all (Ok dot) not_root not_origin h = labels not_root not_origin h
named text all (Err e) not_root not_origin h = h

pub returns-then-eq-clause-spelled : goal.returns-then-eq-clause-spelled
returns-then-eq-clause-spelled c = rw (c.requires, same c.args.word.now.bytes.now c.as_slice.result.now c.if-eq.ensures, c.as_slice.ensures) root

pub returns-then-eq-2-clause-spelled : goal.returns-then-eq-2-clause-spelled
returns-then-eq-2-clause-spelled c = rw (c.requires, same c.args.word.now.bytes.now c.as_slice-2.result.now c.if-eq-2.ensures, c.as_slice-2.ensures) origin

pub returns-clause-spelled : goal.returns-clause-spelled
returns-clause-spelled c = named c.args.word.now.bytes.now c.read_labels.new.labels c.read_labels.result
    (λ e. different c.args.word.now.bytes.now c.as_slice.result.now c.if-eq.ensures (e ∙ sym c.as_slice.ensures))
    (λ e. different c.args.word.now.bytes.now c.as_slice-2.result.now c.if-eq-2.ensures (e ∙ sym c.as_slice-2.ensures))
    c.read_labels.ensures.labels

no_labels : (text : List ℕ) (dot : Bool) (ls : List (List ℕ)) → (text ≡ 46 ∷ [] → ⊥) → (text ≡ 64 ∷ [] → ⊥) → HasNoLabels text → AreNameLabels dot text ls → name_len ls ≤ 255 → ⊥
no_labels text dot ls not_root not_origin none root short = not_root refl
no_labels text dot ls not_root not_origin none origin short = not_origin refl
no_labels text dot ls not_root not_origin none (labels other another are) short = none dot ls are short

refused : (word : Word) (r : Result Bool TextError) → (word.bytes.now ≡ 46 ∷ [] → ⊥) → (word.bytes.now ≡ 64 ∷ [] → ⊥) → OnErr r (HasNoLabels word.bytes.now) → OnErr r (HasNoNameLabels word)
refused word (Ok dot) not_root not_origin h = h
refused word (Err e) not_root not_origin h = λ dot ls unquoted are short. no_labels word.bytes.now dot ls not_root not_origin h are short

pub returns-clause-refused : goal.returns-clause-refused
returns-clause-refused c = refused c.args.word.now c.read_labels.result
    (λ e. different c.args.word.now.bytes.now c.as_slice.result.now c.if-eq.ensures (e ∙ sym c.as_slice.ensures))
    (λ e. different c.args.word.now.bytes.now c.as_slice-2.result.now c.if-eq-2.ensures (e ∙ sym c.as_slice-2.ensures))
    c.read_labels.ensures.refused
