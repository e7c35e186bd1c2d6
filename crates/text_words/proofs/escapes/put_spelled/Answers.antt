use Rattle.std.proofs.Common.{◌∙◌, ℕ, List, [], ◌∷◌, ◌++◌, sym, ap, refl, arith, append_assoc, append-nil}
use Rattle.text_words.specs.Spelling.{any_byte}
use Rattle.text_words.specs.Spelling.Spells.{nothing}
use Rattle.text_words.proofs.NoBytes.{none_left, one_left}
use Rattle.text_words.proofs.SpelledOnce.{in_order}
use Rattle.text_words.proofs.SpellingSteps.{Spells-more, within}
use Rattle.text_words.proofs.escapes.put_spelled.Goals as goal

pub bytes-init : goal.bytes-init
bytes-init c = record {
  within = omega arith;
  spelled = ([], sym (append-nil c.args.bytes.now.items), nothing);
  all = λ bytes h. (bytes, in_order any_byte h);
}

pub bytes-preserved : goal.bytes-preserved
bytes-preserved c =
    let before : List ℕ = c.args.bytes.now.items in
    let read : List ℕ = c.bytes.invariant.spelled.0 in
    let byte : ℕ = c.in-Some.spelled.byte in
    record {
      within = within c.args.word.now.bytes.now c.bytes.place c.in-Some.spelled.len c.in-Some.ensures.within c.bytes.invariant.within;
      spelled = (
        read ++ byte ∷ [],
        c.in_ok-push.ensures.items ∙ ap (λ (xs : List ℕ). xs ++ byte ∷ []) c.bytes.invariant.spelled.1 ∙ append_assoc before read (byte ∷ []),
        Spells-more any_byte c.args.word.now.bytes.now read c.bytes.place c.in-Some.spelled.len byte c.in-Some.spelled.is_bare c.bytes.invariant.spelled.2 c.in-Some.ensures.spelled (λ _. refl),
      );
      all = λ bytes h.
          let left = c.bytes.invariant.all bytes h in
          let rest = one_left any_byte c.args.word.now.bytes.now left.0 c.bytes.place c.in-Some.spelled.len byte c.in-Some.spelled.is_bare c.in-Some.ensures.spelled left.1 in
          (rest.0, rest.1);
    }

pub returns-in_default-clause-refused : goal.returns-in_default-clause-refused
returns-in_default-clause-refused c = λ wanting bytes h.
    let left = c.bytes.invariant.all bytes h in
    none_left any_byte c.args.word.now.bytes.now left.0 c.bytes.place c.in_default.ensures.none c.bytes-test.true left.1
