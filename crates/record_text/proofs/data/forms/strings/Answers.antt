use Rattle.std.proofs.Common.{◌≡◌, ◌∙◌, ◌+◌, ◌<◌, ℕ, List, [], ◌∷◌, ◌++◌, length, take, get_or, sym, ap, subst, arith, append-nil}
use Rattle.std.specs.List.{AllByRecursion, flat_map}
use Rattle.std.proofs.lemmas.List.{take_all, take_more}
use Rattle.std.proofs.lemmas.Result.{err_from_is_err_and}
use Rattle.std.proofs.lemmas.List.Concat.{flat_map-append}
use Rattle.wire_messages.specs.rr.RecordData.{character_string}
use Rattle.text_words.specs.declared.words.Word.{Word}
use Rattle.text_words.specs.Spelling.{IsString}
use Rattle.record_text.specs.RecordText.{AreStrings}
use Rattle.record_text.specs.RecordText.AreStrings.{none, more}
use Rattle.record_text.proofs.NoRow.{no_string_at}
use Rattle.record_text.proofs.data.forms.strings.Goals as goal

more_strings : (words : List Word) (i : ℕ) (d : Word) (strings after : List (List ℕ)) (string : List ℕ) → i < length words → after ≡ strings ++ string ∷ [] → AreStrings (take i words) (flat_map character_string strings)
    → IsString (get_or words i d) (character_string string) → AreStrings (take (i + 1) words) (flat_map character_string after)
more_strings words i d strings after string below e all one =
    let octets : flat_map character_string after ≡ flat_map character_string strings ++ character_string string =
    ap (flat_map character_string) e ∙ flat_map-append character_string strings (string ∷ []) ∙ ap (λ (t : List ℕ). flat_map character_string strings ++ t) (append-nil (character_string string)) in
    subst (λ (ws : List Word). AreStrings ws (flat_map character_string after)) (sym (take_more words i d below)) (subst (AreStrings (take i words ++ get_or words i d ∷ [])) (sym octets) (more all one))

one_short : (texts : List (List ℕ)) (text : List ℕ) → AllByRecursion (λ text. length text < 256) texts → length text < 256 → AllByRecursion (λ text. length text < 256) (texts ++ text ∷ [])
one_short [] text all short = (short, tt)
one_short (t ∷ texts) text all short = (all.0, one_short texts text all.1 short)

pub loop-word-init : goal.loop-word-init
loop-word-init c = (rw c.new-strings.ensures none, rw c.new-strings.ensures tt)

pub loop-word-preserved : goal.loop-word-preserved
loop-word-preserved c = (
  more_strings c.args.words.now c.loop-word.word-index _ c.loop-word.strings c.push.new.self c.in_ok-string.field-0 c.loop-word-test.true c.in_ok-push.ensures.ok c.loop-word.invariant.0 c.in_ok-string.ensures.spelled,
  subst (AllByRecursion (λ text. length text < 256)) (sym c.in_ok-push.ensures.ok) (one_short c.loop-word.strings c.in_ok-string.field-0 c.loop-word.invariant.1 c.in_ok-string.ensures.short),
)

pub returns-clause-spelled : goal.returns-clause-spelled
returns-clause-spelled c = subst (λ (ws : List Word). AreStrings ws (flat_map character_string c.loop-word.strings)) (take_all c.loop-word.word-index c.args.words.now (omega (arith, c.loop-word-test.false))) c.loop-word.invariant.0

pub returns-clause-short : goal.returns-clause-short
returns-clause-short c = c.loop-word.invariant.1

pub returns-in_err-string-clause-refused : goal.returns-in_err-string-clause-refused
returns-in_err-string-clause-refused c =
    let p = err_from_is_err_and c.from_residual.result c.from_residual.ensures.1 in
    rw (p.1, p.2) (λ other. no_string_at c.args.words.now c.loop-word.word-index _ c.loop-word-test.true (c.in_err-string.ensures.refused other))
