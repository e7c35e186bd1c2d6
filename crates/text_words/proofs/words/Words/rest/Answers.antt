use Rattle.std.proofs.Common.{◌≡◌, ◌∙◌, ℕ, List, [], ◌∷◌, ◌++◌, Option, Some, subst, refl, arith}
use Rattle.text_words.specs.declared.words.TextKind.{TextKind}
use Rattle.text_words.specs.declared.words.Word.{Word}
use Rattle.std.proofs.lemmas.Result.{err_from_is_err_and}
use Rattle.text_words.specs.Words.{AreWords, AreWordsTo, HasNoNext, IsNext, IsWordFrom, words_left}
use Rattle.text_words.proofs.OneReading.{behind_word, no_words}
use Rattle.text_words.specs.Words.AreWords.{none, more}
use Rattle.text_words.proofs.words.Words.rest.Goals as goal

one_more : (k kind : TextKind) (t text : List ℕ) (place depth middle middle_depth next next_depth : ℕ) (found : Option Word) (word : Word) (words after : List Word) → k ≡ kind → t ≡ text → found ≡ Some word → after ≡ words ++ word ∷ []
    → AreWords (words_left kind text place depth) words middle middle_depth → IsNext (words_left k t middle middle_depth) found next next_depth → AreWords (words_left kind text place depth) after next next_depth
one_more k kind t text place depth middle middle_depth next next_depth found word words after e f is pushed before h =
    let one : IsWordFrom (words_left k t middle middle_depth) word next next_depth = subst (λ (o : Option Word). IsNext (words_left k t middle middle_depth) o next next_depth) is h in
    let same : IsWordFrom (words_left kind text middle middle_depth) word next next_depth =
    subst (λ (x : List ℕ). IsWordFrom (words_left kind x middle middle_depth) word next next_depth) f (subst (λ (x : TextKind). IsWordFrom (words_left x t middle middle_depth) word next next_depth) e one) in
    rw pushed (more before same)

words_behind : (k kind : TextKind) (t text : List ℕ) (place depth next next_depth : ℕ) (found : Option Word) (word : Word) (end : ℕ) → k ≡ kind → t ≡ text → found ≡ Some word → IsNext (words_left k t place depth) found next next_depth
    → (behind : List Word) × AreWordsTo kind text place depth behind end → (behind : List Word) × AreWordsTo kind text next next_depth behind end
words_behind k kind t text place depth next next_depth found word end e f is h left =
    let one : IsWordFrom (words_left k t place depth) word next next_depth = subst (λ (o : Option Word). IsNext (words_left k t place depth) o next next_depth) is h in
    let same : IsWordFrom (words_left kind text place depth) word next next_depth =
    subst (λ (x : List ℕ). IsWordFrom (words_left kind x place depth) word next next_depth) f (subst (λ (x : TextKind). IsWordFrom (words_left x t place depth) word next next_depth) e one) in
    behind_word kind text place depth next next_depth end word left.0 same left.1

pub fields-init : goal.fields-init
fields-init c = record {
  text = refl;
  kind = refl;
  on = omega arith;
  all = λ words end all. (words, all);
  words = rw c.new-fields.ensures.items none;
}

pub fields-preserved : goal.fields-preserved
fields-preserved c = record {
  text = c.in_ok-word.ensures.text ∙ c.fields.invariant.text;
  kind = c.in_ok-word.ensures.kind ∙ c.fields.invariant.kind;
  on = omega (arith, c.in_ok-word.ensures.on);
  all = λ words end all. words_behind c.fields.self.kind c.args.self.now.kind c.fields.self.text c.args.self.now.text c.fields.self.place c.fields.self.depth c.next.new.self.place c.next.new.self.depth c.in_ok-word.field-0 c.in-Some.word end
      c.fields.invariant.kind c.fields.invariant.text c.in-Some.is c.in_ok-word.ensures.next (c.fields.invariant.all words end all);
  words = one_more c.fields.self.kind c.args.self.now.kind c.fields.self.text c.args.self.now.text c.args.self.now.place c.args.self.now.depth c.fields.self.place c.fields.self.depth c.next.new.self.place c.next.new.self.depth
      c.in_ok-word.field-0 c.in-Some.word c.fields.fields.items c.push.new.self.items
      c.fields.invariant.kind c.fields.invariant.text c.in-Some.is c.in_ok-push.ensures.items c.fields.invariant.words c.in_ok-word.ensures.next;
}

pub returns-in_err-word-clause-none : goal.returns-in_err-word-clause-none
returns-in_err-word-clause-none c =
    let p = err_from_is_err_and c.from_residual.result c.from_residual.ensures.1 in
    rw p.1 (λ wanting words end all. let left = c.fields.invariant.all words end all in no_words c.args.self.now.kind c.args.self.now.text c.fields.self.place c.fields.self.depth end left.0
    (subst (λ (t : List ℕ). HasNoNext (words_left c.args.self.now.kind t c.fields.self.place c.fields.self.depth)) c.fields.invariant.text
    (subst (λ (k : TextKind). HasNoNext (words_left k c.fields.self.text c.fields.self.place c.fields.self.depth)) c.fields.invariant.kind c.in_err-word.ensures.none)) left.1)
