use Rattle.std.proofs.Common.{◌≡◌, ◌≢◌, ◌∙◌, ◌<◌, ◌⊎◌, inl, inr, ℕ, true, get_or, length, sym, subst, arith}
use Rattle.std.proofs.lemmas.Result.{err_from_is_err_and}
use Rattle.text_words.specs.declared.words.TextKind.{TextKind}
use Rattle.text_words.specs.declared.words.Word.{Word}
use Rattle.text_words.specs.Words.{CrossesLines, IsQuotedWord, WordsLeft, ends_word}
use Rattle.text_words.proofs.OneReading.{no_next_open, no_next_quote, no_next_stray}
use Rattle.text_words.proofs.words.Words.next.Goals as goal
use Rattle.text_words.proofs.words.Words.next.Goals.{else-byte-eq10-via-then-byte-eq10+else-ends_entry, else-byte-eq10-via-else-byte-eq10}

pub returns-then-self-gt0-clause-none : goal.returns-then-self-gt0-clause-none
returns-then-self-gt0-clause-none c = no_next_open c.args.self.now.kind c.args.self.now.text c.args.self.now.place c.args.self.now.depth c.skip.new.self
    (record { gap = c.skip.ensures.gap; whole = c.skip.ensures.whole; same_kind = c.skip.ensures.kind; same_text = c.skip.ensures.text })
    (subst (λ (w : WordsLeft). w.place ≡ length w.text) c.self.view_is c.if-start-self.true) (subst (λ (w : WordsLeft). 0 < w.depth) c.self.view_is c.if-self-gt0.true)

pub returns-in_err-word-clause-none : goal.returns-in_err-word-clause-none
returns-in_err-word-clause-none c =
    let p = err_from_is_err_and c.from_residual.result c.from_residual.ensures.1 in
    let inside : c.self.inside.place < length c.self.inside.text.now = omega (arith, c.if-start-self.false, c.self.invariant.0) in
    rw p.1 (no_next_quote c.args.self.now.kind c.args.self.now.text c.args.self.now.place c.args.self.now.depth c.skip.new.self
    (record { gap = c.skip.ensures.gap; whole = c.skip.ensures.whole; same_kind = c.skip.ensures.kind; same_text = c.skip.ensures.text })
    (subst (λ (w : WordsLeft). w.place < length w.text) c.self.view_is inside) (subst (λ (w : WordsLeft). get_or w.text w.place 0 ≡ 34) c.self.view_is c.if-byte-eq34.true)
    (subst (λ (w : WordsLeft). (word : Word) (next : ℕ) → IsQuotedWord w.text w.place word next → ⊥) c.self.view_is c.in_err-word.ensures.none))

crosses : (place_byte : ℕ) (kind : TextKind) (depth : ℕ) (left : (place_byte ≡ 10) × CrossesLines kind depth ⊎ (place_byte ≢ 10)) → place_byte ≡ 10 → CrossesLines kind depth
crosses place_byte kind depth (inl both) e = both.1
crosses place_byte kind depth (inr other) e = absurd (other e)

pub returns-clause-none : goal.returns-clause-none
returns-clause-none c =
    let inside : c.self.inside.place < length c.self.inside.text.now = omega (arith, c.if-start-self.false, c.self.invariant.0) in
    let line : (get_or c.self.inside.text.now c.self.inside.place 0 ≡ 10) × CrossesLines c.self.inside.kind c.self.inside.depth ⊎ (get_or c.self.inside.text.now c.self.inside.place 0 ≢ 10) =
    elim c.else-byte-eq10.branch [ else-byte-eq10-via-then-byte-eq10+else-ends_entry w ↦ inl (w.if-byte-eq10.true, w.ends_entry.ensures.crosses w.if-ends_entry.false) | else-byte-eq10-via-else-byte-eq10 w ↦ inr w.if-byte-eq10.false ] in
    let ends : ends_word c.self.inside.kind (get_or c.self.inside.text.now c.self.inside.place 0) ≡ true = sym c.ends_field.ensures ∙ c.if-not-ends_field.false in
    no_next_stray c.args.self.now.kind c.args.self.now.text c.args.self.now.place c.args.self.now.depth c.skip.new.self
    (record { gap = c.skip.ensures.gap; whole = c.skip.ensures.whole; same_kind = c.skip.ensures.kind; same_text = c.skip.ensures.text })
    (subst (λ (w : WordsLeft). w.place < length w.text) c.self.view_is inside) (subst (λ (w : WordsLeft). get_or w.text w.place 0 ≢ 34) c.self.view_is c.if-byte-eq34.false)
    (subst (λ (w : WordsLeft). ends_word w.kind (get_or w.text w.place 0) ≡ true) c.self.view_is ends)
    (subst (λ (w : WordsLeft). get_or w.text w.place 0 ≡ 10 → CrossesLines w.kind w.depth) c.self.view_is (crosses _ c.self.inside.kind c.self.inside.depth line))
