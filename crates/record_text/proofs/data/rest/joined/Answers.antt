use Rattle.std.proofs.Common.{◌≡◌, ◌∙◌, ◌+◌, ◌<◌, ℕ, false, List, [], ◌∷◌, ◌++◌, length, take, get_or, sym, ap, append-nil}
use Rattle.std.proofs.lemmas.List.{take_more}
use Rattle.std.proofs.lemmas.List.Concat.{flat_map-append}
use Rattle.std.proofs.lemmas.List.Elements.{All-more}
use Rattle.text_words.specs.declared.words.Word.{Word}
use Rattle.record_text.specs.RecordText.{bytes_of}
use Rattle.record_text.proofs.data.rest.joined.Goals as goal

more_bytes : (words : List Word) (i : ℕ) (d : Word) (before after : List ℕ) → i < length words → before ≡ bytes_of (take i words) → after ≡ before ++ (get_or words i d).bytes.now → after ≡ bytes_of (take (i + 1) words)
more_bytes words i d before after below e f =
    let own : List ℕ = (get_or words i d).bytes.now in
    f ∙ ap (λ (t : List ℕ). t ++ own) e
    ∙ sym (ap bytes_of (take_more words i d below) ∙ flat_map-append (λ (w : Word). w.bytes.now) (take i words) (get_or words i d ∷ []) ∙ ap (λ (t : List ℕ). bytes_of (take i words) ++ t) (append-nil own))

pub loop-word-preserved : goal.loop-word-preserved
loop-word-preserved c = record {
  plain = All-more (λ (w : Word). w.quoted ≡ false) c.args.words.now c.loop-word.word-index _ c.loop-word-test.true c.loop-word.invariant.plain c.if-word.false;
  bytes = more_bytes c.args.words.now c.loop-word.word-index _ c.loop-word.bytes.items c.extend_from_slice.new.self.items c.loop-word-test.true c.loop-word.invariant.bytes c.in_ok-extend_from_slice.ensures.items;
}
