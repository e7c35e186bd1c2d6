use Rattle.std.proofs.Common.{◌≡◌, ◌∙◌, ◌≤◌, ℕ, Bool, List, length, get_or, sym, subst}
use Rattle.text_words.specs.declared.words.TextKind.{TextKind}
use Rattle.text_words.specs.declared.words.TextKind.TheVariants.{ZoneFile}
use Rattle.text_words.specs.declared.words.Word.{Word}
use Rattle.text_words.specs.Words.{AreWordsTo, WordsLeft, is_blank}
use Rattle.zone_text.proofs.FirstFaults.{refused_entry, refused_words}
use Rattle.zone_text.proofs.zone_file.entry_at.Goals as goal

-- the words of an entry, from its place on
stand : (w : WordsLeft) (bytes : List ℕ) (place : ℕ) (words : List Word) (end : ℕ) → w.text ≡ bytes → w.place ≡ place → w.kind ≡ ZoneFile → w.depth ≡ 0 → AreWordsTo w.kind w.text w.place w.depth words end → AreWordsTo ZoneFile bytes place 0 words end
stand w bytes place words end a b k d h =
    subst (λ (t : List ℕ). AreWordsTo ZoneFile t place 0 words end) a (subst (λ (p : ℕ). AreWordsTo ZoneFile w.text p 0 words end) b (subst (λ (x : TextKind). AreWordsTo x w.text w.place 0 words end) k (subst (λ (n : ℕ). AreWordsTo w.kind w.text w.place n words end) d h)))

blank : (w : WordsLeft) (bytes : List ℕ) (place : ℕ) (b : Bool) → w.text ≡ bytes → w.place ≡ place → b ≡ is_blank (get_or w.text w.place 0) → b ≡ is_blank (get_or bytes place 0)
blank w bytes place b e f h = rw (sym e, sym f) h

pub returns-in-Err-clause-fault : goal.returns-in-Err-clause-fault
returns-in-Err-clause-fault c = refused_words c.args.text.now c.args.place c.args.before.now c.entry-words.result c.in-Err.e c.from.result c.within.result c.entry-words.ensures.text c.entry-words.ensures.place
    c.entry-words.ensures.kind c.entry-words.ensures.depth c.from.ensures c.within.ensures c.in-Err.ensures.none

pub returns-clause-fault : goal.returns-clause-fault
returns-clause-fault c =
    let w : WordsLeft = c.entry-words.result in
    let words : AreWordsTo ZoneFile c.args.text.now c.args.place 0 c.as_slice.result.now c.place-end.result =
    rw (c.as_slice.ensures.value, c.place-end.ensures.place) (stand w c.args.text.now c.args.place _ _ c.entry-words.ensures.text c.entry-words.ensures.place c.entry-words.ensures.kind c.entry-words.ensures.depth c.in-Ok.ensures.words) in
    let inside : c.place-end.result ≤ length c.args.text.now = subst (λ (t : List ℕ). c.place-end.result ≤ length t) (c.in-Ok.ensures.text ∙ c.entry-words.ensures.text) c.place-end.ensures.within in
    refused_entry c.args.text.now c.args.place c.place-end.result c.args.before.now c.begins_blank-begins_blank.result c.as_slice.result.now c.in-Err-read_entry.e c.within-in-Err-read_entry.result words inside
    (blank w c.args.text.now c.args.place c.begins_blank-begins_blank.result c.entry-words.ensures.text c.entry-words.ensures.place c.begins_blank-begins_blank.ensures) c.in-Err-read_entry.ensures.refused c.within-in-Err-read_entry.ensures
