-- Words behind words.
use Rattle.std.proofs.Common.{◌≡◌, ◌≤◌, ◌<◌, ◌-◌, ◌+◌, ◌++◌, ℕ, List, [], ◌∷◌, Bor, None, length, take, drop, get_or, map, ap, subst, sym, ◌∙◌, arith}
use Rattle.std.proofs.lemmas.List.{map-append, take_all, take_more}
use Rattle.std.specs.List.{AllZip}
use Rattle.std.specs.Iterator.{DrainsIf, Yields}
use Rattle.std.specs.Str.Iter.{split_whitespace_rest, split_whitespace_steps}
use Rattle.std.specs.declared.str.SplitWhitespace.{SplitWhitespace}
use Rattle.record_text.specs.RecordText.{SpellsType}
use Rattle.update_policy.specs.RuleTexts.{AreWords}

-- the first, and those behind it
pub one_first : (words : List (Bor (List ℕ))) (d : Bor (List ℕ)) → 1 ≤ length words
    → map (λ (word : Bor (List ℕ)). word.now) words ≡ (get_or words 0 d).now ∷ map (λ (word : Bor (List ℕ)). word.now) (take (length words - 1) (drop 1 words))
one_first [] d enough = absurd (omega arith)
one_first (a ∷ rest) d enough =
    let text : Bor (List ℕ) → List ℕ = λ word. word.now in
    let count : length (a ∷ rest) - 1 ≡ length rest = omega arith in
    ap (λ (l : List (Bor (List ℕ))). a.now ∷ map text l) (sym (ap (λ (n : ℕ). take n rest) count ∙ take_all (length rest) rest (omega arith)))

-- the first two, and those behind them
pub two_first : (words : List (Bor (List ℕ))) (d : Bor (List ℕ)) (first : List ℕ) → 2 ≤ length words → (get_or words 0 d).now ≡ first
    → map (λ (word : Bor (List ℕ)). word.now) words ≡ first ∷ (get_or words 1 d).now ∷ map (λ (word : Bor (List ℕ)). word.now) (take (length words - 2) (drop 2 words))
two_first [] d first enough is = absurd (omega arith)
two_first (a ∷ []) d first enough is = absurd (omega arith)
two_first (a ∷ b ∷ rest) d first enough is =
    let text : Bor (List ℕ) → List ℕ = λ word. word.now in
    let count : length (a ∷ b ∷ rest) - 2 ≡ length rest = omega arith in
    ap (λ (word : List ℕ). word ∷ b.now ∷ map text rest) is
    ∙ ap (λ (l : List (Bor (List ℕ))). first ∷ b.now ∷ map text l) (sym (ap (λ (n : ℕ). take n rest) count ∙ take_all (length rest) rest (omega arith)))

-- words that came off a text, one after the other, until none was left
pub words_drained : (words : List (Bor (List ℕ))) (from to : SplitWhitespace) → Yields split_whitespace_steps from words to → ((u : SplitWhitespace) × split_whitespace_steps to None u)
    → AreWords (split_whitespace_rest from) (map (λ (word : Bor (List ℕ)). word.now) words)
words_drained [] from to is (u, (same, blank)) = rw is blank
words_drained (word ∷ words) from to (next, (gap, parts, some, before, whole, behind), others) end =
    (gap, split_whitespace_rest next, parts, some, before, whole, behind, words_drained words next to others end)

-- all words of a text, that were collected
pub all_words : {W : Type 0} (text : List ℕ) (from : SplitWhitespace) (words gave : List (Bor (List ℕ))) → W → split_whitespace_rest from ≡ text → words ≡ gave
    → DrainsIf split_whitespace_steps W from gave → AreWords text (map (λ (word : Bor (List ℕ)). word.now) words)
all_words text from words gave whole is same (to, yields, ended) =
    subst (λ (t : List ℕ). AreWords t (map (λ (word : Bor (List ℕ)). word.now) words)) is (rw same (words_drained gave from to yields (ended whole)))

zip_more : {A B : Type 0} (R : A → B → Type 0) (xs : List A) (ys : List B) (x : A) (y : B) → AllZip R xs ys → R x y → AllZip R (xs ++ x ∷ []) (ys ++ y ∷ [])
zip_more R [] [] x y all one = (one, tt)
zip_more R [] (z ∷ ys) x y all one = absurd all
zip_more R (z ∷ xs) [] x y all one = absurd all
zip_more R (z ∷ xs) (w ∷ ys) x y all one = (all.0, zip_more R xs ys x y all.1 one)

-- a word for each type, and one more
pub types_more : (words : List (Bor (List ℕ))) (i : ℕ) (d : Bor (List ℕ)) (types : List ℕ) (kind : ℕ) → i < length words
    → AllZip SpellsType (map (λ (word : Bor (List ℕ)). word.now) (take i words)) types → SpellsType (get_or words i d).now kind
    → AllZip SpellsType (map (λ (word : Bor (List ℕ)). word.now) (take (i + 1) words)) (types ++ kind ∷ [])
types_more words i d types kind inside so_far one =
    let text : Bor (List ℕ) → List ℕ = λ word. word.now in
    let texts : map text (take (i + 1) words) ≡ map text (take i words) ++ (get_or words i d).now ∷ [] =
    ap (map text) (take_more words i d inside) ∙ map-append text (take i words) (get_or words i d ∷ []) in
    subst (λ (l : List (List ℕ)). AllZip SpellsType l (types ++ kind ∷ [])) (sym texts)
    (zip_more SpellsType (map text (take i words)) types (get_or words i d).now kind so_far one)
