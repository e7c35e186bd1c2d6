-- Words of a line of a file of keys, and lines of the file, one after the other.
use Rattle.std.proofs.Common.{◌≡◌, ◌≤◌, ◌<◌, ◌-◌, ℕ, List, [], ◌∷◌, Bor, false, true, refl, length, take, drop, get_or, map, ap, subst, sym, ◌∙◌, arith}
use Rattle.std.proofs.lemmas.List.{take_all}
use Rattle.std.specs.List.{slice_split}
use Rattle.tsig.specs.KeyFiles.{TakesLine, TakesLines, TakesWord, is_comment, is_separator}
use Rattle.tsig.specs.KeyFiles as spec
use Rattle.tsig.specs.declared.key_file.Reader.{Reader}

abbrev pub texts : List (Bor (List ℕ)) → List (List ℕ)
texts words = map (λ (word : Bor (List ℕ)). word.now) words

-- the first, and the others
one_first : (words : List (Bor (List ℕ))) (d : Bor (List ℕ)) → 1 ≤ length words → texts words ≡ (get_or words 0 d).now ∷ texts (take (length words - 1) (drop 1 words))
one_first [] d enough = absurd (omega arith)
one_first (a ∷ rest) d enough =
    let count : length (a ∷ rest) - 1 ≡ length rest = omega arith in
    ap (λ (l : List (Bor (List ℕ))). a.now ∷ texts l) (sym (ap (λ (n : ℕ). take n rest) count ∙ take_all (length rest) rest (omega arith)))

none_left : (words : List (Bor (List ℕ))) → length words < 1 → texts words ≡ []
none_left [] few = refl
none_left (a ∷ rest) few = absurd (omega arith)

-- a comment
pub line_comment : (rest : List (Bor (List ℕ))) (d : Bor (List ℕ)) (reader : Reader) → 1 ≤ length rest → is_comment reader (get_or rest 0 d).now ≡ true → TakesLine reader (texts rest) reader
line_comment rest d reader enough is = subst (λ (l : List (List ℕ)). TakesLine reader l reader) (sym (one_first rest d enough)) (spec.comment is)

-- one word more
pub line_more : (rest : List (Bor (List ℕ))) (d : Bor (List ℕ)) (old between new : Reader) → 1 ≤ length rest → is_comment old (get_or rest 0 d).now ≡ false
    → TakesWord old (get_or rest 0 d).now between → TakesLine between (texts (take (length rest - 1) (drop 1 rest))) new → TakesLine old (texts rest) new
line_more rest d old between new enough is word others =
    subst (λ (l : List (List ℕ)). TakesLine old l new) (sym (one_first rest d enough)) (spec.TakesLine.more is word others)

pub line_end : (rest : List (Bor (List ℕ))) (reader : Reader) → length rest < 1 → TakesLine reader (texts rest) reader
line_end rest reader few = subst (λ (l : List (List ℕ)). TakesLine reader l reader) (sym (none_left rest few)) spec.TakesLine.end

-- one line more
pub lines_more : (rest : List (Bor (List ℕ))) (d : Bor (List ℕ)) (old between new : Reader) → 1 ≤ length rest
    → TakesLine old (slice_split is_separator (get_or rest 0 d).now) between → TakesLines between (texts (take (length rest - 1) (drop 1 rest))) new → TakesLines old (texts rest) new
lines_more rest d old between new enough line others =
    subst (λ (l : List (List ℕ)). TakesLines old l new) (sym (one_first rest d enough)) (spec.TakesLines.more line others)

pub lines_end : (rest : List (Bor (List ℕ))) (reader : Reader) → length rest < 1 → TakesLines reader (texts rest) reader
lines_end rest reader few = subst (λ (l : List (List ℕ)). TakesLines reader l reader) (sym (none_left rest few)) spec.TakesLines.end
