-- Texts that grow at their ends.
use Rattle.std.proofs.Common.{◌≡◌, ◌<◌, ◌+◌, ◌++◌, ◌∷◌, ◌∙◌, [], ℕ, List, ap, append_assoc, arith, codes, get_or, length, length-take, sym, take}
use Rattle.std.proofs.lemmas.List.{append-nil, take_more}
use Rattle.server_reports.specs.Exposition.{code_line, code_lines, code_lines_from}

-- A text that grew twice grew by both pieces, one behind the other.
pub grew : (first second third piece next : List ℕ) → second ≡ first ++ piece → third ≡ second ++ next → third ≡ first ++ (piece ++ next)
grew first second third piece next by also = also ∙ ap (λ (xs : List ℕ). xs ++ next) by ∙ append_assoc first piece next

-- The line of one code more stands behind those of the codes before it.
lines_more : (first : ℕ) (counts : List ℕ) (count : ℕ) → code_lines_from first (counts ++ count ∷ []) ≡ code_lines_from first counts ++ code_line (first + length counts) count
lines_more first [] count =
    let place : first ≡ first + 0 = omega arith in
    append-nil (code_line first count) ∙ ap (λ (n : ℕ). code_line n count) place
lines_more first (c ∷ counts) count =
    let place : first + 1 + length counts ≡ first + length (c ∷ counts) = omega arith in
    ap (λ (xs : List ℕ). code_line first c ++ xs) (lines_more (first + 1) counts count)
    ∙ sym (append_assoc (code_line first c) (code_lines_from (first + 1) counts) (code_line (first + 1 + length counts) count))
    ∙ ap (λ (n : ℕ). code_line first c ++ code_lines_from (first + 1) counts ++ code_line n count) place

-- The text grows by the line of the next code.
pub code_more : (old now new : List ℕ) (counts : List ℕ) (i : ℕ) → i < length counts → now ≡ old ++ code_lines (take i counts) → new ≡ now ++ code_line i (get_or counts i 0)
    → new ≡ old ++ code_lines (take (i + 1) counts)
code_more old now new counts i within so_far put =
    let front : 0 + length (take i counts) ≡ i = omega (arith, length-take {A = ℕ}) in
    let behind = lines_more 0 (take i counts) (get_or counts i 0) in
    let line : code_line (0 + length (take i counts)) (get_or counts i 0) ≡ code_line i (get_or counts i 0) = ap (λ (n : ℕ). code_line n (get_or counts i 0)) front in
    let begins = codes "# TYPE zoned_replies_total counter\n" in
    let lines = code_lines_from 0 (take i counts) in
    let next = code_line i (get_or counts i 0) in
    let more : lines ++ next ≡ code_lines_from 0 (take (i + 1) counts) =
    sym (ap (λ (xs : List ℕ). code_lines_from 0 xs) (take_more counts i 0 within) ∙ behind ∙ ap (λ (xs : List ℕ). lines ++ xs) line) in
    grew old now new (begins ++ lines) next so_far put ∙ ap (λ (xs : List ℕ). old ++ xs) (append_assoc begins lines next ∙ ap (λ (xs : List ℕ). begins ++ xs) more)
