-- Strings of C, one behind the other.
use Rattle.std.proofs.Common.{◌≡◌, ℕ, List, [], ◌∷◌, ◌++◌, take, take-add, length, ◌+◌, ◌-◌, ◌<◌, ◌≤◌, get_or, sym, ap, ◌∙◌, append_assoc, append-nil, arith}
use Rattle.std.specs.Prelude.{slice_range}
use Rattle.std.proofs.lemmas.List.{take_more}
use Rattle.server_settings.specs.Settings.{ended, ended_strings}

pub ended_last : (texts : List (List ℕ)) (text : List ℕ) → ended_strings (texts ++ text ∷ []) ≡ ended_strings texts ++ ended text
ended_last [] text = append-nil (ended text)
ended_last (first ∷ texts) text =
    ap (λ rest. ended first ++ rest) (ended_last texts text) ∙ sym (append_assoc (ended first) (ended_strings texts) (ended text))

pub named_on : (texts : List (List ℕ)) (bytes : List ℕ) (start i : ℕ) → i < length bytes → start ≤ i → ended_strings texts ≡ take start bytes → get_or bytes i 0 ≡ 0
    → ended_strings (texts ++ slice_range bytes start i ∷ []) ≡ take (i + 1) bytes
named_on texts bytes start i within before so zero =
    let text = slice_range bytes start i in
    let sum : start + (i - start) ≡ i = omega (arith, before) in
    let front : take start bytes ++ text ≡ take i bytes = sym (take-add start (i - start) bytes) ∙ ap (λ n. take n bytes) sum in
    ended_last texts text ∙ ap (λ all. all ++ ended text) so ∙ sym (append_assoc (take start bytes) text (0 ∷ []))
    ∙ ap (λ all. all ++ 0 ∷ []) front ∙ ap (λ byte. take i bytes ++ byte ∷ []) (sym zero) ∙ sym (take_more bytes i 0 within)
