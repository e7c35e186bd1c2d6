-- Labels that are put byte by byte.
use Rattle.std.proofs.Common.{◌≡◌, ◌+◌, ◌<◌, ◌++◌, [], ℕ, suc, false, List, cond, drop, get_or, length, sym, ap, ◌∙◌, append_assoc, arith, ◌==◌}
use Rattle.std.proofs.lemmas.List.{drop_more}
use Rattle.server_reports.specs.QueryLines.{byte_text, dot_behind, labels_len, labels_text}

-- a byte of a label
pub in_label : (bytes : List ℕ) (i left next : ℕ) (old new whole : List ℕ) → i < length bytes → left ≡ suc next
    → new ≡ old ++ (byte_text (get_or bytes i 0) ++ dot_behind next) → old ++ labels_text left (drop i bytes) ≡ whole
    → new ++ labels_text next (drop (i + 1) bytes) ≡ whole
in_label bytes i left next old new whole within is put so =
    ap (λ front. front ++ labels_text next (drop (i + 1) bytes)) put
    ∙ append_assoc old (byte_text (get_or bytes i 0) ++ dot_behind next) (labels_text next (drop (i + 1) bytes))
    ∙ ap (λ xs. old ++ labels_text (suc next) xs) (sym (drop_more bytes i 0 within)) ∙ ap (λ n. old ++ labels_text n (drop i bytes)) (sym is) ∙ so

pub in_label-len : (bytes : List ℕ) (i left next whole : ℕ) → i < length bytes → left ≡ suc next
    → i + labels_len left (drop i bytes) ≡ whole → i + 1 + labels_len next (drop (i + 1) bytes) ≡ whole
in_label-len bytes i left next whole within is so =
    let here : labels_len left (drop i bytes) ≡ 1 + labels_len next (drop (i + 1) bytes) =
    ap (λ n. labels_len n (drop i bytes)) is ∙ ap (λ xs. labels_len (suc next) xs) (drop_more bytes i 0 within) in
    omega (arith, here, so)

-- the length of the next label
pub at_label : (bytes : List ℕ) (i left : ℕ) (old whole : List ℕ) → i < length bytes → left ≡ 0 → (get_or bytes i 0 == 0) ≡ false
    → old ++ labels_text left (drop i bytes) ≡ whole → old ++ labels_text (get_or bytes i 0) (drop (i + 1) bytes) ≡ whole
at_label bytes i left old whole within is more so =
    let behind = labels_text (get_or bytes i 0) (drop (i + 1) bytes) in
    sym (ap (λ b. old ++ cond b [] behind) more)
    ∙ ap (λ xs. old ++ labels_text 0 xs) (sym (drop_more bytes i 0 within)) ∙ ap (λ n. old ++ labels_text n (drop i bytes)) (sym is) ∙ so

pub at_label-len : (bytes : List ℕ) (i left whole : ℕ) → i < length bytes → left ≡ 0 → (get_or bytes i 0 == 0) ≡ false
    → i + labels_len left (drop i bytes) ≡ whole → i + 1 + labels_len (get_or bytes i 0) (drop (i + 1) bytes) ≡ whole
at_label-len bytes i left whole within is more so =
    let behind = 1 + labels_len (get_or bytes i 0) (drop (i + 1) bytes) in
    let here : labels_len left (drop i bytes) ≡ behind =
    ap (λ n. labels_len n (drop i bytes)) is ∙ ap (λ xs. labels_len 0 xs) (drop_more bytes i 0 within) ∙ ap (λ b. cond b 1 behind) more in
    omega (arith, here, so)
