-- What is put into a slice of the lines that are left.
use Rattle.std.proofs.Common.{◌≡◌, ℕ, ◌+◌, ◌≤◌, List, ◌++◌, length, take, drop, min, sym, ap, ◌∙◌, arith, length-append, length-drop}
use Rattle.std.proofs.lemmas.List.{take_at, drop-drop, length-take-le, nil_from_length, take-append-drop}
use Rattle.name_lists.specs.Counts.{TakesLeft}

pub takes_left : (bytes : List ℕ) (read n : ℕ) (left taken buffer : List ℕ)
    → left ≡ drop read bytes → n ≡ min (length left) (length buffer) → taken ≡ take n left
    → TakesLeft (drop read bytes) (drop (read + n) bytes) n buffer (taken ++ drop n buffer)
takes_left bytes read n left taken buffer is count took =
    let within : n ≤ length left = omega arith in
    let room : n ≤ length buffer = omega arith in
    let size : length taken ≡ n = ap length took ∙ length-take-le n left within in
    let filled : length (taken ++ drop n buffer) ≡ length buffer = omega (arith, length-append taken (drop n buffer), length-drop n buffer) in
    let rest : drop n left ≡ drop (read + n) bytes = ap (drop n) is ∙ drop-drop n read bytes in
    record {
      consumed = sym is ∙ sym (take-append-drop n left) ∙ ap (λ r. take n left ++ r) rest ∙ ap (λ r. r ++ drop (read + n) bytes) (sym (take_at taken (drop n buffer) n size ∙ took));
      len = filled;
      bound = omega arith;
      none = λ z some. sym rest ∙ nil_from_length (drop n left) (omega (arith, length-drop n left));
    }
