-- The words of a line.
use Rattle.std.proofs.Common.{◌≡◌, ◌++◌, ℕ, List, true, ap, sym, ◌∙◌, append_assoc}
use Rattle.std.proofs.lemmas.List.Elements.{All-append}
use Rattle.std.specs.Char.{is_ascii_whitespace}
use Rattle.std.specs.List.{AllPass}
use Rattle.zone_serve.specs.Lines.{AreWords}

abbrev AreBlanks : List ℕ → Type 0
AreBlanks xs = AllPass is_ascii_whitespace xs

blanks : (xs ys : List ℕ) → AreBlanks xs → AreBlanks ys → AreBlanks (xs ++ ys)
blanks xs ys first second = All-append (λ (x : ℕ). is_ascii_whitespace x ≡ true) xs ys first second

-- Three words that come off a text one after the other, with blanks before and behind each, are all of it where blanks
-- alone are left.
pub three_words : (text x y z gap sep rest gap2 sep2 rest2 gap3 sep3 rest3 : List ℕ)
    → text ≡ gap ++ (x ++ (sep ++ rest)) → rest ≡ gap2 ++ (y ++ (sep2 ++ rest2)) → rest2 ≡ gap3 ++ (z ++ (sep3 ++ rest3))
    → AreBlanks gap → AreBlanks sep → AreBlanks gap2 → AreBlanks sep2 → AreBlanks gap3 → AreBlanks sep3 → AreBlanks rest3 → AreWords text x y z
three_words text x y z gap sep rest gap2 sep2 rest2 gap3 sep3 rest3 is is2 is3 b bs b2 bs2 b3 bs3 left =
    let behind = z ++ (sep3 ++ rest3) in
    let last : sep2 ++ rest2 ≡ (sep2 ++ gap3) ++ behind = ap (λ (l : List ℕ). sep2 ++ l) is3 ∙ sym (append_assoc sep2 gap3 behind) in
    let middle : sep ++ rest ≡ (sep ++ gap2) ++ (y ++ ((sep2 ++ gap3) ++ behind)) =
    ap (λ (l : List ℕ). sep ++ l) (is2 ∙ ap (λ (l : List ℕ). gap2 ++ (y ++ l)) last) ∙ sym (append_assoc sep gap2 (y ++ ((sep2 ++ gap3) ++ behind))) in
    (gap, sep ++ gap2, sep2 ++ gap3, sep3 ++ rest3, is ∙ ap (λ (l : List ℕ). gap ++ (x ++ l)) middle, b, blanks sep gap2 bs b2, blanks sep2 gap3 bs2 b3, blanks sep3 rest3 bs3 left)
