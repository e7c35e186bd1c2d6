use Rattle.std.proofs.Common.{◌≡◌, ◌∙◌, ◌+◌, ◌<◌, ℕ, Bool, List, [], ◌∷◌, ◌++◌, cond, length, take, get_or, sym, ap, refl}
use Rattle.std.proofs.lemmas.Bool.{ne_eqb}
use Rattle.std.proofs.lemmas.List.{take_more}
use Rattle.std.specs.Prelude.{◌≢◌}
use Rattle.record_text.specs.Prefixes.{trimmed, trimmed_before}
use Rattle.record_text.proofs.data.prefixes.longer.Goals as goal

trim_zero : (xs : List ℕ) → trimmed (xs ++ 0 ∷ []) ≡ trimmed xs
trim_zero [] = refl
trim_zero (y ∷ ys) = ap (trimmed_before y) (trim_zero ys)

kept : (x : ℕ) → x ≢ 0 → trimmed_before x [] ≡ x ∷ []
kept x other = ap (λ (b : Bool). cond b [] (x ∷ [])) (ne_eqb x 0 other)

in_front : (y x : ℕ) (ys : List ℕ) → trimmed_before y (ys ++ x ∷ []) ≡ y ∷ (ys ++ x ∷ [])
in_front y x [] = refl
in_front y x (z ∷ ys) = refl

trim_some : (xs : List ℕ) (x : ℕ) → x ≢ 0 → trimmed (xs ++ x ∷ []) ≡ xs ++ x ∷ []
trim_some [] x other = kept x other
trim_some (y ∷ ys) x other = ap (trimmed_before y) (trim_some ys x other) ∙ in_front y x ys

grown : (octets : List ℕ) (place : ℕ) → place < length octets → get_or octets place 0 ≢ 0 → take (place + 1) octets ≡ trimmed (take (place + 1) octets)
grown octets place below other =
    let whole : take (place + 1) octets ≡ take place octets ++ get_or octets place 0 ∷ [] = take_more octets place 0 below in
    whole ∙ sym (ap trimmed whole ∙ trim_some (take place octets) (get_or octets place 0) other)

same : (octets : List ℕ) (place len : ℕ) → place < length octets → take len octets ≡ trimmed (take place octets) → get_or octets place 0 ≡ 0 → take len octets ≡ trimmed (take (place + 1) octets)
same octets place len below before zero =
    let whole : take (place + 1) octets ≡ take place octets ++ 0 ∷ [] = take_more octets place 0 below ∙ ap (λ (x : ℕ). take place octets ++ x ∷ []) zero in
    before ∙ sym (ap trimmed whole ∙ trim_zero (take place octets))

pub returns-then-octets-place-eq0-clause-rest : goal.returns-then-octets-place-eq0-clause-rest
returns-then-octets-place-eq0-clause-rest c = same c.args.octets.now c.args.place c.args.len c.requires.place c.requires.before c.if-octets-place-eq0.true

pub returns-clause-rest : goal.returns-clause-rest
returns-clause-rest c = grown c.args.octets.now c.args.place c.requires.place c.if-octets-place-eq0.false
