-- Groups of hexadecimal digits with a byte between them, from the front on.
use Rattle.std.proofs.Common.{◌≡◌, ◌≢◌, ◌∙◌, ◌+◌, ◌<◌, ◌≤◌, ◌⊎◌, ℕ, List, [], ◌∷◌, ◌++◌, length, take, drop, get_or, sym, ap, subst, refl, inl, inr, arith, append_assoc, length-append}
use Rattle.std.proofs.lemmas.Bool.{cases_lt}
use Rattle.std.proofs.lemmas.List.{drop_at, get_or_append_left, get_or_at, take_all, take_at}
use Rattle.std.specs.Char.{digit_value}
use Rattle.record_text.specs.declared.data.hex_groups.Group.{Group}
use Rattle.record_text.specs.Groups.{IsGroup, SpellsHexGroups}
use Rattle.record_text.specs.Groups.IsGroup.{octet, bits16}
use Rattle.record_text.specs.Groups.SpellsHexGroups.{first, more}
use Rattle.record_text.proofs.Digits.{digit_in}

module _ (between : ℕ) (kind : Group) where
  -- groups with the byte behind each, and their octets
  pub data Front : ℕ → List ℕ → List ℕ → Type 0 where
    none : Front 0 [] []
    one : {n : ℕ} {text octets piece own : List ℕ} → Front n text octets → IsGroup kind piece own → Front (n + 1) (text ++ piece ++ between ∷ []) (octets ++ own)

  -- a group behind them
  pub closed : {n : ℕ} {text octets piece own : List ℕ} → Front n text octets → IsGroup kind piece own → SpellsHexGroups between kind (n + 1) (text ++ piece) (octets ++ own)
  closed none is = first is
  closed {piece = piece} {own = own} (one {n = n} {text = text} {octets = octets} {piece = p} {own = o} before was) is =
      subst (λ (t : List ℕ). SpellsHexGroups between kind (n + 1 + 1) t (octets ++ o ++ own)) (sym (append_assoc (text ++ p) (between ∷ []) piece)) (more (closed before was) is)

  -- so many groups, the first of them first
  pub data Parts : ℕ → List ℕ → Type 0 where
    last : {piece own : List ℕ} → IsGroup kind piece own → Parts 1 piece
    next : {n : ℕ} {piece own rest : List ℕ} → IsGroup kind piece own → Parts n rest → Parts (n + 1) (piece ++ between ∷ rest)

  behind : {n : ℕ} {text piece own : List ℕ} → Parts n text → IsGroup kind piece own → Parts (n + 1) (text ++ between ∷ piece)
  behind (last was) is = next was (last is)
  behind {piece = piece} (next {n = n} {piece = p} {rest = rest} was others) is = subst (Parts (n + 1 + 1)) (sym (append_assoc p (between ∷ rest) (between ∷ piece))) (next was (behind others is))

  pub parts_of : {count : ℕ} {text octets : List ℕ} → SpellsHexGroups between kind count text octets → Parts count text
  parts_of (first is) = last is
  parts_of (more before is) = behind (parts_of before) is

  -- digits are not the byte between
  apart : {piece own : List ℕ} → 16 ≤ digit_value between → IsGroup kind piece own → (i : ℕ) → i < length piece → get_or piece i 0 ≢ between
  apart no_digit is i below e = of_kind kind is i below e where
    of_kind : (k : Group) {piece own : List ℕ} → IsGroup k piece own → (i : ℕ) → i < length piece → get_or piece i 0 ≡ between → ⊥
    of_kind k (octet {text = t} two hex) i below e = let small : digit_value (get_or t i 0) < 16 = digit_in 16 t i hex.digits below in let same : digit_value (get_or t i 0) ≡ digit_value between = ap digit_value e in omega arith
    of_kind k (bits16 {text = t} some few hex) i below e = let small : digit_value (get_or t i 0) < 16 = digit_in 16 t i hex.digits below in let same : digit_value (get_or t i 0) ≡ digit_value between = ap digit_value e in omega arith

  -- the first of some groups, and those behind it
  pub record First (n : ℕ) (text : List ℕ) (len : ℕ) : Type 0 where
    pub own : List ℕ
    pub is : IsGroup kind (take len text) own
    pub rest : ((len ≡ length text) × (n ≡ 1)) ⊎ ((m : ℕ) × (n ≡ m + 1) × (len < length text) × Parts m (drop (len + 1) text))

  pub first_part : {n : ℕ} {text : List ℕ} → 16 ≤ digit_value between → Parts n text → (len : ℕ) → len ≤ length text → ((i : ℕ) → i < len → get_or text i 0 ≢ between) → (len < length text → get_or text len 0 ≡ between) → First n text len
  first_part no_digit (last {piece = piece} {own = own} is) len within none_before here = elim (cases_lt len (length piece)) [
    | inl below ↦ absurd (apart no_digit is len below (here below))
    | inr above ↦ record { own = own; is = subst (λ (t : List ℕ). IsGroup kind t own) (sym (take_all len piece above)) is; rest = inl (omega arith, refl) }
  ]
  first_part no_digit (next {n = n} {piece = piece} {own = own} {rest = rest} is others) len within none_before here =
      let long : length (piece ++ between ∷ rest) ≡ length piece + length {A = ℕ} (between ∷ rest) = length-append piece (between ∷ rest) in
      elim (cases_lt len (length piece)) [
        | inl below ↦ absurd (apart no_digit is len below (sym (get_or_append_left piece (between ∷ rest) 0 len below) ∙ here (omega arith)))
        | inr above ↦ elim (cases_lt (length piece) len) [
          | inl beyond ↦ absurd (none_before (length piece) beyond (get_or_at piece between rest 0 (length piece) refl))
          | inr same ↦
              let is_len : length piece ≡ len = omega arith in
              let past : length (piece ++ between ∷ []) ≡ len + 1 = omega (arith, length-append piece (between ∷ [])) in
              record {
                own = own;
                is = subst (λ (t : List ℕ). IsGroup kind t own) (sym (take_at piece (between ∷ rest) len is_len)) is;
                rest = inr (n, refl, omega arith, subst (Parts n) (sym (ap (λ (t : List ℕ). drop (len + 1) t) (sym (append_assoc piece (between ∷ []) rest)) ∙ drop_at (piece ++ between ∷ []) rest (len + 1) past)) others);
              }
        ]
      ]
