-- Labels in wire form, without the first ones.
use Rattle.std.proofs.Common.{◌≡◌, ℕ, ◌+◌, ◌-◌, ◌<◌, ◌≤◌, List, [], ◌∷◌, length, drop, get_or, refl, sym, ap, ◌∙◌, arith}
use Rattle.std.proofs.lemmas.List.Elements.{All-drop}
use Rattle.wire_names.specs.rr.domain.DomainName.{wire_form, cut, IsLabel, AreLabels, IsWire, label_offset}
use Rattle.wire_names.proofs.lemmas.rr.domain.WireForm.{name_len-wire_form, offset-rest, offset-size, is_wire_of, cut_of}
use Rattle.wire_names.proofs.lemmas.rr.domain.LabelOrder.{Advance, advance}

are-drop : (n : ℕ) (ls : List (List ℕ)) → AreLabels ls → AreLabels (drop n ls)
are-drop n ls are = record {
  each = All-drop IsLabel n ls are.each;
  short = omega (arith, are.short, offset-size ls n, name_len-wire_form ls, name_len-wire_form (drop n ls));
}

pub first_fits : (bytes : List ℕ) → IsWire bytes → 0 < length bytes → 1 + get_or bytes 0 0 ≤ length bytes
first_fits bytes w h = omega (arith, (advance bytes w 0 0 refl h).fits)

rest_is : (bytes new : List ℕ) (n : ℕ) → IsWire bytes → 0 < length bytes → n ≡ 1 + get_or bytes 0 0 → new ≡ drop n bytes → new ≡ wire_form (drop 1 (cut bytes))
rest_is bytes new n w h e is =
    let a : Advance bytes 0 0 = advance bytes w 0 0 refl h in
    let one : 0 + 1 ≡ 1 = omega arith in
    let at : n ≡ label_offset (cut bytes) 1 = omega (arith, a.next, ap (label_offset (cut bytes)) one) in
    is
    ∙ ap (drop n) (sym w.whole) ∙ ap (λ k. drop k (wire_form (cut bytes))) at ∙ offset-rest (cut bytes) 1

pub rest_wire : (bytes new : List ℕ) (n : ℕ) → IsWire bytes → 0 < length bytes → n ≡ 1 + get_or bytes 0 0 → new ≡ drop n bytes → IsWire new
rest_wire bytes new n w h e is = is_wire_of new (drop 1 (cut bytes)) (rest_is bytes new n w h e is) (are-drop 1 (cut bytes) w.are)

pub rest_labels : (bytes new : List ℕ) (n : ℕ) → IsWire bytes → 0 < length bytes → n ≡ 1 + get_or bytes 0 0 → new ≡ drop n bytes → cut new ≡ drop 1 (cut bytes)
rest_labels bytes new n w h e is = cut_of new (drop 1 (cut bytes)) (rest_is bytes new n w h e is)

pub none_left : (bytes : List ℕ) → length bytes ≡ 0 → cut bytes ≡ drop 1 (cut bytes)
unfolding cut
none_left [] h = refl
none_left (b ∷ bytes) h = absurd (omega arith)

-- the bytes in front of the labels from the n-th on, where those take so many
end_at : (bytes : List ℕ) (len n : ℕ) → IsWire bytes → len ≡ length (wire_form (drop n (cut bytes))) → length bytes ≡ label_offset (cut bytes) n + len
end_at bytes len n w is = omega (arith, ap length w.whole, offset-size (cut bytes) n, is)

pub end_fits : (bytes : List ℕ) (len n : ℕ) → IsWire bytes → len ≡ length (wire_form (drop n (cut bytes))) → len ≤ length bytes
end_fits bytes len n w is = omega (arith, end_at bytes len n w is)

end_is : (bytes new : List ℕ) (len n : ℕ) → IsWire bytes → len ≡ length (wire_form (drop n (cut bytes))) → new ≡ drop (length bytes - len) bytes → new ≡ wire_form (drop n (cut bytes))
end_is bytes new len n w is e =
    let at : length bytes - len ≡ label_offset (cut bytes) n = omega (arith, end_at bytes len n w is) in
    e ∙ ap (λ k. drop k bytes) at ∙ ap (drop (label_offset (cut bytes) n)) (sym w.whole) ∙ offset-rest (cut bytes) n

pub end_wire : (bytes new : List ℕ) (len n : ℕ) → IsWire bytes → len ≡ length (wire_form (drop n (cut bytes))) → new ≡ drop (length bytes - len) bytes → IsWire new
end_wire bytes new len n w is e = is_wire_of new (drop n (cut bytes)) (end_is bytes new len n w is e) (are-drop n (cut bytes) w.are)

pub end_labels : (bytes new : List ℕ) (len n : ℕ) → IsWire bytes → len ≡ length (wire_form (drop n (cut bytes))) → new ≡ drop (length bytes - len) bytes → cut new ≡ drop n (cut bytes)
end_labels bytes new len n w is e = cut_of new (drop n (cut bytes)) (end_is bytes new len n w is e)
