-- The first labels of a name, in wire form, and what is put behind them.
use Rattle.std.proofs.Common.{◌≡◌, ℕ, zero, suc, ◌+◌, ◌<◌, ◌≤◌, Bool, true, false, List, [], ◌∷◌, ◌++◌, length, take, drop, refl, sym, ap, subst, ◌∙◌, arith, length-append}
use Rattle.std.proofs.lemmas.Bool.Decides.{nat_tests}
use Rattle.std.proofs.lemmas.List.{take-append-drop}
use Rattle.std.proofs.lemmas.List.Elements.{All-take}
use Rattle.wire_names.specs.rr.domain.DomainName.{AreLabels, DomainName, IsLabel, IsWire, cut, label_offset, name_len, wire_form}
use Rattle.zone_answers.specs.Redirections.{is_too_long, substitute}
use Rattle.wire_names.proofs.lemmas.rr.domain.WireForm.{cut_of, is_wire, name_len-wire_form, offset-size, wire-append}

-- the labels of a name in two parts
in_parts : (ls : List (List ℕ)) (k : ℕ) → wire_form ls ≡ wire_form (take k ls) ++ wire_form (drop k ls)
in_parts ls k = sym (ap wire_form (take-append-drop k ls)) ∙ wire-append (take k ls) (drop k ls)

pub front_size : (ls : List (List ℕ)) (k : ℕ) → length (wire_form (take k ls)) ≡ label_offset ls k
front_size ls k = omega (arith, ap length (in_parts ls k), length-append (wire_form (take k ls)) (wire_form (drop k ls)), offset-size ls k)

taken : (xs ys : List ℕ) (n : ℕ) → n ≡ length xs → take n (xs ++ ys) ≡ xs
taken [] ys zero e = refl
taken [] ys (suc n) e = absurd (omega arith)
taken (x ∷ xs) ys zero e = absurd (omega arith)
taken (x ∷ xs) ys (suc n) e = ap (λ zs. x ∷ zs) (taken xs ys n (omega arith))

pub front_bytes : (ls : List (List ℕ)) (k n : ℕ) (bytes : List ℕ) → bytes ≡ wire_form ls → n ≡ label_offset ls k → take n bytes ≡ wire_form (take k ls)
front_bytes ls k n bytes are at =
    ap (take n) (are ∙ in_parts ls k) ∙ taken (wire_form (take k ls)) (wire_form (drop k ls)) n (at ∙ sym (front_size ls k))

pub front_labels : (ls : List (List ℕ)) (k : ℕ) → AreLabels ls → AreLabels (take k ls)
front_labels ls k are = record {
  each = All-take IsLabel k ls are.each;
  short = omega (arith, are.short, name_len-wire_form ls, name_len-wire_form (take k ls), ap length (in_parts ls k), length-append (wire_form (take k ls)) (wire_form (drop k ls)));
}

pub front_wire : (ls : List (List ℕ)) (k : ℕ) (bytes : List ℕ) → bytes ≡ wire_form (take k ls) → AreLabels ls → IsWire bytes
front_wire ls k bytes are labels = subst IsWire (sym are) (is_wire (take k ls) (front_labels ls k labels))

-- how long the name is that is made
pub made_len : (a b : List (List ℕ)) → name_len (a ++ b) ≡ 1 + (length (wire_form a) + length (wire_form b))
made_len a b = omega (arith, name_len-wire_form (a ++ b), ap length (wire-append a b), length-append (wire_form a) (wire_form b))

module _ (name target : DomainName) (k : ℕ) (a b : List ℕ) (front : a ≡ wire_form (take k name.labels)) (end : b ≡ wire_form target.labels) where
  size : name_len (substitute name k target).labels ≡ 1 + (length a + length b)
  size = omega (arith, made_len (take k name.labels) target.labels, ap length front, ap length end)

  pub too_long_made : 254 < length a + length b → is_too_long (substitute name k target) ≡ true
  too_long_made h = grind (arith, nat_tests, size)

  pub fits_made : length a + length b ≤ 254 → is_too_long (substitute name k target) ≡ false
  fits_made h = grind (arith, nat_tests, size)

  pub made_is : (made : DomainName) (none first all : List (List ℕ)) (mark : Bool) → none ≡ [] → first ≡ none ++ cut a → all ≡ first ++ cut b → mark ≡ target.is_fqdn → made ≡ record { labels = all; is_fqdn = mark } → made ≡ substitute name k target
  made_is made none first all mark empty one two marks is =
      let own : all ≡ take k name.labels ++ target.labels =
      two ∙ ap (λ (ls : List (List ℕ)). ls ++ cut b) (one ∙ ap (λ (ls : List (List ℕ)). ls ++ cut a) empty ∙ cut_of a (take k name.labels) front) ∙ ap (λ (ls : List (List ℕ)). take k name.labels ++ ls) (cut_of b target.labels end) in
      is ∙ ap (λ (ls : List (List ℕ)). let d : DomainName = record { labels = ls; is_fqdn = mark } in d) own ∙ ap (λ (m : Bool). let d : DomainName = record { labels = take k name.labels ++ target.labels; is_fqdn = m } in d) marks

  pub made_short : (first none : List (List ℕ)) → none ≡ [] → first ≡ none ++ cut a → length a + length b ≤ 254 → length (wire_form first) + length b < 255
  made_short first none empty one h =
      let own : first ≡ take k name.labels = one ∙ ap (λ (ls : List (List ℕ)). ls ++ cut a) empty ∙ cut_of a (take k name.labels) front in
      omega (arith, ap (λ (ls : List (List ℕ)). length (wire_form ls)) own, ap length front)
