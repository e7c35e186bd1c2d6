-- Labels and their wire form.
use Rattle.std.proofs.Common.{◌≡◌, ℕ, zero, suc, ◌+◌, ◌<◌, ◌≤◌, List, [], ◌∷◌, ◌++◌, length, take, drop, get_or, refl, sym, ap, ◌∙◌, subst, arith, length-append}
use Rattle.std.proofs.Math.Seq.{drop-append-add, drop-nil}
use borrow.Rule.Slice.PartMut.{put_mid}
use Rattle.std.proofs.lemmas.Slice.{take-put_mid}
use Rattle.std.proofs.Math.ListN.{set}
use Rattle.std.proofs.lemmas.List.{take_more_set, length-set, length-take, take_at, drop_at, get_or-drop, drop_more, append_assoc, append-nil, drop_all}
use Rattle.std.proofs.lemmas.List.Elements.{All-append, All-push, recursion_from_All}
use Rattle.std.specs.List.{AllByRecursion}
use Rattle.wire_names.specs.rr.domain.DomainName.{wire_form, cut, cut_within, IsLabel, AreLabels, IsWire, label_offset, name_len}

cut_within-wire : (fuel : ℕ) (ls : List (List ℕ)) → length (wire_form ls) ≤ fuel → cut_within fuel (wire_form ls) ≡ ls
cut_within-wire zero [] h = refl
cut_within-wire zero (l ∷ ls) h = absurd (omega arith)
cut_within-wire (suc fuel) [] h = refl
cut_within-wire (suc fuel) (l ∷ ls) h =
    rw (take_at l (wire_form ls) (length l) refl, drop_at l (wire_form ls) (length l) refl) (ap (λ r. l ∷ r) (cut_within-wire fuel ls (omega (arith, length-append l (wire_form ls)))))

pub cut-wire : (ls : List (List ℕ)) → cut (wire_form ls) ≡ ls
unfolding cut
cut-wire ls = cut_within-wire (length (wire_form ls)) ls (omega arith)

pub name_len-wire_form : (ls : List (List ℕ)) → name_len ls ≡ 1 + length (wire_form ls)
name_len-wire_form [] = refl
name_len-wire_form (l ∷ ls) = omega (arith, length-append l (wire_form ls), name_len-wire_form ls)

pub wire_short : (ls : List (List ℕ)) → AreLabels ls → length (wire_form ls) < 255
wire_short ls are = omega (arith, are.short, name_len-wire_form ls)

pub is_wire : (ls : List (List ℕ)) → AreLabels ls → IsWire (wire_form ls)
is_wire ls are = record { whole = ap wire_form (cut-wire ls); are = subst AreLabels (sym (cut-wire ls)) are }

pub is_wire_of : (bytes : List ℕ) (ls : List (List ℕ)) → bytes ≡ wire_form ls → AreLabels ls → IsWire bytes
is_wire_of bytes ls e are = subst IsWire (sym e) (is_wire ls are)

pub cut_of : (bytes : List ℕ) (ls : List (List ℕ)) → bytes ≡ wire_form ls → cut bytes ≡ ls
cut_of bytes ls e = ap cut e ∙ cut-wire ls

pub are_labels_of : (bytes : List ℕ) (ls : List (List ℕ)) → bytes ≡ wire_form ls → IsWire bytes → AreLabels ls
are_labels_of bytes ls e w = subst AreLabels (cut_of bytes ls e) w.are

pub no_labels : AreLabels []
no_labels = record { each = λ i x h. absurd (omega arith); short = omega arith }

pub wire-append : (a b : List (List ℕ)) → wire_form (a ++ b) ≡ wire_form a ++ wire_form b
wire-append [] b = refl
wire-append (l ∷ ls) b = ap (λ r. length l ∷ (l ++ r)) (wire-append ls b) ∙ ap (λ r. length l ∷ r) (sym (append_assoc l (wire_form ls) (wire_form b)))

pub wire-push : (ls : List (List ℕ)) (l : List ℕ) → wire_form (ls ++ l ∷ []) ≡ wire_form ls ++ length l ∷ l
wire-push ls l = wire-append ls (l ∷ []) ∙ ap (λ r. wire_form ls ++ length l ∷ r) (append-nil l)

pub are-push : (ls : List (List ℕ)) (l : List ℕ) → AreLabels ls → IsLabel l → length (wire_form ls) + 1 + length l < 255 → AreLabels (ls ++ l ∷ [])
are-push ls l are is lt = record {
  each = All-push IsLabel ls l are.each is;
  short = omega (arith, ap length (wire-push ls l), length-append (wire_form ls) (length l ∷ l), name_len-wire_form (ls ++ l ∷ []));
}

pub offset-rest : (ls : List (List ℕ)) (i : ℕ) → drop (label_offset ls i) (wire_form ls) ≡ wire_form (drop i ls)
offset-rest [] zero = refl
offset-rest (l ∷ ls) zero = refl
offset-rest [] (suc i) = refl
offset-rest (l ∷ ls) (suc i) = drop-append-add l (wire_form ls) (label_offset ls i) ∙ offset-rest ls i

pub offset-size : (ls : List (List ℕ)) (i : ℕ) → length (wire_form ls) ≡ label_offset ls i + length (wire_form (drop i ls))
offset-size [] zero = refl
offset-size (l ∷ ls) zero = omega arith
offset-size [] (suc i) = refl
offset-size (l ∷ ls) (suc i) = omega (arith, length-append l (wire_form ls), offset-size ls i)

pub offset-more : (ls : List (List ℕ)) (i : ℕ) → i < length ls → label_offset ls (suc i) ≡ label_offset ls i + 1 + length (get_or ls i [])
offset-more [] i h = absurd (omega arith)
offset-more (l ∷ ls) zero h = omega arith
offset-more (l ∷ ls) (suc i) h = omega (arith, offset-more ls i (omega arith))

-- the label that stands at an offset
pub record Step (ls : List (List ℕ)) (i : ℕ) : Type 0 where
  pub below : i < length ls
  pub count : get_or (wire_form ls) (label_offset ls i) 0 ≡ length (get_or ls i [])
  pub next : label_offset ls (i + 1) ≡ label_offset ls i + 1 + length (get_or ls i [])
  pub fits : label_offset ls (i + 1) ≤ length (wire_form ls)
  pub label : take (length (get_or ls i [])) (drop (label_offset ls i + 1) (wire_form ls)) ≡ get_or ls i []

drop-more : (k : ℕ) (xs : List ℕ) → drop (k + 1) xs ≡ drop 1 (drop k xs)
drop-more zero xs = refl
drop-more (suc k) [] = drop-nil (suc k + 1)
drop-more (suc k) (x ∷ xs) =
    let one : suc k + 1 ≡ suc (k + 1) = omega arith in
    ap (λ m. drop m (x ∷ xs)) one ∙ drop-more k xs

pub step_below : (ls : List (List ℕ)) (i : ℕ) → i < length ls → Step ls i
step_below ls i h =
    let l : List ℕ = get_or ls i [] in
    let rest : drop (label_offset ls i) (wire_form ls) ≡ length l ∷ (l ++ wire_form (drop (i + 1) ls)) = offset-rest ls i ∙ ap wire_form (drop_more ls i [] h) in
    let more : i + 1 ≡ suc i = omega arith in
    let next : label_offset ls (i + 1) ≡ label_offset ls i + 1 + length l = ap (label_offset ls) more ∙ offset-more ls i h in
    let here : label_offset ls i ≡ label_offset ls i + 0 = omega arith in
    record {
      below = h;
      count = ap (λ k. get_or (wire_form ls) k 0) here ∙ sym (get_or-drop (label_offset ls i) (wire_form ls) 0 0) ∙ ap (λ xs. get_or xs 0 0) rest;
      next = next;
      fits = omega (arith, offset-size ls (i + 1));
      label = ap (take (length l)) (drop-more (label_offset ls i) (wire_form ls) ∙ ap (drop 1) rest) ∙ take_at l (wire_form (drop (i + 1) ls)) (length l) refl;
    }

pub offset-end : (ls : List (List ℕ)) (i : ℕ) → length ls ≤ i → label_offset ls i ≡ length (wire_form ls)
offset-end ls i h = omega (arith, offset-size ls i, ap (λ r. length (wire_form r)) (drop_all i ls h))

below-by : (ls : List (List ℕ)) (i : ℕ) → label_offset ls i < length (wire_form ls) → i < length ls
below-by [] zero h = absurd (omega arith)
below-by [] (suc i) h = absurd (omega arith)
below-by (l ∷ ls) zero h = omega arith
below-by (l ∷ ls) (suc i) h = omega (arith, below-by ls i (omega (arith, length-append l (wire_form ls))))

pub step : (ls : List (List ℕ)) (i : ℕ) → label_offset ls i < length (wire_form ls) → Step ls i
step ls i h = step_below ls i (below-by ls i h)

-- an offset at the end has all labels before it
pub below_at : (ls : List (List ℕ)) (i : ℕ) → i ≤ length ls → length (wire_form ls) ≤ label_offset ls i → i ≡ length ls
below_at [] i h k = omega arith
below_at (l ∷ ls) zero h k = absurd (omega arith)
below_at (l ∷ ls) (suc i) h k =
    let m : i ≡ length ls = below_at ls i (omega arith) (omega (arith, length-append l (wire_form ls))) in
    omega arith

-- what a label that is written behind others leaves
pub pushed : (bytes label copied : List ℕ) (len k : ℕ) → copied ≡ label → len + 1 + length label ≤ length bytes → IsWire (take len bytes)
    → take (len + 1 + length label) (put_mid (len + 1) k (set bytes len (length label)) copied) ≡ wire_form (cut (take len bytes) ++ label ∷ [])
pushed bytes label copied len k e fits w =
    take-put_mid (len + 1) k (set bytes len (length label)) copied (len + 1 + length label) (omega (arith, ap length e)) (omega (arith, length-set bytes len (length label)))
    ∙ ap (λ xs. xs ++ copied) (take_more_set bytes len (length label) (omega arith))
    ∙ append_assoc (take len bytes) (length label ∷ []) copied
    ∙ ap (λ xs. take len bytes ++ length label ∷ xs) e
    ∙ ap (λ xs. xs ++ length label ∷ label) (sym w.whole)
    ∙ sym (wire-push (cut (take len bytes)) label)

-- what labels in wire form that are written behind others leave
pub appended : (bytes wire copied : List ℕ) (len k : ℕ) → copied ≡ wire → len + length wire ≤ length bytes → IsWire (take len bytes) → IsWire wire
    → take (len + length wire) (put_mid len k bytes copied) ≡ wire_form (cut (take len bytes) ++ cut wire)
appended bytes wire copied len k e fits w v =
    take-put_mid len k bytes copied (len + length wire) (omega (arith, ap length e)) (omega arith)
    ∙ ap (λ xs. take len bytes ++ xs) (e ∙ sym v.whole)
    ∙ ap (λ xs. xs ++ wire_form (cut wire)) (sym w.whole)
    ∙ sym (wire-append (cut (take len bytes)) (cut wire))

pub are-append : (a b : List (List ℕ)) → AreLabels a → AreLabels b → length (wire_form a) + length (wire_form b) < 255 → AreLabels (a ++ b)
are-append a b ra rb lt = record {
  each = All-append IsLabel a b ra.each rb.each;
  short = omega (arith, ap length (wire-append a b), length-append (wire_form a) (wire_form b), name_len-wire_form (a ++ b));
}

pub wire-size : (bytes : List ℕ) (len : ℕ) → IsWire (take len bytes) → len ≤ length bytes → length (wire_form (cut (take len bytes))) ≡ len
wire-size bytes len w h = omega (arith, ap length w.whole, length-take len bytes)

-- at most 127 labels fit
pub labels-few : (ls : List (List ℕ)) → AllByRecursion IsLabel ls → length ls + length ls ≤ length (wire_form ls)
labels-few [] h = omega arith
labels-few (l ∷ ls) h = omega (arith, h.0, labels-few ls h.1, length-append l (wire_form ls))

pub few_labels : (ls : List (List ℕ)) → AreLabels ls → length ls + length ls < 255
few_labels ls are = omega (arith, labels-few ls (recursion_from_All IsLabel ls are.each), wire_short ls are)
