-- Names that are printed label by label from their octets.
use Rattle.std.proofs.Common.{◌≡◌, ◌≢◌, ◌∙◌, ◌⊎◌, inl, inr, ℕ, ◌+◌, ◌-◌, ◌<◌, ◌≤◌, false, List, [], ◌∷◌, ◌++◌, length, get_or, take, drop, sym, ap, subst, refl, arith, append_assoc, append-nil, length-append}
use Rattle.std.proofs.Math.Seq.{take-add}
use Rattle.std.proofs.lemmas.List.{length-take-le, take_more}
use Rattle.std.proofs.lemmas.List.Concat.{flat_map-append}
use Rattle.wire_names.specs.rr.domain.DomainName.{IsLabel, name_len, wire_form}
use Rattle.wire_names.specs.serialize.layout.Bytes.{AreBytes}
use Rattle.wire_names.specs.text.TextForm.{bytes_text}
use Rattle.record_text.specs.declared.data.field.Field.TheVariants as field
use Rattle.text_print.specs.PrintedData.{PutsField}
use Rattle.text_print.proofs.PrintedFields.{put_name}
use Rattle.text_print.proofs.Spelled.{AreByteLabels, drop_bytes, labels_line, take_bytes}

wire_push : (labels : List (List ℕ)) (l : List ℕ) → wire_form (labels ++ l ∷ []) ≡ wire_form labels ++ length l ∷ l
wire_push [] l = ap (λ (t : List ℕ). length l ∷ t) (append-nil l)
wire_push (m ∷ labels) l = ap (λ (t : List ℕ). length m ∷ (m ++ t)) (wire_push labels l) ∙ ap (λ (t : List ℕ). length m ∷ t) (sym (append_assoc m (wire_form labels) (length l ∷ l)))

bytes_push : (labels : List (List ℕ)) (l : List ℕ) → AreByteLabels labels → IsLabel l → AreBytes l → AreByteLabels (labels ++ l ∷ [])
bytes_push [] l h sized bytes = (sized, bytes, tt)
bytes_push (m ∷ labels) l h sized bytes = (h.0, h.1, bytes_push labels l h.2 sized bytes)

line_push : (labels : List (List ℕ)) (l : List ℕ) → labels_line (labels ++ l ∷ []) ≡ labels_line labels ++ (bytes_text false l ++ 46 ∷ [])
line_push labels l = flat_map-append (λ (m : List ℕ). bytes_text false m ++ 46 ∷ []) labels (l ∷ []) ∙ ap (λ (t : List ℕ). labels_line labels ++ t) (append-nil (bytes_text false l ++ 46 ∷ []))

wire_len : (labels : List (List ℕ)) → name_len labels ≡ length (wire_form labels) + 1
wire_len [] = refl
wire_len (l ∷ labels) = let rest = wire_len labels in omega (arith, rest, length-append l (wire_form labels))

-- labels that are printed from the front of octets
abbrev pub NamedTo : List ℕ → List ℕ → List ℕ → Type 0
NamedTo octets before after = (labels : List (List ℕ)) × (octets ≡ wire_form labels) × AreByteLabels labels × (after ≡ before ++ 32 ∷ labels_line labels)

pub named_init : (before after : List ℕ) → after ≡ before ++ 32 ∷ [] → NamedTo [] before after
named_init before after e = ([], refl, tt, e)

pub named_more : (all : List ℕ) (place len : ℕ) (piece before middle after : List ℕ) → AreBytes all → NamedTo (take place all) before middle → place < length all → len ≡ get_or all place 0 → 0 < len → len ≤ 63 → place + 1 + len ≤ length all
    → piece ≡ take len (drop (place + 1) all) → after ≡ middle ++ (bytes_text false piece ++ 46 ∷ []) → NamedTo (take (place + 1 + len) all) before after
named_more all place len piece before middle after bytes (labels, is, are, put) below told some few within same one =
    let count : length piece ≡ len = ap length same ∙ length-take-le len (drop (place + 1) all) (omega (arith, Rattle.std.proofs.Common.length-drop (place + 1) all, within)) in
    let small : AreBytes piece = subst (λ (t : List ℕ). AreBytes t) (sym same) (take_bytes len (drop (place + 1) all) (drop_bytes (place + 1) all bytes)) in
    let front : take (place + 1 + len) all ≡ (take place all ++ get_or all place 0 ∷ []) ++ take len (drop (place + 1) all) = take-add (place + 1) len all ∙ ap (λ (t : List ℕ). t ++ take len (drop (place + 1) all)) (take_more all place 0 below) in
    let octets : ((take place all ++ get_or all place 0 ∷ []) ++ take len (drop (place + 1) all)) ≡ wire_form labels ++ length piece ∷ piece =
    rw (is, sym same, sym told, sym count) (append_assoc (wire_form labels) (length piece ∷ []) piece) in (
      labels ++ piece ∷ [],
      front ∙ octets ∙ sym (wire_push labels piece),
      bytes_push labels piece are (omega (arith, count, some), omega (arith, count, few)) small,
      one ∙ ap (λ (t : List ℕ). t ++ (bytes_text false piece ++ 46 ∷ [])) put ∙ append_assoc before (32 ∷ labels_line labels) (bytes_text false piece ++ 46 ∷ []) ∙ ap (λ (t : List ℕ). before ++ 32 ∷ t) (sym (line_push labels piece)),
    )

ended : (all : List ℕ) (place : ℕ) (labels : List (List ℕ)) → take place all ≡ wire_form labels → place < length all → get_or all place 0 ≡ 0 → take (place + 1) all ≡ wire_form labels ++ 0 ∷ []
ended all place labels is below zero_there = take_more all place 0 below ∙ rw (is, zero_there) refl

sized : (all : List ℕ) (place : ℕ) (labels : List (List ℕ)) → take place all ≡ wire_form labels → place < length all → length (wire_form labels) ≡ place
sized all place labels is below = sym (ap length is) ∙ length-take-le place all (omega (arith, below))

pub named_end : (all : List ℕ) (place : ℕ) (before after : List ℕ) → NamedTo (take place all) before after → place < length all → get_or all place 0 ≡ 0 → place ≤ 254 → place ≢ 0 → PutsField field.Name (take (place + 1) all) before after
named_end all place before after ([], is, are, put) below zero_there few some = absurd (some (sym (sized all place [] is below)))
named_end all place before after (l ∷ labels, is, are, put) below zero_there few some =
    put_name (l ∷ labels) (take (place + 1) all) before after are (omega (arith, wire_len (l ∷ labels), sized all place (l ∷ labels) is below, few)) (ended all place (l ∷ labels) is below zero_there) put

pub named_root : (all before middle after : List ℕ) → NamedTo [] before middle → 0 < length all → get_or all 0 0 ≡ 0 → after ≡ middle ++ 46 ∷ [] → PutsField field.Name (take 1 all) before after
named_root all before middle after (l ∷ labels, is, are, put) below zero_there one = absurd (cc)
named_root all before middle after ([], is, are, put) below zero_there one =
    put_name [] (take 1 all) before after tt (omega arith) (ended all 0 [] refl below zero_there) (one ∙ ap (λ (t : List ℕ). t ++ 46 ∷ []) put ∙ append_assoc before (32 ∷ []) (46 ∷ []))

-- where the labels end, the dot of the root stands if there are none
pub named_stop : (all : List ℕ) (place : ℕ) (before middle after : List ℕ) → NamedTo (take place all) before middle → place < length all → get_or all place 0 ≡ 0 → place ≤ 254
    → ((place ≡ 0) × (after ≡ middle ++ 46 ∷ [])) ⊎ ((place ≢ 0) × (after ≡ middle)) → PutsField field.Name (take (place + 1) all) before after
named_stop all place before middle after named below zero_there few (inl (none, one)) =
    let first : get_or all 0 0 ≡ 0 = subst (λ (n : ℕ). get_or all n 0 ≡ 0) none zero_there in
    subst (λ (n : ℕ). PutsField field.Name (take (n + 1) all) before after) (sym none) (named_root all before middle after (subst (λ (n : ℕ). NamedTo (take n all) before middle) none named) (omega (arith, below)) first one)
named_stop all place before middle after named below zero_there few (inr (some, same)) =
    subst (λ (t : List ℕ). PutsField field.Name (take (place + 1) all) before t) (sym same) (named_end all place before middle named below zero_there few some)
