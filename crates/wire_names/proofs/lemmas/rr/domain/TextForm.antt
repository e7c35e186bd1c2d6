-- Names as text, label by label.
use Rattle.std.proofs.Common.{◌≡◌, ◌∙◌, ℕ, zero, suc, ◌+◌, ◌<◌, List, [], ◌∷◌, ◌++◌, length, take, get_or, ap, sym, arith, Bool, false, flat_map, append-nil, codes, if◌then◌else◌, ◌≤◌, refl}
use Rattle.std.proofs.lemmas.List.{take_more, flat_map_more, take_all}
use Rattle.wire_names.specs.rr.domain.DomainName.{DomainName, wire_form, label_offset}
use Rattle.wire_names.specs.text.TextForm.{bytes_text, labels_text, spelled_name}
use Rattle.wire_names.proofs.lemmas.rr.domain.WireForm.{below_at}

-- what stands before a label, and the label
abbrev pub piece : ℕ → List ℕ → List ℕ
piece zero label = bytes_text false label
piece (suc i) label = 46 ∷ bytes_text false label

pub labels_text-more : (ls : List (List ℕ)) (i : ℕ) → i < length ls → labels_text (take (i + 1) ls) ≡ labels_text (take i ls) ++ piece i (get_or ls i [])
labels_text-more [] i h = absurd (omega arith)
labels_text-more (l ∷ ls) zero h = append-nil (bytes_text false l)
labels_text-more (l ∷ ls) (suc i) h =
    let one : suc i + 1 ≡ suc (i + 1) = omega arith in
    ap (λ k. labels_text (take k (l ∷ ls))) one
    ∙ ap (λ (more : List (List ℕ)). bytes_text false l ++ flat_map (λ m. 46 ∷ bytes_text false m) more) (take_more ls i [] (omega arith))
    ∙ sym (flat_map_more (λ m. 46 ∷ bytes_text false m) (bytes_text false l) (take i ls) (get_or ls i []))

pub first_piece : (i : ℕ) (dot shown label : List ℕ) → i ≡ 0 → dot ≡ [] → shown ≡ label → dot ++ bytes_text false shown ≡ piece i label
first_piece i dot shown label h d e = rw (h, d, e) refl

pub later_piece : (i : ℕ) (dot shown label : List ℕ) → (i ≡ 0 → ⊥) → dot ≡ 46 ∷ [] → shown ≡ label → dot ++ bytes_text false shown ≡ piece i label
later_piece zero dot shown label h d e = absurd (h refl)
later_piece (suc i) dot shown label h d e = rw (d, e) refl

spelled_some : (ls : List (List ℕ)) (is_fqdn : Bool) → 0 < length (wire_form ls)
    → labels_text ls ++ (if is_fqdn then codes "." else []) ≡ spelled_name (record { labels = ls; is_fqdn = is_fqdn })
spelled_some [] is_fqdn h = absurd (omega arith)
spelled_some (l ∷ ls) is_fqdn h = refl

pub labels_text-whole : (name : DomainName) (wire : List ℕ) (count place : ℕ) (dot : List ℕ) → wire ≡ wire_form name.labels → 0 < length wire
    → place ≡ label_offset name.labels count → count ≤ length name.labels → length wire ≤ place → dot ≡ (if name.is_fqdn then codes "." else [])
    → labels_text (take count name.labels) ++ dot ≡ spelled_name name
labels_text-whole name wire count place dot w some at below done d =
    let all : count ≡ length name.labels = below_at name.labels count below (omega (arith, ap length w)) in
    ap (λ (ls : List (List ℕ)). labels_text ls ++ dot) (take_all count name.labels (omega arith))
    ∙ ap (λ (t : List ℕ). labels_text name.labels ++ t) d
    ∙ spelled_some name.labels name.is_fqdn (omega (arith, ap length w))
