-- Texts and names that stand in bytes that are written out: each premise holds by computing.
use Rattle.std.proofs.Common.{◌≡◌, ℕ, ◌+◌, ◌*◌, ◌≤◌, true, ◌&&◌, leb, List, [], ◌∷◌, length, get_or, take, drop, refl, sym, ap, ◌∙◌, arith}
use Rattle.std.proofs.lemmas.Bool.{leb-true, and_parts}
use Rattle.std.proofs.lemmas.List.{get_or-drop, get_or-take}
use Rattle.wire_names.specs.serialize.layout.Bytes.{BytesAt}
use Rattle.wire_names.specs.rr.domain.DomainName.{IsLabel}
use Rattle.wire_messages.specs.serialize.layout.NameLayout.{LabelsAt, NameAt, LabelsFault}
use Rattle.wire_messages.specs.serialize.layout.NameLayout.LabelsAt.{at_end, at_label, at_pointer}
use Rattle.wire_messages.specs.serialize.layout.NameLayout.LabelsFault.{after_label, after_pointer}
use Rattle.wire_messages.specs.serialize.layout.RecordLayout.{OctetsAt}
use Rattle.hickory_wire.specs.worked.Worked.{root}
use Rattle.wire_names.specs.declared.error.DecodeError.{DecodeError}

-- a text, by what is cut out of the bytes
pub stands : (bytes : List ℕ) (place : ℕ) (text : List ℕ) → leb (place + length text) (length bytes) ≡ true → take (length text) (drop place bytes) ≡ text → BytesAt bytes place text
stands bytes place text fits cut = record {
  fits = leb-true (place + length text) (length bytes) fits;
  same = λ k lt. sym (get_or-drop place bytes k 0) ∙ sym (get_or-take (length text) (drop place bytes) k 0 lt) ∙ ap (λ xs. get_or xs k 0) cut;
}

-- a label's length
pub is_label : (text : List ℕ) → (leb 1 (length text) && leb (length text) 63) ≡ true → IsLabel text
is_label text h =
    let parts = and_parts (leb 1 (length text)) (leb (length text) 63) h in
    let low : 1 ≤ length text = leb-true 1 (length text) parts.0 in
    let high : length text ≤ 63 = leb-true (length text) 63 parts.1 in
    (omega arith, omega arith)

-- the end byte at a place
pub end_at : {floor start : ℕ} {bytes : List ℕ} (place : ℕ) → leb floor place ≡ true → leb (place + 1) (length bytes) ≡ true → take 1 (drop place bytes) ≡ 0 ∷ [] → LabelsAt floor bytes start place [] (place + 1)
end_at {floor} {start} {bytes} place above fits cut = at_end (leb-true floor place above) (stands bytes place (0 ∷ []) fits cut) refl

-- a label at a place, and labels behind it
pub label_at : {floor start next : ℕ} {bytes : List ℕ} {labels : List (List ℕ)} (place : ℕ) (text : List ℕ) → leb floor place ≡ true → (leb 1 (length text) && leb (length text) 63) ≡ true
    → leb (place + length (length text ∷ text)) (length bytes) ≡ true → take (length (length text ∷ text)) (drop place bytes) ≡ length text ∷ text
    → LabelsAt floor bytes start (place + 1 + length text) labels next → LabelsAt floor bytes start place (text ∷ labels) next
label_at {floor} {start} {next} {bytes} {labels} place text above small fits cut behind =
    at_label (leb-true floor place above) (is_label text small) (stands bytes place (length text ∷ text) fits cut) refl behind

-- a pointer at a place, of these two bytes but for the two top bits, and the labels to which it leads
pub pointer_at : {floor start : ℕ} {bytes : List ℕ} {labels : List (List ℕ)} (place high low past : ℕ) → leb floor place ≡ true
    → leb (place + 2) (length bytes) ≡ true → take 2 (drop place bytes) ≡ (192 + high) ∷ low ∷ [] → leb (high * 256 + low + 1) start ≡ true
    → LabelsAt floor bytes (high * 256 + low) (high * 256 + low) labels past → LabelsAt floor bytes start place labels (place + 2)
pointer_at {floor} {start} {bytes} {labels} place high low past above fits cut prior there =
    let before : high * 256 + low + 1 ≤ start = leb-true (high * 256 + low + 1) start prior in
    at_pointer high low (high * 256 + low) past (leb-true floor place above) (stands bytes place ((192 + high) ∷ low ∷ []) fits cut) refl (omega arith) refl there

-- a fault behind a label
pub fault_behind_label : {start size : ℕ} {bytes : List ℕ} {e : DecodeError} (place : ℕ) (text : List ℕ) → (leb 1 (length text) && leb (length text) 63) ≡ true
    → leb (place + length (length text ∷ text)) (length bytes) ≡ true → take (length (length text ∷ text)) (drop place bytes) ≡ length text ∷ text → leb (size + 1 + length text) 255 ≡ true
    → LabelsFault bytes start (place + 1 + length text) (size + 1 + length text) e → LabelsFault bytes start place size e
fault_behind_label {start} {size} {bytes} {e} place text small fits cut short fault =
    after_label text (is_label text small) (stands bytes place (length text ∷ text) fits cut) (leb-true (size + 1 + length text) 255 short) fault

-- a fault where a pointer leads
pub fault_behind_pointer : {start size : ℕ} {bytes : List ℕ} {e : DecodeError} (place high low : ℕ) → leb (place + 2) (length bytes) ≡ true
    → take 2 (drop place bytes) ≡ (192 + high) ∷ low ∷ [] → leb (high * 256 + low + 1) start ≡ true
    → LabelsFault bytes (high * 256 + low) (high * 256 + low) size e → LabelsFault bytes start place size e
fault_behind_pointer {start} {size} {bytes} {e} place high low fits cut prior fault =
    let before : high * 256 + low + 1 ≤ start = leb-true (high * 256 + low + 1) start prior in
    after_pointer high low (high * 256 + low) (stands bytes place ((192 + high) ∷ low ∷ []) fits cut) refl (omega arith) fault

-- the root at a place
pub root_at : {floor : ℕ} {bytes : List ℕ} (place : ℕ) → leb floor place ≡ true → leb (place + 1) (length bytes) ≡ true → take 1 (drop place bytes) ≡ 0 ∷ [] → NameAt floor bytes place root (place + 1)
root_at {floor} {bytes} place above fits cut = record { labels = end_at place above fits cut; short = omega arith }

-- octets at a place
pub octets_at : {floor : ℕ} {bytes : List ℕ} (place : ℕ) (octets : List ℕ) → leb floor place ≡ true → leb (place + length octets) (length bytes) ≡ true → take (length octets) (drop place bytes) ≡ octets
    → OctetsAt floor bytes place octets (place + length octets)
octets_at {floor} {bytes} place octets above fits cut = record { above = leb-true floor place above; stands = stands bytes place octets fits cut; after = refl }
