-- A name stays where it is when bytes are added, and when bytes below its floor change; bytes have at most one name at
-- a place.
use Rattle.std.proofs.Common.{◌≡◌, ℕ, suc, ◌+◌, ◌≤◌, List, ◌∷◌, ◌++◌, length, get_or, refl, sym, ap, ◌∙◌, arith, length-append}
use Rattle.std.proofs.lemmas.List.{get_or_append_left, get_or-append-add, ext_get_or}
use Rattle.wire_names.specs.rr.domain.DomainName.{DomainName}
use Rattle.wire_names.specs.serialize.layout.Bytes.{BytesAt, KeepsFrom}
use Rattle.wire_messages.specs.serialize.layout.NameLayout.{LabelsAt, NameAt}
use Rattle.wire_messages.specs.serialize.layout.NameLayout.LabelsAt.{at_end, at_label, at_pointer}

pub BytesAt-keeps : {old new text : List ℕ} {floor place : ℕ} → KeepsFrom floor old new → floor ≤ place → BytesAt old place text → BytesAt new place text
BytesAt-keeps {old} {new} {text} {floor} {place} k h s = record {
  fits = omega (arith, k.longer, s.fits);
  same = λ i lt. k.same (place + i) (omega arith) (omega (arith, s.fits)) ∙ s.same i lt;
}

pub LabelsAt-keeps : {old new : List ℕ} {floor floor' start start' place next : ℕ} {labels : List (List ℕ)} → KeepsFrom floor old new → floor' ≤ floor → start ≤ start' → LabelsAt floor old start place labels next → LabelsAt floor' new start' place labels next
LabelsAt-keeps k f s (at_end a b c) = at_end (omega arith) (BytesAt-keeps k a b) c
LabelsAt-keeps k f s (at_label a l b c more) = at_label (omega arith) l (BytesAt-keeps k a b) c (LabelsAt-keeps k f s more)
LabelsAt-keeps k f s (at_pointer high low goal past a b c lt d more) = at_pointer high low goal past (omega arith) (BytesAt-keeps k a b) c (omega arith) d (LabelsAt-keeps k f (omega arith) more)

pub NameAt-keeps : {old new : List ℕ} {floor floor' place next : ℕ} {name : DomainName} → KeepsFrom floor old new → floor' ≤ floor → NameAt floor old place name next → NameAt floor' new place name next
NameAt-keeps k f n = record { labels = LabelsAt-keeps k f (omega arith) n.labels; short = n.short }

heads : {bytes xs ys : List ℕ} {x y p q : ℕ} → p ≡ q → BytesAt bytes p (x ∷ xs) → BytesAt bytes q (y ∷ ys) → x ≡ y
heads {bytes} {xs} {ys} {x} {y} {p} {q} e s t = sym (s.same 0 (omega arith)) ∙ ap (λ i. get_or bytes (i + 0) 0) e ∙ t.same 0 (omega arith)

seconds : {bytes xs ys : List ℕ} {x y v w p q : ℕ} → p ≡ q → BytesAt bytes p (v ∷ x ∷ xs) → BytesAt bytes q (w ∷ y ∷ ys) → x ≡ y
seconds {bytes} {xs} {ys} {x} {y} {v} {w} {p} {q} e s t = sym (s.same 1 (omega arith)) ∙ ap (λ i. get_or bytes (i + 1) 0) e ∙ t.same 1 (omega arith)

labels_same : {bytes l m : List ℕ} {p q : ℕ} → p ≡ q → BytesAt bytes p (length l ∷ l) → BytesAt bytes q (length m ∷ m) → l ≡ m
labels_same {bytes} {l} {m} {p} {q} e s t =
    let same : length l ≡ length m = heads e s t in
    ext_get_or 0 l m same (λ i h. sym (s.same (suc i) (omega arith)) ∙ ap (λ n. get_or bytes (n + suc i) 0) e ∙ t.same (suc i) (omega arith))

pub LabelsAt-same : {bytes : List ℕ} {floor floor' start start' p q next next' : ℕ} {ls ms : List (List ℕ)} → p ≡ q → LabelsAt floor bytes start p ls next → LabelsAt floor' bytes start' q ms next' → (ls ≡ ms) × (next ≡ next')
LabelsAt-same e (at_end a b c) (at_end a' b' c') = (refl, omega arith)
LabelsAt-same e (at_end a b c) (at_label a' l' b' c' m') = let h = heads e b b' in absurd (omega (arith, h, l'.0))
LabelsAt-same e (at_end a b c) (at_pointer h' w' g' t' a' b' c' d' e' m') = let h = heads e b b' in absurd (omega (arith, h))
LabelsAt-same e (at_label a l b c m) (at_end a' b' c') = let h = heads e b b' in absurd (omega (arith, h, l.0))
LabelsAt-same e (at_label a l b c m) (at_label a' l' b' c' m') =
    let same = labels_same e b b' in
    let rest = LabelsAt-same (omega (arith, ap length same)) m m' in
    (cc, rest.1)
LabelsAt-same e (at_label a l b c m) (at_pointer h' w' g' t' a' b' c' d' e' m') = let h = heads e b b' in absurd (omega (arith, h, l.1))
LabelsAt-same e (at_pointer h1 w g t a b c d e1 m) (at_end a' b' c') = let h = heads e b b' in absurd (omega (arith, h))
LabelsAt-same e (at_pointer h1 w g t a b c d e1 m) (at_label a' l' b' c' m') = let h = heads e b b' in absurd (omega (arith, h, l'.1))
LabelsAt-same e (at_pointer h1 w g t a b c d e1 m) (at_pointer h' w' g' t' a' b' c' d' e' m') =
    let h = heads e b b' in
    let k = seconds e b b' in
    ((LabelsAt-same (omega (arith, h, k)) m m').0, omega arith)

pub KeepsFrom-append : (floor : ℕ) (bytes more : List ℕ) → KeepsFrom floor bytes (bytes ++ more)
KeepsFrom-append floor bytes more = record {
  longer = omega (arith, length-append bytes more);
  same = λ k _ h. get_or_append_left bytes more 0 k h;
}

pub KeepsFrom-same : (floor : ℕ) (bytes : List ℕ) → KeepsFrom floor bytes bytes
KeepsFrom-same floor bytes = record { longer = omega arith; same = λ k _ _. refl }

pub KeepsFrom-trans : {floor : ℕ} {a b c : List ℕ} → KeepsFrom floor a b → KeepsFrom floor b c → KeepsFrom floor a c
KeepsFrom-trans h k = record {
  longer = omega (arith, h.longer, k.longer);
  same = λ i l lt. k.same i l (omega (arith, h.longer)) ∙ h.same i l lt;
}

pub BytesAt-append : (bytes text : List ℕ) → BytesAt (bytes ++ text) (length bytes) text
BytesAt-append bytes text = record {
  fits = omega (arith, length-append bytes text);
  same = λ k _. get_or-append-add bytes text k 0;
}
