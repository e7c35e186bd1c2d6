-- Rests of names: one step after the other, and where the run of labels that they stand in may begin.
use Rattle.std.proofs.Common.{◌≡◌, ◌⊎◌, ℕ, zero, suc, ◌+◌, ◌-◌, ◌*◌, ◌<◌, ◌≤◌, List, [], ◌∷◌, ◌++◌, length, get_or, take, drop, Option, Some, None, refl, sym, ap, subst, ◌∙◌, arith, add-zero, inl, inr, length-append, length-drop}
use Rattle.std.specs.Prelude.{slice_get, slice_set, replicate, min}
use Rattle.std.proofs.lemmas.Bool.{cases_lt}
use Rattle.std.proofs.lemmas.List.{take-append-le, drop-append-le, drop-drop, take_all}
use Rattle.wire_names.specs.rr.domain.DomainName.{IsWire, cut, wire_form}
use Rattle.wire_names.specs.serialize.layout.Bytes.{BytesAt}
use Rattle.wire_messages.specs.serialize.layout.NameLayout.{LabelsAt}
use Rattle.wire_messages.specs.serialize.layout.NameLayout.LabelsAt.{at_end, at_label, at_pointer}
use Rattle.wire_reading.specs.representation.KnownNames.{IsRest, Holds, AreRests, labels_of}
use Rattle.wire_reading.specs.declared.serialize.reading.known_names.Rest.{Rest}
use Rattle.wire_names.proofs.lemmas.rr.domain.WireForm.{cut_of}
use Rattle.wire_names.proofs.lemmas.rr.domain.FirstLabel.{first_fits, rest_wire, rest_labels}
use Rattle.wire_messages.proofs.lemmas.serialize.layout.Stable.{LabelsAt-keeps, LabelsAt-same, KeepsFrom-same}

first : {bytes ns : List ℕ} {place n : ℕ} → BytesAt bytes place (n ∷ ns) → get_or bytes place 0 ≡ n
first {bytes} {ns} {place} {n} s = ap (λ i. get_or bytes i 0) (sym (add-zero place)) ∙ s.same 0 (omega arith)

second : {bytes ns : List ℕ} {place m n : ℕ} → BytesAt bytes place (m ∷ n ∷ ns) → get_or bytes (place + 1) 0 ≡ n
second s = s.same 1 (omega arith)

pub has_byte : {floor start place next : ℕ} {bytes : List ℕ} {labels : List (List ℕ)} → LabelsAt floor bytes start place labels next → place < length bytes
has_byte (at_end a s e) = omega (arith, s.fits)
has_byte (at_label a l s e more) = omega (arith, s.fits)
has_byte (at_pointer h w g p a s e lt d more) = omega (arith, s.fits)

-- a later begin of the run is as good
pub begins_later : {start start' place next : ℕ} {bytes : List ℕ} {labels : List (List ℕ)} → start ≤ start' → LabelsAt 0 bytes start place labels next → LabelsAt 0 bytes start' place labels next
begins_later {start} {start'} {place} {next} {bytes} h at = LabelsAt-keeps (KeepsFrom-same 0 bytes) (omega arith) h at

-- the label that stands at place, and those behind it
pub record LabelHere (bytes : List ℕ) (start place n : ℕ) (labels : List (List ℕ)) (next : ℕ) : Type 0 where
  pub label : List ℕ
  pub rest : List (List ℕ)
  pub is : labels ≡ label ∷ rest
  pub len : length label ≡ n
  pub fits : place + 1 + n ≤ length bytes
  pub more : LabelsAt 0 bytes start (place + 1 + n) rest next
  pub whole : (s : ℕ) → LabelsAt 0 bytes s (place + 1 + n) rest next → LabelsAt 0 bytes s place labels next

pub label_stands : {start place next : ℕ} {bytes : List ℕ} {labels : List (List ℕ)} (n : ℕ) → n ≡ get_or bytes place 0 → 0 < n → n < 64 → LabelsAt 0 bytes start place labels next → LabelHere bytes start place n labels next
label_stands n h low high (at_end a s e) = absurd (omega (arith, first s))
label_stands {start} {place} {next} {bytes} n h low high (at_label {label = label} {labels = rest} a l s e more) =
    let len : length label ≡ n = omega (arith, first s) in
    record {
      label = label;
      rest = rest;
      is = refl;
      len = len;
      fits = omega (arith, s.fits);
      more = subst (λ (p : ℕ). LabelsAt 0 bytes start p rest next) (omega arith) more;
      whole = λ t at. at_label {behind = place + 1 + n} a l s (omega arith) at;
    }
label_stands n h low high (at_pointer g w goal p a s e lt d more) = absurd (omega (arith, first s))

pub ends_anywhere : {start place next : ℕ} {bytes : List ℕ} {labels : List (List ℕ)} (s : ℕ) → get_or bytes place 0 ≡ 0 → LabelsAt 0 bytes start place labels next → LabelsAt 0 bytes s place labels next
ends_anywhere t h (at_end a s e) = at_end a s e
ends_anywhere t h (at_label a l s e more) = absurd (omega (arith, first s, l.0))
ends_anywhere t h (at_pointer g w goal p a s e lt d more) = absurd (omega (arith, first s))

-- the pointer that stands at place, and the labels that it leads to
pub record PointerHere (bytes : List ℕ) (start place goal : ℕ) (labels : List (List ℕ)) (next : ℕ) : Type 0 where
  pub high : 192 ≤ get_or bytes place 0
  pub fits : place + 1 < length bytes
  pub prior : goal < start
  pub past : ℕ
  pub more : LabelsAt 0 bytes goal goal labels past
  pub least : LabelsAt 0 bytes (goal + 1) place labels next

pub pointer_stands : {start place next : ℕ} {bytes : List ℕ} {labels : List (List ℕ)} (high low : ℕ) → high ≡ get_or bytes place 0 → low ≡ get_or bytes (place + 1) 0 → 64 ≤ high → LabelsAt 0 bytes start place labels next
    → PointerHere bytes start place ((high - 192) * 256 + low) labels next
pointer_stands high low h k far (at_end a s e) = absurd (omega (arith, first s))
pointer_stands high low h k far (at_label a l s e more) = absurd (omega (arith, first s, l.1))
pointer_stands {start} {place} {next} {bytes} {labels} high low h k far (at_pointer g w goal p a s e lt d more) =
    let is : (high - 192) * 256 + low ≡ goal = omega (arith, first s, second s) in
    record {
      high = omega (arith, first s);
      fits = omega (arith, s.fits);
      prior = omega arith;
      past = p;
      more = subst (λ (t : ℕ). LabelsAt 0 bytes t t labels p) (sym is) more;
      least = at_pointer g w goal p a s e (omega arith) d more;
    }

-- ---- the labels in wire form

pub begins : (wire label : List ℕ) (rest : List (List ℕ)) → IsWire wire → cut wire ≡ label ∷ rest → wire ≡ length label ∷ (label ++ wire_form rest)
begins wire label rest w is = sym w.whole ∙ ap wire_form is

module _ (wire label : List ℕ) (rest : List (List ℕ)) (n : ℕ) (w : IsWire wire) (is : cut wire ≡ label ∷ rest) (len : length label ≡ n) where
  some : 0 < length wire
  some = omega (arith, ap length (begins wire label rest w is))

  count : 1 + n ≡ 1 + get_or wire 0 0
  count = omega (arith, ap (λ (b : List ℕ). get_or b 0 0) (begins wire label rest w is))

  pub behind_fits : 1 + n ≤ length wire
  behind_fits = omega (arith, count, first_fits wire w some)

  pub behind_wire : IsWire (drop (1 + n) wire)
  behind_wire = rest_wire wire (drop (1 + n) wire) (1 + n) w some count refl

  pub behind_labels : cut (drop (1 + n) wire) ≡ rest
  behind_labels = rest_labels wire (drop (1 + n) wire) (1 + n) w some count refl ∙ ap (drop 1) is

-- behind a label
pub rest_behind : {bytes wire : List ℕ} {start place : ℕ} (n : ℕ) → n ≡ get_or bytes place 0 → 0 < n → n < 64 → IsRest bytes start place wire → IsRest bytes start (place + 1 + n) (drop (1 + n) wire) × (1 + n ≤ length wire)
rest_behind {bytes} {wire} {start} {place} n h low high r =
    let l : LabelHere bytes start place n (cut wire) r.next = label_stands n h low high r.labels in (
      record {
        next = r.next;
        is_wire = behind_wire wire l.label l.rest n r.is_wire l.is l.len;
        labels = rw (behind_labels wire l.label l.rest n r.is_wire l.is l.len) l.more;
      },
      behind_fits wire l.label l.rest n r.is_wire l.is l.len,
    )

-- behind a pointer
pub rest_led : {bytes wire : List ℕ} {start place : ℕ} (goal : ℕ) (r : IsRest bytes start place wire) → PointerHere bytes start place goal (cut wire) r.next → IsRest bytes goal goal wire
rest_led goal r p = record { next = p.past; is_wire = r.is_wire; labels = p.more }

-- ---- where a run may begin

-- The labels at place are those of its run up to here, and the rest.
pub record Scanned (bytes : List ℕ) (place here : ℕ) (labels : List (List ℕ)) (next : ℕ) : Type 0 where
  pub rest : List (List ℕ)
  pub stands : LabelsAt 0 bytes place here rest next
  pub whole : (s : ℕ) → LabelsAt 0 bytes s here rest next → LabelsAt 0 bytes s place labels next

pub scanned_none : {bytes : List ℕ} {place next : ℕ} {labels : List (List ℕ)} → LabelsAt 0 bytes place place labels next → Scanned bytes place place labels next
scanned_none {bytes} {place} {next} {labels} at = record { rest = labels; stands = at; whole = λ s h. h }

pub scanned_label : {bytes : List ℕ} {place here next : ℕ} {labels : List (List ℕ)} (n : ℕ) → n ≡ get_or bytes here 0 → 0 < n → n < 64 → Scanned bytes place here labels next → Scanned bytes place (here + 1 + n) labels next
scanned_label {bytes} {place} {here} {next} n h low high s =
    let l : LabelHere bytes place here n s.rest next = label_stands n h low high s.stands in
    record { rest = l.rest; stands = l.more; whole = λ t at. s.whole t (l.whole t at) }

-- The rest that is noted here ends the run as well.
pub scanned_noted : {bytes kept : List ℕ} {place here next least : ℕ} {labels : List (List ℕ)} → Scanned bytes place here labels next → IsRest bytes least here kept → least ≤ place → LabelsAt 0 bytes least place labels next
scanned_noted {bytes} {kept} {place} {here} {next} {least} {labels} s r h =
    let same = LabelsAt-same refl r.labels s.stands in
    s.whole least (subst (λ (n : ℕ). LabelsAt 0 bytes least here s.rest n) same.1 (subst (λ (ls : List (List ℕ)). LabelsAt 0 bytes least here ls r.next) same.0 r.labels))

pub least_of : {bytes kept : List ℕ} {place here next least m : ℕ} {labels : List (List ℕ)} → Scanned bytes place here labels next → IsRest bytes least here kept → m ≡ min least place → LabelsAt 0 bytes place place labels next → LabelsAt 0 bytes m place labels next
least_of {bytes} {kept} {place} {here} {next} {least} {m} {labels} s r e at = elim (cases_lt place least) [
  | inl lt ↦ subst (λ (b : ℕ). LabelsAt 0 bytes b place labels next) (omega (arith, e)) at
  | inr le ↦ subst (λ (b : ℕ). LabelsAt 0 bytes b place labels next) (omega (arith, e)) (scanned_noted s r le)
]

-- ---- what is noted

pub holds_rest : (bytes labels : List ℕ) (place from until least : ℕ) → until ≡ length labels → from ≤ length labels → IsRest bytes least place (drop from labels) → Holds bytes labels place (record { from = from; until = until; least = least })
holds_rest bytes labels place from until least e h r = record {
  order = omega (arith, e);
  within = omega (arith, e);
  stands = rw (take_all (until - from) (drop from labels) (omega (arith, e, length-drop from labels))) r;
}

pub behind_in : (bytes labels : List ℕ) (start place from n : ℕ) → n ≡ get_or bytes place 0 → 0 < n → n < 64 → from ≤ length labels → IsRest bytes start place (drop from labels)
    → IsRest bytes start (place + 1 + n) (drop (from + 1 + n) labels) × (from + 1 + n ≤ length labels)
behind_in bytes labels start place from n h low high within r =
    let b = rest_behind n h low high r in
    let e : drop (1 + n) (drop from labels) ≡ drop (from + 1 + n) labels = drop-drop (1 + n) from labels ∙ ap (λ (k : ℕ). drop k labels) (omega arith) in
    (subst (λ (w : List ℕ). IsRest bytes start (place + 1 + n) w) e b.0, omega (arith, b.1, length-drop from labels))

set_gives : (rests : List (Option Rest)) (i j : ℕ) (new rest : Rest) → slice_get (slice_set rests i (Some new)) j ≡ Some (Some rest) → ((j ≡ i) × (new ≡ rest)) ⊎ (slice_get rests j ≡ Some (Some rest))
set_gives [] i j new rest e = inr e
set_gives (x ∷ xs) zero zero new rest e = inl (refl, cc)
set_gives (x ∷ xs) zero (suc j) new rest e = inr e
set_gives (x ∷ xs) (suc i) zero new rest e = inr e
set_gives (x ∷ xs) (suc i) (suc j) new rest e = elim (set_gives xs i j new rest e) [
  | inl h ↦ inl (ap suc h.0, h.1)
  | inr h ↦ inr h
]

pub noted : (bytes labels : List ℕ) (rests : List (Option Rest)) (place : ℕ) (new : Rest) → AreRests bytes labels rests → Holds bytes labels place new → AreRests bytes labels (slice_set rests place (Some new))
noted bytes labels rests place new are holds = λ j rest e. elim (set_gives rests place j new rest e) [
  | inl h ↦ subst (λ (r : Rest). Holds bytes labels j r) h.1 (subst (λ (p : ℕ). Holds bytes labels p new) (sym h.0) holds)
  | inr h ↦ are j rest h
]

none_gives : (n j : ℕ) (rest : Rest) → slice_get (replicate n None) j ≡ Some (Some rest) → ⊥
none_gives zero j rest e = absurd cc
none_gives (suc n) zero rest e = absurd cc
none_gives (suc n) (suc j) rest e = none_gives n j rest e

pub none_noted : (bytes labels : List ℕ) (n : ℕ) → AreRests bytes labels (replicate n None)
none_noted bytes labels n = λ j rest e. absurd (none_gives n j rest e)

more_labels : (labels more : List ℕ) (rest : Rest) → rest.from ≤ rest.until → rest.until ≤ length labels → labels_of (labels ++ more) rest ≡ labels_of labels rest
more_labels labels more rest order within =
    ap (take (rest.until - rest.from)) (drop-append-le rest.from labels more (omega arith))
    ∙ take-append-le (rest.until - rest.from) (drop rest.from labels) more (omega (arith, length-drop rest.from labels))

pub still_holds : (bytes labels more : List ℕ) (rests : List (Option Rest)) → AreRests bytes labels rests → AreRests bytes (labels ++ more) rests
still_holds bytes labels more rests are = λ place rest e.
    let h = are place rest e in
    record {
      order = h.order;
      within = omega (arith, h.within, length-append labels more);
      stands = rw (more_labels labels more rest h.order h.within) h.stands;
    }

pub rest_later : {bytes wire : List ℕ} {start start' place : ℕ} → start ≤ start' → IsRest bytes start place wire → IsRest bytes start' place wire
rest_later h r = record { next = r.next; is_wire = r.is_wire; labels = begins_later h r.labels }

pub rest_of_name : (bytes wire : List ℕ) (place next : ℕ) (labels : List (List ℕ)) → wire ≡ wire_form labels → IsWire wire → LabelsAt 0 bytes place place labels next → IsRest bytes place place wire
rest_of_name bytes wire place next labels e w at = record { next = next; is_wire = w; labels = rw (cut_of wire labels e) at }
