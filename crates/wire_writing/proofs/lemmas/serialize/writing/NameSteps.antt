-- The steps of writing a name with pointers.
use Rattle.std.proofs.Common.{◌≡◌, ◌≢◌, inl, inr, ℕ, ◌+◌, ◌/◌, ◌%◌, ◌^◌, ◌<◌, ◌≤◌, List, [], ◌∷◌, ◌++◌, length, take, drop, get_or, Some, None, true, ◌==◌, refl, sym, ap, ◌∙◌, subst, arith, length-append}
use Rattle.std.proofs.lemmas.List.{take_at, drop_at, append_assoc, append-nil, get_or-append-add}
use Rattle.std.proofs.lemmas.List.Elements.{All-weaker, All-push, All-contains, All-head, All-tail, Contains-push, Contains-append_left}
use Rattle.std.specs.List.{Contains}
use Rattle.std.proofs.lemmas.Bool.{cases_lt, eqb-true}
use Rattle.std.proofs.lemmas.Slice.Eq.{bytes_eq-Decides}
use Rattle.wire_names.specs.rr.domain.DomainName.{IsLabel, AreLabels, IsWire, wire_form, cut}
use Rattle.wire_names.specs.serialize.layout.Bytes.{BytesAt, KeepsFrom}
use Rattle.wire_messages.specs.serialize.layout.NameLayout.{LabelsAt}
use Rattle.wire_messages.specs.serialize.layout.NameLayout.LabelsAt.{at_end, at_label, at_pointer}
use Rattle.wire_writing.specs.representation.Noted.{Notes, first_place, IsNote, AreNotes, HasNote, AddsNotes, KeepsNotes, WritesLabels, Compresses}
use Rattle.wire_names.proofs.lemmas.rr.domain.WireForm.{cut-wire, cut_of, is_wire_of}
use Rattle.wire_messages.proofs.lemmas.serialize.layout.ByteTexts.{BytesAt-left}
use Rattle.wire_messages.proofs.lemmas.serialize.layout.FormKeeps.{LabelsAt-longer}
use Rattle.wire_messages.proofs.lemmas.serialize.layout.Stable.{BytesAt-append, LabelsAt-keeps, KeepsFrom-append, KeepsFrom-same}
use Rattle.wire_writing.proofs.lemmas.serialize.writing.FirstPlaces.{first_place-at}
use Rattle.wire_writing.proofs.lemmas.serialize.writing.Lookups.{note_found, note_missing, fresh_behind}

-- the wire form of labels, of which there is a first
pub record Parts (wire : List ℕ) : Type 0 where
  pub label : List ℕ
  pub rest : List (List ℕ)
  pub is : cut wire ≡ label ∷ rest
  pub is_label : IsLabel label
  pub front : take (1 + get_or wire 0 0) wire ≡ length label ∷ label
  pub behind : drop (1 + get_or wire 0 0) wire ≡ wire_form rest
  pub are : AreLabels rest
  pub count : get_or wire 0 0 ≡ length label
  pub size : 1 + length label + length (wire_form rest) ≡ length wire

parts_by : (wire : List ℕ) (ls : List (List ℕ)) → AreLabels ls → wire_form ls ≡ wire → cut wire ≡ ls → wire ≢ [] → Parts wire
parts_by wire [] a e k n = absurd (n (sym e))
parts_by wire (l ∷ ls) a e k n =
    let count : get_or wire 0 0 ≡ length l = ap (λ s. get_or s 0 0) (sym e) in
    record {
      label = l;
      rest = ls;
      is = k;
      is_label = All-head IsLabel l ls a.each;
      front = ap (λ s. take (1 + get_or wire 0 0) s) (sym e) ∙ take_at (length l ∷ l) (wire_form ls) (1 + get_or wire 0 0) (omega arith);
      behind = ap (λ s. drop (1 + get_or wire 0 0) s) (sym e) ∙ drop_at (length l ∷ l) (wire_form ls) (1 + get_or wire 0 0) (omega arith);
      are = record { each = All-tail IsLabel l ls a.each; short = omega (arith, a.short) };
      count = count;
      size = omega (arith, ap length e, length-append (length l ∷ l) (wire_form ls));
    }

pub parts : (wire : List ℕ) → IsWire wire → wire ≢ [] → Parts wire
parts wire w n = parts_by wire (cut wire) w.are w.whole refl n

-- what stands behind the first label
pub record Rest (wire : List ℕ) : Type 0 where
  pub within : 1 + get_or wire 0 0 ≤ length wire
  pub shorter : length (drop (1 + get_or wire 0 0) wire) < length wire
  pub is_wire : IsWire (drop (1 + get_or wire 0 0) wire)

pub rest_of : (wire : List ℕ) → IsWire wire → wire ≢ [] → Rest wire
rest_of wire w n =
    let p = parts wire w n in
    record {
      within = omega (arith, p.size, p.count);
      shorter = omega (arith, p.size, ap length p.behind);
      is_wire = is_wire_of (drop (1 + get_or wire 0 0) wire) p.rest p.behind p.are;
    }

pub AreNotes-keeps : {old new : List ℕ} {start start' : ℕ} → KeepsFrom 12 old new → start ≤ start' → (notes : Notes) → AreNotes old start notes → AreNotes new start' notes
AreNotes-keeps {old} {new} {start} {start'} k s notes h =
    All-weaker (IsNote old start) (IsNote new start') (λ note n. record { before = omega (arith, n.before); past = n.past; stand = LabelsAt-keeps k (omega arith) (omega arith) n.stand }) notes h

-- a text put behind bytes stands there
pub BytesAt-behind : (base text : List ℕ) (place : ℕ) → length base ≡ place → BytesAt (base ++ text) place text
BytesAt-behind base text place e = subst (λ n. BytesAt (base ++ text) n text) e (BytesAt-append base text)

adds_nothing : (longest : ℕ) (notes : Notes) → AddsNotes longest notes notes
adds_nothing longest notes = record { more = []; is = sym (append-nil notes); short = λ i x h. absurd (omega arith) }

adds_note : (wire : List ℕ) (place : ℕ) (notes notes' notes2 : Notes) → AddsNotes (length wire) notes notes' → notes2 ≡ notes' ++ (wire, place) ∷ [] → AddsNotes (length wire) notes notes2
adds_note wire place notes notes' notes2 a e = record {
  more = a.more ++ (wire, place) ∷ [];
  is = e ∙ ap (λ ns. ns ++ (wire, place) ∷ []) a.is ∙ append_assoc notes a.more ((wire, place) ∷ []);
  short = All-push (λ note. length note.0 ≤ length wire) a.more (wire, place) a.short (omega arith);
}

adds_fewer : (less most : ℕ) (notes notes' : Notes) → AddsNotes less notes notes' → less ≤ most → AddsNotes most notes notes'
adds_fewer less most notes notes' a le = record {
  more = a.more;
  is = a.is;
  short = All-weaker (λ note. length note.0 ≤ less) (λ note. length note.0 ≤ most) (λ note h. omega arith) a.more a.short;
}

some_bytes : (xs : List ℕ) → xs ≢ [] → 0 < length xs
some_bytes [] ne = absurd (ne refl)
some_bytes (x ∷ xs) ne = omega arith

pub writes_end : (old new wire : List ℕ) (notes : Notes) → 12 ≤ length old → new ≡ old ++ 0 ∷ [] → wire ≡ [] → WritesLabels old new notes notes wire
writes_end old new wire notes low e z =
    let size : length new ≡ length old + 1 = omega (arith, ap length e, length-append old (0 ∷ [])) in
    record {
      more = 0 ∷ [];
      is = e;
      short = omega arith;
      adds = adds_nothing (length wire) notes;
      stand = λ base start len at h. (
        subst (λ ls. LabelsAt 12 (base ++ 0 ∷ []) start (length old) ls (length new)) (sym (ap cut z ∙ cut-wire []))
            (at_end low (BytesAt-behind base (0 ∷ []) (length old) len) (omega (arith, size))),
        AreNotes-keeps (KeepsFrom-append 12 base (0 ∷ [])) (omega (arith, size)) notes h,
      );
    }

pub writes_pointer : (old new wire : List ℕ) (notes : Notes) (place : ℕ) → 12 ≤ length old → wire ≢ [] → new ≡ old ++ (192 + place / 256) ∷ (place % 256) ∷ [] → first_place wire notes ≡ Some place → WritesLabels old new notes notes wire
writes_pointer old new wire notes place low ne e f =
    let text = (192 + place / 256) ∷ (place % 256) ∷ [] in
    let size : length new ≡ length old + 2 = omega (arith, ap length e, length-append old text) in
    record {
      more = text;
      is = e;
      short = omega (arith, some_bytes wire ne);
      adds = adds_nothing (length wire) notes;
      stand = λ base start len at h.
          let kept = KeepsFrom-append 12 base text in
          let noted = All-contains (IsNote base start) notes (wire, place) h (note_found wire place notes f) in (
            at_pointer (place / 256) (place % 256) place noted.past low (BytesAt-behind base text (length old) len) (omega arith) (omega (arith, noted.before)) (omega (arith, size)) (LabelsAt-keeps kept (omega arith) (omega arith) noted.stand),
            AreNotes-keeps kept (omega (arith, size)) notes h,
          );
    }

pub writes_label : (old mid new wire : List ℕ) (notes notes' : Notes) → 12 ≤ length old → IsWire wire → wire ≢ [] → mid ≡ old ++ take (1 + get_or wire 0 0) wire
    → WritesLabels mid new notes notes' (drop (1 + get_or wire 0 0) wire) → WritesLabels old new notes notes' wire
writes_label old mid new wire notes notes' low is ne e w =
    let p = parts wire is ne in
    let text = length p.label ∷ p.label in
    let e2 : mid ≡ old ++ text = e ∙ ap (λ s. old ++ s) p.front in
    let size : length mid ≡ length old + (1 + length p.label) = omega (arith, ap length e2, length-append old text) in
    record {
      more = text ++ w.more;
      is = w.is ∙ ap (λ b. b ++ w.more) e2 ∙ append_assoc old text w.more;
      short = omega (arith, length-append text w.more, w.short, p.size, ap length p.behind);
      adds = adds_fewer (length (drop (1 + get_or wire 0 0) wire)) (length wire) notes notes' w.adds (omega (arith, p.size, ap length p.behind));
      stand = λ base start len at h.
          let r = w.stand (base ++ text) start (omega (arith, length-append base text)) (omega arith) (AreNotes-keeps (KeepsFrom-append 12 base text) (omega arith) notes h) in
          let same : (base ++ text) ++ w.more ≡ base ++ (text ++ w.more) = append_assoc base text w.more in
          let behind : LabelsAt 12 (base ++ (text ++ w.more)) start (length mid) p.rest (length new) =
          subst (λ ls. LabelsAt 12 (base ++ (text ++ w.more)) start (length mid) ls (length new)) (cut_of (drop (1 + get_or wire 0 0) wire) p.rest p.behind)
          (subst (λ b. LabelsAt 12 b start (length mid) (cut (drop (1 + get_or wire 0 0) wire)) (length new)) same r.0) in
          let stands : BytesAt (base ++ (text ++ w.more)) (length old) text = BytesAt-left (base ++ (text ++ w.more)) (length old) text w.more (BytesAt-behind base (text ++ w.more) (length old) len) in (
            subst (λ ls. LabelsAt 12 (base ++ (text ++ w.more)) start (length old) ls (length new)) (sym p.is) (at_label low p.is_label stands (omega arith) behind),
            subst (λ b. AreNotes b (length new) notes') same r.1,
          );
    }

pub writes_note : (old new wire : List ℕ) (notes notes' notes2 : Notes) (place : ℕ) → WritesLabels old new notes notes' wire → place ≡ length old → notes2 ≡ notes' ++ (wire, place) ∷ [] → WritesLabels old new notes notes2 wire
writes_note old new wire notes notes' notes2 place w at_old e = record {
  more = w.more;
  is = w.is;
  short = w.short;
  adds = adds_note wire place notes notes' notes2 w.adds e;
  stand = λ base start len at h.
      let r = w.stand base start len at h in
      let fresh : IsNote (base ++ w.more) (length new) (wire, place) = record {
        before = omega (arith, (LabelsAt-longer r.0).0);
        past = length new;
        stand = subst (λ p. LabelsAt 12 (base ++ w.more) p p (cut wire) (length new)) (sym at_old) (LabelsAt-keeps (KeepsFrom-same 12 (base ++ w.more)) (omega arith) at r.0);
      } in
      (r.0, subst (λ ns. AreNotes (base ++ w.more) (length new) ns) (sym e) (All-push (IsNote (base ++ w.more) (length new)) notes' (wire, place) r.1 fresh));
}

-- A suffix that was not noted is not noted where only shorter ones were.
pub still_fresh : (wire : List ℕ) (rest : ℕ) (notes notes' : Notes) → first_place wire notes ≡ None → AddsNotes rest notes notes' → rest < length wire → first_place wire notes' ≡ None
still_fresh wire rest notes notes' f a lt =
    ap (λ ns. first_place wire ns) a.is ∙ fresh_behind wire notes a.more f (All-weaker (λ note. length note.0 ≤ rest) (λ note. length note.0 < length wire) (λ note h. omega arith) a.more a.short)

-- What is noted is found.
pub found_noted : (wire : List ℕ) (place : ℕ) (notes notes' : Notes) → first_place wire notes ≡ None → notes' ≡ notes ++ (wire, place) ∷ [] → first_place wire notes' ≡ Some place
found_noted wire place notes notes' f e = ap (λ ns. first_place wire ns) e ∙ first_place-at wire notes (wire, place) [] f ((bytes_eq-Decides wire wire).1 refl)

pub compresses_pointer : (old new wire : List ℕ) (notes : Notes) (place : ℕ) → new ≡ old ++ (192 + place / 256) ∷ (place % 256) ∷ [] → first_place wire notes ≡ Some place → Compresses old new notes notes wire
compresses_pointer old new wire notes place e f = record {
  repeats = λ _ _.
      let text = (192 + place / 256) ∷ (place % 256) ∷ [] in
      let here : get_or new (length old + 0) 0 ≡ 192 + place / 256 = ap (λ s. get_or s (length old + 0) 0) e ∙ get_or-append-add old text 0 0 in
      let same : get_or new (length old) 0 ≡ get_or new (length old + 0) 0 = ap (λ i. get_or new i 0) (omega arith) in
      omega (arith, here, same);
  remembers = λ _ _. (place, note_found wire place notes f);
}

pub compresses_note : (old new wire : List ℕ) (notes notes' notes2 : Notes) (place : ℕ) → first_place wire notes ≡ None → notes2 ≡ notes' ++ (wire, place) ∷ [] → Compresses old new notes notes2 wire
compresses_note old new wire notes notes' notes2 place f e = record {
  repeats = λ _ h. absurd (note_missing wire h.0 notes f h.1);
  remembers = λ _ _. (place, subst (λ ns. Contains ns (wire, place)) (sym e) (Contains-push notes' (wire, place)));
}

pub compresses_far : (old new wire : List ℕ) (notes notes' : Notes) → first_place wire notes ≡ None → 16384 ≤ length old → Compresses old new notes notes' wire
compresses_far old new wire notes notes' f far = record {
  repeats = λ _ h. absurd (note_missing wire h.0 notes f h.1);
  remembers = λ _ lt. absurd (omega arith);
}

-- a name that was written, and then noted where a pointer reaches it
pub writes_noted : (old new wire : List ℕ) (notes notes' notes2 : Notes) (place : ℕ) → WritesLabels old new notes notes' wire → place ≡ length old → (place < 2 ^ 14 → notes2 ≡ notes' ++ (wire, place) ∷ []) → (2 ^ 14 ≤ place → notes2 ≡ notes') → WritesLabels old new notes notes2 wire
writes_noted old new wire notes notes' notes2 place w at_old near far =
    elim (cases_lt place (2 ^ 14)) [
      | inl below ↦ writes_note old new wire notes notes' notes2 place w at_old (near below)
      | inr above ↦ subst (λ ns. WritesLabels old new notes ns wire) (sym (far above)) w
    ]

pub compresses_noted : (old new wire : List ℕ) (notes notes' notes2 : Notes) (place : ℕ) → first_place wire notes ≡ None → place ≡ length old → (place < 2 ^ 14 → notes2 ≡ notes' ++ (wire, place) ∷ []) → Compresses old new notes notes2 wire
compresses_noted old new wire notes notes' notes2 place f at_old near =
    elim (cases_lt place (2 ^ 14)) [
      | inl below ↦ compresses_note old new wire notes notes' notes2 place f (near below)
      | inr above ↦ compresses_far old new wire notes notes2 f (omega (arith, above, at_old))
    ]

-- the root is neither repeated nor noted
pub compresses_root : (old new wire : List ℕ) (notes : Notes) → wire ≡ [] → Compresses old new notes notes wire
compresses_root old new wire notes z = record { repeats = λ ne h. absurd (ne z); remembers = λ ne lt. absurd (ne z) }

pub HasNote-more : (notes notes' : Notes) (wire : List ℕ) → KeepsNotes notes notes' → HasNote notes wire → HasNote notes' wire
HasNote-more notes notes' wire a h = (h.0, subst (λ ns. Contains ns (wire, h.0)) (sym a.is) (Contains-append_left notes a.more (wire, h.0) h.1))

pub empty_list : (xs : List ℕ) → (length xs == 0) ≡ true → xs ≡ []
empty_list [] e = refl
empty_list (x ∷ xs) e = let h = eqb-true (length (x ∷ xs)) 0 e in absurd (omega (arith, h))
