-- Labels that were read before, and those that are still read.
use Rattle.std.proofs.Common.{◌≡◌, ◌≢◌, inl, inr, subst, ℕ, ◌+◌, ◌<◌, ◌≤◌, List, [], ◌∷◌, ◌++◌, length, Option, Some, None, Result, Ok, Err, refl, sym, ap, ◌∙◌, append_assoc, arith}
use Rattle.std.specs.Prelude.{unwrap_or, slice_get, IfSome}
use Rattle.std.proofs.lemmas.List.{append-nil}
use Rattle.wire_names.specs.declared.error.DecodeError.{DecodeError}
use Rattle.wire_messages.specs.serialize.reading.Reading.{◌>>=◌, Fails}
use Rattle.std.specs.Prelude.{MatchResult}
use Rattle.std.specs.Result.{IsErrAnd}
use Rattle.wire_messages.specs.serialize.reading.NameReading.{LabelsRead, target, label_at, labels_from}
use Rattle.std.proofs.lemmas.Bool.{cases_lt}
use Rattle.wire_names.specs.rr.domain.DomainName.{name_len}
use Rattle.wire_names.specs.declared.error.DecodeError.TheVariants.{Memory, NameTooLong}
use Rattle.wire_messages.specs.serialize.layout.NameLayout.{LabelsAt, LabelsFault}
use Rattle.wire_messages.specs.serialize.layout.NameLayout.LabelsAt.{at_end, at_label, at_pointer}
use Rattle.wire_messages.specs.serialize.layout.NameLayout.LabelsFault.{too_long, after_label, after_pointer}
use Rattle.wire_messages.proofs.lemmas.serialize.layout.Stands.{stands_one}
use Rattle.wire_messages.proofs.lemmas.serialize.reading.LabelSteps.{from_LabelsAt, from_LabelsFault, labels_from-label, labels_from-pointer}

abbrev pub with_front : List (List ℕ) → Option ℕ → LabelsRead → LabelsRead
with_front front after found = found >>= λ x. Ok (front ++ x.0, unwrap_or after x.1)

-- nothing was read before
pub none_before : (from : ℕ) (found : LabelsRead) → with_front [] None found ≡ found
none_before from (Ok x) = refl
none_before from (Err e) = refl

-- a fault here is the fault of the whole
pub fails_here : (bytes : List ℕ) (front : List (List ℕ)) (after : Option ℕ) (start place size : ℕ) (total : LabelsRead) (e : DecodeError)
    → with_front front after (labels_from bytes start place size) ≡ total → size ≤ 255 → LabelsFault bytes start place size e → total ≡ Err e
fails_here bytes front after start place size total e so_far s fault = sym so_far ∙ rw (from_LabelsFault fault s) refl

pub ends_here : (bytes : List ℕ) (front : List (List ℕ)) (after : Option ℕ) (start place size : ℕ) (total : LabelsRead)
    → with_front front after (labels_from bytes start place size) ≡ total → size ≤ 255 → slice_get bytes place ≡ Some 0 → total ≡ Ok (front, unwrap_or after (place + 1))
ends_here bytes front after start place size total so_far s h =
    sym so_far ∙ rw (from_LabelsAt {floor = 0} {bytes = bytes} {start = start} {place = place} size (at_end (omega arith) (stands_one _ _ _ h) refl) (omega arith)) (ap (λ (ls : List (List ℕ)). Ok (ls, unwrap_or after (place + 1))) (append-nil front))

regroup : (front : List (List ℕ)) (l : List ℕ) (after : Option ℕ) (found : LabelsRead) → with_front front after (found >>= λ x. Ok (l ∷ x.0, x.1)) ≡ with_front (front ++ l ∷ []) after found
regroup front l after (Ok x) = ap (λ (ls : List (List ℕ)). Ok (ls, unwrap_or after x.1)) (simp append_assoc)
regroup front l after (Err e) = refl

pub label_here : (bytes : List ℕ) (front : List (List ℕ)) (after : Option ℕ) (start place size n : ℕ) (total : LabelsRead)
    → with_front front after (labels_from bytes start place size) ≡ total → slice_get bytes place ≡ Some n → 0 < n → n < 64 → place + 1 + n ≤ length bytes → size + 1 + n ≤ 255
    → with_front (front ++ label_at bytes place n ∷ []) after (labels_from bytes start (place + 1 + n) (size + 1 + n)) ≡ total
label_here bytes front after start place size n total so_far h low high there fits =
    sym (regroup front (label_at bytes place n) after (labels_from bytes start (place + 1 + n) (size + 1 + n)))
    ∙ ap (with_front front after) (sym (labels_from-label bytes start place size n h low high there fits)) ∙ so_far

refocus : (front : List (List ℕ)) (after : Option ℕ) (next : ℕ) (found : LabelsRead) → with_front front after (found >>= λ x. Ok (x.0, next)) ≡ with_front front (Some (unwrap_or after next)) found
refocus front after next (Ok x) = refl
refocus front after next (Err e) = refl

pub pointer_here : (bytes : List ℕ) (front : List (List ℕ)) (after : Option ℕ) (start place size high low : ℕ) (total : LabelsRead)
    → with_front front after (labels_from bytes start place size) ≡ total → size ≤ 255 → slice_get bytes place ≡ Some high → 192 ≤ high → slice_get bytes (place + 1) ≡ Some low → target high low < start
    → with_front front (Some (unwrap_or after (place + 2))) (labels_from bytes (target high low) (target high low) size) ≡ total
pointer_here bytes front after start place size high low total so_far s h far some lt =
    sym (refocus front after (place + 2) (labels_from bytes (target high low) (target high low) size))
    ∙ ap (with_front front after) (sym (labels_from-pointer bytes start place size high low s h far some lt)) ∙ so_far

pub within_either : (after : Option ℕ) (place limit : ℕ) → IfSome after (λ a. a ≤ limit) → place ≤ limit → unwrap_or after place ≤ limit
within_either None place limit h le = le
within_either (Some a) place limit h le = h

-- an error that is passed on is the fault of the whole
pub fails_with : {X : Type 0} (r : Result X DecodeError) (d : DecodeError) (P : X → Type 0) (total : LabelsRead) → IsErrAnd r (λ e. e ≡ d) → total ≡ Err d → MatchResult r P (λ e. Fails e total)
fails_with (Ok x) d P total h k = absurd h
fails_with (Err e) d P total h k = λ _. k ∙ ap (λ (x : DecodeError). let y : LabelsRead = Err x in y) (sym h)

-- an error that is passed on is the fault of the whole, unless it is want of memory
pub fails_unless : {X : Type 0} (r : Result X DecodeError) (d : DecodeError) (P : X → Type 0) (total : LabelsRead) → IsErrAnd r (λ e. e ≡ d) → (d ≢ Memory → total ≡ Err d) → MatchResult r P (λ e. Fails e total)
fails_unless (Ok x) d P total h k = absurd h
fails_unless (Err e) d P total h k = λ ne. k (λ m. ne (h ∙ m)) ∙ ap (λ (x : DecodeError). let y : LabelsRead = Err x in y) (sym h)

-- The labels that stand here are too many for the name.
pub too_many : {floor : ℕ} {bytes : List ℕ} {start place next : ℕ} {labels : List (List ℕ)} (size : ℕ) → LabelsAt floor bytes start place labels next → size ≤ 255 → 256 < size + name_len labels → LabelsFault bytes start place size NameTooLong
too_many size (at_end a s e) ok long = absurd (omega arith)
too_many {floor} {bytes} {start} {place} {next} size (at_label {label = label} {labels = rest} a l s e more) ok long = elim (cases_lt 255 (size + 1 + length label)) [
  | inl lt ↦ too_long label l s lt
  | inr le ↦ after_label label l s le (subst (λ (p : ℕ). LabelsFault bytes start p (size + 1 + length label) NameTooLong) e (too_many (size + 1 + length label) more le (omega arith)))
]
too_many size (at_pointer high low goal past a s e lt d more) ok long = after_pointer high low goal s e lt (too_many size more ok long)

-- The labels that stand here end the name.
pub known_here : {floor : ℕ} (bytes : List ℕ) (front labels : List (List ℕ)) (after : Option ℕ) (start place size next past : ℕ) (total : LabelsRead)
    → with_front front after (labels_from bytes start place size) ≡ total → after ≡ Some next → LabelsAt floor bytes start place labels past → size + name_len labels ≤ 256 → total ≡ Ok (front ++ labels, next)
known_here bytes front labels after start place size next past total so_far is at fits = sym so_far ∙ rw (from_LabelsAt size at fits, is) refl
