-- The function that reads labels takes one step after the other, and is the relation.
use Rattle.std.proofs.Common.{◌≡◌, ◌⊎◌, ℕ, zero, suc, ◌+◌, ◌-◌, ◌*◌, ◌<◌, ◌≤◌, List, [], ◌∷◌, length, Option, Some, None, Ok, Err, refl, sym, ap, subst, ◌∙◌, arith, inl, inr}
use Rattle.std.specs.Prelude.{slice_get, MatchResult}
use Rattle.std.proofs.lemmas.Bool.{cases_lt, cases_eq, lt-ltb, le-ltb, ne_eqb}
use Rattle.wire_names.specs.declared.error.DecodeError.{DecodeError}
use Rattle.wire_names.specs.declared.error.DecodeError.TheVariants.{InsufficientBytes, UnrecognizedLabelCode, PointerNotPriorToLabel, NameTooLong}
use Rattle.wire_messages.specs.serialize.reading.Reading.{◌>>=◌}
use Rattle.wire_messages.specs.serialize.reading.NameReading.{target, label_at, LabelsRead, byte_or_fault, label_step, pointer_step, labels_step, labels_within, labels_from}
use Rattle.wire_messages.specs.serialize.layout.NameLayout.{LabelsAt, LabelsFault}
use Rattle.wire_messages.specs.serialize.layout.NameLayout.LabelsAt.{at_end, at_label, at_pointer}
use Rattle.wire_messages.specs.serialize.layout.NameLayout.LabelsFault.{byte_missing, code_unknown, label_missing, too_long, after_label, pointer_missing, not_prior, after_pointer}
use Rattle.wire_names.specs.rr.domain.DomainName.{name_len}
use Rattle.wire_messages.proofs.lemmas.serialize.layout.Stands.{stands_one, stands_two, stands_label, byte_one, byte_two, missing_from, missing_is, label_of, label_len, name_len-pos}

-- ---- what a step gives, by cases on the bytes

module _ (bytes : List ℕ) (rest : ℕ → ℕ → ℕ → LabelsRead) (start place size : ℕ) where
  step_none : slice_get bytes place ≡ None → labels_step bytes rest start place size ≡ Err InsufficientBytes
  step_none h = rw h refl

  step_end : slice_get bytes place ≡ Some 0 → labels_step bytes rest start place size ≡ Ok ([], place + 1)
  step_end h = rw h refl

  step_label : (n : ℕ) → slice_get bytes place ≡ Some n → 0 < n → n < 64 → labels_step bytes rest start place size ≡ label_step bytes rest start place size n
  step_label n h low high = rw (h, ne_eqb n 0 (λ e. omega arith), lt-ltb n 64 high) refl

  step_unknown : (n : ℕ) → slice_get bytes place ≡ Some n → 64 ≤ n → n < 192 → labels_step bytes rest start place size ≡ Err UnrecognizedLabelCode
  step_unknown n h low high = rw (h, ne_eqb n 0 (λ e. omega arith), le-ltb n 64 low, lt-ltb n 192 high) refl

  step_pointer : (n : ℕ) → slice_get bytes place ≡ Some n → 192 ≤ n → labels_step bytes rest start place size ≡ (byte_or_fault (slice_get bytes (place + 1)) >>= λ low. pointer_step rest start place size n low)
  step_pointer n h low = rw (h, ne_eqb n 0 (λ e. omega arith), le-ltb n 64 (omega arith), le-ltb n 192 low) refl

  label_is_short : (n : ℕ) → length bytes < place + 1 + n → label_step bytes rest start place size n ≡ Err InsufficientBytes
  label_is_short n h = rw (lt-ltb (length bytes) (place + 1 + n) h) refl

  label_is_long : (n : ℕ) → place + 1 + n ≤ length bytes → 255 < size + 1 + n → label_step bytes rest start place size n ≡ Err NameTooLong
  label_is_long n h k = rw (le-ltb (length bytes) (place + 1 + n) h, lt-ltb 255 (size + 1 + n) k) refl

  label_goes_on : (n : ℕ) → place + 1 + n ≤ length bytes → size + 1 + n ≤ 255
      → label_step bytes rest start place size n ≡ (rest start (place + 1 + n) (size + 1 + n) >>= λ x. Ok (label_at bytes place n ∷ x.0, x.1))
  label_goes_on n h k = rw (le-ltb (length bytes) (place + 1 + n) h, le-ltb 255 (size + 1 + n) k) refl

  pointer_is_prior : (high low : ℕ) → target high low < start → pointer_step rest start place size high low ≡ (rest (target high low) (target high low) size >>= λ x. Ok (x.0, place + 2))
  pointer_is_prior high low h = rw (lt-ltb (target high low) start h) refl

  pointer_not_prior : (high low : ℕ) → start ≤ target high low → pointer_step rest start place size high low ≡ Err PointerNotPriorToLabel
  pointer_not_prior high low h = rw (le-ltb (target high low) start h) refl

-- the cases
data Says (bytes : List ℕ) (start place size : ℕ) : Type 0 where
  s_none : slice_get bytes place ≡ None → Says bytes start place size
  s_end : slice_get bytes place ≡ Some 0 → Says bytes start place size
  s_unknown : (n : ℕ) → slice_get bytes place ≡ Some n → 64 ≤ n → n < 192 → Says bytes start place size
  s_short : (n : ℕ) → slice_get bytes place ≡ Some n → 0 < n → n < 64 → length bytes < place + 1 + n → Says bytes start place size
  s_long : (n : ℕ) → slice_get bytes place ≡ Some n → 0 < n → n < 64 → place + 1 + n ≤ length bytes → 255 < size + 1 + n → Says bytes start place size
  s_label : (n : ℕ) → slice_get bytes place ≡ Some n → 0 < n → n < 64 → place + 1 + n ≤ length bytes → size + 1 + n ≤ 255 → Says bytes start place size
  s_cut : (n : ℕ) → slice_get bytes place ≡ Some n → 192 ≤ n → slice_get bytes (place + 1) ≡ None → Says bytes start place size
  s_prior : (n low : ℕ) → slice_get bytes place ≡ Some n → 192 ≤ n → slice_get bytes (place + 1) ≡ Some low → target n low < start → Says bytes start place size
  s_not : (n low : ℕ) → slice_get bytes place ≡ Some n → 192 ≤ n → slice_get bytes (place + 1) ≡ Some low → start ≤ target n low → Says bytes start place size

option_cases : {A : Type 0} (o : Option A) → (o ≡ None) ⊎ ((x : A) × (o ≡ Some x))
option_cases None = inl refl
option_cases (Some x) = inr (x, refl)

says_label : (bytes : List ℕ) (start place size n : ℕ) → slice_get bytes place ≡ Some n → 0 < n → n < 64 → Says bytes start place size
says_label bytes start place size n h low high =
    elim (cases_lt (length bytes) (place + 1 + n)) [
      | inl short ↦ s_short n h low high short
      | inr there ↦ elim (cases_lt 255 (size + 1 + n)) [ inl long ↦ s_long n h low high there long | inr fits ↦ s_label n h low high there fits ]
    ]

says_pointer : (bytes : List ℕ) (start place size n : ℕ) → slice_get bytes place ≡ Some n → 192 ≤ n → Says bytes start place size
says_pointer bytes start place size n h high =
    elim (option_cases (slice_get bytes (place + 1))) [
      | inl none ↦ s_cut n h high none
      | inr some ↦ elim (cases_lt (target n some.0) start) [ inl lt ↦ s_prior n some.0 h high some.1 lt | inr le ↦ s_not n some.0 h high some.1 le ]
    ]

says_byte : (bytes : List ℕ) (start place size n : ℕ) → slice_get bytes place ≡ Some n → Says bytes start place size
says_byte bytes start place size n h =
    elim (cases_eq n 0) [
      | inl e ↦ s_end (h ∙ ap Some e)
      | inr ne ↦ elim (cases_lt n 64) [
        | inl lt ↦ says_label bytes start place size n h (omega arith) lt
        | inr le ↦ elim (cases_lt n 192) [ inl lt ↦ s_unknown n h le lt | inr far ↦ says_pointer bytes start place size n h far ]
      ]
    ]

says : (bytes : List ℕ) (start place size : ℕ) → Says bytes start place size
says bytes start place size =
    elim (option_cases (slice_get bytes place)) [ inl none ↦ s_none none | inr some ↦ says_byte bytes start place size some.0 some.1 ]

-- ---- a step needs only what it goes on to

goes_on_alike : (bytes : List ℕ) (r s : ℕ → ℕ → ℕ → LabelsRead) (start place size : ℕ)
    → ((n : ℕ) → 0 < n → size + 1 + n ≤ 255 → r start (place + 1 + n) (size + 1 + n) ≡ s start (place + 1 + n) (size + 1 + n))
    → ((t : ℕ) → t < start → r t t size ≡ s t t size)
    → Says bytes start place size → labels_step bytes r start place size ≡ labels_step bytes s start place size
goes_on_alike bytes r s start place size same_label same_pointer (s_none h) = rw h refl
goes_on_alike bytes r s start place size same_label same_pointer (s_end h) = rw h refl
goes_on_alike bytes r s start place size same_label same_pointer (s_unknown n h low high) = step_unknown bytes r start place size n h low high ∙ sym (step_unknown bytes s start place size n h low high)
goes_on_alike bytes r s start place size same_label same_pointer (s_short n h low high short) =
    step_label bytes r start place size n h low high ∙ label_is_short bytes r start place size n short ∙ sym (step_label bytes s start place size n h low high ∙ label_is_short bytes s start place size n short)
goes_on_alike bytes r s start place size same_label same_pointer (s_long n h low high there long) =
    step_label bytes r start place size n h low high ∙ label_is_long bytes r start place size n there long ∙ sym (step_label bytes s start place size n h low high ∙ label_is_long bytes s start place size n there long)
goes_on_alike bytes r s start place size same_label same_pointer (s_label n h low high there fits) =
    step_label bytes r start place size n h low high ∙ label_goes_on bytes r start place size n there fits
    ∙ ap (λ (f : LabelsRead). f >>= λ x. Ok (label_at bytes place n ∷ x.0, x.1)) (same_label n low fits)
    ∙ sym (step_label bytes s start place size n h low high ∙ label_goes_on bytes s start place size n there fits)
goes_on_alike bytes r s start place size same_label same_pointer (s_cut n h high none) =
    step_pointer bytes r start place size n h high ∙ rw none refl ∙ sym (step_pointer bytes s start place size n h high)
goes_on_alike bytes r s start place size same_label same_pointer (s_prior n low h high some lt) =
    step_pointer bytes r start place size n h high ∙ rw (some, lt-ltb (target n low) start lt, same_pointer (target n low) lt) refl
    ∙ sym (step_pointer bytes s start place size n h high)
goes_on_alike bytes r s start place size same_label same_pointer (s_not n low h high some le) =
    step_pointer bytes r start place size n h high ∙ rw (some, le-ltb (target n low) start le) refl ∙ sym (step_pointer bytes s start place size n h high)

-- ---- any steps that are enough give the same

enough_is_enough : (bytes : List ℕ) (f g start place size : ℕ) → start + 256 ≤ f + size → start + 256 ≤ g + size → size ≤ 255
    → labels_within bytes f start place size ≡ labels_within bytes g start place size
unfolding labels_within
enough_is_enough bytes zero g start place size a b s = absurd (omega arith)
enough_is_enough bytes (suc f) zero start place size a b s = absurd (omega arith)
enough_is_enough bytes (suc f) (suc g) start place size a b s =
    goes_on_alike bytes (labels_within bytes f) (labels_within bytes g) start place size
    (λ n low fits. enough_is_enough bytes f g start (place + 1 + n) (size + 1 + n) (omega arith) (omega arith) fits)
    (λ t lt. enough_is_enough bytes f g t t size (omega arith) (omega arith) s)
    (says bytes start place size)

-- reading labels is a step, and reading on
pub labels_from-step : (bytes : List ℕ) (start place size : ℕ) → size ≤ 255
    → labels_from bytes start place size ≡ labels_step bytes (labels_from bytes) start place size
unfolding labels_from labels_within
labels_from-step bytes start place size s =
    let k : start + 256 - size ≡ suc (start + 255 - size) = omega arith in
    ap (λ (f : ℕ). labels_within bytes f start place size) k
    ∙ goes_on_alike bytes (labels_within bytes (start + 255 - size)) (labels_from bytes) start place size
    (λ n low fits. enough_is_enough bytes (start + 255 - size) (start + 256 - (size + 1 + n)) start (place + 1 + n) (size + 1 + n) (omega arith) (omega arith) fits)
    (λ t lt. enough_is_enough bytes (start + 255 - size) (t + 256 - size) t t size (omega arith) (omega arith) s)
    (says bytes start place size)

pub labels_from-label : (bytes : List ℕ) (start place size n : ℕ) → slice_get bytes place ≡ Some n → 0 < n → n < 64 → place + 1 + n ≤ length bytes → size + 1 + n ≤ 255
    → labels_from bytes start place size ≡ (labels_from bytes start (place + 1 + n) (size + 1 + n) >>= λ x. Ok (label_at bytes place n ∷ x.0, x.1))
labels_from-label bytes start place size n h low high there fits =
    labels_from-step bytes start place size (omega arith) ∙ step_label bytes (labels_from bytes) start place size n h low high ∙ label_goes_on bytes (labels_from bytes) start place size n there fits

pub labels_from-pointer : (bytes : List ℕ) (start place size high low : ℕ) → size ≤ 255 → slice_get bytes place ≡ Some high → 192 ≤ high → slice_get bytes (place + 1) ≡ Some low → target high low < start
    → labels_from bytes start place size ≡ (labels_from bytes (target high low) (target high low) size >>= λ x. Ok (x.0, place + 2))
labels_from-pointer bytes start place size high low s h far some lt =
    labels_from-step bytes start place size s ∙ step_pointer bytes (labels_from bytes) start place size high h far ∙ rw (some, lt-ltb (target high low) start lt) refl

-- ---- what the relation says, the function gives

pub from_LabelsAt : {floor : ℕ} {bytes : List ℕ} {start place next : ℕ} {labels : List (List ℕ)} (size : ℕ) → LabelsAt floor bytes start place labels next → size + name_len labels ≤ 256
    → labels_from bytes start place size ≡ Ok (labels, next)
from_LabelsAt {floor} {bytes} {start} {place} {next} {labels} size (at_end a s e) fits =
    labels_from-step bytes start place size (omega arith) ∙ step_end bytes (labels_from bytes) start place size (byte_one s) ∙ ap (λ (n : ℕ). let x : LabelsRead = Ok ([], n) in x) (sym e)
from_LabelsAt {floor} {bytes} {start} {place} {next} size (at_label {behind = behind} {label = label} {labels = rest} a l s e more) fits =
    let more_fits : size + 1 + length label ≤ 255 = omega (arith, name_len-pos rest) in
    labels_from-label bytes start place size (length label) (byte_one s) l.0 l.1 (omega (arith, s.fits)) more_fits
    ∙ ap (λ (p : ℕ). labels_from bytes start p (size + 1 + length label) >>= λ x. Ok (label_at bytes place (length label) ∷ x.0, x.1)) (sym e)
    ∙ rw (from_LabelsAt (size + 1 + length label) more (omega arith), label_of s) refl
from_LabelsAt {floor} {bytes} {start} {place} {next} {labels} size (at_pointer high low goal past a s e lt after more) fits =
    let t : target (192 + high) low ≡ goal = omega arith in
    labels_from-pointer bytes start place size (192 + high) low (omega (arith, name_len-pos labels)) (byte_one s) (omega arith) (byte_two s) (omega arith)
    ∙ ap (λ (g : ℕ). labels_from bytes g g size >>= λ x. Ok (x.0, place + 2)) t
    ∙ rw (from_LabelsAt size more fits, after) refl

pub from_LabelsFault : {bytes : List ℕ} {start place size : ℕ} {e : DecodeError} → LabelsFault bytes start place size e → size ≤ 255 → labels_from bytes start place size ≡ Err e
from_LabelsFault {bytes} {start} {place} {size} (byte_missing h) s = labels_from-step bytes start place size s ∙ step_none bytes (labels_from bytes) start place size (missing_is _ _ h)
from_LabelsFault {bytes} {start} {place} {size} (code_unknown n h low high) s = labels_from-step bytes start place size s ∙ step_unknown bytes (labels_from bytes) start place size n (byte_one h) low high
from_LabelsFault {bytes} {start} {place} {size} (label_missing n h low high short) s =
    labels_from-step bytes start place size s ∙ step_label bytes (labels_from bytes) start place size n (byte_one h) low high ∙ label_is_short bytes (labels_from bytes) start place size n short
from_LabelsFault {bytes} {start} {place} {size} (too_long label l h long) s =
    labels_from-step bytes start place size s ∙ step_label bytes (labels_from bytes) start place size (length label) (byte_one h) l.0 l.1 ∙ label_is_long bytes (labels_from bytes) start place size (length label) (omega (arith, h.fits)) long
from_LabelsFault {bytes} {start} {place} {size} (after_label label l h fits more) s =
    labels_from-label bytes start place size (length label) (byte_one h) l.0 l.1 (omega (arith, h.fits)) fits ∙ rw (from_LabelsFault more fits) refl
from_LabelsFault {bytes} {start} {place} {size} (pointer_missing high h none) s =
    labels_from-step bytes start place size s ∙ step_pointer bytes (labels_from bytes) start place size (192 + high) (byte_one h) (omega arith) ∙ rw (missing_is _ _ none) refl
from_LabelsFault {bytes} {start} {place} {size} (not_prior high low h le) s =
    let t : target (192 + high) low ≡ high * 256 + low = omega arith in
    labels_from-step bytes start place size s ∙ step_pointer bytes (labels_from bytes) start place size (192 + high) (byte_one h) (omega arith)
    ∙ ap (λ (b : Option ℕ). byte_or_fault b >>= λ low. pointer_step (labels_from bytes) start place size (192 + high) low) (byte_two h)
    ∙ pointer_not_prior bytes (labels_from bytes) start place size (192 + high) low (omega arith)
from_LabelsFault {bytes} {start} {place} {size} (after_pointer high low goal h e lt more) s =
    let t : target (192 + high) low ≡ goal = omega arith in
    labels_from-pointer bytes start place size (192 + high) low s (byte_one h) (omega arith) (byte_two h) (omega arith)
    ∙ ap (λ (g : ℕ). labels_from bytes g g size >>= λ x. Ok (x.0, place + 2)) t
    ∙ rw (from_LabelsFault more s) refl

-- ---- what the function gives, the relation says

abbrev pub Answers : List ℕ → ℕ → ℕ → ℕ → LabelsRead → Type 0
Answers bytes start place size found = MatchResult found (λ x. LabelsAt 0 bytes start place x.0 x.1 × (size + name_len x.0 ≤ 256)) (λ e. LabelsFault bytes start place size e)

high_of : (bytes : List ℕ) (place n : ℕ) → slice_get bytes place ≡ Some n → 192 ≤ n → slice_get bytes place ≡ Some (192 + (n - 192))
high_of bytes place n h far = h ∙ ap Some (omega arith)

-- faults by the bytes that are got
module _ {bytes : List ℕ} (start place size : ℕ) where
  pub no_byte : slice_get bytes place ≡ None → LabelsFault bytes start place size InsufficientBytes
  no_byte h = byte_missing (missing_from _ _ h)

  pub unknown : (n : ℕ) → slice_get bytes place ≡ Some n → 64 ≤ n → n < 192 → LabelsFault bytes start place size UnrecognizedLabelCode
  unknown n h low high = code_unknown n (stands_one _ _ _ h) low high

  pub label_short : (n : ℕ) → slice_get bytes place ≡ Some n → 0 < n → n < 64 → length bytes < place + 1 + n → LabelsFault bytes start place size InsufficientBytes
  label_short n h low high short = label_missing n (stands_one _ _ _ h) low high short

  pub name_long : (n : ℕ) → slice_get bytes place ≡ Some n → 0 < n → n < 64 → place + 1 + n ≤ length bytes → 255 < size + 1 + n → LabelsFault bytes start place size NameTooLong
  name_long n h low high there long = let len = label_len bytes place n there in too_long (label_at bytes place n) (omega arith, omega arith) (stands_label _ _ n h there) (omega arith)

  pub pointer_short : (n : ℕ) → slice_get bytes place ≡ Some n → 192 ≤ n → slice_get bytes (place + 1) ≡ None → LabelsFault bytes start place size InsufficientBytes
  pointer_short n h far none = pointer_missing (n - 192) (stands_one _ _ _ (high_of bytes place n h far)) (missing_from _ _ none)

  pub leads_on : (n low : ℕ) → slice_get bytes place ≡ Some n → 192 ≤ n → slice_get bytes (place + 1) ≡ Some low → start ≤ target n low → LabelsFault bytes start place size PointerNotPriorToLabel
  leads_on n low h far some le = not_prior (n - 192) low (stands_two _ _ _ _ (high_of bytes place n h far) some) le

answers_label : (bytes : List ℕ) (start place size n : ℕ) (found : LabelsRead) → slice_get bytes place ≡ Some n → 0 < n → n < 64 → place + 1 + n ≤ length bytes → size + 1 + n ≤ 255
    → Answers bytes start (place + 1 + n) (size + 1 + n) found → Answers bytes start place size (found >>= λ x. Ok (label_at bytes place n ∷ x.0, x.1))
answers_label bytes start place size n (Ok x) h low high there fits more =
    let len = label_len bytes place n there in
    (at_label (omega arith) (omega arith, omega arith) (stands_label _ _ n h there) (omega arith) more.0, omega (arith, more.1))
answers_label bytes start place size n (Err e) h low high there fits more =
    let len : length (label_at bytes place n) ≡ n = label_len bytes place n there in
    after_label (label_at bytes place n) (omega arith, omega arith) (stands_label _ _ n h there) (omega arith) (subst (λ (m : ℕ). LabelsFault bytes start (place + 1 + m) (size + 1 + m) e) (sym len) more)

answers_pointer : (bytes : List ℕ) (start place size high low : ℕ) (found : LabelsRead) → slice_get bytes place ≡ Some high → 192 ≤ high → slice_get bytes (place + 1) ≡ Some low → target high low < start
    → Answers bytes (target high low) (target high low) size found → Answers bytes start place size (found >>= λ x. Ok (x.0, place + 2))
answers_pointer bytes start place size high low (Ok x) h far some lt more = (at_pointer (high - 192) low (target high low) x.1 (omega arith) (stands_two _ _ _ _ (high_of bytes place high h far) some) refl lt refl more.0, more.1)
answers_pointer bytes start place size high low (Err e) h far some lt more = after_pointer (high - 192) low (target high low) (stands_two _ _ _ _ (high_of bytes place high h far) some) refl lt more

step_answers : (bytes : List ℕ) (rest : ℕ → ℕ → ℕ → LabelsRead) (start place size : ℕ)
    → ((n : ℕ) → 0 < n → size + 1 + n ≤ 255 → Answers bytes start (place + 1 + n) (size + 1 + n) (rest start (place + 1 + n) (size + 1 + n)))
    → ((t : ℕ) → t < start → Answers bytes t t size (rest t t size))
    → size ≤ 255 → Says bytes start place size → Answers bytes start place size (labels_step bytes rest start place size)
step_answers bytes rest start place size on_label on_pointer ok (s_none h) = rw (step_none bytes rest start place size h) (no_byte start place size h)
step_answers bytes rest start place size on_label on_pointer ok (s_end h) = rw (step_end bytes rest start place size h) (at_end {place = place} (omega arith) (stands_one _ _ _ h) refl, omega arith)
step_answers bytes rest start place size on_label on_pointer ok (s_unknown n h low high) = rw (step_unknown bytes rest start place size n h low high) (unknown start place size n h low high)
step_answers bytes rest start place size on_label on_pointer ok (s_short n h low high short) =
    rw (step_label bytes rest start place size n h low high ∙ label_is_short bytes rest start place size n short) (label_short start place size n h low high short)
step_answers bytes rest start place size on_label on_pointer ok (s_long n h low high there long) =
    rw (step_label bytes rest start place size n h low high ∙ label_is_long bytes rest start place size n there long) (name_long start place size n h low high there long)
step_answers bytes rest start place size on_label on_pointer ok (s_label n h low high there fits) =
    rw (step_label bytes rest start place size n h low high ∙ label_goes_on bytes rest start place size n there fits)
    (answers_label bytes start place size n (rest start (place + 1 + n) (size + 1 + n)) h low high there fits (on_label n low fits))
step_answers bytes rest start place size on_label on_pointer ok (s_cut n h far none) =
    rw (step_pointer bytes rest start place size n h far, none) (pointer_short start place size n h far none)
step_answers bytes rest start place size on_label on_pointer ok (s_prior n low h far some lt) =
    rw (step_pointer bytes rest start place size n h far, some, lt-ltb (target n low) start lt)
    (answers_pointer bytes start place size n low (rest (target n low) (target n low) size) h far some lt (on_pointer (target n low) lt))
step_answers bytes rest start place size on_label on_pointer ok (s_not n low h far some le) =
    rw (step_pointer bytes rest start place size n h far, some, le-ltb (target n low) start le) (leads_on start place size n low h far some le)

within_answers : (bytes : List ℕ) (f start place size : ℕ) → start + 256 ≤ f + size → size ≤ 255 → Answers bytes start place size (labels_within bytes f start place size)
unfolding labels_within
within_answers bytes zero start place size a s = absurd (omega arith)
within_answers bytes (suc f) start place size a s =
    step_answers bytes (labels_within bytes f) start place size
    (λ n low fits. within_answers bytes f start (place + 1 + n) (size + 1 + n) (omega arith) fits)
    (λ t lt. within_answers bytes f t t size (omega arith) s) s
    (says bytes start place size)

pub labels_from-answers : (bytes : List ℕ) (start place size : ℕ) → size ≤ 255 → Answers bytes start place size (labels_from bytes start place size)
unfolding labels_from
labels_from-answers bytes start place size s = within_answers bytes (start + 256 - size) start place size (omega arith) s

pub stands_as_read : (bytes : List ℕ) (place next : ℕ) (labels : List (List ℕ)) → labels_from bytes place place 1 ≡ Ok (labels, next) → LabelsAt 0 bytes place place labels next
stands_as_read bytes place next labels e = (subst (λ (r : LabelsRead). Answers bytes place place 1 r) e (labels_from-answers bytes place place 1 (omega arith))).0
