-- How a name stands in the bytes of a message (RFC 1035, sections 3.1 and 4.1.4).
use Rattle.std.specs.Prelude.{◌≡◌, ℕ, ◌+◌, ◌*◌, ◌<◌, ◌≤◌, List, [], ◌∷◌, length, true}
use Rattle.wire_names.specs.rr.domain.DomainName.{DomainName, IsLabel, name_len}
use Rattle.wire_names.specs.serialize.layout.Bytes.{BytesAt}
use Rattle.wire_names.specs.declared.error.DecodeError.{DecodeError}
use Rattle.wire_names.specs.declared.error.DecodeError.TheVariants.{InsufficientBytes, UnrecognizedLabelCode, PointerNotPriorToLabel, NameTooLong}

-- From place on, in a run of labels that began at start, stand these labels, and next is the place behind them:
-- the end byte 0; a label behind its length byte; or a pointer, two bytes with the top bits 11 and the place in the
-- other 14 bits, to labels before the run that it ends (RFC 1035, section 4.1.4). No byte that is read for them lies
-- below floor.
pub data LabelsAt (floor : ℕ) (bytes : List ℕ) : ℕ → ℕ → List (List ℕ) → ℕ → Type 0 where
  at_end : {start place next : ℕ} → floor ≤ place → BytesAt bytes place (0 ∷ []) → next ≡ place + 1 → LabelsAt floor bytes start place [] next
  at_label : {start place behind next : ℕ} {label : List ℕ} {labels : List (List ℕ)} → floor ≤ place → IsLabel label → BytesAt bytes place (length label ∷ label)
      → behind ≡ place + 1 + length label → LabelsAt floor bytes start behind labels next → LabelsAt floor bytes start place (label ∷ labels) next
  at_pointer : {start place next : ℕ} {labels : List (List ℕ)} (high low goal past : ℕ) → floor ≤ place → BytesAt bytes place ((192 + high) ∷ low ∷ [])
      → goal ≡ high * 256 + low → goal < start → next ≡ place + 2 → LabelsAt floor bytes goal goal labels past → LabelsAt floor bytes start place labels next

-- The first fault there, where `size` bytes of the name were read, its end byte counted.
pub data LabelsFault (bytes : List ℕ) : ℕ → ℕ → ℕ → DecodeError → Type 0 where
  byte_missing : {start place size : ℕ} → length bytes ≤ place → LabelsFault bytes start place size InsufficientBytes
  code_unknown : {start place size : ℕ} (n : ℕ) → BytesAt bytes place (n ∷ []) → 64 ≤ n → n < 192 → LabelsFault bytes start place size UnrecognizedLabelCode
  label_missing : {start place size : ℕ} (n : ℕ) → BytesAt bytes place (n ∷ []) → 0 < n → n < 64 → length bytes < place + 1 + n → LabelsFault bytes start place size InsufficientBytes
  too_long : {start place size : ℕ} (label : List ℕ) → IsLabel label → BytesAt bytes place (length label ∷ label) → 255 < size + 1 + length label → LabelsFault bytes start place size NameTooLong
  after_label : {start place size : ℕ} {e : DecodeError} (label : List ℕ) → IsLabel label → BytesAt bytes place (length label ∷ label) → size + 1 + length label ≤ 255
      → LabelsFault bytes start (place + 1 + length label) (size + 1 + length label) e → LabelsFault bytes start place size e
  pointer_missing : {start place size : ℕ} (high : ℕ) → BytesAt bytes place ((192 + high) ∷ []) → length bytes ≤ place + 1 → LabelsFault bytes start place size InsufficientBytes
  not_prior : {start place size : ℕ} (high low : ℕ) → BytesAt bytes place ((192 + high) ∷ low ∷ []) → start ≤ high * 256 + low → LabelsFault bytes start place size PointerNotPriorToLabel
  after_pointer : {start place size : ℕ} {e : DecodeError} (high low goal : ℕ) → BytesAt bytes place ((192 + high) ∷ low ∷ []) → goal ≡ high * 256 + low → goal < start
      → LabelsFault bytes goal goal size e → LabelsFault bytes start place size e

-- The name stands at place, with at most 255 bytes in wire form (RFC 1035, section 2.3.4), and next is the place behind
-- it. No byte that is read for it lies below floor. The bytes don't say whether the name is fully qualified.
pub record NameAt (floor : ℕ) (bytes : List ℕ) (place : ℕ) (name : DomainName) (next : ℕ) : Type 0 where
  pub labels : LabelsAt floor bytes place place name.labels next
  pub short : name_len name.labels ≤ 255

-- a name as it is read from bytes
abbrev pub IsFullyQualified : DomainName → Type 0
IsFullyQualified name = name.is_fqdn ≡ true

-- the first fault of a name at place
abbrev pub NameFault : List ℕ → ℕ → DecodeError → Type 0
NameFault bytes place e = LabelsFault bytes place place 1 e
