-- Reading a name, as a function.
use Rattle.std.specs.Prelude.{ℕ, zero, suc, ◌+◌, ◌-◌, ◌*◌, List, [], ◌∷◌, length, take, drop, Option, Some, None, slice_get, true, Result, Ok, Err, nat_lt, ◌==◌, if◌then◌else◌}
use Rattle.wire_messages.specs.serialize.reading.Cursor.{Cursor}
use Rattle.wire_names.specs.rr.domain.DomainName.{DomainName}
use Rattle.wire_messages.specs.serialize.reading.Reading.{Read, ◌>>=◌}
use Rattle.wire_names.specs.declared.error.DecodeError.{DecodeError}
use Rattle.wire_names.specs.declared.error.DecodeError.TheVariants.{InsufficientBytes, UnrecognizedLabelCode, PointerNotPriorToLabel, NameTooLong}

-- where a pointer of these two bytes leads
abbrev pub target : ℕ → ℕ → ℕ
target high low = (high - 192) * 256 + low

-- the label of n bytes whose length byte stands at place
abbrev pub label_at : List ℕ → ℕ → ℕ → List ℕ
label_at bytes place n = take n (drop (place + 1) bytes)

-- the labels that were read and the place behind them, or the first fault
abbrev pub LabelsRead : Type 0
LabelsRead = Result (List (List ℕ) × ℕ) DecodeError

abbrev pub byte_or_fault : Option ℕ → Result ℕ DecodeError
byte_or_fault None = Err InsufficientBytes
byte_or_fault (Some b) = Ok b

abbrev pub label_step : List ℕ → (ℕ → ℕ → ℕ → LabelsRead) → ℕ → ℕ → ℕ → ℕ → LabelsRead
label_step bytes rest start place size n =
    if nat_lt (length bytes) (place + 1 + n) then Err InsufficientBytes
    else (if nat_lt 255 (size + 1 + n) then Err NameTooLong
    else (rest start (place + 1 + n) (size + 1 + n) >>= λ x. Ok (label_at bytes place n ∷ x.0, x.1)))

abbrev pub pointer_step : (ℕ → ℕ → ℕ → LabelsRead) → ℕ → ℕ → ℕ → ℕ → ℕ → LabelsRead
pointer_step rest start place size high low =
    if nat_lt (target high low) start then (rest (target high low) (target high low) size >>= λ x. Ok (x.0, place + 2))
    else Err PointerNotPriorToLabel

-- what the byte at place says, where `rest` reads on
abbrev pub labels_step : List ℕ → (ℕ → ℕ → ℕ → LabelsRead) → ℕ → ℕ → ℕ → LabelsRead
labels_step bytes rest start place size = byte_or_fault (slice_get bytes place) >>= λ b.
    if b == 0 then Ok ([], place + 1)
    else (if nat_lt b 64 then label_step bytes rest start place size b
    else (if nat_lt b 192 then Err UnrecognizedLabelCode
    else (byte_or_fault (slice_get bytes (place + 1)) >>= λ low. pointer_step rest start place size b low)))

unfoldable pub labels_within : List ℕ → ℕ → ℕ → ℕ → ℕ → LabelsRead
labels_within bytes zero start place size = Err InsufficientBytes
labels_within bytes (suc fuel) start place size = labels_step bytes (labels_within bytes fuel) start place size

-- A pointer lowers start, and a label raises size, so these steps are enough.
unfoldable pub labels_from : List ℕ → ℕ → ℕ → ℕ → LabelsRead
labels_from bytes start place size = labels_within bytes (start + 256 - size) start place size

-- the name of labels that were read from bytes
abbrev pub qualified : List (List ℕ) → DomainName
qualified labels = record { labels = labels; is_fqdn = true }

unfoldable pub name : Cursor → Read DomainName
name c = labels_from c.bytes c.place c.place 1 >>= λ x. Ok (qualified x.0, record c { place = x.1 })
