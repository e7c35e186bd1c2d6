-- Looking for the TSIG record of a message, record by record, as a function.
use Rattle.std.specs.Prelude.{ℕ, zero, suc, ◌+◌, ◌-◌, Option, Some, None, Result, Ok, Err, nat_eq, if◌then◌else◌}
use Rattle.wire_messages.specs.serialize.layout.MessageLayout.{is_tsig}
use Rattle.wire_messages.specs.serialize.reading.Cursor.{Cursor}
use Rattle.wire_messages.specs.serialize.reading.Reading.{Read, ◌>>=◌}
use Rattle.wire_messages.specs.serialize.reading.RecordReading.{question, resource}
use Rattle.wire_messages.specs.serialize.reading.SectionReading.{header, with_data}
use Rattle.wire_messages.specs.declared.op.header.HeaderCounts.{HeaderCounts}
use Rattle.wire_messages.specs.declared.rr.rdata.RData.{RData}
use Rattle.wire_messages.specs.declared.rr.rdata.RData.TheVariants as rdata
use Rattle.wire_messages.specs.declared.rr.record.Record.{Record}
use Rattle.wire_names.specs.declared.error.DecodeError.{DecodeError}
use Rattle.wire_names.specs.declared.error.DecodeError.TheVariants.{RecordAfterSignature}
use Rattle.tsig.specs.declared.reading.PlacedSignature.{PlacedSignature}

-- a record that is no TSIG
unfoldable pub other : Cursor → Read (Record RData)
other c = resource c >>= λ r. if is_tsig r.0 then Err RecordAfterSignature else Ok r

-- so many items are read, and only the place behind them is kept
unfoldable pub skip : {A : Type 0} → (Cursor → Read A) → ℕ → Cursor → Result Cursor DecodeError
skip read zero c = Ok c
skip read (suc n) c = read c >>= λ x. skip read n x.1

-- the last record, where it is a TSIG
abbrev pub placed : ℕ → ℕ → Record RData → RData → Option PlacedSignature
placed additionals place r (rdata.TSIG t) = Some (record { additionals = additionals; place = place; signature = with_data r t })
placed additionals place r content = None

-- the last of some additional records, behind all others
unfoldable pub last_of : HeaderCounts → Cursor → Result (Option PlacedSignature) DecodeError
last_of counts c = do
  others ← skip other (counts.answers + counts.authorities + (counts.additionals - 1)) c
  last ← resource others
  Ok (placed counts.additionals others.place last.0 last.0.rdata)

-- there is no additional record
unfoldable pub none_of : HeaderCounts → Cursor → Result (Option PlacedSignature) DecodeError
none_of counts c = skip other (counts.answers + counts.authorities) c >>= λ others. Ok None

-- behind a header with these counts
unfoldable pub signature_behind : HeaderCounts → Cursor → Result (Option PlacedSignature) DecodeError
signature_behind counts c = skip question counts.queries c >>= λ records.
    if nat_eq counts.additionals 0 then none_of counts records else last_of counts records

-- of a whole message
unfoldable pub signature_of : Cursor → Result (Option PlacedSignature) DecodeError
signature_of c = header c >>= λ h. signature_behind h.0.counts h.1
