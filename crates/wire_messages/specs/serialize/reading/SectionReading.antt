-- Headers and sections as they are read, with the first fault that is met (RFC 1035 section 4.1).
use Rattle.std.specs.Prelude.{ℕ, zero, suc, List, [], ◌∷◌, ◌++◌, length, not, Option, Some, None, is_some, Result, Ok, Err, ◌==◌, if◌then◌else◌}
use Rattle.std.specs.Int.{w16}
use Rattle.wire_messages.specs.serialize.reading.Cursor.{Cursor}
use Rattle.wire_messages.specs.op.EdnsFields.{EdnsFields}
use Rattle.wire_messages.specs.serialize.layout.HeaderLayout.{metadata_of}
use Rattle.wire_messages.specs.serialize.layout.MessageLayout.{is_for_additionals_alone, edns_of}
use Rattle.wire_messages.specs.serialize.reading.Reading.{Read, ◌>>=◌, number}
use Rattle.wire_messages.specs.rr.RecordData.{type_of}
use Rattle.wire_messages.specs.serialize.reading.RecordReading.{byte, resource}
use Rattle.wire_names.specs.declared.error.DecodeError.{DecodeError}
use Rattle.wire_names.specs.declared.error.DecodeError.TheVariants.{RecordNotInAdditionals, RecordAfterSignature, DuplicateEdns, EdnsNameNotRoot}
use Rattle.wire_messages.specs.declared.op.header.Header.{Header}
use Rattle.wire_messages.specs.declared.rr.rdata.RData.{RData}
use Rattle.wire_messages.specs.declared.rr.rdata.RData.TheVariants as rdata
use Rattle.wire_messages.specs.declared.rr.record.Record.{Record}
use Rattle.wire_messages.specs.declared.rr.tsig.TSIG.{TSIG}

unfoldable pub header : Cursor → Read Header
header c = do
  id ← number w16 c
  one ← byte id.1
  two ← byte one.1
  queries ← number w16 two.1
  answers ← number w16 queries.1
  authorities ← number w16 answers.1
  additionals ← number w16 authorities.1
  Ok (record { metadata = metadata_of id.0 one.0 two.0; counts = record { queries = queries.0; answers = answers.0; authorities = authorities.0; additionals = additionals.0 } }, additionals.1)

-- so many items, one after another, behind those that were read before
unfoldable pub items : {A : Type 0} → (Cursor → Read A) → ℕ → List A → Cursor → Read (List A)
items read zero before c = Ok (before, c)
items read (suc n) before c = read c >>= λ x. items read n (before ++ x.0 ∷ []) x.1

-- a record of another section
unfoldable pub section_record : Cursor → Read (Record RData)
section_record c = resource c >>= λ r. if is_for_additionals_alone (type_of r.0.rdata) then Err RecordNotInAdditionals else Ok r

-- what an additional section holds: its records, what its OPT says, and its TSIG
pub record Additionals : Type 0 where
  pub records : List (Record RData)
  pub edns : Option EdnsFields
  pub signature : Option (Record TSIG)

-- a record with these data in the place of its own
abbrev pub with_data : {R : Type 0} → Record RData → R → Record R
with_data r content = record { name = r.name; dns_class = r.dns_class; ttl = r.ttl; rdata = content; proof = r.proof }

-- The next record of the additional section goes where its data say: one OPT (RFC 6891 section 6.1.1) at the root
-- (section 6.1.2), the TSIG, or the other records.
abbrev pub placed : Additionals → Record RData → RData → Result Additionals DecodeError
placed x r (rdata.OPT options) =
    if not (length r.name.labels == 0) then Err EdnsNameNotRoot
    else (if is_some x.edns then Err DuplicateEdns else Ok (record x { edns = Some (edns_of r options) }))
placed x r (rdata.TSIG signature) = Ok (record x { signature = Some (with_data r signature) })
placed x r content = Ok (record x { records = x.records ++ r ∷ [] })

-- behind a TSIG no record may stand (RFC 8945 section 5.2)
unfoldable pub add_record : Additionals → Record RData → Result Additionals DecodeError
add_record x r = if is_some x.signature then Err RecordAfterSignature else placed x r r.rdata

-- so many records of the additional section, behind those that were read before
unfoldable pub additionals_after : ℕ → Additionals → Cursor → Read Additionals
additionals_after zero before c = Ok (before, c)
additionals_after (suc n) before c = resource c >>= λ r. add_record before r.0 >>= λ x. additionals_after n x r.1

abbrev pub no_additionals : Additionals
no_additionals = record { records = []; edns = None; signature = None }
