-- An OPT record at the root, read without its record (RFC 6891 section 6.1).
use Rattle.std.specs.Prelude.{Some, is_some, Result, Ok, Err, if◌then◌else◌}
use Rattle.std.specs.Int.{w16, w32}
use Rattle.wire_messages.specs.op.EdnsFields.{EdnsFields}
use Rattle.wire_messages.specs.serialize.layout.MessageLayout.{edns_said}
use Rattle.wire_messages.specs.serialize.reading.Cursor.{Cursor}
use Rattle.wire_messages.specs.serialize.reading.Reading.{Read, ◌>>=◌, number, octets}
use Rattle.wire_messages.specs.serialize.reading.RecordReading.{options_of}
use Rattle.wire_messages.specs.serialize.reading.SectionReading.{Additionals}
use Rattle.wire_names.specs.declared.error.DecodeError.{DecodeError}
use Rattle.wire_names.specs.declared.error.DecodeError.TheVariants.{RecordAfterSignature, DuplicateEdns}

-- what an OPT record says, from the place behind its type on
unfoldable pub opt_fields : Cursor → Read EdnsFields
opt_fields c = do
  class ← number w16 c
  ttl ← number w32 class.1
  len ← number w16 ttl.1
  content ← octets len.0 len.1
  Ok (edns_said class.0 ttl.0 (options_of content.0), content.1)

-- It is the one OPT, and stands before the TSIG.
unfoldable pub add_edns : Additionals → EdnsFields → Result Additionals DecodeError
add_edns x edns =
    if is_some x.signature then Err RecordAfterSignature
    else (if is_some x.edns then Err DuplicateEdns else Ok (record x { edns = Some edns }))
