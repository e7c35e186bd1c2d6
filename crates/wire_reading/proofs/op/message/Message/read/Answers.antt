use Rattle.std.proofs.Common.{rules, arith, ◌≡◌, ◌≢◌, ◌∙◌, ap, sym, IfOk, IfErr, Result, Ok, Err, List, ℕ}
use Rattle.wire_names.specs.serialize.layout.Bytes.{AreBytes}
use Rattle.wire_messages.specs.serialize.reading.Cursor.{Cursor}
use Rattle.wire_reading.specs.serialize.reading.MessageFaults.{MessageFault}
use Rattle.wire_reading.specs.serialize.layout.WholeMessage.{MessageAt}
use Rattle.wire_reading.specs.serialize.reading.MessageReading.{message, front_of, Reads}
use Rattle.wire_messages.specs.serialize.reading.Reading.{Gives}
use Rattle.wire_names.specs.declared.error.DecodeError.{DecodeError}
use Rattle.wire_names.specs.declared.error.DecodeError.TheVariants.{Memory}
use Rattle.wire_reading.specs.declared.op.message.Message.{Message}
use Rattle.wire_messages.proofs.lemmas.serialize.layout.ByteTexts.{here}
use Rattle.wire_reading.proofs.lemmas.serialize.reading.MessageFaultLaws.{message_err}
use Rattle.wire_reading.proofs.lemmas.serialize.reading.WholeMessage.{message_found, message_here}
use Rattle.wire_reading.proofs.op.message.Message.read.Goals as goal

reads_from_gives : (result : Result Message DecodeError) (bytes : List ℕ) (old new : Cursor) → old ≡ front_of bytes → Gives result old new message → IfOk result (λ m. Reads bytes m)
reads_from_gives (Ok m) bytes old new front given = record { stop = new; reads = ap message (sym front) ∙ given.0 }
reads_from_gives (Err e) bytes old new front given = tt

stands_from_gives : (result : Result Message DecodeError) (bytes : List ℕ) (old new : Cursor) → AreBytes bytes → old ≡ front_of bytes → Gives result old new message → IfOk result (λ m. MessageAt bytes m)
stands_from_gives (Ok m) bytes old new a front given = message_found bytes a m new (ap message (sym front) ∙ given.0)
stands_from_gives (Err e) bytes old new a front given = tt

fault_from_gives : (result : Result Message DecodeError) (bytes : List ℕ) (old new : Cursor) → AreBytes bytes → old ≡ front_of bytes → Gives result old new message → IfErr result (λ e. e ≢ Memory → MessageFault bytes e)
fault_from_gives (Ok m) bytes old new a front given = tt
fault_from_gives (Err e) bytes old new a front given = λ other. message_err bytes a e (ap message (sym front) ∙ given.0 other)

pub returns-clause-found : goal.returns-clause-found
returns-clause-found c = reads_from_gives c.read_message.result c.args.bytes.now c.new.result c.read_message.new.self c.new.ensures c.read_message.ensures.exact

pub returns-clause-stands : goal.returns-clause-stands
returns-clause-stands c = stands_from_gives c.read_message.result c.args.bytes.now c.new.result c.read_message.new.self (λ k. omega (arith, c.type_inv.bytes k)) c.new.ensures c.read_message.ensures.exact

pub returns-clause-standing : goal.returns-clause-standing
returns-clause-standing c = λ m at.
    let whole : Reads c.args.bytes.now m = record { stop = here c.args.bytes.now at.stop; reads = message_here c.args.bytes.now (λ k. omega (arith, c.type_inv.bytes k)) m at } in
    search rules

pub returns-clause-faulty : goal.returns-clause-faulty
returns-clause-faulty c = fault_from_gives c.read_message.result c.args.bytes.now c.new.result c.read_message.new.self (λ k. omega (arith, c.type_inv.bytes k)) c.new.ensures c.read_message.ensures.exact
