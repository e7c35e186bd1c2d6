use Rattle.std.proofs.Common.{◌≡◌, arith, ap, sym, subst, ◌∙◌, IfOk, Result, Ok, Err, List, ℕ}
use Rattle.wire_messages.specs.serialize.reading.Cursor.{Cursor}
use Rattle.wire_reading.specs.serialize.reading.MessageReading.{message, front_of, Reads}
use Rattle.wire_messages.specs.serialize.reading.Reading.{GivesSeenBy}
use Rattle.wire_names.specs.declared.error.DecodeError.{DecodeError}
use Rattle.wire_names.specs.serialize.layout.Bytes.{AreBytes}
use Rattle.hickory_base.specs.requests.RequestReading.{FollowsHeader, IsQuestionSection, message_of}
use Rattle.hickory_base.specs.declared.requests.message_request.MessageRequest.{MessageRequest}
use Rattle.hickory_base.proofs.lemmas.requests.RequestParts.{section_stands}
use Rattle.hickory_base.proofs.requests.request_reading.read_message.Goals as goal

reads_from_gives : (m : MessageRequest) (result : Result (Unit {0}) DecodeError) (bytes : List ℕ) (old new : Cursor) → old ≡ front_of bytes → GivesSeenBy (λ _. message_of m) result old new message → IfOk result (λ _. Reads bytes (message_of m))
reads_from_gives m (Ok u) bytes old new front given = record { stop = new; reads = ap message (sym front) ∙ given.0 }
reads_from_gives m (Err e) bytes old new front given = tt

questions_stand : (m : MessageRequest) (result : Result (Unit {0}) DecodeError) (bytes : List ℕ) (old : Cursor) → AreBytes bytes → old ≡ front_of bytes → IfOk result (λ _. FollowsHeader old m.queries) → IfOk result (λ _. IsQuestionSection bytes m.queries)
questions_stand m (Ok u) bytes old a front follows = section_stands bytes m.queries a (subst (λ (start : Cursor). FollowsHeader start m.queries) front follows)
questions_stand m (Err e) bytes old a front follows = tt

pub returns-clause-found : goal.returns-clause-found
returns-clause-found c = reads_from_gives c.read_in_place.new.self c.read_in_place.result c.args.bytes.now c.new.result c.read_in_place.new.decoder c.new.ensures c.read_in_place.ensures.exact

pub returns-clause-questions : goal.returns-clause-questions
returns-clause-questions c = questions_stand c.read_in_place.new.self c.read_in_place.result c.args.bytes.now c.new.result (λ k. omega (arith, c.type_inv.bytes k)) c.new.ensures c.read_in_place.ensures.questions

pub returns-clause-bytes : goal.returns-clause-bytes
returns-clause-bytes c = λ k. omega (arith, c.type_inv.bytes k)
