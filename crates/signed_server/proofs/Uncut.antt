-- What is signed over a stream has room for its TSIG record, and no TC.
use Rattle.std.proofs.Common.{inl, inr, ℕ, List, [], ◌∷◌, ◌++◌}
use Rattle.std.specs.List.{AllByRecursion}
use Rattle.wire_messages.specs.declared.rr.rdata.RData.{RData}
use Rattle.wire_messages.specs.declared.rr.record.Record.{Record}
use Rattle.hickory_base.specs.declared.requests.message_request.MessageRequest.{MessageRequest}
use Rattle.signed_server.specs.SharedReplies.{AreParts, AreSharedOut, FitsUncut, IsSharedOut}
use Rattle.signed_server.specs.SharedReplies.AreParts.{one, two}
use Rattle.signed_server.specs.SharedReplies.AreSharedOut.{more, none}
use Rattle.signed_server.specs.SharedReplies.IsSharedOut.{in_parts, whole}
use Rattle.signed_server.specs.SignedAnswers.AreToBeSigned.{cut, failed, shared, whole as datagrams}
use Rattle.signed_server.specs.SignedLaws.{StreamsAreUncut}

all_of_both : {X : Type 0} (P : X → Type 0) (xs ys : List X) → AllByRecursion P xs → AllByRecursion P ys → AllByRecursion P (xs ++ ys)
all_of_both P [] ys all others = others
all_of_both P (x ∷ xs) ys (first, all) others = (first, all_of_both P xs ys all others)

parts_uncut : (limit : ℕ) (message : MessageRequest) (answers : List (Record RData)) (parts : List (List ℕ)) → AreParts limit message answers parts → AllByRecursion (FitsUncut limit) parts
parts_uncut limit message answers parts (one is) = (is.1.1, tt)
parts_uncut limit message answers parts (two {front = front} {back = back} {parts = firsts} {others = others} first second) =
    all_of_both (FitsUncut limit) firsts others (parts_uncut limit message front firsts first) (parts_uncut limit message back others second)

reply_uncut : (limit : ℕ) (request : MessageRequest) (reply : List ℕ) (parts : List (List ℕ)) → IsSharedOut limit request reply parts → AllByRecursion (FitsUncut limit) parts
reply_uncut limit request reply parts (whole fits is) = rw is (fits, tt)
reply_uncut limit request reply parts (in_parts without_room asks are) = parts_uncut limit are.message are.message.answers parts are.are_parts

shared_uncut : (limit : ℕ) (request : MessageRequest) (replies messages : List (List ℕ)) → AreSharedOut limit request replies messages → AllByRecursion (FitsUncut limit) messages
shared_uncut limit request replies messages none = tt
shared_uncut limit request replies messages (more {replies = earlier} {messages = so_far} {parts = parts} {reply = reply} before is) =
    all_of_both (FitsUncut limit) so_far parts (shared_uncut limit request earlier so_far before) (reply_uncut limit request reply parts is)

pub streams_uncut : StreamsAreUncut
streams_uncut limit request replies messages stream (datagrams udp _ _) = absurd (stream udp)
streams_uncut limit request replies messages stream (cut _ udp _ _ _ _) = absurd (stream udp)
streams_uncut limit request replies messages stream (shared stripped _ _ are) = inl (shared_uncut limit request.message stripped messages are)
streams_uncut limit request replies messages stream (failed {bytes = bytes} _ _ _ _ _ _ bare is) = inr (bytes, is, bare)
