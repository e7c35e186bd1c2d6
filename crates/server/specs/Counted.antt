-- What is counted of the messages that come and of their replies.
use Rattle.std.specs.Prelude.{◌≡◌, ℕ, Bool, List, drop, false, fold, if◌then◌else◌, length, nat_eq, take, true}
use Rattle.server_reports.specs.Counting.{message_counted, reply_counted, unanswered_counted}
use Rattle.server_reports.specs.declared.counters.Counters.{Counters}
use Rattle.server_reports.specs.declared.counters.Unanswered.TheVariants.{Denied, Dropped, Limited, Response, Unreadable}
use Rattle.server.specs.Frames.{AreFrames, IsCutShort}

-- a message is counted that came over a stream, or a reply
abbrev pub one_counted : Bool → Counters → List ℕ → Counters
one_counted true counters message = message_counted counters true (length message)
one_counted false counters reply = reply_counted counters reply

-- The messages that are whole at the front of the bytes, after their lengths, are counted, one after the other.
pub record AreCounted (count : Counters → List ℕ → Counters) (bytes : List ℕ) (old new : Counters) : Type 0 where
  pub messages : List (List ℕ)
  pub end : ℕ
  pub are_messages : AreFrames (take end bytes) messages
  pub no_more : IsCutShort (drop end bytes)
  pub counted : new ≡ fold count old messages

-- a number that a message is answered with is counted, if it says why there is no reply
abbrev pub number_counted : Counters → ℕ → Counters
number_counted counters number =
    if nat_eq number 1 then unanswered_counted counters Denied else
    if nat_eq number 2 then unanswered_counted counters Response else
    if nat_eq number 3 then unanswered_counted counters Unreadable else
    if nat_eq number 4 then unanswered_counted counters Dropped else
    if nat_eq number 5 then unanswered_counted counters Dropped else
    if nat_eq number 8 then unanswered_counted counters Limited else counters

-- A message of so many bytes is counted, the number that it is answered with, and the replies that are written.
abbrev pub AnswerCounted : Bool → ℕ → ℕ → List ℕ → Counters → Counters → Type 0
AnswerCounted stream size number written old new = AreCounted (one_counted false) written (number_counted (message_counted old stream size) number) new

-- The messages that are taken of a stream are counted, the number that they are answered with, and the replies that are
-- written.
abbrev pub StreamCounted : List ℕ → ℕ → List ℕ → Counters → Counters → Type 0
StreamCounted taken number written old new = (came : Counters) × AreCounted (one_counted true) taken old came × AreCounted (one_counted false) written (number_counted came number) new
