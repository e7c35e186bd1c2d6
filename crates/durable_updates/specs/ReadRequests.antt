-- Requests whose message was read from their bytes.
use Rattle.std.specs.Prelude.{◌∷◌, [], List, filter}
use Rattle.wire_reading.specs.serialize.reading.MessageReading.{Reads}
use Rattle.hickory_base.specs.requests.Requests.{ReceivedRequest}
use Rattle.hickory_base.specs.requests.RequestReading.{message_of}

-- The message of a request is the one that its bytes begin with, as it is of each that `Request::from_bytes` reads.
abbrev pub IsRead : ReceivedRequest → Type 0
IsRead request = Reads request.bytes (message_of request.message)

-- So it is of each of these.
abbrev pub AreRead : List ReceivedRequest → Type 0
AreRead [] = Unit {0}
AreRead (request ∷ requests) = IsRead request × AreRead requests

-- those of requests that were read; no other is written to a journal
abbrev pub those_read : List ReceivedRequest → List ReceivedRequest
those_read requests = filter (λ request. request.was_read) requests
