-- The replies to signed requests (RFC 8945 sections 5.2 and 5.3): which messages are signed, and how one is signed
-- behind the other.
use Rattle.std.specs.Prelude.{◌≡◌, ◌≢◌, ◌-◌, ℕ, max, List, [], ◌∷◌, ◌++◌, Option, Some, None, All, Contains}
use Rattle.std.specs.List.{AllZip}
use Rattle.wire_messages.specs.Numbers.{code_form_err, code_not_auth, code_serv_fail}
use Rattle.wire_messages.specs.op.Metadata.{response_to}
use Rattle.wire_messages.specs.declared.op.header.Metadata.{Metadata}
use Rattle.wire_messages.specs.declared.protocol.Protocol.{Protocol}
use Rattle.wire_messages.specs.declared.protocol.Protocol.TheVariants.{Udp}
use Rattle.hickory_base.specs.requests.Requests.{ReceivedRequest}
use Rattle.hickory_base.specs.responses.Responses.{error_metadata}
use Rattle.hickory_server.specs.server.Ruling.{datagram_limit}
use Rattle.hickory_server.specs.server.Written.{IsBare, with_tc}
use Rattle.hickory_server.specs.declared.server.answer.Answer.{Answer}
use Rattle.hickory_server.specs.declared.server.answer.Answer.TheVariants.{Replies}
use Rattle.hickory_server.specs.declared.server.rules.Rules.{Rules}
use Rattle.tsig.specs.Signing.{next_of, reply_of, room_of}
use Rattle.tsig.specs.Signing.{Reply as SignedReply}
use Rattle.tsig.specs.Stripping.{IsStripped}
use Rattle.tsig.specs.declared.judgement.Judgement.{Judgement}
use Rattle.tsig.specs.declared.judgement.Judgement.TheVariants.{Signed}
use Rattle.tsig.specs.declared.keys.Key.{Key}
use Rattle.signed_server.specs.SharedReplies.{AreSharedOut, CannotBeSent, Fits}

-- a request, how it was judged, and the moment of the replies in seconds since 1970
pub record JudgedRequest : Type 0 where
  pub request : ReceivedRequest
  pub judgement : Judgement
  pub now : ℕ

-- ---- limits

-- How many bytes a reply has at most, its signature with it: over UDP what its client and the server allow; over a
-- stream what a length of 16 bits allows (RFC 1035 section 4.2.2).
abbrev pub limit_over : Protocol → ℕ → ℕ
limit_over Udp datagram = datagram
limit_over stream datagram = 65535

abbrev pub reply_limit : Rules → ReceivedRequest → ℕ
reply_limit rules request = limit_over request.protocol (datagram_limit rules request)

-- What is left of it for the message, beside its TSIG record (section 5.3); a header, of twelve bytes, in any case.
abbrev pub message_limit : List Key → Judgement → Rules → ReceivedRequest → ℕ
message_limit keys judgement rules request = max (reply_limit rules request - room_of keys judgement) 12

-- ---- messages of only a question

-- TC, and no error: the whole reply is to be had over TCP (section 5.3)
abbrev pub truncated : Metadata → Metadata
truncated request = with_tc (response_to request)

-- NOTAUTH, which is 9, for a wrong key, MAC or time (section 5.2); and FORMERR, which is 1, for a signature without its
-- form
abbrev pub refusal_code : Judgement → ℕ
refusal_code (Signed s verdict) = code_not_auth
refusal_code other = code_form_err

-- ---- what is signed

-- The messages that are signed in the place of replies, without the signature that a reply may have.
pub data AreToBeSigned (limit : ℕ) (request : ReceivedRequest) (replies : List (List ℕ)) (messages : List (List ℕ)) : Type 0 where
  -- Over UDP each has room for its TSIG record,
  whole : request.protocol ≡ Udp → AllZip IsStripped replies messages → All (Fits limit) messages → AreToBeSigned limit request replies messages
  -- or one message is sent, of the question, with TC and no error (section 5.3).
  cut : {bytes : List ℕ} (stripped : List (List ℕ)) → request.protocol ≡ Udp → AllZip IsStripped replies stripped → ¬ (All (Fits limit) stripped)
      → IsBare limit request.message (truncated request.message.metadata) bytes → messages ≡ bytes ∷ [] → AreToBeSigned limit request replies messages
  -- Over a stream they are sent in as many messages as they take,
  shared : (stripped : List (List ℕ)) → request.protocol ≢ Udp → AllZip IsStripped replies stripped
      → AreSharedOut limit request.message stripped messages → AreToBeSigned limit request replies messages
  -- or, if one of them cannot be sent, one message is sent, of the question, with ServFail (RFC 1035 section 4.1.1).
  failed : {bytes : List ℕ} (stripped : List (List ℕ)) (reply : List ℕ) → request.protocol ≢ Udp → AllZip IsStripped replies stripped
      → Contains stripped reply → CannotBeSent limit request.message reply
      → IsBare limit request.message (error_metadata request.message.metadata code_serv_fail) bytes → messages ≡ bytes ∷ [] → AreToBeSigned limit request replies messages

-- ---- how they are signed

-- The first reply is signed over the MAC of the request (section 5.3), and each further one over the MAC of the one
-- before it (section 5.3.1).
abbrev pub signed_behind : List Key → Judgement → Option (List ℕ) → List ℕ → ℕ → Option SignedReply
signed_behind keys judgement None message now = reply_of keys judgement message now
signed_behind keys judgement (Some prior) message now = next_of keys judgement prior message now

-- What leaves of messages, one behind the other, at this moment; with the MAC of the last.
pub data AreSigned (keys : List Key) (judgement : Judgement) (now : ℕ) : List (List ℕ) → List (List ℕ) → Option (List ℕ) → Type 0 where
  none : AreSigned keys judgement now [] [] None
  more : {messages leaving : List (List ℕ)} {prior : Option (List ℕ)} (message : List ℕ) {reply : SignedReply} → AreSigned keys judgement now messages leaving prior
      → signed_behind keys judgement prior message now ≡ Some reply
      → AreSigned keys judgement now (messages ++ message ∷ []) (leaving ++ reply.bytes ∷ []) (Some reply.mac)

-- What leaves, signed, in the place of replies to a request that was judged so.
pub record AreSentSigned (keys : List Key) (rules : Rules) (judged : JudgedRequest) (replies leaving : List (List ℕ)) : Type 0 where
  pub messages : List (List ℕ)
  pub last : Option (List ℕ)
  pub to_be_signed : AreToBeSigned (message_limit keys judged.judgement rules judged.request) judged.request replies messages
  pub signed : AreSigned keys judged.judgement judged.now messages leaving last

-- What leaves in the place of an answer: its replies, signed; and an answer without a reply stays.
abbrev pub IsSentSigned : List Key → Rules → JudgedRequest → Answer → Answer → Type 0
IsSentSigned keys rules judged (Replies replies) answer = (leaving : List (List ℕ)) × AreSentSigned keys rules judged replies leaving × (answer ≡ Replies leaving)
IsSentSigned keys rules judged other answer = answer ≡ other

-- What leaves for a request whose signature is bad: the question with the code, and a TSIG record that tells why, where
-- the request's had its form (sections 5.2 and 5.3.2).
pub record IsRefused (keys : List Key) (rules : Rules) (judged : JudgedRequest) (leaving : List (List ℕ)) : Type 0 where
  pub message : List ℕ
  pub last : Option (List ℕ)
  pub bare : IsBare (message_limit keys judged.judgement rules judged.request) judged.request.message
      (error_metadata judged.request.message.metadata (refusal_code judged.judgement)) message
  pub signed : AreSigned keys judged.judgement judged.now (message ∷ []) leaving last
