-- What holds of the replies of a server with keys.
use Rattle.std.specs.Prelude.{◌≡◌, ◌≢◌, ◌⊎◌, ◌↔◌, ℕ, Bool, false, List, length, [], ◌∷◌, ◌++◌, Option, Some, None, Contains}
use Rattle.std.specs.List.{AllByRecursion}
use Rattle.wire_names.specs.serialize.layout.Bytes.{AreBytes}
use Rattle.wire_messages.specs.Numbers.{code_serv_fail}
use Rattle.wire_messages.specs.declared.protocol.Protocol.TheVariants.{Udp}
use Rattle.wire_messages.specs.declared.rr.record.Record.{Record}
use Rattle.wire_messages.specs.declared.rr.tsig.TSIG.{TSIG}
use Rattle.tsig.specs.Judging.{HasKey, Judged}
use Rattle.tsig.specs.Signing.{Reply as SignedReply}
use Rattle.tsig.specs.Verifying.{IsWholeMessage, Verifies, VerifiesNext, is_mac_right}
use Rattle.tsig.specs.declared.judgement.Judgement.{Judgement}
use Rattle.tsig.specs.declared.judgement.Judgement.TheVariants.{Signed}
use Rattle.tsig.specs.declared.judgement.Verdict.TheVariants.{Good}
use Rattle.tsig.specs.declared.keys.Key.{Key}
use Rattle.wire_names.specs.rr.domain.DomainName.{DomainName}
use Rattle.hickory_base.specs.requests.Requests.{ReceivedRequest}
use Rattle.hickory_base.specs.responses.Responses.{error_metadata}
use Rattle.hickory_base.specs.declared.zone_store.handler.ZoneHandler.{Ghosts}
use Rattle.hickory_catalog.specs.requests.Server.{server_of}
use Rattle.hickory_catalog.specs.replies.Signing.{Signer}
use Rattle.hickory_catalog.specs.declared.catalog.Catalog.{Catalog}
use Rattle.hickory_server.specs.declared.server.answer.Answer.{Answer}
use Rattle.hickory_server.specs.declared.server.rules.Rules.{Rules}
use Rattle.hickory_server.specs.server.ServedBy.{Arrival, BytesServed}
use Rattle.signed_server.specs.ServedWithKeys.{ServedWithKeys}
use Rattle.signed_server.specs.SharedReplies.{FitsUncut}
use Rattle.hickory_server.specs.server.Written.{IsBare}
use Rattle.signed_server.specs.SignedAnswers.{AreSigned, AreToBeSigned, signed_behind}

-- A message of bytes without a TSIG record, none of whose names leads into its header.
pub record IsWhole (message : List ℕ) : Type 0 where
  pub bytes : AreBytes message
  pub whole : IsWholeMessage message

-- Replies verify by the key, one behind the other: the first for the MAC of the request (RFC 8945 section 5.3), and
-- each further one behind the MAC of the one before it (section 5.3.1); with the MAC of the last.
pub data AreVerified (key : Key) (request_mac : List ℕ) : List (List ℕ) → Option (List ℕ) → Type 0 where
  nothing : AreVerified key request_mac [] None
  first_reply : {bytes mac : List ℕ} → Verifies key request_mac bytes → AreVerified key request_mac (bytes ∷ []) (Some mac)
  further : {leaving : List (List ℕ)} {prior bytes mac : List ℕ} → AreVerified key request_mac leaving (Some prior) → VerifiesNext key prior bytes
      → AreVerified key request_mac (leaving ++ bytes ∷ []) (Some mac)

-- Every reply to a request that was judged good carries a MAC that verifies under the request's key, over the bytes
-- that leave.
abbrev pub GoodRepliesVerify : Type 0
GoodRepliesVerify = (keys : List Key) (request : List ℕ) (moment now : ℕ) (s : Record TSIG) (messages leaving : List (List ℕ)) (last : Option (List ℕ))
    → Judged keys request moment (Signed s Good) → ((message : List ℕ) → Contains messages message → IsWhole message) → AreSigned keys (Signed s Good) now messages leaving last
    → (key : Key) × HasKey keys s key × AreVerified key s.rdata.mac leaving last

-- There is a reply for every message that is to be signed.
abbrev pub EveryMessageLeaves : Type 0
EveryMessageLeaves = (keys : List Key) (judgement : Judgement) (now : ℕ) (messages leaving : List (List ℕ)) (last : Option (List ℕ))
    → AreSigned keys judgement now messages leaving last → length messages ≡ length leaving

-- whether the key and the MAC of a request are right, so that its reply is signed (sections 5.2.3 and 5.3.2)
abbrev pub has_right_mac : Judgement → Bool
has_right_mac (Signed s verdict) = is_mac_right verdict
has_right_mac other = false

-- A reply to a request of a wrong key or MAC, or to one whose TSIG has no form, carries no MAC.
abbrev pub BadRepliesAreBare : Type 0
BadRepliesAreBare = (keys : List Key) (judgement : Judgement) (message : List ℕ) (now : ℕ) (reply : SignedReply)
    → has_right_mac judgement ≡ false → signed_behind keys judgement None message now ≡ Some reply → reply.mac ≡ []

-- Without a key every message is served as by the server without keys, whichever keys may have transfers from anywhere.
abbrev pub KeylessServesAll : {S H : Type 0} → Ghosts H → (S → Signer) → Type 0
KeylessServesAll {S} {H} handler signature_for = (catalog : Catalog S H) (names : List DomainName) (rules : Rules) (came : Arrival) (answer : Answer) (zones : List (DomainName × List H))
    → ServedWithKeys (record { keys = []; transfer_keys = names; rules = rules; server = server_of handler signature_for catalog }) came answer zones
    ↔ BytesServed rules (server_of handler signature_for catalog) came answer zones

-- Each message that is to be signed over a stream has room for its TSIG record, and no TC; or there is one message,
-- which says ServFail.
abbrev pub StreamsAreUncut : Type 0
StreamsAreUncut = (limit : ℕ) (request : ReceivedRequest) (replies messages : List (List ℕ)) → request.protocol ≢ Udp → AreToBeSigned limit request replies messages
    → AllByRecursion (FitsUncut limit) messages
    ⊎ ((bytes : List ℕ) × (messages ≡ bytes ∷ []) × IsBare limit request.message (error_metadata request.message.metadata code_serv_fail) bytes)
