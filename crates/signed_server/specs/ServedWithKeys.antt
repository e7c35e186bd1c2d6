-- What becomes of a message at a server with keys (RFC 8945 section 5.2).
use Rattle.std.specs.Prelude.{◌≡◌, ◌≤◌, ◌⊎◌, ℕ, Bool, true, false, List, [], get_or, length, Contains}
use Rattle.std.specs.List.{list_any}
use Rattle.std.specs.Option.{option_map_or}
use Rattle.std.specs.Net.Socket.{socket_ip}
use Rattle.std.specs.declared.net.SocketAddr.{SocketAddr}
use Rattle.wire_names.specs.rr.domain.DomainName.{DomainName}
use Rattle.wire_names.specs.rr.domain.NameOrder.{name_eq}
use Rattle.wire_names.specs.declared.error.ProtoError.{ProtoError}
use Rattle.server_limits.specs.Access.{IsAllowed, Network}
use Rattle.hickory_base.specs.requests.RequestReading.{IsFaultOf}
use Rattle.hickory_base.specs.requests.Requests.{ReceivedRequest}
use Rattle.hickory_base.specs.declared.requests.message_request.MessageRequest.{MessageRequest}
use Rattle.hickory_server.specs.server.FormErrors.{IsFormError}
use Rattle.hickory_server.specs.server.Ruling.{IsResponse, own_for}
use Rattle.hickory_server.specs.server.ServedBy.{Arrival, BytesServed, IsReadFrom, LeavesBytes}
use Rattle.hickory_server.specs.declared.server.answer.Answer.{Answer}
use Rattle.hickory_server.specs.declared.server.answer.Answer.TheVariants.{Replies}
use Rattle.hickory_server.specs.declared.server.rules.Rules.{Rules}
use Rattle.hickory_server.specs.declared.server.serve.ServeError.{ServeError}
use Rattle.hickory_server.specs.declared.server.serve.ServeError.TheVariants.{Memory, MemoryAfterHandling}
use Rattle.tsig.specs.Judging.{Judged}
use Rattle.tsig.specs.declared.judgement.Judgement.{Judgement}
use Rattle.tsig.specs.declared.judgement.Judgement.TheVariants.{FormErr, Signed, Unsigned}
use Rattle.tsig.specs.declared.judgement.Verdict.TheVariants.{BadKey, BadSig, BadTime, BadTrunc, Good}
use Rattle.tsig.specs.declared.keys.Key.{Key}
use Rattle.signed_server.specs.KeyedServers.{KeyedServer}
use Rattle.signed_server.specs.SignedAnswers.{IsRefused, IsSentSigned}
use Rattle.signed_server.specs.declared.service.Course.{Course}
use Rattle.signed_server.specs.declared.service.Course.TheVariants.{Plain, Refuse, Sign}

-- The message has a header, which counts no record in any of the three sections behind the questions (RFC 1035 section
-- 4.1.1). So no TSIG is counted.
pub record CountsNoRecord (bytes : List ℕ) : Type 0 where
  pub whole : 12 ≤ length bytes
  pub answers : (get_or bytes 6 0 ≡ 0) × (get_or bytes 7 0 ≡ 0)
  pub authorities : (get_or bytes 8 0 ≡ 0) × (get_or bytes 9 0 ≡ 0)
  pub additionals : (get_or bytes 10 0 ≡ 0) × (get_or bytes 11 0 ≡ 0)

-- The server has a key, the message's address may use the server, and it is no shorter than a header and itself no
-- response.
pub record IsRequestWithKeys (keys : List Key) (rules : Rules) (bytes : List ℕ) (source : SocketAddr) : Type 0 where
  pub keyed : ¬ (keys ≡ [])
  pub allowed : IsAllowed rules.access.deny rules.access.allow (socket_ip source)
  pub whole : 12 ≤ length bytes
  pub no_response : ¬ (IsResponse bytes)

-- A message is judged where it is such a request, and its header counts a record that may be a TSIG.
pub record IsForJudging (keys : List Key) (rules : Rules) (bytes : List ℕ) (source : SocketAddr) : Type 0 where
  pub request : IsRequestWithKeys keys rules bytes source
  pub counts : ¬ (CountsNoRecord bytes)

-- The request that begins the bytes of a message.
abbrev pub IsRequestOf : Arrival → ReceivedRequest → Type 0
IsRequestOf came request = IsReadFrom came.bytes came.source came.protocol request

-- which way a message goes that was judged so: one without a signature is served as it is; one with a good signature is
-- served, and its replies are signed; any other is refused
abbrev pub course_of : Judgement → Course
course_of Unsigned = Plain
course_of FormErr = Refuse
course_of (Signed s Good) = Sign
course_of (Signed s BadKey) = Refuse
course_of (Signed s BadSig) = Refuse
course_of (Signed s BadTime) = Refuse
course_of (Signed s BadTrunc) = Refuse

-- whether the key that a request names is one of these names, letter case aside
abbrev pub is_by_one_of : List DomainName → Judgement → Bool
is_by_one_of names (Signed s verdict) = list_any (λ name. name_eq name s.name) names
is_by_one_of names other = false

-- the names of the keys that may have the zone of a request transferred from anywhere: those of its own rules, if it has
-- any, and no others; else those for all zones
abbrev pub keys_for : List DomainName → Rules → MessageRequest → List DomainName
keys_for names rules message = option_map_or (λ zone. zone.keys.items) (own_for rules message) names

-- Rules by which everybody may have transfers, and which are these else.
pub record AreOpen (rules theirs : Rules) : Type 0 where
  pub others : theirs ≡ record rules { transfers = theirs.transfers; zones = theirs.zones }
  pub none_denied : (network : Network) → ¬ (Contains theirs.transfers.deny network)
  pub none_listed : (network : Network) → ¬ (Contains theirs.transfers.allow network)
  pub no_own : theirs.zones.items ≡ []

-- The rules that a request is held to: these, which are opened where its key may have its zone from anywhere.
abbrev pub AreRulesFor : Bool → Rules → Rules → Type 0
AreRulesFor true rules theirs = AreOpen rules theirs
AreRulesFor false rules theirs = theirs ≡ rules

-- What becomes of a message at a server with keys, and the zones after it.
pub data ServedWithKeys {H : Type 0} (keyed : KeyedServer H) (came : Arrival) (answer : Answer) (zones : List (DomainName × List H)) : Type 0 where
  -- It is not judged: it is served as by a server without keys, which gives it no reply where the server has a key and
  -- the message counts a record.
  unjudged : ¬ (IsForJudging keyed.keys keyed.rules came.bytes came.source) → BytesServed keyed.rules keyed.server came answer zones → ServedWithKeys keyed came answer zones
  -- It has no TSIG record: it is served as by a server without keys.
  plain : {judgement : Judgement} → IsForJudging keyed.keys keyed.rules came.bytes came.source → Judged keyed.keys came.bytes came.now judgement
      → course_of judgement ≡ Plain → BytesServed keyed.rules keyed.server came answer zones → ServedWithKeys keyed came answer zones
  -- Its header can be read, and its body cannot: FORMERR (RFC 1035 section 4.1.1), as for a TSIG that is not its last
  -- record (RFC 8945 section 5.2).
  unreadable : {judgement : Judgement} {e : ProtoError} → IsForJudging keyed.keys keyed.rules came.bytes came.source → Judged keyed.keys came.bytes came.now judgement
      → IsFaultOf came.bytes e → IsFormError came.bytes answer → zones ≡ keyed.server.zones → ServedWithKeys keyed came answer zones
  -- Its signature is good: it is served, by the rules for its key, and the replies are signed.
  good : {judgement : Judgement} {request : ReceivedRequest} {served : Answer} {theirs : Rules} → IsForJudging keyed.keys keyed.rules came.bytes came.source
      → Judged keyed.keys came.bytes came.now judgement → course_of judgement ≡ Sign → IsRequestOf came request
      → AreRulesFor (is_by_one_of (keys_for keyed.transfer_keys keyed.rules request.message) judgement) keyed.rules theirs → BytesServed theirs keyed.server came served zones
      → IsSentSigned keyed.keys keyed.rules (record { request = request; judgement = judgement; now = came.now }) served answer → ServedWithKeys keyed came answer zones
  -- Its signature is bad: no zone is asked.
  bad : {judgement : Judgement} {request : ReceivedRequest} {leaving : List (List ℕ)} → IsForJudging keyed.keys keyed.rules came.bytes came.source
      → Judged keyed.keys came.bytes came.now judgement → course_of judgement ≡ Refuse → IsRequestOf came request
      → IsRefused keyed.keys keyed.rules (record { request = request; judgement = judgement; now = came.now }) leaving → answer ≡ Replies leaving
      → zones ≡ keyed.server.zones → ServedWithKeys keyed came answer zones

-- The zones after a message for which memory was refused: as before, or as after it where it was served and its replies
-- are missing.
abbrev pub LeavesWithKeys : {H : Type 0} → KeyedServer H → Arrival → ServeError → List (DomainName × List H) → Type 0
LeavesWithKeys keyed came e zones = ((e ≡ Memory) × (zones ≡ keyed.server.zones))
    ⊎ (LeavesBytes keyed.rules keyed.server came e zones
    ⊎ ((e ≡ MemoryAfterHandling) × (judgement : Judgement) × (request : ReceivedRequest) × (theirs : Rules) × IsRequestOf came request
    × AreRulesFor (is_by_one_of (keys_for keyed.transfer_keys keyed.rules request.message) judgement) keyed.rules theirs
    × (answer : Answer) × BytesServed theirs keyed.server came answer zones))
