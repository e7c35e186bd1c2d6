-- How a reply is signed (RFC 8945 sections 5.2 and 5.3), over the bytes that leave.
use Rattle.std.specs.Prelude.{◌≡◌, ◌≢◌, ◌<◌, ◌≤◌, ℕ, ◌+◌, ◌-◌, ◌^◌, min, Bool, true, false, List, [], ◌++◌, drop, take, slice_range, length, Option, Some, None, Result, Ok, Err}
use Rattle.std.specs.Int.{w16, from_be_bytes, to_be_bytes}
use Rattle.wire_messages.specs.Numbers.{class_any}
use Rattle.wire_names.specs.rr.domain.DomainName.{DomainName, name_len}
use Rattle.wire_messages.specs.serialize.layout.MessageLayout.{tsig_record}
use Rattle.wire_messages.specs.serialize.writing.FullForm.{record_octets}
use Rattle.wire_messages.specs.declared.rr.record.Record.{Record}
use Rattle.wire_messages.specs.declared.rr.record.Proof.TheVariants.{Indeterminate}
use Rattle.wire_messages.specs.declared.rr.tsig.TSIG.{TSIG}
use Rattle.tsig.specs.Digest.{next_digest, octets_48, reply_digest}
use Rattle.tsig.specs.Hmac.{algorithm_name, mac_len, mac_of}
use Rattle.tsig.specs.Keys.{key_of}
use Rattle.tsig.specs.declared.judgement.Judgement.{Judgement}
use Rattle.tsig.specs.declared.judgement.Judgement.TheVariants.{Signed}
use Rattle.tsig.specs.declared.judgement.Verdict.{Verdict}
use Rattle.tsig.specs.declared.judgement.Verdict.TheVariants.{Good, BadKey, BadSig, BadTime, BadTrunc}
use Rattle.tsig.specs.declared.keys.Key.{Key}
use Rattle.tsig.specs.declared.signing.SigningError.{SigningError}
use Rattle.tsig.specs.declared.signing.SigningError.TheVariants as signing_error

-- ---- a record behind a message

-- the id of a message, and how many records its additional section has (RFC 1035 section 4.1.1)
abbrev pub id_of : List ℕ → ℕ
id_of message = from_be_bytes w16 (take 2 message)

abbrev pub additionals_of : List ℕ → ℕ
additionals_of message = from_be_bytes w16 (slice_range message 10 12)

-- The message has a header, and one more additional record can be counted in it.
pub record HasRoom (message : List ℕ) : Type 0 where
  pub header : 12 ≤ length message
  pub count : additionals_of message < 65535

-- the message with one more additional record behind it, in full, and counted
abbrev pub appended : List ℕ → Record TSIG → List ℕ
appended message r = take 10 message ++ to_be_bytes w16 (additionals_of message + 1) ++ drop 12 message ++ record_octets (tsig_record r)

-- ---- the record

-- the number of an error (RFC 8945 section 3)
abbrev pub error_of : Verdict → ℕ
error_of Good = 0
error_of BadSig = 16
error_of BadKey = 17
error_of BadTime = 18
error_of BadTrunc = 22

-- a moment in 48 bits; one that is later has no form, and the last that has one stands for it
abbrev pub time_of : ℕ → ℕ
time_of now = min now (2 ^ 48 - 1)

-- What the TSIG record of a reply says, but for the MAC: the algorithm as the request names it, the time of the server,
-- a fudge of 300 seconds, the reply's id. For BADTIME it is the time and the fudge of the request, and the time of the
-- server stands in the other data (section 5.2.3).
abbrev pub reply_data : TSIG → Verdict → ℕ → ℕ → TSIG
reply_data t BadTime now id = record { algorithm = t.algorithm; time = time_of t.time; fudge = t.fudge; mac = []; oid = id; error = error_of BadTime; other = octets_48 (time_of now) }
reply_data t verdict now id = record { algorithm = t.algorithm; time = time_of now; fudge = 300; mac = []; oid = id; error = error_of verdict; other = [] }

-- the record of these data, under the name of the key as the request has it: class ANY, 255, and TTL 0 (section 4.2)
abbrev pub record_of : DomainName → TSIG → Record TSIG
record_of name t = record { name = name; dns_class = class_any; ttl = 0; rdata = t; proof = Indeterminate }

abbrev pub with_mac : TSIG → List ℕ → TSIG
with_mac t mac = record t { mac = mac }

-- ---- the reply

-- bytes that leave, and the MAC in them, of which there is none where they are not signed
pub record Reply : Type 0 where
  pub bytes : List ℕ
  pub mac : List ℕ

-- as it is, with no record: a reply to a request that was not signed, or whose signature has no form
abbrev pub plain : List ℕ → Reply
plain message = record { bytes = message; mac = [] }

-- with a record that tells the error and has no MAC (sections 5.2.1, 5.2.2 and 5.3.2)
abbrev pub without_mac : Record TSIG → TSIG → List ℕ → Reply
without_mac s t message = record { bytes = appended message (record_of s.name t); mac = [] }

-- with a MAC
abbrev pub with_code : Record TSIG → TSIG → List ℕ → List ℕ → Reply
with_code s t mac message = record { bytes = appended message (record_of s.name (with_mac t mac)); mac = mac }

-- the MAC of a reply, over the MAC of the request (section 5.3)
abbrev pub reply_mac : Key → Record TSIG → TSIG → List ℕ → List ℕ
reply_mac key s t message = mac_of key.algorithm key.secret (reply_digest s.rdata.mac key.name (algorithm_name key.algorithm) t message)

-- the MAC of each further message of a transfer, over the MAC of the one before (section 5.3.1)
abbrev pub next_mac : Key → List ℕ → TSIG → List ℕ → List ℕ
next_mac key prior t message = mac_of key.algorithm key.secret (next_digest prior t message)

-- by the key, where it is there
abbrev pub signed_by : Option Key → Record TSIG → TSIG → List ℕ → Option Reply
signed_by None s t message = None
signed_by (Some key) s t message = Some (with_code s t (reply_mac key s t message) message)

abbrev pub next_by : Option Key → Record TSIG → List ℕ → TSIG → List ℕ → Option Reply
next_by None s prior t message = None
next_by (Some key) s prior t message = Some (with_code s t (next_mac key prior t message) message)

abbrev pub answered : List Key → Record TSIG → Verdict → List ℕ → ℕ → Option Reply
answered keys s BadKey message now = Some (without_mac s (reply_data s.rdata BadKey now (id_of message)) message)
answered keys s BadSig message now = Some (without_mac s (reply_data s.rdata BadSig now (id_of message)) message)
answered keys s verdict message now = signed_by (key_of keys s.name) s (reply_data s.rdata verdict now (id_of message)) message

-- The reply to a request that was judged so; `None` where it is to be signed by a key that is not there.
abbrev pub reply_of : List Key → Judgement → List ℕ → ℕ → Option Reply
reply_of keys (Signed s verdict) message now = answered keys s verdict message now
reply_of keys other message now = Some (plain message)

-- A further message of a transfer, behind one with this MAC. It is signed where the request was judged good, and else
-- it has no record.
abbrev pub next_of : List Key → Judgement → List ℕ → List ℕ → ℕ → Option Reply
next_of keys (Signed s Good) prior message now = next_by (key_of keys s.name) s prior (reply_data s.rdata Good now (id_of message)) message
next_of keys other prior message now = Some (plain message)

-- What a call that puts a reply behind other bytes returns is the MAC of that reply. Without the key there is an error,
-- and only then it may tell that.
abbrev pub Puts : Option Reply → List ℕ → List ℕ → Result (List ℕ) SigningError → Type 0
Puts (Some reply) old new (Ok mac) = (mac ≡ reply.mac) × (new ≡ old ++ reply.bytes)
Puts (Some reply) old new (Err e) = e ≢ signing_error.Key
Puts None old new (Ok mac) = ⊥
Puts None old new (Err e) = Unit {0}

-- whether a reply to a request that was judged so has a TSIG record
abbrev pub needs_record : Judgement → Bool
needs_record (Signed s verdict) = true
needs_record other = false

-- and whether a further message of a transfer has
abbrev pub next_needs_record : Judgement → Bool
next_needs_record (Signed s Good) = true
next_needs_record other = false

-- ---- room

abbrev pub mac_room : Option Key → ℕ
mac_room None = 0
mac_room (Some key) = mac_len key.algorithm

-- how many bytes behind the fixed ones a record of such a reply takes: its MAC, and its other data
abbrev pub variable_room : List Key → Record TSIG → Verdict → ℕ
variable_room keys s BadKey = 0
variable_room keys s BadSig = 0
variable_room keys s BadTime = mac_room (key_of keys s.name) + 6
variable_room keys s verdict = mac_room (key_of keys s.name)

-- How many bytes more a reply takes than before it was signed: the record's name, its ten fixed bytes, the algorithm's
-- name, and sixteen fixed bytes of data (section 4.2), with what varies.
abbrev pub room_of : List Key → Judgement → ℕ
room_of keys (Signed s verdict) = name_len s.name.labels + 10 + (name_len s.rdata.algorithm.labels + 16) + variable_room keys s verdict
room_of keys other = 0
