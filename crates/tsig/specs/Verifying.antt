-- How a client verifies a reply that it has (RFC 8945 sections 5.4 and 5.3.1), and how it signs a request (section
-- 5.1).
use Rattle.std.specs.Prelude.{◌≡◌, ◌<◌, ℕ, ◌+◌, Bool, IsTrue, true, false, List, [], length}
use Rattle.wire_names.specs.rr.domain.DomainName.{AreLabels}
use Rattle.wire_names.specs.rr.domain.NameOrder.{name_eq}
use Rattle.wire_messages.specs.serialize.layout.HeaderLayout.{HeaderAt}
use Rattle.wire_messages.specs.serialize.layout.MessageLayout.{ItemsAt, is_tsig}
use Rattle.wire_messages.specs.serialize.layout.NameLayout.{IsFullyQualified}
use Rattle.wire_messages.specs.serialize.layout.QuestionLayout.{IsFormedQuestion, QuestionAt}
use Rattle.wire_messages.specs.serialize.layout.RecordLayout.{FormAt, IsFormedRecord}
use Rattle.wire_messages.specs.declared.op.header.Header.{Header}
use Rattle.wire_messages.specs.declared.op.query.Query.{Query}
use Rattle.wire_messages.specs.declared.rr.rdata.RData.{RData}
use Rattle.wire_messages.specs.declared.rr.record.Record.{Record}
use Rattle.wire_messages.specs.declared.rr.tsig.TSIG.{TSIG}
use Rattle.tsig.specs.Digest.{next_digest, reply_digest, request_digest, unsigned_message}
use Rattle.tsig.specs.Hmac.{algorithm_name, mac_of}
use Rattle.tsig.specs.Judging.{has_fixed_fields, is_mac_len, is_mac_of, is_named}
use Rattle.tsig.specs.Signing.{appended, id_of, record_of, with_mac}
use Rattle.tsig.specs.Standing.{SignedAt}
use Rattle.tsig.specs.declared.judgement.Verdict.{Verdict}
use Rattle.tsig.specs.declared.judgement.Verdict.TheVariants.{Good, BadKey, BadSig, BadTime, BadTrunc}
use Rattle.tsig.specs.declared.keys.Key.{Key}

-- ---- what is verified

-- The bytes are a message that ends in a TSIG record of the key: with the fixed fields, under the key's name and
-- algorithm, with a MAC of a length that there is.
pub record CarriesKey (key : Key) (bytes : List ℕ) (additionals place : ℕ) (s : Record TSIG) : Type 0 where
  pub stands : SignedAt bytes additionals place s (length bytes)
  pub fixed : IsTrue (has_fixed_fields s)
  pub name : IsTrue (name_eq key.name s.name)
  pub algorithm : IsTrue (is_named key.algorithm s.rdata.algorithm)
  pub len : IsTrue (is_mac_len key.algorithm (length s.rdata.mac))

-- what the message was before it was signed, by its record
abbrev pub message_in : List ℕ → ℕ → ℕ → Record TSIG → List ℕ
message_in bytes additionals place s = unsigned_message bytes s.rdata.oid additionals place

-- The reply verifies by the key, for a request with this MAC (section 5.3).
pub record Verifies (key : Key) (request_mac bytes : List ℕ) : Type 0 where
  pub additionals : ℕ
  pub place : ℕ
  pub signature : Record TSIG
  pub carries : CarriesKey key bytes additionals place signature
  pub mac : IsTrue (is_mac_of key (reply_digest request_mac key.name (algorithm_name key.algorithm) signature.rdata (message_in bytes additionals place signature)) signature.rdata.mac)

-- The further message of a transfer verifies, behind one with this MAC (section 5.3.1).
pub record VerifiesNext (key : Key) (prior bytes : List ℕ) : Type 0 where
  pub additionals : ℕ
  pub place : ℕ
  pub signature : Record TSIG
  pub carries : CarriesKey key bytes additionals place signature
  pub mac : IsTrue (is_mac_of key (next_digest prior signature.rdata (message_in bytes additionals place signature)) signature.rdata.mac)

-- ---- messages that are signed

-- A record of a message that stands in its form, of which no byte lies in the header, and which is no TSIG.
pub record OwnAt (bytes : List ℕ) (place : ℕ) (r : Record RData) (next : ℕ) : Type 0 where
  pub form : FormAt 12 bytes place r next
  pub formed : IsFormedRecord r
  pub other : is_tsig r ≡ false

-- A question of a message that stands in its form, of which no byte lies in the header.
pub record AskedAt (bytes : List ℕ) (place : ℕ) (q : Query) (next : ℕ) : Type 0 where
  pub stands : QuestionAt 12 bytes place q next
  pub formed : IsFormedQuestion q

-- The bytes are a message without a TSIG record, with no byte behind it, none of whose names leads into the header; and
-- one more additional record can be counted in it.
pub record IsWholeMessage (bytes : List ℕ) : Type 0 where
  pub header : Header
  pub queries : List Query
  pub records_at : ℕ
  pub records : List (Record RData)
  pub stands : HeaderAt bytes header
  pub questions : ItemsAt (AskedAt bytes) 12 queries records_at
  pub query_count : length queries ≡ header.counts.queries
  pub stand : ItemsAt (OwnAt bytes) records_at records (length bytes)
  pub number : length records ≡ header.counts.answers + header.counts.authorities + header.counts.additionals
  pub count : header.counts.additionals < 65535

-- ---- a client's request

-- what the record of a request says, but for the MAC: the key's algorithm, a time and a fudge, the message's id
-- (section 5.1)
abbrev pub request_data : Key → ℕ → ℕ → List ℕ → TSIG
request_data key time fudge message = record { algorithm = algorithm_name key.algorithm; time = time; fudge = fudge; mac = []; oid = id_of message; error = 0; other = [] }

-- its MAC (section 4.3)
abbrev pub request_mac_of : Key → TSIG → List ℕ → List ℕ
request_mac_of key t message = mac_of key.algorithm key.secret (request_digest key.name (algorithm_name key.algorithm) t message)

-- the record with that MAC
abbrev pub request_record : Key → ℕ → ℕ → List ℕ → Record TSIG
request_record key time fudge message =
    record_of key.name (with_mac (request_data key time fudge message) (request_mac_of key (request_data key time fudge message) message))

-- a request that a client signs by the key (section 5.1)
abbrev pub signed_request : Key → ℕ → ℕ → List ℕ → List ℕ
signed_request key time fudge message = appended message (request_record key time fudge message)

-- A key that can be written: its name is one, and it is fully qualified.
pub record IsKey (key : Key) : Type 0 where
  pub labels : AreLabels key.name.labels
  pub qualified : IsFullyQualified key.name

-- A verdict on a request whose key and MAC are right: its reply is signed (sections 5.2.3, 5.2.4 and 5.3.2).
abbrev pub is_mac_right : Verdict → Bool
is_mac_right Good = true
is_mac_right BadTime = true
is_mac_right BadTrunc = true
is_mac_right BadKey = false
is_mac_right BadSig = false
