-- How replies are signed by what a handler told of the request's signature (RFC 8945 section 5.3), over bytes that the
-- reply may be written as.
use Rattle.std.specs.Prelude.{ℕ, List, [], Option, Some, None}
use Rattle.wire_messages.specs.declared.rr.record.Record.{Record}
use Rattle.wire_messages.specs.declared.rr.tsig.TSIG.{TSIG}
use Rattle.wire_messages.specs.declared.rr.tsig.TSigResponseContext.{TSigResponseContext}
use Rattle.wire_messages.specs.declared.rr.tsig.TSigResponseKind.{TSigResponseKind}
use Rattle.wire_messages.specs.declared.rr.tsig.TSigResponseKind.TheVariants.{UnknownKey, BadSignature, Known}
use Rattle.wire_messages.specs.declared.rr.tsig.TsigError.{TsigError}
use Rattle.wire_messages.specs.declared.rr.tsig.TsigError.TheVariants.{BadTime}
use Rattle.tsig.specs.Digest.{octets_48, reply_digest}
use Rattle.tsig.specs.Hmac.{algorithm_name, mac_of}
use Rattle.tsig.specs.Keys.{key_of}
use Rattle.tsig.specs.Signing.{record_of, time_of, with_mac}
use Rattle.tsig.specs.declared.algorithm.Algorithm.{Algorithm}
use Rattle.tsig.specs.declared.algorithm.Algorithm.TheVariants.{HmacSha256}
use Rattle.tsig.specs.declared.keys.Key.{Key}

-- what the record of a reply says, but for the MAC: the time of the server, and a fudge of 300 seconds
abbrev pub data_of : Algorithm → TSigResponseContext → ℕ → List ℕ → TSIG
data_of algorithm context error other = record { algorithm = algorithm_name algorithm; time = time_of context.now; fudge = 300; mac = []; oid = context.request_id; error = error; other = other }

-- without a MAC, where the key is not known or the MAC of the request is bad (sections 5.2.1, 5.2.2 and 5.3.2)
abbrev pub unsigned_error : Algorithm → TSigResponseContext → ℕ → Record TSIG
unsigned_error algorithm context error = record_of context.key_name (data_of algorithm context error [])

-- BADTIME, 18, and the time of the server as other data (section 5.2.3); else none
abbrev pub time_error : Option TsigError → ℕ
time_error None = 0
time_error (Some BadTime) = 18

abbrev pub time_data : TSigResponseContext → Option TsigError → List ℕ
time_data context None = []
time_data context (Some BadTime) = octets_48 (time_of context.now)

-- with the MAC of the bytes of the reply, over the MAC of the request
abbrev pub signed_record : Key → TSigResponseContext → List ℕ → List ℕ → TSIG → Record TSIG
signed_record key context mac bytes t =
    record_of context.key_name (with_mac t (mac_of key.algorithm key.secret (reply_digest mac key.name (algorithm_name key.algorithm) t bytes)))

-- By how the request was judged. A context does not tell the request's algorithm, time and fudge: where the key is not
-- known the record names hmac-sha256, and a BADTIME reply has the time of the server.
abbrev pub signature_by : Option Key → TSigResponseContext → List ℕ → TSigResponseKind → Option (Record TSIG)
signature_by key context bytes UnknownKey = Some (unsigned_error HmacSha256 context 17)
signature_by None context bytes kind = None
signature_by (Some key) context bytes BadSignature = Some (unsigned_error key.algorithm context 16)
signature_by (Some key) context bytes (Known mac error) = Some (signed_record key context mac bytes (data_of key.algorithm context (time_error error) (time_data context error)))

unfoldable pub context_signature : List Key → TSigResponseContext → List ℕ → Option (Record TSIG)
context_signature keys context bytes = signature_by (key_of keys context.key_name) context bytes context.kind
