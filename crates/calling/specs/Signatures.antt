-- Transaction signatures of one key, by HMAC with SHA-256 (RFC 8945).
use Rattle.std.specs.Prelude.{◌+◌, ◌-◌, ◌*◌, ◌%◌, ◌^◌, ◌==◌, ℕ, Bool, cond, nat_lt, List, [], ◌∷◌, ◌++◌, length, drop, slice_index, slice_range, Option, Some, None}
use Rattle.std.specs.Int.{w16, w32, w64, from_be_bytes, to_be_bytes}
use Rattle.std.specs.declared.ops.Range.{Range}
use Rattle.wire_names.specs.rr.domain.DomainName.{DomainName, wire_form}
use Rattle.wire_messages.specs.declared.rr.record.Proof.TheVariants.{Indeterminate}
use Rattle.wire_messages.specs.declared.rr.record.Record.{Record}
use Rattle.wire_messages.specs.declared.rr.tsig.TSIG.{TSIG}
use Rattle.wire_messages.specs.declared.rr.tsig.TSigResponseContext.{TSigResponseContext}
use Rattle.wire_messages.specs.declared.rr.tsig.TSigResponseKind.{TSigResponseKind}
use Rattle.wire_messages.specs.declared.rr.tsig.TSigResponseKind.TheVariants.{UnknownKey, BadSignature, Known}
use Rattle.calling.specs.Hmac.{differences, hmac}

-- What a code is of, beside the message (RFC 8945 section 4.3.3): the name of the key, class ANY and TTL 0; the name of
-- the algorithm; the time with the fudge; and the error with other data. The names are in lower case.
abbrev pub variables : DomainName → DomainName → List ℕ → List ℕ → List ℕ
variables key algorithm time others =
    wire_form key.labels ++ (0 ∷ 0 ∷ 255 ∷ 0 ∷ 0 ∷ 0 ∷ 0 ∷ []) ++ wire_form algorithm.labels ++ (0 ∷ []) ++ time ++ others

-- the error that a reply tells of the request's signature: BADKEY, BADSIG, BADTIME or none (RFC 8945 section 3)
abbrev pub error_of : TSigResponseKind → ℕ
error_of UnknownKey = 17
error_of BadSignature = 16
error_of (Known mac None) = 0
error_of (Known mac (Some error)) = 18

-- a moment in six octets, and a fudge of 300 seconds in two
abbrev pub time_octets : ℕ → List ℕ
time_octets now = drop 2 (to_be_bytes w64 now) ++ to_be_bytes w16 300

-- what the code of a reply is of (RFC 8945 section 5.3): the request's code behind its length, the reply, and the
-- variables
abbrev pub reply_text : DomainName → DomainName → List ℕ → ℕ → ℕ → List ℕ → List ℕ
reply_text key algorithm mac now error reply =
    to_be_bytes w16 (length mac % 2 ^ 16) ++ mac ++ reply ++ variables key algorithm (time_octets now) (to_be_bytes w16 error ++ 0 ∷ 0 ∷ [])

-- the code of a reply; there is none where the request's signature is not good (RFC 8945 section 5.3.2)
abbrev pub reply_mac : DomainName → DomainName → List ℕ → TSigResponseKind → ℕ → List ℕ → List ℕ
reply_mac key algorithm block (Known mac error) now reply = hmac block (reply_text key algorithm mac now (error_of (Known mac error)) reply)
reply_mac key algorithm block UnknownKey now reply = []
reply_mac key algorithm block BadSignature now reply = []

-- the TSIG record of a reply (RFC 8945 section 4.2): class ANY, which is 255
abbrev pub record_with : DomainName → TSigResponseContext → List ℕ → Record TSIG
record_with algorithm context mac = record {
  name = context.key_name;
  dns_class = 255;
  ttl = 0;
  rdata = record { algorithm = algorithm; time = context.now; fudge = 300; mac = mac; oid = context.request_id; error = error_of context.kind; other = [] };
  proof = Indeterminate;
}

-- the last fields of a request's TSIG record, which is its last, with a code of 32 octets and no other data: the time
-- in 6 octets, the fudge in 2, the size of the code in 2, the code in 32, the id in 2, the error in 2, the length of
-- other data in 2
abbrev pub fields : List ℕ → List ℕ
fields message = slice_range message (length message - 48) (length message)

-- how many octets that record has (RFC 8945 section 4.2): two names with their end octets, type, class, TTL and length
-- in 10, and the fields
abbrev pub record_len : DomainName → DomainName → ℕ
record_len key algorithm = length (wire_form key.labels) + length (wire_form algorithm.labels) + 60

-- the request without the record, which begins at this place: under its first id, with one record fewer counted
abbrev pub unsigned : List ℕ → ℕ → List ℕ
unsigned message end =
    slice_range (fields message) 42 44 ++ slice_range message 2 10
    ++ to_be_bytes w16 (from_be_bytes w16 (slice_index message 10 ∷ slice_index message 11 ∷ []) - 1) ++ slice_range message 12 end

-- what the code of a request is of (RFC 8945 section 4.3.2): the request without the record, and the variables
abbrev pub request_text : DomainName → DomainName → List ℕ → List ℕ
request_text key algorithm message =
    unsigned message (length message - record_len key algorithm) ++ variables key algorithm (slice_range (fields message) 0 8) (slice_range (fields message) 44 48)

-- the moment that such fields tell
abbrev pub time_of : List ℕ → ℕ
time_of fields =
    from_be_bytes w16 (slice_index fields 0 ∷ slice_index fields 1 ∷ []) * 2 ^ 32
    + from_be_bytes w32 (slice_index fields 2 ∷ slice_index fields 3 ∷ slice_index fields 4 ∷ slice_index fields 5 ∷ [])

-- the fudge that they tell
abbrev pub fudge_of : List ℕ → ℕ
fudge_of fields = from_be_bytes w16 (slice_index fields 6 ∷ slice_index fields 7 ∷ [])

-- the times that differ from the one that is told by the fudge at most (RFC 8945 section 5.2.3)
abbrev pub times_of : List ℕ → Range ℕ
times_of fields = record { start = time_of fields - fudge_of fields; end = time_of fields + fudge_of fields + 1 }

-- whether the code of a request is the one of its text
abbrev pub is_signed : DomainName → DomainName → List ℕ → List ℕ → Bool
is_signed key algorithm block message = differences (hmac block (request_text key algorithm message)) (slice_range (fields message) 10 42) 32 == 0

-- when the signature of a request is good: about the time that it tells, where its code is right
abbrev pub validity_of : DomainName → DomainName → List ℕ → List ℕ → Option (Range ℕ)
validity_of key algorithm block message =
    cond (nat_lt (length message) (record_len key algorithm + 12)) None (cond (is_signed key algorithm block message) (Some (times_of (fields message))) None)
