-- What a transaction signature is computed over (RFC 8945 section 4.3).
use Rattle.std.specs.Prelude.{ℕ, ◌-◌, ◌%◌, ◌^◌, List, ◌++◌, length, drop, slice_range}
use Rattle.std.specs.Int.{w16, w32, w64, to_be_bytes}
use Rattle.wire_names.specs.rr.domain.DomainName.{DomainName}
use Rattle.wire_names.specs.rr.domain.NameOrder.{lower_labels}
use Rattle.wire_messages.specs.serialize.writing.FullForm.{name_octets}
use Rattle.wire_messages.specs.declared.rr.tsig.TSIG.{TSIG}

-- a name in canonical wire form: in lower case, without pointers (RFC 8945 section 4.3.3)
abbrev pub canonical : DomainName → List ℕ
canonical name = name_octets (lower_labels name.labels)

-- the last six bytes of eight: a number of 48 bits
abbrev pub octets_48 : ℕ → List ℕ
octets_48 n = drop 2 (to_be_bytes w64 n)

-- The TSIG variables (section 4.3.3): the name of the key, the class ANY, 255, and the TTL 0 of the record; the name of
-- the algorithm, the time, the fudge, the error, and the other data behind their length.
abbrev pub variables : DomainName → DomainName → TSIG → List ℕ
variables key algorithm t =
    canonical key ++ to_be_bytes w16 255 ++ to_be_bytes w32 0
    ++ canonical algorithm ++ octets_48 t.time ++ to_be_bytes w16 t.fudge
    ++ to_be_bytes w16 t.error ++ to_be_bytes w16 (length t.other % 2 ^ 16) ++ t.other

-- the TSIG timers alone: time and fudge (section 5.3.1)
abbrev pub timers : TSIG → List ℕ
timers t = octets_48 t.time ++ to_be_bytes w16 t.fudge

-- The message as it was before it was signed (section 4.3.2): with its original id, one record less, and without the
-- last record, which begins at this place.
abbrev pub unsigned_message : List ℕ → ℕ → ℕ → ℕ → List ℕ
unsigned_message bytes original additionals place =
    to_be_bytes w16 original ++ slice_range bytes 2 10 ++ to_be_bytes w16 (additionals - 1) ++ slice_range bytes 12 place

-- the MAC of the request, or of the message before, behind its length (sections 4.3.1 and 5.3.1)
abbrev pub prior_mac : List ℕ → List ℕ
prior_mac mac = to_be_bytes w16 (length mac % 2 ^ 16) ++ mac

-- what a request is signed over: the message, and the variables (section 5.1)
abbrev pub request_digest : DomainName → DomainName → TSIG → List ℕ → List ℕ
request_digest key algorithm t message = message ++ variables key algorithm t

-- what a reply is signed over: the MAC of the request, the reply, and the variables (section 5.3)
abbrev pub reply_digest : List ℕ → DomainName → DomainName → TSIG → List ℕ → List ℕ
reply_digest mac key algorithm t message = prior_mac mac ++ message ++ variables key algorithm t

-- what each further message of a transfer is signed over: the MAC of the message before, the message, and the timers
-- (section 5.3.1)
abbrev pub next_digest : List ℕ → TSIG → List ℕ → List ℕ
next_digest mac t message = prior_mac mac ++ message ++ timers t
