-- What the verifier and the signer of a script say, by the name of a key.
use Rattle.std.specs.Prelude.{ℕ, Bool, true, false, List, [], ◌∷◌, Option, Some, None}
use Rattle.std.specs.declared.ops.Range.{Range}
use Rattle.wire_messages.specs.declared.rr.record.Proof.TheVariants.{Indeterminate}
use Rattle.wire_messages.specs.declared.rr.record.Record.{Record}
use Rattle.wire_messages.specs.declared.rr.tsig.TSIG.{TSIG}
use Rattle.wire_messages.specs.declared.rr.tsig.TSigResponseContext.{TSigResponseContext}
use Rattle.wire_messages.specs.declared.rr.tsig.TSigResponseKind.{TSigResponseKind}
use Rattle.wire_messages.specs.declared.rr.tsig.TSigResponseKind.TheVariants.{UnknownKey, BadSignature, Known}

-- when a signature is good, unless it is bad
abbrev pub times_unless : Bool → Option (Range ℕ)
times_unless true = None
times_unless false = Some (record { start = 100; end = 200 })

-- the error that a reply has about the request's signature: BADKEY, BADSIG, BADTIME or none (RFC 8945 section 3)
abbrev pub error_of : TSigResponseKind → ℕ
error_of UnknownKey = 17
error_of BadSignature = 16
error_of (Known mac None) = 0
error_of (Known mac (Some error)) = 18

-- the TSIG record of a reply with this MAC (RFC 8945 section 4.2); its algorithm is named by the root
abbrev pub signature_of : TSigResponseContext → List ℕ → Record TSIG
signature_of context mac = record {
  name = context.key_name;
  dns_class = 255;
  ttl = 0;
  rdata = record { algorithm = record { labels = []; is_fqdn = true }; time = context.now; fudge = 300; mac = mac; oid = context.request_id; error = error_of context.kind; other = [] };
  proof = Indeterminate;
}

-- the MAC of bytes, which may be these bytes
abbrev pub mac_of : Bool → List ℕ → List ℕ
mac_of true bytes = bytes
mac_of false bytes = 1 ∷ 2 ∷ 3 ∷ 4 ∷ []

-- what the signer gives, unless it fails
abbrev pub signature_unless : Bool → Record TSIG → Option (Record TSIG)
signature_unless true signature = None
signature_unless false signature = Some signature
