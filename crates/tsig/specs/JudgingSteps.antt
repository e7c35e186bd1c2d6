-- The judgement of a message as a function, step by step.
use Rattle.std.specs.Prelude.{ℕ, List, length, nat_lt, Option, Some, None, Result, Ok, Err, if◌then◌else◌}
use Rattle.wire_names.specs.declared.error.DecodeError.{DecodeError}
use Rattle.wire_messages.specs.declared.rr.tsig.TSIG.{TSIG}
use Rattle.wire_reading.specs.serialize.reading.MessageReading.{front_of}
use Rattle.tsig.specs.Judging.{has_fixed_fields, is_in_time, is_mac_len, is_mac_of, is_named, signed_text}
use Rattle.tsig.specs.Keys.{key_of}
use Rattle.tsig.specs.Reading.{signature_of}
use Rattle.tsig.specs.declared.judgement.Judgement.{Judgement}
use Rattle.tsig.specs.declared.judgement.Judgement.TheVariants.{Unsigned, FormErr, Signed}
use Rattle.tsig.specs.declared.judgement.Verdict.{Verdict}
use Rattle.tsig.specs.declared.judgement.Verdict.TheVariants.{Good, BadKey, BadSig, BadTime, BadTrunc}
use Rattle.tsig.specs.declared.keys.Key.{Key}
use Rattle.tsig.specs.declared.reading.PlacedSignature.{PlacedSignature}

-- time, and what local policy demands, of a MAC that is right
abbrev pub timed_verdict : Key → TSIG → ℕ → Verdict
timed_verdict key t now = if is_in_time t now then (if nat_lt (length t.mac) key.shortest then BadTrunc else Good) else BadTime

-- of a MAC that has a length
abbrev pub verdict_of : Key → List ℕ → TSIG → ℕ → Verdict
verdict_of key text t now = if is_mac_of key text t.mac then timed_verdict key t now else BadSig

-- by a key of this algorithm
abbrev pub judged_with : Key → List ℕ → ℕ → PlacedSignature → Judgement
judged_with key bytes now p =
    if is_mac_len key.algorithm (length p.signature.rdata.mac)
    then Signed p.signature (verdict_of key (signed_text key bytes p.additionals p.place p.signature) p.signature.rdata now)
    else FormErr

-- by the key of its name, if there is one
abbrev pub judged_by : Option Key → List ℕ → ℕ → PlacedSignature → Judgement
judged_by None bytes now p = Signed p.signature BadKey
judged_by (Some key) bytes now p = if is_named key.algorithm p.signature.rdata.algorithm then judged_with key bytes now p else Signed p.signature BadKey

-- by the TSIG record
abbrev pub judged_of : List Key → List ℕ → ℕ → PlacedSignature → Judgement
judged_of keys bytes now p = if has_fixed_fields p.signature then judged_by (key_of keys p.signature.name) bytes now p else FormErr

abbrev pub judged_found : List Key → List ℕ → ℕ → Result (Option PlacedSignature) DecodeError → Judgement
judged_found keys bytes now (Ok None) = Unsigned
judged_found keys bytes now (Ok (Some p)) = judged_of keys bytes now p
judged_found keys bytes now (Err e) = FormErr

unfoldable pub judgement_of : List Key → List ℕ → ℕ → Judgement
judgement_of keys bytes now = judged_found keys bytes now (signature_of (front_of bytes))
