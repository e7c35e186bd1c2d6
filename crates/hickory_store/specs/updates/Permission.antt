-- Who may update a zone or have a transfer of it, by a transaction signature (RFC 2136 section 3.3, RFC 8945 section
-- 5.2).
use Rattle.std.specs.Prelude.{◌≡◌, ◌&&◌, ℕ, Bool, cond, nat_le, nat_lt, List, Option, Some, None, Result, Ok, Err}
use Rattle.std.specs.declared.ops.Range.{Range}
use Rattle.wire_messages.specs.Numbers.{code_not_auth, code_refused}
use Rattle.wire_messages.specs.declared.rr.record.Record.{Record}
use Rattle.wire_messages.specs.declared.rr.tsig.TSIG.{TSIG}
use Rattle.wire_messages.specs.declared.rr.tsig.TSigResponseKind.{TSigResponseKind}
use Rattle.wire_messages.specs.declared.rr.tsig.TSigResponseKind.TheVariants.{UnknownKey, BadSignature, Known}
use Rattle.wire_messages.specs.declared.rr.tsig.TsigError.TheVariants.{BadTime}
use Rattle.hickory_base.specs.requests.Requests.{ReceivedRequest}
use Rattle.hickory_base.specs.declared.errors.UpdateFault.{UpdateFault}
use Rattle.hickory_base.specs.declared.errors.UpdateFault.TheVariants.{Code, Memory}
use Rattle.hickory_base.specs.declared.zone_store.handler.AxfrPolicy.{AxfrPolicy}
use Rattle.hickory_base.specs.declared.zone_store.handler.AxfrPolicy.TheVariants.{Deny, AllowAll, AllowSigned}
use Rattle.hickory_base.specs.zone_store.Lookups.{SignerContext}
use Rattle.hickory_store.specs.declared.updates.verifier.Verifier.{Ghosts}

-- whether a request may do what it asks for: the response code where it may not, and what the signer of the reply has
-- to know
pub record Permission : Type 0 where
  pub refusal : Option ℕ
  pub context : SignerContext

abbrev pub allowed : Permission
allowed = record { refusal = None; context = None }

abbrev pub refused : Permission
refused = record { refusal = Some code_refused; context = None }

-- The moment lies in the range, from its start on and before its end.
abbrev pub is_within : Range ℕ → ℕ → Bool
is_within range now = nat_le range.start now && nat_lt now range.end

-- How a signature that fits is judged: its time is checked after its key and MAC (RFC 8945 sections 5.2.1 to 5.2.3).
abbrev pub timed_kind : List ℕ → Range ℕ → ℕ → TSigResponseKind
timed_kind mac times now = Known mac (cond (is_within times now) None (Some BadTime))

-- whether it fits the bytes of the request, at some times, or is bad (RFC 8945 section 5.2.2)
abbrev pub verified_kind : List ℕ → Option (Range ℕ) → ℕ → TSigResponseKind
verified_kind mac None now = BadSignature
verified_kind mac (Some times) now = timed_kind mac times now

-- The key is checked first (RFC 8945 section 5.2.1). The verifier is asked for the name of the signature record and the
-- bytes of the request.
abbrev pub signature_kind : {V : Type 0} → Ghosts V → V → ReceivedRequest → ℕ → Record TSIG → TSigResponseKind
signature_kind by verifier request now signature =
    cond (by.knows_key verifier signature.name) (verified_kind signature.rdata.mac (by.validity verifier signature.name request.bytes) now) UnknownKey

-- a signature that is good now; any other is refused
abbrev pub kind_refusal : TSigResponseKind → Option ℕ
kind_refusal (Known mac None) = None
kind_refusal other = Some code_not_auth

-- what the signer of the reply has to know (RFC 8945 section 5.3): the request's id, the moment, the name of the key,
-- and how the signature was judged
abbrev pub judged : ReceivedRequest → ℕ → Record TSIG → TSigResponseKind → Permission
judged request now signature kind = record {
  refusal = kind_refusal kind;
  context = Some (record { request_id = request.message.metadata.id; now = now; key_name = signature.name; kind = kind });
}

-- by the signature of the request, if it has one
abbrev pub signature_permission : {V : Type 0} → Ghosts V → V → ReceivedRequest → ℕ → Option (Record TSIG) → Permission
signature_permission by verifier request now None = refused
signature_permission by verifier request now (Some signature) = judged request now signature (signature_kind by verifier request now signature)

abbrev pub signed_permission : {V : Type 0} → Ghosts V → V → ReceivedRequest → ℕ → Permission
signed_permission by verifier request now = signature_permission by verifier request now request.message.signature

-- an update: not where the zone takes none
abbrev pub update_permission : {V : Type 0} → Ghosts V → V → Bool → ReceivedRequest → ℕ → Permission
update_permission by verifier allows request now = cond allows (signed_permission by verifier request now) refused

-- a transfer, by the policy of the zone
abbrev pub transfer_permission : {V : Type 0} → Ghosts V → V → AxfrPolicy → ReceivedRequest → ℕ → Permission
transfer_permission by verifier Deny request now = refused
transfer_permission by verifier AllowAll request now = allowed
transfer_permission by verifier AllowSigned request now = signed_permission by verifier request now

-- The answer is what is permitted; or memory was refused, and no context comes with that.
abbrev pub TellsPermission : Permission → Result (Unit {0}) UpdateFault → SignerContext → Type 0
TellsPermission permission (Ok done) context = permission ≡ record { refusal = None; context = context }
TellsPermission permission (Err (Code code)) context = permission ≡ record { refusal = Some code; context = context }
TellsPermission permission (Err Memory) context = context ≡ None
