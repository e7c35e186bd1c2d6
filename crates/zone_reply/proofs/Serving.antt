-- What becomes of one message that comes alone, where each address may use the server.
use Rattle.std.proofs.Common.{◌≡◌, ◌⊎◌, inl, inr, ℕ, List, [], ◌∷◌, ◌++◌, None, Result, Ok, Err, IfOk, IfErr, Contains, refl, sym, ap, subst, ◌∙◌}
use Rattle.std.specs.Global.{Vec}
use Rattle.std.specs.Net.Socket.{socket_ip}
use Rattle.std.specs.declared.net.ip_addr.IpAddr.{IpAddr}
use Rattle.std.proofs.lemmas.List.Elements.{Contains-get_or}
use Rattle.wire_names.specs.rr.domain.DomainName.{DomainName}
use Rattle.wire_names.specs.declared.error.ProtoError.{ProtoError}
use Rattle.wire_messages.specs.declared.protocol.Protocol.{Protocol}
use Rattle.server_limits.specs.Access.{AccessSets, IsAllowed, IsLongestMatch, Network, address_of, canonical}
use Rattle.hickory_base.specs.requests.RequestReading.{IsFaultOf}
use Rattle.hickory_catalog.specs.requests.Server.{Server}
use Rattle.hickory_server.specs.server.Serving.{LeavesUnserved, Run, RunFailed, Step, denied, handled, next, none, unreadable}
use Rattle.hickory_server.specs.declared.server.serve.Incoming.{Incoming}
use Rattle.hickory_server.specs.declared.server.serve.Outcome.{Outcome}
use Rattle.hickory_server.specs.declared.server.serve.Outcome.TheVariants.{Replies}
use Rattle.hickory_server.specs.declared.server.serve.ServeError.{ServeError}
use Rattle.hickory_server.specs.declared.server.serve.ServeError.TheVariants as serve_error
use Rattle.wire_names.specs.HexLines.{hex_lines}
use Rattle.zone_reply.specs.Answers.{Becomes, Fails, IsIncoming, IsOpen, IsRefusedMessage}
use Rattle.zone_reply.specs.declared.command.Refusal.{Refusal}
use Rattle.zone_reply.specs.declared.command.Refusal.TheVariants.{Memory, Unreadable}

-- An address is in no network of a set that has none.
no_match : (set : List Network) → ((network : Network) → ¬ (Contains set network)) → (ip : IpAddr) → IsLongestMatch set (canonical (address_of ip)) None
no_match set empty ip k d within = absurd (empty _ (Contains-get_or set k d within))

-- With no network denied and none allowed, each address may use the server.
pub is_allowed : (access : AccessSets) → IsOpen access → (ip : IpAddr) → IsAllowed access.deny access.allow ip
is_allowed access empty ip = record {
  denied = None;
  allowed = None;
  longest_denied = no_match access.deny empty.deny ip;
  longest_allowed = no_match access.allow empty.allow ip;
  permits = inr (λ found. empty.allow found.1 (found.0, found.2, found.3));
}

module _ {H : Type 0} (access : AccessSets) (server : Server H) where
  -- A run over one message is one step.
  pub one_step : (message : Incoming) (outcomes : List Outcome) (zones : List (DomainName × List H)) → Run access server server.zones (message ∷ []) outcomes zones
      → (outcome : Outcome) × (outcomes ≡ outcome ∷ []) × Step access server message outcome zones
  one_step message _ zones (next {outcome = outcome} step none) = (outcome, refl, step)

  -- Where memory is refused in a run over one message, it is refused for that message, and no other was served before.
  one_failure : (message : Incoming) (outcomes : List Outcome) (e : ServeError) (zones : List (DomainName × List H)) → RunFailed access server (message ∷ []) outcomes e zones
      → LeavesUnserved access server message e zones ⊎ ((e ≡ serve_error.Memory) × (zones ≡ server.zones))
  one_failure message outcomes e zones failed = by_front failed.front failed.message failed.behind failed.between outcomes failed.messages_are failed.run failed.left where
    by_front : (front : List Incoming) (m : Incoming) (behind : List Incoming) (between : List (DomainName × List H)) (os : List Outcome) → message ∷ [] ≡ front ++ m ∷ behind
        → Run access server server.zones front os between
        → LeavesUnserved access (record server { zones = between }) m e zones ⊎ ((e ≡ serve_error.Memory) × (zones ≡ between))
        → LeavesUnserved access server message e zones ⊎ ((e ≡ serve_error.Memory) × (zones ≡ server.zones))
    by_front [] m behind _ _ is none left =
        let items : message ∷ [] ≡ m ∷ behind = is in
        let same : m ≡ message = cc in
        subst (λ (x : Incoming). LeavesUnserved access server x e zones ⊎ ((e ≡ serve_error.Memory) × (zones ≡ server.zones))) same left
    by_front (first ∷ []) m behind _ _ is run left =
        let items : message ∷ [] ≡ first ∷ m ∷ behind = is in
        absurd cc
    by_front (first ∷ second ∷ rest) m behind _ _ is run left =
        let items : message ∷ [] ≡ first ∷ second ∷ (rest ++ m ∷ behind) = is in
        absurd cc

  pub fails : (protocol : Protocol) (bytes : List ℕ) (message : Incoming) → IsIncoming protocol bytes message → IsOpen access → (outcomes : List Outcome) (e : ServeError) (zones : List (DomainName × List H))
      → RunFailed access server (message ∷ []) outcomes e zones → Fails server protocol bytes zones
  fails protocol bytes message is_incoming is_open outcomes e zones failed = record {
    message = message;
    is_incoming = is_incoming;
    access = access;
    is_open = is_open;
    e = e;
    left = one_failure message outcomes e zones failed;
  }

module _ {H : Type 0} (server : Server H) (protocol : Protocol) (bytes : List ℕ) (outcome : Outcome) (zones : List (DomainName × List H)) (becomes : Becomes server protocol bytes outcome zones) where
  -- A message that has no replies is unreadable: its bytes have a first fault.
  fault_of : ((encoded : List (List ℕ)) → ¬ (outcome ≡ Replies encoded)) → (e : ProtoError) × IsFaultOf bytes e
  fault_of no_replies = by_step becomes.step where
    by_step : Step becomes.access server becomes.message outcome zones → (e : ProtoError) × IsFaultOf bytes e
    by_step (denied refuses _ _) = absurd (refuses (is_allowed becomes.access becomes.is_open (socket_ip becomes.message.src)))
    by_step (unreadable {e = e} _ fault _ _) = (e, subst (λ (bs : List ℕ). IsFaultOf bs e) becomes.is_incoming.bytes_are fault)
    by_step (handled {encoded = encoded} _ _ _ _ is) = absurd (no_replies encoded is)

  module _ (outcomes : List Outcome) (is_one : outcomes ≡ outcome ∷ []) where
    -- Lines that are those of replies are those of the replies that become of the message.
    pub lines_of : (result : Result (Vec ℕ) Refusal) → IfOk result (λ lines. (encoded : List (List ℕ)) × (outcomes ≡ Replies encoded ∷ []) × (lines.items ≡ hex_lines encoded))
        → IfOk result (λ lines. (encoded : List (List ℕ)) × Becomes server protocol bytes (Replies encoded) zones × (lines.items ≡ hex_lines encoded))
    lines_of (Err e) h = h
    lines_of (Ok lines) (encoded, is, lines_are) =
        let items : outcome ∷ [] ≡ Replies encoded ∷ [] = sym is_one ∙ is in
        let same : outcome ≡ Replies encoded = cc in
        (encoded, subst (λ (o : Outcome). Becomes server protocol bytes o zones) same becomes, lines_are)

    -- Where there are none, memory was refused, or the message is unreadable.
    pub refusal_of : (result : Result (Vec ℕ) Refusal) → IfErr result (λ e. (e ≡ Memory) ⊎ ((e ≡ Unreadable) × ((encoded : List (List ℕ)) → ¬ (outcomes ≡ Replies encoded ∷ []))))
        → IfErr result (λ e. IsRefusedMessage bytes e)
    refusal_of (Ok lines) h = h
    refusal_of (Err e) (inl is) = subst (λ (r : Refusal). IsRefusedMessage bytes r) (sym is) tt
    refusal_of (Err e) (inr (is, no_replies)) =
        subst (λ (r : Refusal). IsRefusedMessage bytes r) (sym is) (fault_of (λ encoded same. no_replies encoded (is_one ∙ ap (λ (o : Outcome). o ∷ []) same)))
