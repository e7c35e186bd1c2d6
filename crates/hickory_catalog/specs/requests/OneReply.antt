-- Where each call of a handler has one answer, a query has one list of replies.
use Rattle.std.specs.Prelude.{◌≡◌, ℕ, Bool, false, List, Option, Some, None}
use Rattle.wire_names.specs.rr.domain.DomainName.{DomainName}
use Rattle.wire_messages.specs.op.EdnsFields.{EdnsFields}
use Rattle.wire_messages.specs.serialize.writing.Reply.{Reply}
use Rattle.wire_messages.specs.declared.rr.record.Record.{Record}
use Rattle.wire_messages.specs.declared.rr.tsig.TSIG.{TSIG}
use Rattle.wire_messages.specs.declared.rr.tsig.TSigResponseContext.{TSigResponseContext}
use Rattle.hickory_base.specs.zone_store.Denials.{Nsec3Question}
use Rattle.hickory_base.specs.zone_store.Lookups.{Flow}
use Rattle.hickory_base.specs.requests.Requests.{ReceivedRequest, RequestInformation}
use Rattle.hickory_base.specs.declared.zone_store.handler.ZoneHandler.{Ghosts}
use Rattle.hickory_base.specs.declared.zone_store.lookup.LookupOptions.{LookupOptions}
use Rattle.hickory_catalog.specs.queries.Queries.{QueryReplies, is_out_of_memory}
use Rattle.hickory_catalog.specs.requests.Server.{server_of}
use Rattle.hickory_catalog.specs.replies.Signing.{IsSignatureOf, Signer}
use Rattle.hickory_catalog.specs.queries.Transcripts.{Given, wants_memory}
use Rattle.hickory_catalog.specs.transfers.Transfers.{TransferGiven}
use Rattle.hickory_catalog.specs.zones.Zones.{AreInOrder}
use Rattle.hickory_catalog.specs.declared.catalog.Catalog.{Catalog}

-- One answer at most is given, but for those that tell of no memory.
abbrev pub GivesOne : {X : Type 0} → (X → Bool) → (X → Type 0) → Type 0
GivesOne {X} wants gives = (one other : X) → wants one ≡ false → wants other ≡ false → gives one → gives other → one ≡ other

abbrev pub given_wants_memory : Given → Bool
given_wants_memory given = wants_memory given.0

abbrev pub transfer_wants_memory : TransferGiven → Bool
transfer_wants_memory None = false
transfer_wants_memory (Some given) = is_out_of_memory given.0

-- Each call of a handler has one answer, want of memory aside.
pub record AnswersOnce {H : Type 0} (handler : Ghosts H) : Type 0 where
  pub lookup : (h : H) (name : DomainName) (record_type : ℕ) (info : Option RequestInformation) (options : LookupOptions) → GivesOne wants_memory (handler.lookup_gives h name record_type info options)
  pub search : (h : H) (request : ReceivedRequest) (options : LookupOptions) → GivesOne given_wants_memory (λ given. handler.search_gives h request options given.0 given.1)
  pub consult : (h : H) (name : DomainName) (record_type : ℕ) (info : Option RequestInformation) (options : LookupOptions) (last : Flow)
      → GivesOne given_wants_memory (λ given. handler.consult_gives h name record_type info options last given.0 given.1)
  pub transfer : (h : H) (request : ReceivedRequest) (options : LookupOptions) (now : ℕ) → GivesOne transfer_wants_memory (handler.transfer_gives h request options now)
  pub nsec : (h : H) (name : DomainName) (options : LookupOptions) → GivesOne wants_memory (handler.nsec_gives h name options)
  pub nsec3 : (h : H) (question : Nsec3Question) (options : LookupOptions) → GivesOne wants_memory (handler.nsec3_gives h question options)

-- A signer gives one answer for a reply, in whatever bytes it is written.
abbrev pub SignsOnce : Signer → Type 0
SignsOnce signer = (context : TSigResponseContext) (unsigned : Reply) (one other : Option (Record TSIG)) → IsSignatureOf signer context unsigned one → IsSignatureOf signer context unsigned other → one ≡ other

-- A query has one list of replies at most.
abbrev pub OneReply : {S H : Type 0} → Ghosts H → (S → Signer) → Type 0
OneReply {S} {H} handler signature_for = (catalog : Catalog S H) → AnswersOnce handler → SignsOnce (signature_for catalog.signer) → AreInOrder catalog.zones
    → (request : ReceivedRequest) (edns : Option EdnsFields) (now : ℕ) (one other : List Reply)
    → QueryReplies (server_of handler signature_for catalog) request edns now one → QueryReplies (server_of handler signature_for catalog) request edns now other → one ≡ other
