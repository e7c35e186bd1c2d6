-- What the handlers of a zone answered in one call, each answer one that its handler may give.
use Rattle.std.specs.Prelude.{◌≡◌, ℕ, zero, suc, Bool, true, false, List, [], ◌∷◌, Some, None, Err}
use Rattle.std.specs.List.{remove}
use Rattle.std.specs.Option.{option_or}
use Rattle.wire_names.specs.rr.domain.NameOrder.{lower_name}
use Rattle.hickory_base.specs.zone_store.Lookups.{Flow, SignerContext, asks_for_dnssec}
use Rattle.hickory_base.specs.requests.Requests.{ReceivedRequest, RequestInformation}
use Rattle.hickory_base.specs.declared.errors.LookupError.{LookupError}
use Rattle.hickory_base.specs.declared.errors.LookupError.TheVariants.{Memory}
use Rattle.hickory_base.specs.declared.zone_store.handler.ZoneHandler.{Ghosts}
use Rattle.hickory_base.specs.declared.zone_store.lookup.LookupControlFlow.TheVariants.{Continue, Break, Skip}
use Rattle.hickory_base.specs.declared.zone_store.lookup.LookupOptions.{LookupOptions}
use Rattle.hickory_catalog.specs.declared.chains.ChainAnswer.{ChainAnswer}

abbrev pub is_memory : LookupError → Bool
is_memory Memory = true
is_memory other = false

-- The answer says that memory was refused. It ends a call, and nothing else is asked of any handler.
abbrev pub wants_memory : Flow → Bool
wants_memory (Continue (Err e)) = is_memory e
wants_memory (Break (Err e)) = is_memory e
wants_memory other = false

-- what a handler is told to take care of in a search, a lookup or a denial: what the request asks for
abbrev pub options_of : ReceivedRequest → LookupOptions
options_of request = record { dnssec_ok = asks_for_dnssec request.message.edns }

-- an answer, and no `Skip`
abbrev pub IsAnswer : Flow → Type 0
IsAnswer (Continue result) = Unit {0}
IsAnswer (Break result) = Unit {0}
IsAnswer Skip = ⊥

-- what a handler gives: its answer, and what a signer of the reply has to know
abbrev pub Given : Type 0
Given = Flow × SignerContext

-- The handlers of a chain are asked from left to right. After a `Skip` the next one is asked, and a context that came
-- with the `Skip` is dropped. Any other answer ends the asking, want of memory too. The number is the place of the
-- handler that answered, or how many there are where all skip.
pub data Asked {H : Type 0} (handler : Ghosts H) (request : ReceivedRequest) (options : LookupOptions) : List H → ℕ → Given → Type 0 where
  nobody : Asked handler request options [] zero (Skip, None)
  skipped : {h : H} {hs : List H} {place : ℕ} {dropped : SignerContext} {given : Given}
      → handler.search_gives h request options Skip dropped
      → Asked handler request options hs place given
      → Asked handler request options (h ∷ hs) (suc place) given
  answered : {h : H} {hs : List H} {given : Given}
      → IsAnswer given.0
      → handler.search_gives h request options given.0 given.1
      → Asked handler request options (h ∷ hs) zero given

-- Handlers are consulted from left to right, each about the answer so far, with the name and the type asked for and
-- with what may be known of the request. What it gives is the answer from there on; a context that it gives takes the
-- place of the one before.
pub data Consulted {H : Type 0} (handler : Ghosts H) (info : RequestInformation) (options : LookupOptions) : List H → Given → Given → Type 0 where
  all_consulted : {given : Given} → Consulted handler info options [] given given
  out_of_memory : {hs : List H} {given : Given} → wants_memory given.0 ≡ true → Consulted handler info options hs given given
  consulted : {h : H} {hs : List H} {last final : Given} {answer : Flow} {fresh : SignerContext}
      → wants_memory last.0 ≡ false
      → handler.consult_gives h (lower_name info.query.name) info.query.query_type (Some info) options last.0 answer fresh
      → Consulted handler info options hs (answer, option_or fresh last.1) final
      → Consulted handler info options (h ∷ hs) last final

-- What follows the answer of one handler: after a `Continue` the others are consulted, any other answer stands.
abbrev pub Follows : {H : Type 0} → Ghosts H → RequestInformation → LookupOptions → List H → Given → Given → Type 0
Follows handler info options others (Continue result, context) final = Consulted handler info options others (Continue result, context) final
Follows handler info options others (Break result, context) final = (final.0 ≡ Break result) × (final.1 ≡ context)
Follows handler info options others (Skip, context) final = (final.0 ≡ Skip) × (final.1 ≡ None)

-- What a chain of handlers answers to a request: they are asked from left to right until one, at the place of the
-- answer, answers; after its `Continue` each other one is consulted, with the options of consults.
pub record ChainAnswers {H : Type 0} (handler : Ghosts H) (request : ReceivedRequest) (info : RequestInformation) (consult_options : LookupOptions)
    (chain : List H) (final : ChainAnswer) : Type 0 where
  pub given : Given
  pub asked : Asked handler request (options_of request) chain final.place given
  pub followed : Follows handler info consult_options (remove chain final.place) given final.given
