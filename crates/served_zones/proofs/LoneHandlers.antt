-- What a catalog replies to a query from zones whose first handler always gives an answer, and whose others leave it.
use Rattle.std.proofs.Common.{◌≡◌, ◌⊎◌, ◌∙◌, inl, inr, ℕ, false, List, [], ◌∷◌, Option, Some, None, Result, Ok, Err, refl, sym, ap, ap₂, subst}
use Rattle.std.specs.Prelude.{◌==◌, Contains, slice_get}
use Rattle.std.specs.List.{AllByRecursion, remove}
use Rattle.std.specs.Option.{option_or}
use Rattle.std.proofs.lemmas.Bool.{false≢true}
use Rattle.wire_names.specs.rr.domain.DomainName.{DomainName}
use Rattle.wire_names.specs.rr.domain.NameOrder.{lower_name}
use Rattle.wire_messages.specs.Numbers.{code_refused, code_serv_fail, type_axfr}
use Rattle.wire_messages.specs.op.EdnsFields.{EdnsFields}
use Rattle.wire_messages.specs.serialize.writing.Reply.{Reply}
use Rattle.wire_messages.specs.declared.op.query.Query.{Query}
use Rattle.hickory_base.specs.requests.Questions.{one_query}
use Rattle.hickory_base.specs.requests.Requests.{ReceivedRequest, RequestInformation, information}
use Rattle.hickory_base.specs.zone_store.Lookups.{Flow, SignerContext, result_of}
use Rattle.hickory_base.specs.declared.errors.LookupError.{LookupError}
use Rattle.hickory_base.specs.declared.errors.LookupError.TheVariants.{Memory}
use Rattle.hickory_base.specs.declared.zone_store.handler.ZoneHandler.{Ghosts}
use Rattle.hickory_base.specs.declared.zone_store.lookup.AuthLookup.{AuthLookup}
use Rattle.hickory_base.specs.declared.zone_store.lookup.LookupControlFlow.TheVariants.{Break, Continue, Skip}
use Rattle.hickory_base.specs.declared.zone_store.lookup.LookupOptions.{LookupOptions}
use Rattle.hickory_catalog.specs.queries.Queries.{ChainReplies, HandlerReply, QueryReplies, ZoneReplies, ZoneReply, consult_options, is_out_of_memory}
use Rattle.hickory_catalog.specs.queries.Queries as queries
use Rattle.hickory_catalog.specs.queries.Transcripts.{Asked, ChainAnswers, Consulted, Follows, Given, all_consulted, answered, consulted, options_of, out_of_memory, skipped, wants_memory}
use Rattle.hickory_catalog.specs.replies.Replies.{Contents, error_contents, unsigned_reply}
use Rattle.hickory_catalog.specs.replies.Signing.{IsSigned, SignedReply, Signer, plain}
use Rattle.hickory_catalog.specs.requests.Server.{Server}
use Rattle.hickory_catalog.specs.zones.Find.{Finds, IsNearest}

abbrev pub Found : Type 0
Found = Result AuthLookup LookupError

-- what a handler gives that answers, with nothing for a signer
abbrev given_of : Found → Given
given_of result = (Continue result, None)

-- a reply without a context has no signature
unsigned_of : {signer : Signer} {failure unsigned reply : Reply} → IsSigned signer failure unsigned reply None → reply ≡ unsigned
unsigned_of (plain is) = is

-- memory was refused
abbrev pub WantsMemory : Flow → Type 0
WantsMemory flow = flow ≡ Break (Err Memory)

-- a handler that is consulted leaves the answer as it is, or memory is refused
abbrev pub Leaves : {H : Type 0} → Ghosts H → RequestInformation → LookupOptions → H → Type 0
Leaves handler info options h =
    (last answer : Flow) (fresh : SignerContext) → handler.consult_gives h (lower_name info.query.name) info.query.query_type (Some info) options last answer fresh
    → ((answer ≡ last) ⊎ WantsMemory answer) × (fresh ≡ None)

module _ {H : Type 0} (handler : Ghosts H) (info : RequestInformation) (options : LookupOptions) where
  memory_ends : (others : List H) (given final : Given) → WantsMemory given.0 → Consulted handler info options others given final → WantsMemory final.0
  memory_ends others given final memory all_consulted = memory
  memory_ends others given final memory (out_of_memory wants) = memory
  memory_ends others given final memory (consulted fine gave rest) = absurd (false≢true (sym fine ∙ ap wants_memory memory))

  after_one : (hs : List H) (given final : Given) (answer : Flow) (fresh : SignerContext) → ((answer ≡ given.0) ⊎ WantsMemory answer) × (fresh ≡ None)
      → Consulted handler info options hs (answer, option_or fresh given.1) final → (Consulted handler info options hs given final → (final ≡ given) ⊎ WantsMemory final.0) → (final ≡ given) ⊎ WantsMemory final.0
  after_one hs given final answer fresh (inl same, none) rest then =
      then (subst (λ (so_far : Given). Consulted handler info options hs so_far final)
      (ap₂ (λ (flow : Flow) (context : SignerContext). let both : Given = (flow, context) in both) same (ap (λ (context : SignerContext). option_or context given.1) none)) rest)
  after_one hs given final answer fresh (inr memory, none) rest then = inr (memory_ends hs (answer, option_or fresh given.1) final memory rest)

  left_by : (others : List H) → AllByRecursion (Leaves handler info options) others → (given final : Given) → Consulted handler info options others given final → (final ≡ given) ⊎ WantsMemory final.0
  left_by [] leave given final all_consulted = inl refl
  left_by [] leave given final (out_of_memory wants) = inl refl
  left_by (h ∷ hs) leave given final (out_of_memory wants) = inl refl
  left_by (h ∷ hs) leave given final (consulted {answer = answer} {fresh = fresh} fine gave rest) =
      after_one hs given final answer fresh (leave.0 given.0 answer fresh gave) rest (λ so. left_by hs leave.1 given final so)

-- a handler that answers this request, with a result that stands for what it means, before others
module _ {H : Type 0} (handler : Ghosts H) (h : H) (others : List H) (r : ReceivedRequest) (Stands : Found → Type 0)
    (gives : (options : LookupOptions) (flow : Flow) (context : SignerContext) → handler.search_gives h r options flow context → (result : Found) × Stands result × (flow ≡ Continue result) × (context ≡ None)) where
  asked_first : (options : LookupOptions) (place : ℕ) (given : Given) → Asked handler r options (h ∷ others) place given → (place ≡ 0) × (result : Found) × Stands result × (given ≡ given_of result)
  asked_first options place given (skipped {dropped = dropped} skips rest) =
      let g = gives options Skip dropped skips in
      let no : ◌≡◌ {A = Flow} Skip (Continue g.0) = g.2 in absurd cc
  asked_first options place given (answered is gave) =
      let g = gives options given.0 given.1 gave in
      (refl, g.0, g.1, ap₂ (λ (flow : Flow) (context : SignerContext). let both : Given = (flow, context) in both) g.2 g.3)

  chain_answers : (info : RequestInformation) (options : LookupOptions) (final : _) → AllByRecursion (Leaves handler info options) others → ChainAnswers handler r info options (h ∷ others) final
      → (final.place ≡ 0) × (result : Found) × Stands result × ((final.given ≡ given_of result) ⊎ WantsMemory final.given.0)
  chain_answers info options final leave answers =
      let a = asked_first (options_of r) final.place answers.given answers.asked in
      let first = subst (λ (place : ℕ). Follows handler info options (remove (h ∷ others) place) answers.given final.given) a.0 answers.followed in
      let then : Consulted handler info options others (given_of a.1) final.given = subst (λ (given : Given). Follows handler info options others given final.given) a.3 first in
      (a.0, a.1, a.2, left_by handler info options others leave (given_of a.1) final.given then)

some_result : (given : Given) (result : Found) → (given ≡ given_of result) ⊎ WantsMemory given.0 → result_of given.0 ≡ None → ⊥
some_result given result (inl is) none =
    let no : ◌≡◌ {A = Option Found} None (Some result) = sym none ∙ ap (λ (one : Given). result_of one.0) is in absurd cc
some_result given result (inr memory) none =
    let no : ◌≡◌ {A = Option Found} None (Some (Err Memory)) = sym none ∙ ap result_of memory in absurd cc

-- what was given, if memory was not refused
in_memory_given : (given : Given) (result last : Found) → (given ≡ given_of result) ⊎ WantsMemory given.0 → result_of given.0 ≡ Some last → is_out_of_memory last ≡ false → given ≡ given_of result
in_memory_given given result last (inl is) gave in_memory = is
in_memory_given given result last (inr memory) gave in_memory =
    let both : ◌≡◌ {A = Option Found} (Some (Err Memory)) (Some last) = sym (ap result_of memory) ∙ gave in
    let one : ◌≡◌ {A = Found} (Err Memory) last = cc in
    absurd (false≢true (sym in_memory ∙ ap is_out_of_memory (sym one)))

-- what is replied from the zone of this handler, if the others leave its answers
module _ {H : Type 0} (server : Server H) (h : H) (others : List H) (r : ReceivedRequest) (question : Query) (Stands : Found → Type 0) (Says : Contents → Type 0)
    (gives : (options : LookupOptions) (flow : Flow) (context : SignerContext) → server.handler.search_gives h r options flow context → (result : Found) × Stands result × (flow ≡ Continue result) × (context ≡ None))
    (made : (result : Found) (contents : Contents) → Stands result → is_out_of_memory result ≡ false
    → HandlerReply server.handler h (server.handler.zone_type_of h) (record { request = r; query = question }) result contents → Says contents) where
  pub replied_by_first : (edns : Option EdnsFields) (now : ℕ) (reply : Reply) → (question.query_type == type_axfr) ≡ false
      → AllByRecursion (Leaves server.handler (information r question) (consult_options edns)) others
      → ZoneReply server (h ∷ others) (record { request = r; query = question }) edns now reply → (contents : Contents) × Says contents × (reply ≡ unsigned_reply r.message edns contents)
  replied_by_first edns now reply no_transfer leave (queries.untransferred transfer _ _) = absurd (false≢true (sym no_transfer ∙ transfer))
  replied_by_first edns now reply no_transfer leave (queries.unanswered {final = final} _ answers none is) =
      let a = chain_answers server.handler h others r Stands gives (information r question) (consult_options edns) final leave answers in
      absurd (some_result final.given a.1 a.3 none)
  replied_by_first edns now reply no_transfer leave (queries.lookup {h = other} {final = final} {result = result} contents _ answers gave at in_memory handled by_context) =
      let a = chain_answers server.handler h others r Stands gives (information r question) (consult_options edns) final leave answers in
      let is = in_memory_given final.given a.1 result a.3 gave in_memory in
      let both : ◌≡◌ {A = Option Found} (Some a.1) (Some result) = sym (ap (λ (given : Given). result_of given.0) is) ∙ gave in
      let one : a.1 ≡ result = cc in
      let here : ◌≡◌ {A = Option H} (Some h) (Some other) = subst (λ (place : ℕ). slice_get (h ∷ others) place ≡ Some other) a.0 at in
      let same : other ≡ h = cc in
      let no_context : final.given.1 ≡ None = ap (λ (given : Given). given.1) is in (
        contents,
        made result contents (subst Stands one a.2) in_memory
            (subst (λ (k : H). HandlerReply server.handler k (server.handler.zone_type_of k) (record { request = r; query = question }) result contents) same handled),
        unsigned_of (subst (λ (context : SignerContext). SignedReply server.signer r.message edns contents context reply) no_context by_context),
      )

-- what is replied from a zone without handlers
pub replied_by_none : {H : Type 0} (server : Server H) (r : ReceivedRequest) (question : Query) (edns : Option EdnsFields) (now : ℕ) (reply : Reply) → (question.query_type == type_axfr) ≡ false
    → ZoneReply server [] (record { request = r; query = question }) edns now reply → reply ≡ unsigned_reply r.message edns (error_contents r.message.metadata code_serv_fail)
replied_by_none server r question edns now reply no_transfer (queries.untransferred transfer _ _) = absurd (false≢true (sym no_transfer ∙ transfer))
replied_by_none server r question edns now reply no_transfer (queries.unanswered _ answers none is) = is
replied_by_none {H} server r question edns now reply no_transfer (queries.lookup {h = h} contents _ answers gave at in_memory handled by_context) =
    let no : ◌≡◌ {A = Option H} None (Some h) = at in absurd cc

-- What the reply to a query says: REFUSED, if no zone answers for its name; or what the nearest zone replies.
pub data IsSaid {H : Type 0} (server : Server H) (r : ReceivedRequest) (question : Query) (Says : DomainName × List H → Contents → Type 0) (contents : Contents) : Type 0 where
  by_nobody : Finds server.zones (lower_name question.name) None → contents ≡ error_contents r.message.metadata code_refused → IsSaid server r question Says contents
  by_nearest : (zone : DomainName × List H) → IsNearest server.zones (lower_name question.name) zone → Says zone contents → IsSaid server r question Says contents

-- The replies are one that says this.
abbrev pub IsOne : {H : Type 0} → Server H → ReceivedRequest → Query → Option EdnsFields → (DomainName × List H → Contents → Type 0) → List Reply → Type 0
IsOne server r question edns Says replies = (contents : Contents) × IsSaid server r question Says contents × (replies ≡ unsigned_reply r.message edns contents ∷ [])

module _ {H : Type 0} (server : Server H) (r : ReceivedRequest) (question : Query) (edns : Option EdnsFields) (now : ℕ) (Says : DomainName × List H → Contents → Type 0)
    (one : one_query r.message.queries.queries ≡ Ok question) (no_transfer : (question.query_type == type_axfr) ≡ false)
    (by_zone : (zone : DomainName × List H) → Contains server.zones zone → (reply : Reply) → ZoneReply server zone.1 (record { request = r; query = question }) edns now reply
    → (contents : Contents) × Says zone contents × (reply ≡ unsigned_reply r.message edns contents)) where
  asked_is : (query : Query) → one_query r.message.queries.queries ≡ Ok query → query ≡ question
  asked_is query asks = let same : ◌≡◌ {A = Result Query LookupError} (Ok query) (Ok question) = sym asks ∙ one in cc

  pub from_zone : (zone : DomainName × List H) → Contains server.zones zone → (replies : List Reply) → ZoneReplies server zone.1 (record { request = r; query = question }) edns now replies
      → (contents : Contents) × Says zone contents × (replies ≡ unsigned_reply r.message edns contents ∷ [])
  from_zone zone among replies (queries.one {reply = reply} made is) =
      let s = by_zone zone among reply made in (s.0, s.1, is ∙ ap (λ (x : Reply). x ∷ []) s.2)
  from_zone zone among replies (queries.transfer transfer _ _) = absurd (false≢true (sym no_transfer ∙ transfer))

  pub chain_replied : (zone : DomainName × List H) → Contains server.zones zone → (replies : List Reply) → ChainReplies server zone.1 r edns now replies
      → (contents : Contents) × Says zone contents × (replies ≡ unsigned_reply r.message edns contents ∷ [])
  chain_replied zone among replies (queries.other_count {e = e} bad _) = let no : ◌≡◌ {A = Result Query LookupError} (Ok question) (Err e) = sym one ∙ bad in absurd cc
  chain_replied zone among replies (queries.asked {query = query} asks made) =
      from_zone zone among replies (subst (λ (q : Query). ZoneReplies server zone.1 (record { request = r; query = q }) edns now replies) (asked_is query asks) made)

  pub query_replied : (replies : List Reply) → QueryReplies server r edns now replies → IsOne server r question edns Says replies
  query_replied replies (queries.other_count {e = e} bad _) = let no : ◌≡◌ {A = Result Query LookupError} (Ok question) (Err e) = sym one ∙ bad in absurd cc
  query_replied replies (queries.no_zone {query = query} asks none is) =
      (error_contents r.message.metadata code_refused, by_nobody (subst (λ (q : Query). Finds server.zones (lower_name q.name) None) (asked_is query asks) none) refl, is)
  query_replied replies (queries.zone {query = query} {chain = chain} asks found made) =
      let same = asked_is query asks in
      let nearest = subst (λ (q : Query). IsNearest server.zones (lower_name q.name) (found.0, chain)) same found.1 in
      let s = from_zone (found.0, chain) nearest.among replies (subst (λ (q : Query). ZoneReplies server chain (record { request = r; query = q }) edns now replies) same made) in
      (s.0, by_nearest (found.0, chain) nearest s.1, s.2)
