-- What a chain of one handler answers.
use Rattle.std.proofs.Common.{◌≡◌, ◌<◌, ◌≤◌, ◌^◌, ◌-◌, ◌∙◌, ℕ, false, List, [], ◌∷◌, length, take, drop, get_or, Option, None, refl, sym, ap, arith}
use Rattle.std.proofs.lemmas.List.{take_all}
use Rattle.std.specs.Prelude.{◌==◌}
use Rattle.std.specs.Option.{IsSome}
use Rattle.wire_messages.specs.Numbers.{type_axfr}
use Rattle.wire_messages.specs.op.EdnsFields.{EdnsFields}
use Rattle.wire_messages.specs.declared.op.query.Query.{Query}
use Rattle.wire_messages.specs.declared.rr.tsig.TSigResponseContext.{TSigResponseContext}
use Rattle.hickory_base.specs.zone_store.Lookups.{Flow, result_of, whole_answer}
use Rattle.hickory_base.specs.requests.Requests.{ReceivedRequest, RequestInformation, information}
use Rattle.hickory_base.specs.declared.zone_store.handler.ZoneHandler.{Ghosts}
use Rattle.hickory_base.specs.declared.zone_store.lookup.LookupControlFlow.TheVariants.{Continue, Break, Skip}
use Rattle.hickory_base.specs.declared.zone_store.lookup.LookupOptions.{LookupOptions}
use Rattle.hickory_base.specs.declared.zone_store.lookup.WholeReply.{WholeReply}
use Rattle.hickory_catalog.specs.queries.Queries.{ZoneReply, consult_options, lookup, whole_contents}
use Rattle.hickory_catalog.specs.replies.Replies.{unsigned_reply}
use Rattle.hickory_catalog.specs.requests.Server.{Server}
use Rattle.hickory_catalog.specs.replies.Signing.{plain}
use Rattle.hickory_catalog.specs.declared.chains.ChainAnswer.{ChainAnswer}
use Rattle.hickory_catalog.specs.queries.Transcripts.{ChainAnswers, Consulted, Given, all_consulted, answered, nobody, options_of, skipped, wants_memory}

-- a list of one is known by its first
pub only_one : {X : Type 0} (xs : List X) (x : X) → 1 ≤ length xs → length xs < 2 → x ≡ get_or xs 0 x → xs ≡ x ∷ []
only_one [] x least below is = absurd (omega (arith, least))
only_one (y ∷ []) x least below is = ap (λ z. z ∷ []) (sym is)
only_one (y ∷ z ∷ zs) x least below is = absurd (omega (arith, below))

module _ {H : Type 0} (handler : Ghosts H) (request : ReceivedRequest) (info : RequestInformation) (options : LookupOptions) (h : H) where
  -- it skips
  pub skips_alone : (answer : Flow) (context : Option TSigResponseContext) → handler.search_gives h request (options_of request) answer context → result_of answer ≡ None
      → ChainAnswers handler request info options (h ∷ []) (record { place = 1; given = (answer, None) })
  skips_alone (Continue _) context gave none = absurd cc
  skips_alone (Break _) context gave none = absurd cc
  skips_alone Skip context gave none = record { given = (Skip, None); asked = skipped gave nobody; followed = (refl, refl) }

  -- it answers
  pub answers_alone : (answer : Flow) (context : Option TSigResponseContext) → handler.search_gives h request (options_of request) answer context → IsSome (result_of answer)
      → ChainAnswers handler request info options (h ∷ []) (record { place = 0; given = (answer, context) })
  answers_alone (Continue result) context gave is = record { given = (Continue result, context); asked = answered tt gave; followed = all_consulted }
  answers_alone (Break result) context gave is = record { given = (Break result, context); asked = answered tt gave; followed = (refl, refl) }
  answers_alone Skip context gave is = absurd cc

-- a reply that the first handler has whole, that the others leave, and that nobody signs
pub whole_left : {H : Type 0} (server : Server H) (request : ReceivedRequest) (edns : Option EdnsFields) (now : ℕ) (query : Query) (h : H) (others : List H) (reply : WholeReply) → (query.query_type == type_axfr) ≡ false
    → server.handler.search_gives h request (options_of request) (whole_answer reply) None → reply.response_code < 2 ^ 12
    → ((given : Given) → wants_memory given.0 ≡ false → Consulted server.handler (information request query) (consult_options edns) others given given)
    → ZoneReply server (h ∷ others) (record { request = request; query = query }) edns now (unsigned_reply request.message edns (whole_contents request.message.metadata reply))
whole_left server request edns now query h others reply asked gave in_range left =
    lookup (whole_contents request.message.metadata reply) asked
    (let final : ChainAnswer = record { place = 0; given = (whole_answer reply, None) } in
    let answers : ChainAnswers server.handler request (information request query) (consult_options edns) (h ∷ others) final = record { given = (whole_answer reply, None); asked = answered tt gave; followed = left (whole_answer reply, None) refl } in
    answers)
    refl refl refl (refl, in_range) (plain refl)

-- a reply that it has whole, and that nobody signs
pub whole_alone : {H : Type 0} (server : Server H) (request : ReceivedRequest) (edns : Option EdnsFields) (now : ℕ) (query : Query) (h : H) (reply : WholeReply) → (query.query_type == type_axfr) ≡ false
    → server.handler.search_gives h request (options_of request) (whole_answer reply) None → reply.response_code < 2 ^ 12
    → ZoneReply server (h ∷ []) (record { request = request; query = query }) edns now (unsigned_reply request.message edns (whole_contents request.message.metadata reply))
whole_alone server request edns now query h reply asked gave in_range =
    whole_left server request edns now query h [] reply asked gave in_range (λ given not. all_consulted)

-- a list is its first and all that is behind it
pub first_and_others : {X : Type 0} (xs : List X) (x : X) → 1 ≤ length xs → x ≡ get_or xs 0 x → xs ≡ x ∷ take (length xs - 1) (drop 1 xs)
first_and_others [] x least is = absurd (omega (arith, least))
first_and_others (y ∷ ys) x least is = ap (λ z. z ∷ ys) (sym is) ∙ ap (λ zs. x ∷ zs) (sym (take_all (length (y ∷ ys) - 1) ys (omega arith)))
