-- A query has one list of replies where each call of a handler has one answer.
use Rattle.std.proofs.Common.{◌≡◌, ℕ, suc, Bool, true, false, List, [], ◌∷◌, map, Option, Some, None, MatchOption, Result, Ok, Err, refl, sym, ap, subst, ◌∙◌, ◌<◌, ◌^◌}
use Rattle.std.specs.Bool.{MatchBool}
use Rattle.std.specs.Prelude.{◌==◌, slice_get}
use Rattle.std.specs.List.{remove}
use Rattle.std.specs.Option.{option_or}
use Rattle.wire_messages.specs.Numbers.{type_axfr, type_ns, type_soa}
use Rattle.wire_messages.specs.op.EdnsFields.{EdnsFields}
use Rattle.wire_names.specs.rr.domain.NameOrder.{lower_name}
use Rattle.wire_messages.specs.serialize.writing.Reply.{Reply}
use Rattle.wire_messages.specs.declared.op.query.Query.{Query}
use Rattle.wire_messages.specs.declared.rr.rdata.RData.{RData}
use Rattle.wire_messages.specs.declared.rr.record.Record.{Record}
use Rattle.wire_messages.specs.declared.rr.tsig.TSIG.{TSIG}
use Rattle.wire_messages.specs.declared.rr.tsig.TSigResponseContext.{TSigResponseContext}
use Rattle.hickory_base.specs.zone_store.Lookups.{Flow, SignerContext, answers_of, result_of, whole_reply}
use Rattle.hickory_base.specs.requests.Requests.{ReceivedRequest, RequestInformation, information}
use Rattle.hickory_base.specs.declared.errors.LookupError.{LookupError}
use Rattle.hickory_base.specs.declared.zone_store.handler.NxProofKind.{NxProofKind}
use Rattle.hickory_base.specs.declared.zone_store.handler.NxProofKind.TheVariants.{Nsec, Nsec3}
use Rattle.hickory_base.specs.declared.zone_store.handler.ZoneHandler.{Ghosts}
use Rattle.hickory_base.specs.declared.zone_store.handler.ZoneType.{ZoneType}
use Rattle.hickory_base.specs.declared.zone_store.handler.ZoneType.TheVariants.{Primary, Secondary, External}
use Rattle.hickory_base.specs.declared.zone_store.lookup.AuthLookup.{AuthLookup}
use Rattle.hickory_base.specs.declared.zone_store.lookup.LookupControlFlow.TheVariants.{Continue, Break, Skip}
use Rattle.hickory_base.specs.declared.zone_store.lookup.LookupOptions.{LookupOptions}
use Rattle.hickory_base.specs.declared.zone_store.lookup.WholeReply.{WholeReply}
use Rattle.hickory_base.specs.declared.zone_store.lookup.ZoneTransfer.{ZoneTransfer}
use Rattle.hickory_catalog.specs.queries.Authoritative.{AuthoritativeReply, BesideAnswer, authoritative_metadata, denies, finds, negative_contents, positive_contents, refuses}
use Rattle.hickory_catalog.specs.queries.DenialRecords.{DenialGiven, DenialOfNegative, DenialQuestion, is_wildcard_match, needs_denial}
use Rattle.hickory_catalog.specs.zones.Find.{Finds}
use Rattle.hickory_catalog.specs.requests.OneReply.{AnswersOnce, SignsOnce, transfer_wants_memory}
use Rattle.hickory_catalog.specs.queries.Queries.{AskedQuery, GivenReplies, HandlerReply, QueryReplies, ReplyByType, ZoneReplies, ZoneReply, consult_options, is_out_of_memory, lookup, no_zone, other_count, transfer, unanswered, untransferred, whole_contents, zone}
use Rattle.hickory_catalog.specs.queries.Queries as queries
use Rattle.hickory_catalog.specs.replies.Replies.{Contents, bare_contents}
use Rattle.hickory_catalog.specs.replies.ReplyEdns.{with_high_code}
use Rattle.hickory_catalog.specs.requests.Server.{Server}
use Rattle.hickory_catalog.specs.replies.Signing.{IsSigned, SignedReply, Signer, failed, plain, signed}
use Rattle.hickory_catalog.specs.queries.Transcripts.{Asked, ChainAnswers, Consulted, Follows, Given, IsAnswer, all_consulted, consulted, options_of, out_of_memory, wants_memory}
use Rattle.hickory_catalog.specs.queries.Transcripts as transcripts
use Rattle.hickory_catalog.specs.transfers.Transfers.{AreRuns, TransferAsked, TransferGiven, size_without_answers, message_of_transfer}
use Rattle.hickory_catalog.specs.transfers.Transfers as transfers
use Rattle.hickory_catalog.proofs.lemmas.transfers.Runs.{runs_once}
use Rattle.hickory_catalog.specs.zones.Zones.{AreInOrder}
use Rattle.hickory_catalog.specs.declared.chains.ChainAnswer.{ChainAnswer}
use Rattle.hickory_catalog.proofs.lemmas.zones.OneAnswer.{one_answer}

-- the reply with its signature
signed_once : (signer : Signer) → SignsOnce signer → (failure unsigned one other : Reply) (context : Option TSigResponseContext)
    → IsSigned signer failure unsigned one context → IsSigned signer failure unsigned other context → one ≡ other
signed_once signer signs failure unsigned one other _ (plain e) (plain f) = e ∙ sym f
signed_once signer signs failure unsigned one other (Some context) (signed s e) (signed t f) =
    let same = signs context unsigned _ _ s t in e ∙ ap (λ (o : Option (Record TSIG)). record unsigned { signature = o }) same ∙ sym f
signed_once signer signs failure unsigned one other (Some context) (signed s e) (failed t f) = absurd (let same = signs context unsigned _ _ s t in cc)
signed_once signer signs failure unsigned one other (Some context) (failed s e) (signed t f) = absurd (let same = signs context unsigned _ _ s t in cc)
signed_once signer signs failure unsigned one other (Some context) (failed s e) (failed t f) = e ∙ sym f

-- an answer that is there tells of no memory where its result does
free_result : (final : Flow) (result : Result AuthLookup LookupError) → result_of final ≡ Some result → is_out_of_memory result ≡ false → wants_memory final ≡ false
free_result (Continue (Ok found)) result e free = refl
free_result (Continue (Err e')) result e free = let same : Err e' ≡ result = cc in subst (λ (r : Result AuthLookup LookupError). is_out_of_memory r ≡ false) (sym same) free
free_result (Break (Ok found)) result e free = refl
free_result (Break (Err e')) result e free = let same : Err e' ≡ result = cc in subst (λ (r : Result AuthLookup LookupError). is_out_of_memory r ≡ false) (sym same) free
free_result Skip result e free = refl

free_none : (final : Flow) → result_of final ≡ None → wants_memory final ≡ false
free_none (Continue result) e = absurd cc
free_none (Break result) e = absurd cc
free_none Skip e = refl

module _ {H : Type 0} (handler : Ghosts H) (once : AnswersOnce handler) (request : ReceivedRequest) where
  transfer_once : (now : ℕ) (chain : List H) (one other : TransferGiven) → transfer_wants_memory one ≡ false → transfer_wants_memory other ≡ false
      → TransferAsked handler request now chain one → TransferAsked handler request now chain other → one ≡ other
  transfer_once now _ _ _ f g transfers.nobody transfers.nobody = refl
  transfer_once now (h ∷ hs) one other f g (transfers.passed a r) (transfers.passed b s) = transfer_once now hs one other f g r s
  transfer_once now (h ∷ hs) _ _ f g (transfers.passed a r) (transfers.answered b) = absurd (let same = once.transfer h request (options_of request) now _ _ refl g a b in cc)
  transfer_once now (h ∷ hs) _ _ f g (transfers.answered a) (transfers.passed b s) = absurd (let same = once.transfer h request (options_of request) now _ _ f refl a b in cc)
  transfer_once now (h ∷ hs) _ _ f g (transfers.answered a) (transfers.answered b) = once.transfer h request (options_of request) now _ _ f g a b

  asked_once : (options : LookupOptions) (chain : List H) (p q : ℕ) (one other : Given) → wants_memory one.0 ≡ false → wants_memory other.0 ≡ false
      → Asked handler request options chain p one → Asked handler request options chain q other → (p ≡ q) × (one ≡ other)
  asked_once options _ _ _ _ _ f g transcripts.nobody transcripts.nobody = (refl, refl)
  asked_once options (h ∷ hs) _ _ one other f g (transcripts.skipped a r) (transcripts.skipped b s) =
      let rest = asked_once options hs _ _ one other f g r s in (ap suc rest.0, rest.1)
  asked_once options (h ∷ hs) _ _ one other f g (transcripts.skipped {dropped = x} a r) (transcripts.answered is b) =
      absurd (let same = once.search h request options (Skip, x) other refl g a b in subst IsAnswer (sym (ap (λ (y : Given). y.0) same)) is)
  asked_once options (h ∷ hs) _ _ one other f g (transcripts.answered is a) (transcripts.skipped {dropped = x} b s) =
      absurd (let same = once.search h request options one (Skip, x) f refl a b in subst IsAnswer (ap (λ (y : Given). y.0) same) is)
  asked_once options (h ∷ hs) _ _ one other f g (transcripts.answered i a) (transcripts.answered j b) = (refl, once.search h request options one other f g a b)

  module _ (info : RequestInformation) (options : LookupOptions) where
    free_before : {hs : List H} {first final : Given} → Consulted handler info options hs first final → wants_memory final.0 ≡ false → wants_memory first.0 ≡ false
    free_before all_consulted free = free
    free_before (out_of_memory wants) free = free
    free_before (consulted not_wanted gives rest) free = not_wanted

    consulted_once : (hs : List H) (first one other : Given) → wants_memory one.0 ≡ false → wants_memory other.0 ≡ false
        → Consulted handler info options hs first one → Consulted handler info options hs first other → one ≡ other
    consulted_once _ _ _ _ f g all_consulted all_consulted = refl
    consulted_once _ _ _ _ f g all_consulted (out_of_memory w) = refl
    consulted_once _ _ _ _ f g (out_of_memory w) s = absurd cc
    consulted_once (h ∷ hs) first one other f g (consulted w a r) (out_of_memory v) = absurd cc
    consulted_once (h ∷ hs) first one other f g (consulted {answer = x} {fresh = m} w a r) (consulted {answer = y} {fresh = n} v b s) =
        let same = once.consult h (lower_name info.query.name) info.query.query_type (Some info) options first.0 (x, m) (y, n) (free_before r f) (free_before s g) a b in
        consulted_once hs (x, option_or m first.1) one other f g r
        (subst (λ (z : Given). Consulted handler info options hs (z.0, option_or z.1 first.1) other) (sym same) s)

    free_followed : (others : List H) (answer : Flow) (c : SignerContext) (final : Given) → Follows handler info options others (answer, c) final → wants_memory final.0 ≡ false → wants_memory answer ≡ false
    free_followed others (Continue result) c final r free = free_before r free
    free_followed others (Break result) c final r free = subst (λ (x : Flow). wants_memory x ≡ false) r.0 free
    free_followed others Skip c final r free = refl

    followed_once : (others : List H) (answer : Flow) (c : SignerContext) (one other : Given) → wants_memory one.0 ≡ false → wants_memory other.0 ≡ false
        → Follows handler info options others (answer, c) one → Follows handler info options others (answer, c) other → (one.0 ≡ other.0) × (one.1 ≡ other.1)
    followed_once others (Continue result) c one other f g r s =
        let same = consulted_once others (Continue result, c) one other f g r s in (ap (λ (y : Given). y.0) same, ap (λ (y : Given). y.1) same)
    followed_once others (Break result) c one other f g r s = (r.0 ∙ sym s.0, r.1 ∙ sym s.1)
    followed_once others Skip c one other f g r s = (r.0 ∙ sym s.0, r.1 ∙ sym s.1)

    chain_once : (chain : List H) (one other : ChainAnswer) → wants_memory one.given.0 ≡ false → wants_memory other.given.0 ≡ false
        → ChainAnswers handler request info options chain one → ChainAnswers handler request info options chain other
        → (one.place ≡ other.place) × (one.given.0 ≡ other.given.0) × (one.given.1 ≡ other.given.1)
    chain_once chain one other f g r s =
        let first = asked_once (options_of request) chain one.place other.place r.given s.given
        (free_followed (remove chain one.place) r.given.0 r.given.1 one.given r.followed f) (free_followed (remove chain other.place) s.given.0 s.given.1 other.given s.followed g) r.asked s.asked in
        let place = subst (λ (n : ℕ). Follows handler info options (remove chain n) s.given other.given) (sym first.0) s.followed in
        let given = subst (λ (x : Given). Follows handler info options (remove chain one.place) x other.given) (sym first.1) place in
        let rest = followed_once (remove chain one.place) r.given.0 r.given.1 one.given other.given f g r.followed given in
        (first.0, rest.0, rest.1)

  module _ (h : H) (query : Query) where
    denial_once : (asked : DenialQuestion) (kind : Option NxProofKind) (one other : Flow) → wants_memory one ≡ false → wants_memory other ≡ false
        → DenialGiven handler h asked kind one → DenialGiven handler h asked kind other → one ≡ other
    denial_once asked None one other f g a b = a ∙ sym b
    denial_once asked (Some Nsec) one other f g a b = once.nsec h (lower_name asked.query.name) asked.options one other f g a b
    denial_once asked (Some (Nsec3 algorithm salt iterations opt_out)) one other f g a b = once.nsec3 h _ asked.options one other f g a b

    -- what is asked beside records, or in their place
    abbrev denial_of : Bool → LookupOptions → DenialQuestion
    denial_of wildcard options = record { query = query; from_wildcard = wildcard; options = options }

    negative_once : (options : LookupOptions) (one other : Flow) → wants_memory one ≡ false → wants_memory other ≡ false
        → DenialOfNegative handler h query options one → DenialOfNegative handler h query options other → one ≡ other
    negative_once options one other f g a b = asked options.dnssec_ok a b where
      asked : (yes : Bool) → MatchBool yes (DenialGiven handler h (denial_of false options) (handler.nx_proof_kind_of h) one) (one ≡ Skip)
          → MatchBool yes (DenialGiven handler h (denial_of false options) (handler.nx_proof_kind_of h) other) (other ≡ Skip) → one ≡ other
      asked true a b = denial_once (denial_of false options) (handler.nx_proof_kind_of h) one other f g a b
      asked false a b = a ∙ sym b

    beside_once : (options : LookupOptions) (found : AuthLookup) (one other : Flow) → wants_memory one ≡ false → wants_memory other ≡ false
        → BesideAnswer handler h query options found one → BesideAnswer handler h query options found other → one ≡ other
    beside_once options found one other f g a b = asked (query.query_type == type_soa) (needs_denial (handler.nx_proof_kind_of h) (is_wildcard_match (answers_of found))) a b where
      asked : (soa needs : Bool)
          → MatchBool soa (handler.lookup_gives h (handler.origin_of h) type_ns None options one)
          (MatchBool needs (DenialGiven handler h (denial_of (is_wildcard_match (answers_of found)) options) (handler.nx_proof_kind_of h) one) (one ≡ Skip))
          → MatchBool soa (handler.lookup_gives h (handler.origin_of h) type_ns None options other)
          (MatchBool needs (DenialGiven handler h (denial_of (is_wildcard_match (answers_of found)) options) (handler.nx_proof_kind_of h) other) (other ≡ Skip))
          → one ≡ other
      asked true needs a b = once.lookup h (handler.origin_of h) type_ns None options one other f g a b
      asked false true a b = denial_once (denial_of (is_wildcard_match (answers_of found)) options) (handler.nx_proof_kind_of h) one other f g a b
      asked false false a b = a ∙ sym b

    authoritative_once : (result : Result AuthLookup LookupError) (one other : Contents) → AuthoritativeReply handler h request query one result → AuthoritativeReply handler h request query other result → one ≡ other
    authoritative_once (Err e) one other (refuses {code = m} a is) (refuses {code = n} b are) =
        let same : m ≡ n = cc in is ∙ ap (λ (code : ℕ). bare_contents (authoritative_metadata request.message.metadata code)) same ∙ sym are
    authoritative_once (Err e) one other (refuses a is) (denies d s none _ _ _ _ are) = absurd cc
    authoritative_once (Err e) one other (denies d s none _ _ _ _ is) (refuses b are) = absurd cc
    authoritative_once (Err e) one other (denies d s _ dg df sg sf is) (denies x y _ xg xf yg yf are) =
        let denial : d ≡ x = negative_once (options_of request) d x df xf dg xg in
        let soa : s ≡ y = once.lookup h (handler.origin_of h) type_soa None (options_of request) s y sf yf sg yg in
        is ∙ ap (λ (z : Flow). negative_contents request.message.metadata e z s) denial ∙ ap (λ (z : Flow). negative_contents request.message.metadata e x z) soa ∙ sym are
    authoritative_once (Ok found) one other (finds b bg bf is) (finds c cg cf are) =
        let beside : b ≡ c = beside_once (options_of request) found b c bf cf bg cg in
        is ∙ ap (λ (z : Flow). positive_contents request.message.metadata query.query_type found z) beside ∙ sym are

module _ {H : Type 0} (handler : Ghosts H) (once : AnswersOnce handler) (asked : AskedQuery) (h : H) where
  typed_once : (zone_type : ZoneType) (result : Result AuthLookup LookupError) (one other : Contents) → ReplyByType handler h zone_type asked result one → ReplyByType handler h zone_type asked result other → one ≡ other
  typed_once Primary result one other r s = authoritative_once handler once asked.request h asked.query result one other r s
  typed_once Secondary result one other r s = authoritative_once handler once asked.request h asked.query result one other r s
  typed_once External result one other r s = r ∙ sym s

  handler_once : (zone_type : ZoneType) (result : Result AuthLookup LookupError) (one other : Contents) → HandlerReply handler h zone_type asked result one → HandlerReply handler h zone_type asked result other → one ≡ other
  handler_once zone_type result one other r s = once_of (whole_reply result) r s where
    once_of : (reply : Option WholeReply)
        → MatchOption reply (ReplyByType handler h zone_type asked result one) (λ w. (one ≡ whole_contents asked.request.message.metadata w) × (w.response_code < 2 ^ 12))
        → MatchOption reply (ReplyByType handler h zone_type asked result other) (λ w. (other ≡ whole_contents asked.request.message.metadata w) × (w.response_code < 2 ^ 12))
        → one ≡ other
    once_of None r s = typed_once zone_type result one other r s
    once_of (Some reply) r s = r.0 ∙ sym s.0

module _ {H : Type 0} (server : Server H) (once : AnswersOnce server.handler) (signs : SignsOnce server.signer) (asked : AskedQuery) (edns : Option EdnsFields) (now : ℕ) (one other : Reply) where
  zone_once : (chain : List H) → ZoneReply server chain asked edns now one → ZoneReply server chain asked edns now other → one ≡ other
  zone_once chain (untransferred t a is) (untransferred u b are) = is ∙ sym are
  zone_once chain (untransferred t a is) (unanswered u b n are) = absurd cc
  zone_once chain (untransferred t a is) (lookup x u b n at g r s) = absurd cc
  zone_once chain (unanswered t a n is) (untransferred u b are) = absurd cc
  zone_once chain (unanswered t a n is) (unanswered u b m are) = is ∙ sym are
  zone_once chain (unanswered {final = x} t a n is) (lookup {final = y} {result = m} z u b some at g r s) =
      absurd (let all = chain_once server.handler once asked.request (information asked.request asked.query) (consult_options edns) chain x y (free_none x.given.0 n) (free_result y.given.0 m some g) a b in
      let e : result_of x.given.0 ≡ result_of y.given.0 = ap result_of all.1 in cc)
  zone_once chain (lookup z t a some at f r s) (untransferred u b are) = absurd cc
  zone_once chain (lookup {final = x} {result = m} z t a some at f r s) (unanswered {final = y} u b n are) =
      absurd (let all = chain_once server.handler once asked.request (information asked.request asked.query) (consult_options edns) chain x y (free_result x.given.0 m some f) (free_none y.given.0 n) a b in
      let e : result_of x.given.0 ≡ result_of y.given.0 = ap result_of all.1 in cc)
  zone_once chain (lookup {h = h} {final = x} {result = m} z t a some at f r s) (lookup {h = k} {final = y} {result = n} w u b there within g v y') =
      let all = chain_once server.handler once asked.request (information asked.request asked.query) (consult_options edns) chain x y (free_result x.given.0 m some f) (free_result y.given.0 n there g) a b in
      let results : result_of x.given.0 ≡ result_of y.given.0 = ap result_of all.1 in
      let result : m ≡ n = cc in
      let places : slice_get chain x.place ≡ slice_get chain y.place = ap (slice_get chain) all.0 in
      let handlers : h ≡ k = cc in
      let by_handler = subst (λ (i : H). HandlerReply server.handler i (server.handler.zone_type_of i) asked n w) (sym handlers) v in
      let by_result = subst (λ (i : Result AuthLookup LookupError). HandlerReply server.handler h (server.handler.zone_type_of h) asked i w) (sym result) by_handler in
      let contents : z ≡ w = handler_once server.handler once asked h (server.handler.zone_type_of h) m z w r by_result in
      let by_contents = subst (λ (i : Contents). SignedReply server.signer asked.request.message edns i y.given.1 other) (sym contents) y' in
      signed_once server.signer signs _ _ one other x.given.1 s (subst (λ (i : SignerContext). SignedReply server.signer asked.request.message edns z i other) (sym all.2) by_contents)

-- the answer to a transfer that is replied to tells of no memory
given_free : (signer : Signer) (request : ReceivedRequest) (edns : Option EdnsFields) (result : Result ZoneTransfer LookupError) (context : Option TSigResponseContext) (replies : List Reply)
    → GivenReplies signer request edns result context replies → is_out_of_memory result ≡ false
given_free signer request edns result context replies (queries.whole free _ _ _) = free
given_free signer request edns result context replies (queries.split is _ _ _) = ap is_out_of_memory is

-- it is replied to in one way
given_once : (signer : Signer) → SignsOnce signer → (request : ReceivedRequest) (edns : Option EdnsFields) (result : Result ZoneTransfer LookupError) (context : Option TSigResponseContext) (one other : List Reply)
    → GivenReplies signer request edns result context one → GivenReplies signer request edns result context other → one ≡ other
given_once signer signs request edns result context one other (queries.whole {reply = a} _ _ s is) (queries.whole {reply = b} _ _ t are) =
    is ∙ ap (λ (x : Reply). x ∷ []) (signed_once signer signs _ _ a b context s t) ∙ sym are
given_once signer signs request edns result context one other (queries.whole _ not_split _ _) (queries.split _ _ is_split _) = absurd cc
given_once signer signs request edns result context one other (queries.split _ _ is_split _) (queries.whole _ not_split _ _) = absurd cc
given_once signer signs request edns result context one other (queries.split {transfer = m} is _ _ are) (queries.split {transfer = n} also _ _ too) =
    let same : m ≡ n = cc in
    let runs = runs_once (size_without_answers request.message edns) n.records are.runs too.runs
    (subst (λ (x : ZoneTransfer). AreRuns (size_without_answers request.message edns) x.records are.runs) same are.are_runs) too.are_runs in
    are.replies_are ∙ ap (λ (x : List (List (Record RData))). map (message_of_transfer request.message (with_high_code 0 edns)) x) runs ∙ sym too.replies_are

module _ {H : Type 0} (server : Server H) (once : AnswersOnce server.handler) (signs : SignsOnce server.signer) (asked : AskedQuery) (edns : Option EdnsFields) (now : ℕ) (one other : List Reply) where
  -- a reply that is not to a transfer that a handler answers is no reply to one
  not_both : (chain : List H) (reply : Reply) (result : Result ZoneTransfer LookupError) (context : SignerContext)
      → ZoneReply server chain asked edns now reply → (asked.query.query_type == type_axfr) ≡ true → TransferAsked server.handler asked.request now chain (Some (result, context)) → is_out_of_memory result ≡ false → ⊥
  not_both chain reply result context (untransferred t a is) u b free = let same = transfer_once server.handler once asked.request now chain _ _ refl free a b in cc
  not_both chain reply result context (unanswered t a n is) u b free = cc
  not_both chain reply result context (lookup x t a n at g r s) u b free = cc

  zone_all_once : (chain : List H) → ZoneReplies server chain asked edns now one → ZoneReplies server chain asked edns now other → one ≡ other
  zone_all_once chain (queries.one {reply = a} r is) (queries.one {reply = b} s are) =
      is ∙ ap (λ (x : Reply). x ∷ []) (zone_once server once signs asked edns now a b chain r s) ∙ sym are
  zone_all_once chain (queries.one {reply = a} r is) (transfer {result = m} {context = c} u b g) =
      absurd (not_both chain a m c r u b (given_free server.signer asked.request edns m c other g))
  zone_all_once chain (transfer {result = m} {context = c} u b g) (queries.one {reply = a} r is) =
      absurd (not_both chain a m c r u b (given_free server.signer asked.request edns m c one g))
  zone_all_once chain (transfer {result = m} {context = c} t a g) (transfer {result = n} {context = d} u b h) =
      let same = transfer_once server.handler once asked.request now chain (Some (m, c)) (Some (n, d)) (given_free server.signer asked.request edns m c one g) (given_free server.signer asked.request edns n d other h) a b in
      let both : (m, c) ≡ (n, d) = cc in
      given_once server.signer signs asked.request edns m c one other g
      (subst (λ (z : Result ZoneTransfer LookupError × SignerContext). GivenReplies server.signer asked.request edns z.0 z.1 other) (sym both) h)

module _ {H : Type 0} (server : Server H) (once : AnswersOnce server.handler) (signs : SignsOnce server.signer) (request : ReceivedRequest) (edns : Option EdnsFields) (now : ℕ) (one other : List Reply) where
  pub query_once : AreInOrder server.zones → QueryReplies server request edns now one → QueryReplies server request edns now other → one ≡ other
  query_once sorted (other_count a is) (other_count b are) = is ∙ sym are
  query_once sorted (other_count a is) (no_zone b f are) = absurd cc
  query_once sorted (other_count a is) (zone b f r) = absurd cc
  query_once sorted (no_zone a f is) (other_count b are) = absurd cc
  query_once sorted (no_zone a f is) (no_zone b g are) = is ∙ sym are
  query_once sorted (no_zone {query = q} a f is) (zone {query = n} {chain = chain} b g r) =
      let queries : q ≡ n = cc in
      absurd (let found = one_answer server.zones (lower_name q.name) None (Some chain) sorted f (subst (λ (x : Query). Finds server.zones (lower_name x.name) (Some chain)) (sym queries) g) in cc)
  query_once sorted (zone a f r) (other_count b are) = absurd cc
  query_once sorted (zone {query = q} {chain = chain} a f r) (no_zone {query = n} b g are) =
      let queries : q ≡ n = cc in
      absurd (let found = one_answer server.zones (lower_name q.name) (Some chain) None sorted f (subst (λ (x : Query). Finds server.zones (lower_name x.name) None) (sym queries) g) in cc)
  query_once sorted (zone {query = q} {chain = chain} a f r) (zone {query = n} {chain = rest} b g s) =
      let queries : q ≡ n = cc in
      let found = one_answer server.zones (lower_name q.name) (Some chain) (Some rest) sorted f (subst (λ (x : Query). Finds server.zones (lower_name x.name) (Some rest)) (sym queries) g) in
      let chains : chain ≡ rest = cc in
      let by_query = subst (λ (x : Query). ZoneReplies server rest (record { request = request; query = x }) edns now other) (sym queries) s in
      let asked : AskedQuery = record { request = request; query = q } in
      zone_all_once server once signs asked edns now one other chain r (subst (λ (x : List H). ZoneReplies server x asked edns now other) (sym chains) by_query)
