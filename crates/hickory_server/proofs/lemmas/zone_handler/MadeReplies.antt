-- What the catalog makes of the answers of a zone that answers standard queries.
use Rattle.std.proofs.Common.{◌≡◌, ◌==◌, ◌&&◌, ◌||◌, ℕ, Bool, true, false, not, cond, [], ◌∷◌, ◌++◌, Option, Some, None, Result, Ok, Err, inl, inr, refl, sym, ap, subst, ◌∙◌}
use Rattle.std.specs.Bool.{MatchBool}
use Rattle.std.specs.List.{AllByRecursion}
use Rattle.std.specs.Prelude.{is_some}
use Rattle.std.specs.Ordering.{is_eq}
use Rattle.std.proofs.lemmas.Bool.{false≢true}
use Rattle.wire_messages.specs.Numbers.{type_mx, type_ns}
use Rattle.wire_messages.specs.rr.RecordData.{type_of}
use Rattle.wire_messages.specs.declared.op.header.Metadata.{Metadata}
use Rattle.wire_messages.specs.declared.op.query.Query.{Query}
use Rattle.wire_messages.specs.declared.rr.rdata.RData.{RData}
use Rattle.wire_messages.specs.declared.rr.record.Record.{Record}
use Rattle.hickory_base.proofs.lemmas.zone_store.ZoneByName.{itself}
use Rattle.hickory_base.specs.requests.Requests.{ReceivedRequest}
use Rattle.hickory_base.specs.zone_store.Lookups.{Flow}
use Rattle.hickory_base.specs.zone_store.ZoneAnswers.{MemoryZone}
use Rattle.hickory_base.specs.declared.errors.LookupError.{LookupError}
use Rattle.hickory_base.specs.declared.zone_store.handler.NxProofKind.{NxProofKind}
use Rattle.hickory_base.specs.declared.zone_store.handler.ZoneHandler.{Ghosts}
use Rattle.hickory_base.specs.declared.zone_store.handler.ZoneType.{ZoneType}
use Rattle.hickory_base.specs.declared.zone_store.handler.ZoneType.TheVariants.{External, Primary, Secondary}
use Rattle.hickory_base.specs.declared.zone_store.lookup.AuthLookup.{AuthLookup}
use Rattle.hickory_base.specs.declared.zone_store.lookup.AuthLookup.TheVariants as lookup
use Rattle.hickory_base.specs.declared.zone_store.lookup.LookupControlFlow.TheVariants.{Continue, Skip}
use Rattle.hickory_base.specs.declared.zone_store.lookup.LookupOptions.{LookupOptions}
use Rattle.hickory_catalog.specs.queries.Authoritative.{AuthoritativeReply, BesideAnswer, authoritative_metadata, denies, finds, negative_code, negative_contents, positive_contents, refusal_code, refuses, starts_with_ns}
use Rattle.hickory_catalog.specs.queries.DenialRecords.{DenialBesideAnswer, DenialGiven, is_wildcard_match, needs_denial}
use Rattle.hickory_catalog.specs.queries.Queries.{HandlerReply, ReplyByType, whole_contents}
use Rattle.hickory_catalog.specs.replies.Replies.{Contents}
use Rattle.hickory_catalog.specs.queries.Transcripts.{options_of, wants_memory}
use Rattle.hickory_base.specs.declared.zone_store.lookup.WholeReply.{WholeReply}
use Rattle.zone_answers.proofs.lemmas.names.EnclosedBetween.{equal_of}
use Rattle.zone_answers.specs.Additionals.{is_hostless, target_start}
use Rattle.zone_replies.specs.Handled.{LookedUp, StandsFor, by_no_data, by_no_name, by_records, in_whole, is_held, is_soa, question, records_of}
use Rattle.zone_replies.specs.Replies.{RepliesTo, as_zone, denial_soa, whole}
use Rattle.zone_answers.specs.Zones.{Records}
use Rattle.hickory_server.specs.zone_handler.ZoneReplies.{SaysTheReply}

first_false : (a b c : Bool) → not (a || (b || c)) ≡ true → a ≡ false
first_false true b c h = absurd cc
first_false false b c h = refl

-- records of which none names a host do not begin with a server
no_servers : (rs : Records) → AllByRecursion (λ (q : Record RData). is_hostless q.rdata ≡ true) rs → starts_with_ns rs ≡ false
no_servers [] h = refl
no_servers (r ∷ rs) h = first_false (type_of r.rdata == type_ns) (type_of r.rdata == type_mx) (is_some (target_start (type_of r.rdata))) h.0

-- what a reply with records says, by whether they are a referral
abbrev says : Metadata → Records → Bool → Contents
says request rs b = record { metadata = authoritative_metadata request 0; answers = cond b [] rs; authorities = cond b rs [] ++ []; additionals = [] }

as_answer : (request : Metadata) (t : ℕ) (rs : Records) → AllByRecursion (λ (q : Record RData). is_hostless q.rdata ≡ true) rs
    → positive_contents request t (lookup.Records rs []) Skip ≡ whole_contents request (whole 0 true rs [] [])
as_answer request t rs h = ap (λ b. says request rs (b && not (t == 2 || t == 255))) (no_servers rs h)

-- a handler that gives what stands for the replies of a zone, and looks its SOA up
module _ {H : Type 0} (handler : Ghosts H) (h : H) (zone : MemoryZone) (nx : handler.nx_proof_kind_of h ≡ None)
    (soa : (options : LookupOptions) (flow : Flow) → handler.lookup_gives h (handler.origin_of h) 6 None options flow → LookedUp zone zone.origin 6 flow) (request : ReceivedRequest) (query : Query) (contents : Contents) where
  by_type : (t : ZoneType) (result : Result AuthLookup LookupError) → is_held t ≡ true → ReplyByType handler h t (record { request = request; query = query }) result contents → AuthoritativeReply handler h request query contents result
  by_type Primary result h r = r
  by_type Secondary result h r = r
  by_type External result h r = absurd cc

  nothing_denied : (wild : Bool) (options : LookupOptions) (given : Flow) → DenialBesideAnswer handler h query wild options given → given ≡ Skip
  nothing_denied wild options given d =
      subst (λ (kind : Option NxProofKind). MatchBool (needs_denial kind wild) (DenialGiven handler h (record { query = query; from_wildcard = wild; options = options }) kind given) (given ≡ Skip)) nx d

  nothing_beside : (rs : Records) (given : Flow) → (query.query_type == 6) ≡ false → BesideAnswer handler h query (options_of request) (lookup.Records rs []) given → given ≡ Skip
  nothing_beside rs given other b =
      nothing_denied (is_wildcard_match rs) (options_of request) given
      (subst (λ (x : Bool). MatchBool x (handler.lookup_gives h (handler.origin_of h) 2 None (options_of request) given) (DenialBesideAnswer handler h query (is_wildcard_match rs) (options_of request) given)) other b)

  pub with_records : (rs : Records) → (query.query_type == 6) ≡ false → AllByRecursion (λ (q : Record RData). is_hostless q.rdata ≡ true) rs → AuthoritativeReply handler h request query contents (Ok (lookup.Records rs []))
      → contents ≡ whole_contents request.message.metadata (whole 0 true rs [] [])
  with_records rs other h (finds beside b wants is) =
      is ∙ ap (positive_contents request.message.metadata query.query_type (lookup.Records rs [])) (nothing_beside rs beside other b) ∙ as_answer request.message.metadata query.query_type rs h

  no_denial : (dnssec : Bool) (options : LookupOptions) (given : Flow) → MatchBool dnssec (DenialGiven handler h (record { query = query; from_wildcard = false; options = options }) (handler.nx_proof_kind_of h) given) (given ≡ Skip) → given ≡ Skip
  no_denial true options given d = subst (λ (kind : Option NxProofKind). DenialGiven handler h (record { query = query; from_wildcard = false; options = options }) kind given) nx d
  no_denial false options given d = d

  is_apex : is_soa (as_zone zone) zone.origin 6 ≡ true
  is_apex = ap (λ order. is_eq order && (6 == 6)) (equal_of zone.origin zone.origin (itself zone.origin))

  the_soa : (options : LookupOptions) (flow : Flow) → handler.lookup_gives h (handler.origin_of h) 6 None options flow → wants_memory flow ≡ false → flow ≡ Continue (Ok (lookup.Records (denial_soa (as_zone zone)) []))
  the_soa options flow given wants =
      let l : LookedUp zone zone.origin 6 flow = soa options flow given in
      elim l.1 [
        | inl is ↦ l.2 ∙ ap Continue (subst (λ (b : Bool). MatchBool b (l.0 ≡ Ok (lookup.Records (denial_soa (as_zone zone)) [])) ((reply : WholeReply) × RepliesTo (as_zone zone) (question zone.origin 6) reply × (l.0 ≡ records_of reply))) is_apex is)
        | inr none ↦ absurd (false≢true (sym wants ∙ ap wants_memory (l.2 ∙ ap Continue none)))
      ]

  pub with_soa : (e : LookupError) → refusal_code e ≡ None → AuthoritativeReply handler h request query contents (Err e)
      → contents ≡ whole_contents request.message.metadata (whole (negative_code e) true [] (denial_soa (as_zone zone)) [])
  with_soa e other (refuses {code = code} says is) = absurd (let f : None ≡ Some code = sym other ∙ says in cc)
  with_soa e other (denies denial given code d dw g gw is) =
      is ∙ ap (λ (x : Flow). negative_contents request.message.metadata e x given) (no_denial (options_of request).dnssec_ok (options_of request) denial d)
      ∙ ap (negative_contents request.message.metadata e Skip) (the_soa (options_of request) given g gw)

  pub made : (result : Result AuthLookup LookupError) → StandsFor zone query result → HandlerReply handler h zone.zone_type (record { request = request; query = query }) result contents → SaysTheReply zone request query contents
  made result (in_whole {reply = reply} r) h = record { reply = reply; replies = r; says = h.0 }
  made result (by_records {rs = rs} held other plain r) h =
      record { reply = whole 0 true rs [] []; replies = r; says = with_records rs other plain (by_type zone.zone_type (Ok (lookup.Records rs [])) held h) }
  made result (by_no_name held r) h = record { reply = _; replies = r; says = with_soa _ refl (by_type zone.zone_type _ held h) }
  made result (by_no_data held r) h = record { reply = _; replies = r; says = with_soa _ refl (by_type zone.zone_type _ held h) }
