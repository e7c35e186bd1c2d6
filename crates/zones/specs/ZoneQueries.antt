-- What a zone answers to a query: what `zone_replies` says of the zone as its updates left it, if
-- each owner name of the zone may own records of it.
use Rattle.std.specs.Prelude.{◌≡◌, ◌⊎◌, ℕ, [], false, Result, Ok, Err}
use Rattle.wire_names.specs.rr.domain.DomainName.{DomainName}
use Rattle.wire_messages.specs.Numbers.{code_serv_fail}
use Rattle.wire_messages.specs.declared.op.query.Query.{Query}
use Rattle.hickory_base.specs.requests.Questions.{one_query}
use Rattle.hickory_base.specs.requests.Requests.{ReceivedRequest}
use Rattle.hickory_base.specs.zone_store.Lookups.{Flow}
use Rattle.hickory_base.specs.zone_store.ZoneAnswers.{MemoryZone}
use Rattle.hickory_base.specs.zone_store.ZoneSets.{IsZone}
use Rattle.hickory_base.specs.declared.errors.LookupError.{LookupError}
use Rattle.hickory_base.specs.declared.errors.LookupError.TheVariants.{Memory, ResponseCode}
use Rattle.hickory_base.specs.declared.zone_store.lookup.AuthLookup.{AuthLookup}
use Rattle.hickory_base.specs.declared.zone_store.lookup.AuthLookup.TheVariants as lookup
use Rattle.hickory_base.specs.declared.zone_store.lookup.LookupControlFlow.TheVariants.{Break, Continue}
use Rattle.hickory_base.specs.declared.zone_store.lookup.WholeReply.{WholeReply}
use Rattle.zone_replies.specs.Handled.{IsLookedUp, StandsFor}
use Rattle.zone_replies.specs.Replies.{as_zone, whole}
use Rattle.zone_answers.specs.Zones.{AreOwners}

-- a reply that says only that the server failed (RFC 1035 section 4.1.1)
abbrev pub failure : WholeReply
failure = whole code_serv_fail false [] [] []

-- The result for a question: what stands for the reply of the zone (RFC 1034 section 4.3.2). If an owner name may own
-- no records of the zone, the reply is ServFail.
pub data IsAnswered (zone : MemoryZone) (query : Query) (result : Result AuthLookup LookupError) : Type 0 where
  replied : AreOwners zone.origin zone.sets → StandsFor zone query result → IsAnswered zone query result
  failed : IsZone zone.sets → ¬ (AreOwners zone.origin zone.sets) → result ≡ Ok (lookup.Whole failure) → IsAnswered zone query result

-- The result of a lookup, by which the catalog completes a reply; ServFail in the same case.
pub data IsFound (zone : MemoryZone) (name : DomainName) (t : ℕ) (result : Result AuthLookup LookupError) : Type 0 where
  found : AreOwners zone.origin zone.sets → IsLookedUp (as_zone zone) name t result → IsFound zone name t result
  failed : ¬ (AreOwners zone.origin zone.sets) → result ≡ Err (ResponseCode code_serv_fail) → IsFound zone name t result

-- A search: the one question of the request gets its result, unless memory was refused. A request without just one
-- question gets the error that says so.
abbrev pub SearchedFor : MemoryZone → Result Query LookupError → Flow → Type 0
SearchedFor zone (Ok query) answer = (result : _) × (IsAnswered zone query result ⊎ (result ≡ Err Memory)) × (answer ≡ Continue result)
SearchedFor zone (Err e) answer = answer ≡ Break (Err e)

abbrev pub Searched : MemoryZone → ReceivedRequest → Flow → Type 0
Searched zone request answer = SearchedFor zone (one_query request.message.queries.queries) answer

abbrev pub LookedUp : MemoryZone → DomainName → ℕ → Flow → Type 0
LookedUp zone name t answer = (result : _) × (IsFound zone name t result ⊎ (result ≡ Err Memory)) × (answer ≡ Continue result)
