use Rattle.std.proofs.Common.{◌≡◌, ◌⊎◌, inl, inr, ℕ, Result, Ok, Err}
use Rattle.wire_names.specs.rr.domain.DomainName.{DomainName}
use Rattle.wire_messages.specs.declared.op.query.Query.{Query}
use Rattle.hickory_base.specs.requests.Questions.{one_query}
use Rattle.hickory_base.specs.zone_store.Lookups.{Flow}
use Rattle.hickory_base.specs.zone_store.ZoneAnswers.{MemoryZone}
use Rattle.hickory_base.specs.declared.errors.LookupError.{LookupError}
use Rattle.hickory_base.specs.declared.errors.LookupError.TheVariants.{Memory}
use Rattle.hickory_base.specs.declared.zone_store.lookup.AuthLookup.{AuthLookup}
use Rattle.zone_replies.specs.Handled.{IsLookedUp, StandsFor}
use Rattle.zone_replies.specs.Handled as authoritative
use Rattle.zone_replies.specs.Replies.{as_zone}
use Rattle.zone_answers.specs.Zones.{AreOwners}
use Rattle.zones.specs.ZoneQueries.{IsAnswered, IsFound, SearchedFor}
use Rattle.zones.specs.ZoneQueries.IsAnswered.{failed as not_replied, replied}
use Rattle.zones.specs.ZoneQueries.IsFound.{failed as not_found, found as was_found}
use Rattle.zones.proofs.laws.owned_zones_reply.Goals as goal

module _ (zone : MemoryZone) (owners : AreOwners zone.origin zone.sets) where
  stands : (query : Query) (result : Result AuthLookup LookupError) → IsAnswered zone query result → StandsFor zone query result
  stands query result (replied so is) = is
  stands query result (not_replied sets not_so is) = absurd (not_so owners)

  or_memory : (query : Query) (result : Result AuthLookup LookupError) → IsAnswered zone query result ⊎ (result ≡ Err Memory) → StandsFor zone query result ⊎ (result ≡ Err Memory)
  or_memory query result (inl is) = inl (stands query result is)
  or_memory query result (inr memory) = inr memory

  searched : (asked : Result Query LookupError) (answer : Flow) → SearchedFor zone asked answer → authoritative.SearchedFor zone asked answer
  searched (Ok query) answer s = (s.0, or_memory query s.0 s.1, s.2)
  searched (Err e) answer s = s

  found : (name : DomainName) (t : ℕ) (result : Result AuthLookup LookupError) → IsFound zone name t result → IsLookedUp (as_zone zone) name t result
  found name t result (was_found so is) = is
  found name t result (not_found not_so is) = absurd (not_so owners)

  found_or_memory : (name : DomainName) (t : ℕ) (result : Result AuthLookup LookupError)
      → IsFound zone name t result ⊎ (result ≡ Err Memory) → IsLookedUp (as_zone zone) name t result ⊎ (result ≡ Err Memory)
  found_or_memory name t result (inl is) = inl (found name t result is)
  found_or_memory name t result (inr memory) = inr memory

pub returns-clause-searches : goal.returns-clause-searches
returns-clause-searches c = λ zone request answer owners s. searched zone owners (one_query request.message.queries.queries) answer s

pub returns-clause-lookups : goal.returns-clause-lookups
returns-clause-lookups c = λ zone name t answer owners s. (s.0, found_or_memory zone owners name t s.0 s.1, s.2)
