use Rattle.std.proofs.Common.{refl}
use Rattle.hickory_base.specs.requests.RequestReading.{message_of}
use Rattle.served_zones.proofs.MadeUpdates.{updated_so}
use Rattle.served_zones.proofs.QueriesByZones.{reply}
use Rattle.served_zones.proofs.laws.served_queries.Goals as goal

pub returns-clause-answered : goal.returns-clause-answered
returns-clause-answered g c =
    reply _ (λ zone r options flow context gave. gave) (λ zone. refl) (λ zone. refl) (λ zone options flow looked. looked) c.owned_zones_reply.ensures.lookups
    (λ list name t info options last answer context gave. gave)
    _ c.one_message.ensures.same c.one_message.ensures.no_fault

pub returns-clause-updated : goal.returns-clause-updated
returns-clause-updated g c = updated_so _ _ (λ zone r now answer context after gave. gave) _

pub returns-clause-read : goal.returns-clause-read
returns-clause-read g c = λ rules message question e plain fault.
    c.one_message.ensures.no_fault message.bytes.items (message_of plain.request.message) fault.fault plain.is_request.reads fault.first
