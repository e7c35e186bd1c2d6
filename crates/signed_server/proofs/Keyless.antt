-- What becomes of a message where there is no key.
use Rattle.std.proofs.Common.{[], List, refl}
use Rattle.wire_names.specs.rr.domain.DomainName.{DomainName}
use Rattle.hickory_catalog.specs.requests.Server.{Server}
use Rattle.hickory_server.specs.declared.server.answer.Answer.{Answer}
use Rattle.hickory_server.specs.declared.server.rules.Rules.{Rules}
use Rattle.hickory_server.specs.server.ServedBy.{Arrival, BytesServed}
use Rattle.signed_server.specs.ServedWithKeys.{ServedWithKeys}
use Rattle.signed_server.specs.ServedWithKeys.ServedWithKeys.{bad, good, plain, unjudged, unreadable}

pub as_served : {H : Type 0} (server : Server H) (names : List DomainName) (rules : Rules) (came : Arrival) (answer : Answer) (zones : List (DomainName × List H))
    → ServedWithKeys (record { keys = []; transfer_keys = names; rules = rules; server = server }) came answer zones → BytesServed rules server came answer zones
as_served server names rules came answer zones (unjudged for_nobody served) = served
as_served server names rules came answer zones (plain judging judged course served) = absurd (judging.request.keyed refl)
as_served server names rules came answer zones (unreadable judging judged fault is stays) = absurd (judging.request.keyed refl)
as_served server names rules came answer zones (good judging judged course request theirs served sent) = absurd (judging.request.keyed refl)
as_served server names rules came answer zones (bad judging judged course request refused is stays) = absurd (judging.request.keyed refl)

pub by_nobody : {H : Type 0} (server : Server H) (names : List DomainName) (rules : Rules) (came : Arrival) (answer : Answer) (zones : List (DomainName × List H))
    → BytesServed rules server came answer zones → ServedWithKeys (record { keys = []; transfer_keys = names; rules = rules; server = server }) came answer zones
by_nobody server names rules came answer zones served = unjudged (λ judging. judging.request.keyed refl) served
