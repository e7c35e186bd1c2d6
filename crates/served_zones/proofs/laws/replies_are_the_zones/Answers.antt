use Rattle.std.proofs.Common.{refl}
use Rattle.hickory_server.proofs.lemmas.zone_handler.MadeReplies.{made}
use Rattle.served_zones.proofs.laws.replies_are_the_zones.Goals as goal

pub returns : goal.returns
returns g c = λ zone request query result contents owners stands reply.
    let memory = zone.updatable.zone in
    made _ zone memory refl (λ options flow given. c.owned_zones_reply.ensures.lookups memory memory.origin 6 flow owners given) request query contents result stands reply
