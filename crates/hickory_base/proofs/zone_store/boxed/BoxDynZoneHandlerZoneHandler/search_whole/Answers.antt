-- The box leads to the value that it keeps.
use Rattle.std.proofs.Common.{None, subst, rules}
use Rattle.std.specs.Bool.{IsTrue}
use Rattle.hickory_base.specs.zone_store.Lookups.{whole_answer}
use Rattle.hickory_base.proofs.zone_store.boxed.BoxDynZoneHandlerZoneHandler.search_whole.Goals as goal

pub returns : goal.returns
returns g c = subst (λ p. IsTrue c.search_whole.result → (goal.ZoneHandler-dyn g p).search_gives p.1 c.args.request.now c.args.options (whole_answer c.search_whole.new.reply) None) (search rules) c.search_whole.ensures
