-- The box leads to the value that it keeps.
use Rattle.std.proofs.Common.{◌≡◌, subst, rules}
use Rattle.std.specs.Option.{option_copied}
use Rattle.hickory_base.proofs.zone_store.boxed.BoxDynZoneHandlerZoneHandler.nx_proof_kind.Goals as goal

pub returns : goal.returns
returns g c = subst (λ p. option_copied c.nx_proof_kind.result ≡ (goal.ZoneHandler-dyn g p).nx_proof_kind_of p.1) (search rules) c.nx_proof_kind.ensures
