-- The course that is left.
use Rattle.std.proofs.Common.{◌≡◌, ◌≢◌, refl}
use Rattle.signed_server.specs.declared.service.Course.{Course}
use Rattle.signed_server.specs.declared.service.Course.TheVariants.{Plain, Refuse, Sign}

pub sign_is_left : (course : Course) → course ≢ Plain → course ≢ Refuse → course ≡ Sign
sign_is_left Plain plain refuse = absurd (plain refl)
sign_is_left Sign plain refuse = refl
sign_is_left Refuse plain refuse = absurd (refuse refl)
