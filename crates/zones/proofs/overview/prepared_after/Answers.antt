-- What was made of the zone before is there.
use Rattle.std.proofs.Common.{IfSome, subst}
use Rattle.zone_replies.specs.representation.PreparedZones.{IsPrepared}
use Rattle.zones.proofs.overview.prepared_after.Goals as goal

pub returns-in-Some : goal.returns-in-Some
returns-in-Some c old origin was keeps = c.after.ensures old origin (subst (λ prepared. IfSome prepared (IsPrepared old)) c.in-Some.is was) keeps
