-- What changed is put last.
use Rattle.std.proofs.Common.{subst}
use Rattle.std.specs.Option.{IfSome}
use Rattle.zone_differences.specs.Standing.{Leads}
use Rattle.zone_differences.proofs.Recorded.{recorded_known}
use Rattle.zone_differences.proofs.history.History.follow.Goals as goal

pub returns-in-Ok-Some-until : goal.returns-in-Ok-Some-until
returns-in-Ok-Some-until c =
    recorded_known c.args.before c.in-Ok-Some.field-0 c.in-Ok-Some.before c.args.zone.now c.args.self.now c.push.new.self c.in-Ok-Some-until.difference c.in-Ok-Some.is c.in-Ok-Some.field-0-is
    (subst (λ o. IfSome o (Leads c.in-Ok-Some.before c.args.zone.now)) c.in-Ok-Some-until.field-0-is c.in-Ok-Some-until.ensures) c.push.ensures
