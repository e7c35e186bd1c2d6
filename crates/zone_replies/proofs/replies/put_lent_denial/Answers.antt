use Rattle.std.proofs.Common.{ap}
use Rattle.std.specs.Option.{option_copied}
use Rattle.zone_replies.proofs.replies.put_lent_denial.Goals as goal

pub returns-in-Some : goal.returns-in-Some
returns-in-Some c = λ ok. (c.in-Some.soa.now, ap option_copied c.in-Some.is, c.put_lent.ensures)
