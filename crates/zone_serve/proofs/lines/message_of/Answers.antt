use Rattle.std.proofs.Common.{rules}
use Rattle.zone_serve.proofs.lines.message_of.Goals as goal

pub returns-in-Some : goal.returns-in-Some
returns-in-Some c = (c.in-Some-Some.ensures, c.in-Some-Some.ensures', search rules)
