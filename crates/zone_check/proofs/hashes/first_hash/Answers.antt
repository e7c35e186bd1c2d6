use Rattle.zone_check.proofs.HashKeys.{first_key}
use Rattle.zone_check.proofs.hashes.first_hash.Goals as goal

pub returns-in-Some : goal.returns-in-Some
returns-in-Some c = first_key c.args.hashes.now c.in-Some.first.now c.in-Some.field-0-1.now c.in-Some.ensures.value c.in-Some.ensures.least
