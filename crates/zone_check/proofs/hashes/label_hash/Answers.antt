use Rattle.std.proofs.Common.{◌∙◌}
use Rattle.zone_check.proofs.HashedAnswers.{first_label_at}
use Rattle.zone_check.proofs.hashes.label_hash.Goals as goal

pub returns : goal.returns
returns c = c.hash_of.ensures ∙ first_label_at c.as_wire-wire.result.now c.args.name.now.labels c.as_wire-wire.ensures.labels c.if-wire-lt33.false c.if-wire-ne32.false
