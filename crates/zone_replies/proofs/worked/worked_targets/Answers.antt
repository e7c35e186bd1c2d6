use Rattle.std.proofs.Common.{refl}
use Rattle.wire_messages.specs.serialize.reading.NameReading.{name, labels_from, labels_within}
use Rattle.zone_replies.proofs.worked.worked_targets.Goals as goal

pub returns-clause-whole : goal.returns-clause-whole
unfolding name labels_from labels_within
returns-clause-whole c = refl

pub returns-clause-more : goal.returns-clause-more
unfolding name labels_from labels_within
returns-clause-more c = refl

pub returns-clause-less : goal.returns-clause-less
unfolding name labels_from labels_within
returns-clause-less c = refl

pub returns-clause-longest : goal.returns-clause-longest
returns-clause-longest c = refl

pub returns-clause-too_long : goal.returns-clause-too_long
returns-clause-too_long c = refl
