use Rattle.std.proofs.Common.{refl}
use Rattle.wire_messages.specs.serialize.reading.NameReading.{labels_from, labels_within, name}
use Rattle.signed_answers.proofs.worked.worked_chain.Goals as goal

pub returns-clause-first : goal.returns-clause-first
unfolding name labels_from labels_within
returns-clause-first c = refl

pub returns-clause-last : goal.returns-clause-last
unfolding name labels_from labels_within
returns-clause-last c = refl
