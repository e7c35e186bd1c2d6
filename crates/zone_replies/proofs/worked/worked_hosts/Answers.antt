use Rattle.std.proofs.Common.{refl}
use Rattle.wire_messages.specs.serialize.reading.NameReading.{name, labels_from, labels_within}
use Rattle.zone_replies.proofs.worked.worked_hosts.Goals as goal

pub returns-clause-mail : goal.returns-clause-mail
returns-clause-mail c = refl

pub returns-clause-service : goal.returns-clause-service
unfolding name labels_from labels_within
returns-clause-service c = refl

pub returns-clause-service_cut : goal.returns-clause-service_cut
returns-clause-service_cut c = refl
