use Rattle.std.proofs.Common.{refl}
use Rattle.server.proofs.worked.worked_common_rules.Goals as goal

pub returns-clause-networks : goal.returns-clause-networks
returns-clause-networks c = λ rules zone message apex zones question. rw (question, zones, apex) refl

pub returns-clause-keys : goal.returns-clause-keys
returns-clause-keys c = λ names rules zone message apex zones question. rw (question, zones, apex) refl
